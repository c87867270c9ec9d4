-- A client has shown a delta for each event of its log, and its journal has as many events.
use Rattle.std.proofs.Common.{◌≡◌, ℕ, suc, ◌+◌, Bool, true, false, cond, List, [], ◌∷◌, ◌++◌, length, refl, sym, ap, ◌∙◌, arith, append_assoc, append-nil, length-append}
use Rattle.sporc_client.proofs.Common.{is_some, change_in, Mark, Accept, Logged, entries_by, journal_from, Opening, PlainClient, opened, change_comes, edit_comes, is_flight, own_comes, replay_from, step}
use Rattle.sporc_client.specs.Step.{replay}

-- lists of which one begins with the other
abbrev pub Grows : List (List Mark) → List (List Mark) → ℕ → Type 0
Grows old new n = (more : List (List Mark)) × (new ≡ old ++ more) × (length more ≡ n)

step_grows : (c : PlainClient) (event : Logged) → Grows c.shown (step c event).shown 1
step_grows c (Accept by bytes) = go (is_flight c bytes) (is_some (change_in bytes))
  where
    go : (own change : Bool) → Grows c.shown (cond own (own_comes c bytes) (cond change (change_comes c bytes) (edit_comes c bytes))).shown 1
    go true change = (_, refl, refl)
    go false true = (_, refl, refl)
    go false false = (_, refl, refl)
step_grows c event = (_, refl, refl)

pub log_grows : (c : PlainClient) (log : List Logged) → Grows c.shown (replay_from c log).shown (length log)
log_grows c [] = ([], sym (append-nil c.shown), refl)
log_grows c (event ∷ log) =
    let one = step_grows c event in
    let rest = log_grows (step c event) log in (
      one.0 ++ rest.0,
      rest.1 ∙ ap (λ (xs : List (List Mark)). xs ++ rest.0) one.1 ∙ append_assoc c.shown one.0 rest.0,
      omega (arith, length-append one.0 rest.0, one.2, rest.2),
    )

-- a client has shown a delta for each event
pub shown_count : (o : Opening) (log : List Logged) → length (replay o log).shown ≡ length log
unfolding replay
shown_count o log = let grown = log_grows (opened o) log in ap length grown.1 ∙ grown.2

-- and its journal has so many events
pub journal_from_count : (accepted : ℕ) (log : List Logged) → length (journal_from accepted log) ≡ length log
journal_from_count accepted [] = refl
journal_from_count accepted (event ∷ log) = ap suc (journal_from_count (accepted + length (entries_by event)) log)
