-- What calls tell of a pass, and points of a log that grows.
use Rattle.std.proofs.Common.{◌≡◌, ℕ, ◌≤◌, List, [], ◌++◌, length, map, take, drop, refl, sym, ap, ◌∙◌, subst, append_assoc, arith}
use Rattle.sporc_session.proofs.Common.{append-nil, length-append, take-append-le, take_all, Known, Agrees, StartsWith, own, drop_seen, starts_length, starts_self, Logged, PlainClient, IsCall, Item}
use Rattle.sporc_session.proofs.Common.{Happened, Past, by_of, client_of, items_of, with_events, CountsSame, KnowsMore, IsClientAt, IsPoint}
use Rattle.sporc_shared.proofs.Calling.{items_more}

pub starts_then : {A : Type 0} (xs ys zs : List A) → StartsWith ys xs → StartsWith zs ys → StartsWith zs xs
starts_then xs ys zs s t = (s.0 ++ t.0, t.1 ∙ ap (λ l. l ++ t.0) s.1 ∙ append_assoc xs s.0 t.0)

-- what the pass has seen after a call
pub seen_after : (k k' : Known Item) (before : Past) (events : List Logged) → IsCall k k' before events → k'.seen ≡ items_of before ++ map Happened events
seen_after k k' before events c = ap (λ (h : Known Item). h.seen) c.known ∙ items_more before events

pub call_knows : (k k' : Known Item) (before : Past) (events : List Logged) → IsCall k k' before events → KnowsMore k k' (map Happened events)
call_knows k k' before events c =
    let seen : k'.seen ≡ items_of (with_events before events) = ap (λ (h : Known Item). h.seen) c.known in
    record {
      number = ap (λ (h : Known Item). h.number) c.known;
      start = ap (λ (h : Known Item). h.start) c.known;
      mine = ap (λ (h : Known Item). h.mine) c.known;
      begins = subst (λ (l : List Item). StartsWith l k.seen) (sym seen) c.legal.begins;
      allowed = λ _. record { past = with_events before events; log_is = seen; allowed = c.legal.allowed };
      agrees = λ _. subst (Agrees by_of k') (sym seen) c.agrees;
    }

pub call_counts : (k k' : Known Item) (before : Past) (events : List Logged) → IsCall k k' before events → CountsSame k k'
call_counts k k' before events c = record {
  number = ap (λ (h : Known Item). h.number) c.known;
  splits = ap (λ (h : Known Item). h.splits) c.known;
  joined = ap (λ (h : Known Item). h.joined) c.known;
}

-- the call found the client at a point before its event
pub call_take : (k k' : Known Item) (before : Past) (events : List Logged) → IsCall k k' before events → take (length (items_of before)) k'.seen ≡ items_of before
call_take k k' before events c =
    let n = length (items_of before) in
    ap (take n) (seen_after k k' before events c)
    ∙ take-append-le n (items_of before) (map Happened events) (omega arith)
    ∙ take_all n (items_of before) (omega arith)

pub call_point : (k k' : Known Item) (before : Past) (events : List Logged) → IsCall k k' before events → IsPoint k'.seen k.start k.number k.mine (length (items_of before))
call_point k k' before events c =
    let whole : k.start ≤ length (items_of before) = omega (arith, c.found.whole, starts_length (items_of before) k.seen c.found.begins) in
    record {
      after_start = whole;
      within = omega (arith, ap length (seen_after k k' before events c), length-append (items_of before) (map Happened events));
      mine_are = ap (own by_of k.number k.start) (call_take k k' before events c) ∙ c.found.mine;
    }

pub call_client : (k k' : Known Item) (before : Past) (events : List Logged) → IsCall k k' before events → IsClientAt k'.seen (length (items_of before)) (client_of before)
call_client k k' before events c = record { past = before; past_is = call_take k k' before events c; client_is = refl }

-- and after all that the pass had seen
pub call_later : (k k' : Known Item) (before : Past) (events : List Logged) → IsCall k k' before events → length k.seen ≤ length (items_of before)
call_later k k' before events c = starts_length (items_of before) k.seen c.found.begins

-- what comes behind that point is the event
pub call_drop : (k k' : Known Item) (before : Past) (events : List Logged) → IsCall k k' before events → drop (length (items_of before)) k'.seen ≡ map Happened events
call_drop k k' before events c = ap (drop (length (items_of before))) (seen_after k k' before events c) ∙ drop_seen (items_of before) (map Happened events)

-- ---- a longer log

pub take_later : (log log' : List Item) (n : ℕ) → StartsWith log' log → n ≤ length log → take n log' ≡ take n log
take_later log log' n s low = ap (take n) s.1 ∙ take-append-le n log s.0 low

pub point_later : (log log' : List Item) (start number : ℕ) (mine : List Item) (n : ℕ) → StartsWith log' log → IsPoint log start number mine n → IsPoint log' start number mine n
point_later log log' start number mine n s p = record {
  after_start = p.after_start;
  within = omega (arith, p.within, starts_length log' log s);
  mine_are = ap (own by_of number start) (take_later log log' n s p.within) ∙ p.mine_are;
}

pub client_later : (log log' : List Item) (n : ℕ) (client : PlainClient) → StartsWith log' log → n ≤ length log → IsClientAt log n client → IsClientAt log' n client
client_later log log' n client s low at = record { past = at.past; past_is = take_later log log' n s low ∙ at.past_is; client_is = at.client_is }

-- ---- steps in a row

pub knows_none : (k : Known Item) → KnowsMore k k []
knows_none k = record { number = refl; start = refl; mine = sym (append-nil k.mine); begins = starts_self k.seen; allowed = λ a. a; agrees = λ a. a }

pub knows_then : (k k' k'' : Known Item) (xs ys : List Item) → KnowsMore k k' xs → KnowsMore k' k'' ys → KnowsMore k k'' (xs ++ ys)
knows_then k k' k'' xs ys a b = record {
  number = b.number ∙ a.number;
  start = b.start ∙ a.start;
  mine = b.mine ∙ ap (λ l. l ++ ys) a.mine ∙ append_assoc k.mine xs ys;
  begins = starts_then k.seen k'.seen k''.seen a.begins b.begins;
  allowed = λ h. b.allowed (a.allowed h);
  agrees = λ h. b.agrees (a.agrees h);
}

pub counts_then : (k k' k'' : Known Item) → CountsSame k k' → CountsSame k' k'' → CountsSame k k''
counts_then k k' k'' a b = record { number = b.number ∙ a.number; splits = b.splits ∙ a.splits; joined = b.joined ∙ a.joined }
