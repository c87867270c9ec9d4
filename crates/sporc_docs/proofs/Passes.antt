-- Hands of passes.
use Rattle.std.proofs.Common.{ℕ, suc, ◌+◌, ◌≤◌, ◌<◌, ◌^◌, List, [], ◌∷◌, Option, Some, None, sym, subst, arith}
use Rattle.sporc_docs.proofs.Common.{Known, Pass, Turn, known_of, Ghosts, Desk, Item, AllZip, HasFirst, Joins, JoinsAt, Splits, SplitsAt, HasRoom, HaveRoom, pass_at}

-- one more that was joined back, or split, before these
pub joins_then : (a b c : Option (Pass Item)) (q : Option (Pass Item)) (qs : List (Option (Pass Item))) → JoinsAt a (q ∷ []) b → JoinsAt b qs c → JoinsAt a (q ∷ qs) c
joins_then None b c q qs one more = tt
joins_then (Some p) None c q qs one more = absurd one
joins_then (Some p) (Some p1) None q qs one more = absurd more
joins_then (Some p) (Some p1) (Some p') None qs one more = absurd one
joins_then (Some p) (Some p1) (Some p') (Some q) qs one more = (one.0, one.1, subst (λ (x : Pass Item). Joins x qs p') one.2 more)

pub splits_then : (a b c : Option (Pass Item)) (q : Option (Pass Item)) (qs : List (Option (Pass Item))) → SplitsAt a (q ∷ []) b → SplitsAt b qs c → SplitsAt a (q ∷ qs) c
splits_then None b c q qs one more = tt
splits_then (Some p) None c q qs one more = absurd one
splits_then (Some p) (Some p1) None q qs one more = absurd more
splits_then (Some p) (Some p1) (Some p') None qs one more = absurd one
splits_then (Some p) (Some p1) (Some p') (Some q) qs one more = (one.0, subst (λ (x : Known Item). Splits x qs (known_of p')) one.1 more)

-- room for less, and what is left of it after a split of each
room_less : (m n : ℕ) (p : Option (Pass Item)) → m ≤ n → HasRoom n p → HasRoom m p
room_less m n None le h = tt
room_less m n (Some p) le h = omega (arith, le, h)

pub have_less : (m n : ℕ) (ps : List (Option (Pass Item))) → m ≤ n → HaveRoom n ps → HaveRoom m ps
have_less m n [] le h = tt
have_less m n (p ∷ ps) le h = (room_less m n p le h.0, have_less m n ps le h.1)

room_left : {T : Type 0} {gs : Ghosts T} (n : ℕ) (t : Turn (Desk T gs) Item) (p q p' : Option (Pass Item)) → HasFirst t p → HasRoom (suc n) p → SplitsAt p (q ∷ []) p' → HasRoom n p'
room_left n t None q p' first room splits = absurd first
room_left n t (Some p) q None first room splits = tt
room_left n t (Some p) None (Some p') first room splits = absurd splits
room_left n t (Some p) (Some q) (Some p') first room splits = subst (λ (x : Known Item). x.splits + n < 2 ^ 32) (sym splits.1) (omega (arith, room))

pub have_left : {T : Type 0} {gs : Ghosts T} (n : ℕ) (ts : List (Turn (Desk T gs) Item)) (ps ps' : List (Option (Pass Item))) (q : ℕ → Option (Pass Item)) → AllZip HasFirst ts ps → AllZip HasFirst ts ps'
    → HaveRoom (suc n) ps → ((i : ℕ) → SplitsAt (pass_at i ps) (q i ∷ []) (pass_at i ps')) → HaveRoom n ps'
have_left n ts ps [] q first first' room splits = tt
have_left n [] ps (p' ∷ ps') q first first' room splits = absurd first'
have_left n (t ∷ ts) [] ps' q first first' room splits = absurd first
have_left n (t ∷ ts) (p ∷ ps) (p' ∷ ps') q first first' room splits =
    (room_left n t p (q 0) p' first.0 room.0 (splits 0), have_left n ts ps ps' (λ i. q (suc i)) first.1 first'.1 room.1 (λ i. splits (suc i)))
