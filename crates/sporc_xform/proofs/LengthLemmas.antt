-- The lengths of deltas that are restated.
use Rattle.std.proofs.Common.{◌≡◌, suc, ◌+◌, ◌≤◌, List, [], ◌∷◌, refl, ap, arith}
use Rattle.sporc_xform.proofs.Common.{flat_map, Mark, Keep, Remove, Insert, base_len, out_len, inserted_len, last_steps, later_step, earlier_step, later, earlier}

pub out_len-le : (ms : List Mark) → out_len ms ≤ base_len ms + inserted_len ms
out_len-le [] = omega arith
out_len-le (Keep ∷ ms) = omega (arith, out_len-le ms)
out_len-le (_ ∷ ms) = omega (arith, out_len-le ms)

-- ---- the later delta is stated on the text after the earlier one

later_last : (q : List Mark) → base_len q ≡ 0 → base_len (flat_map later_step (last_steps q)) ≡ 0
later_last (Insert c ∷ q) h = later_last q h
later_last _ h = refl

later_mark : (m : Mark) (p : List Mark) → ((q : List Mark) → base_len p ≡ base_len q → base_len (later q p) ≡ out_len p) → (q : List Mark) → base_len (m ∷ p) ≡ base_len q
    → base_len (later q (m ∷ p)) ≡ out_len (m ∷ p)
later_mark (Insert c) p ih q h = ap suc (ih q h)
later_mark m p ih [] h = absurd (omega arith)
later_mark m p ih (Insert c ∷ q) h = later_mark m p ih q h
later_mark Keep p ih (_ ∷ q) h = ap suc (ih q (omega arith))
later_mark Remove p ih (_ ∷ q) h = ih q (omega arith)

pub base_len-later : (p q : List Mark) → base_len p ≡ base_len q → base_len (later q p) ≡ out_len p
base_len-later [] q h = later_last q (omega arith)
base_len-later (m ∷ p) q h = later_mark m p (base_len-later p) q h

-- ---- and inserts no more than before

inserted_last : (q : List Mark) → inserted_len (flat_map later_step (last_steps q)) ≤ inserted_len q
inserted_last (Insert c ∷ q) = omega (arith, inserted_last q)
inserted_last _ = omega arith

inserted_mark : (m : Mark) (p : List Mark) → ((q : List Mark) → inserted_len (later q p) ≤ inserted_len q) → (q : List Mark) → inserted_len (later q (m ∷ p)) ≤ inserted_len q
inserted_mark (Insert c) p ih q = ih q
inserted_mark m p ih [] = omega arith
inserted_mark m p ih (Insert c ∷ q) = omega (arith, inserted_mark m p ih q)
inserted_mark m p ih (_ ∷ q) = ih q

pub inserted_len-later : (p q : List Mark) → inserted_len (later q p) ≤ inserted_len q
inserted_len-later [] q = inserted_last q
inserted_len-later (m ∷ p) q = inserted_mark m p (inserted_len-later p) q

-- ---- the earlier delta is stated on the text after the later one

earlier_last : (q : List Mark) → base_len q ≡ 0 → base_len (flat_map earlier_step (last_steps q)) ≡ out_len q
earlier_last [] h = refl
earlier_last (Insert c ∷ q) h = ap suc (earlier_last q h)
earlier_last _ h = absurd (omega arith)

earlier_mark : (m : Mark) (p : List Mark) → ((q : List Mark) → base_len p ≡ base_len q → base_len (earlier p q) ≡ out_len q) → (q : List Mark) → base_len (m ∷ p) ≡ base_len q
    → base_len (earlier (m ∷ p) q) ≡ out_len q
earlier_mark (Insert c) p ih q h = ih q h
earlier_mark m p ih [] h = absurd (omega arith)
earlier_mark m p ih (Insert c ∷ q) h = ap suc (earlier_mark m p ih q h)
earlier_mark m p ih (Keep ∷ q) h = ap suc (ih q (omega arith))
earlier_mark m p ih (Remove ∷ q) h = ih q (omega arith)

pub base_len-earlier : (p q : List Mark) → base_len p ≡ base_len q → base_len (earlier p q) ≡ out_len q
base_len-earlier [] q h = earlier_last q (omega arith)
base_len-earlier (m ∷ p) q h = earlier_mark m p (base_len-earlier p) q h

-- ---- and inserts no more than before

kept_inserted_last : (q : List Mark) → inserted_len (flat_map earlier_step (last_steps q)) ≤ 0
kept_inserted_last (Insert c ∷ q) = kept_inserted_last q
kept_inserted_last _ = omega arith

kept_inserted_mark : (m : Mark) (p : List Mark) → ((q : List Mark) → inserted_len (earlier p q) ≤ inserted_len p) → (q : List Mark) → inserted_len (earlier (m ∷ p) q) ≤ inserted_len (m ∷ p)
kept_inserted_mark (Insert c) p ih q = omega (arith, ih q)
kept_inserted_mark m p ih [] = omega arith
kept_inserted_mark m p ih (Insert c ∷ q) = kept_inserted_mark m p ih q
kept_inserted_mark m p ih (_ ∷ q) = ih q

pub inserted_len-earlier : (p q : List Mark) → inserted_len (earlier p q) ≤ inserted_len p
inserted_len-earlier [] q = kept_inserted_last q
inserted_len-earlier (m ∷ p) q = kept_inserted_mark m p (inserted_len-earlier p) q

-- no more is inserted than there is in the text after
pub inserted_len_le : (ms : List Mark) → inserted_len ms ≤ out_len ms
inserted_len_le [] = omega arith
inserted_len_le (Keep ∷ ms) = omega (arith, inserted_len_le ms)
inserted_len_le (Remove ∷ ms) = inserted_len_le ms
inserted_len_le (Insert c ∷ ms) = omega (arith, inserted_len_le ms)
