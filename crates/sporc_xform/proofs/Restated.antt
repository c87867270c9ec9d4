-- What runs of steps leave of two deltas.
use Rattle.std.proofs.Common.{◌≡◌, ℕ, zero, suc, ◌+◌, ◌≤◌, Bool, true, false, List, [], ◌∷◌, ◌++◌, length, map, refl, ap, sym, ◌∙◌, append_assoc, arith}
use Rattle.sporc_xform.proofs.Common.{replicate, flat_map, length-append, MAX_TEXT_LEN, Mark, Keep, Remove, Insert, base_len, out_len, inserted_len, keep_marks, insert_marks, Step, Earlier, Later}
use Rattle.sporc_xform.proofs.Common.{Both, last_steps, steps_to, steps, later_step, earlier_step, base_len-append, out_len-append, base_mark, base_marks}
use Rattle.std.proofs.lemmas.Grind.{flat_map-append}

pub later-earlier : (text : List ℕ) → flat_map later_step (map Earlier text) ≡ keep_marks (length text)
later-earlier [] = refl
later-earlier (c ∷ text) = ap (λ ms. Keep ∷ ms) (later-earlier text)

pub later-later : (text : List ℕ) → flat_map later_step (map Later text) ≡ insert_marks text
later-later [] = refl
later-later (c ∷ text) = ap (λ ms. Insert c ∷ ms) (later-later text)

pub later-both : (m n : Bool) (k : ℕ) → flat_map later_step (replicate k (Both (base_mark m) (base_mark n))) ≡ base_marks m n k
later-both true n zero = refl
later-both true n (suc k) = later-both true n k
later-both false n zero = refl
later-both false n (suc k) = ap (λ ms. base_mark n ∷ ms) (later-both false n k)

pub earlier-earlier : (text : List ℕ) → flat_map earlier_step (map Earlier text) ≡ insert_marks text
earlier-earlier [] = refl
earlier-earlier (c ∷ text) = ap (λ ms. Insert c ∷ ms) (earlier-earlier text)

pub earlier-later : (text : List ℕ) → flat_map earlier_step (map Later text) ≡ keep_marks (length text)
earlier-later [] = refl
earlier-later (c ∷ text) = ap (λ ms. Keep ∷ ms) (earlier-later text)

pub earlier-both : (m n : Bool) (k : ℕ) → flat_map earlier_step (replicate k (Both (base_mark m) (base_mark n))) ≡ base_marks n m k
earlier-both m true zero = refl
earlier-both m true (suc k) = earlier-both m true k
earlier-both m false zero = refl
earlier-both m false (suc k) = ap (λ ms. base_mark m ∷ ms) (earlier-both m false k)

-- ---- a step leaves one mark or none

later_one : (s : Step) → (base_len (later_step s) ≤ 1) × (out_len (later_step s) ≤ 1)
later_one (Both Keep Keep) = (omega arith, omega arith)
later_one (Both (Insert c) Keep) = (omega arith, omega arith)
later_one _ = (omega arith, omega arith)

earlier_one : (s : Step) → (base_len (earlier_step s) ≤ 1) × (out_len (earlier_step s) ≤ 1)
earlier_one (Both Keep Keep) = (omega arith, omega arith)
earlier_one (Both Remove Keep) = (omega arith, omega arith)
earlier_one (Both (Insert c) Keep) = (omega arith, omega arith)
earlier_one _ = (omega arith, omega arith)

-- the marks that steps leave are no more than the steps
pub record NoMore (ms : List Mark) (u : List Step) : Type 0 where
  pub base : base_len ms ≤ length u
  pub out : out_len ms ≤ length u

no_more : (f : Step → List Mark) → ((s : Step) → (base_len (f s) ≤ 1) × (out_len (f s) ≤ 1)) → (u : List Step) → NoMore (flat_map f u) u
no_more f one [] = record { base = omega arith; out = omega arith }
no_more f one (s ∷ u) =
    let rest = no_more f one u in
    record {
      base = omega (arith, one s, rest.base, base_len-append (f s) (flat_map f u));
      out = omega (arith, one s, rest.out, out_len-append (f s) (flat_map f u));
    }

pub later_no_more : (u : List Step) → NoMore (flat_map later_step u) u
later_no_more = no_more later_step later_one

pub earlier_no_more : (u : List Step) → NoMore (flat_map earlier_step u) u
earlier_no_more = no_more earlier_step earlier_one

-- ---- there are no more steps than characters of the text and inserted ones

length-last_steps : (q : List Mark) → length (last_steps q) ≤ inserted_len q
length-last_steps (Insert c ∷ q) = omega (arith, length-last_steps q)
length-last_steps _ = omega arith

length-steps_to : (m : Mark) (n : ℕ) (rest : List Mark → List Step) → ((q : List Mark) → length (rest q) ≤ n + inserted_len q) → (q : List Mark) → length (steps_to m rest q) ≤ suc n + inserted_len q
length-steps_to m n rest h [] = omega arith
length-steps_to m n rest h (Insert c ∷ q) = omega (arith, length-steps_to m n rest h q)
length-steps_to m n rest h (_ ∷ q) = omega (arith, h q)

pub length-steps : (p q : List Mark) → length (steps p q) ≤ base_len p + inserted_len p + inserted_len q
length-steps [] q = omega (arith, length-last_steps q)
length-steps (Insert c ∷ p) q = omega (arith, length-steps p q)
length-steps (Keep ∷ p) q = omega (arith, length-steps_to Keep (base_len p + inserted_len p) (steps p) (length-steps p) q)
length-steps (Remove ∷ p) q = omega (arith, length-steps_to Remove (base_len p + inserted_len p) (steps p) (length-steps p) q)

-- ---- a delta that grows run by run

-- the delta so far, with what the steps that are left leave, is the whole
pub record Restates (f : Step → List Mark) (delta : List Mark) (left : List Step) (whole : List Mark) : Type 0 where
  pub so_far : delta ++ flat_map f left ≡ whole
  pub base : base_len delta + length left ≤ MAX_TEXT_LEN
  pub out : out_len delta + length left ≤ MAX_TEXT_LEN

pub Restates-start : (f : Step → List Mark) (delta p q : List Mark) (left : List Step) → delta ≡ [] → left ≡ steps p q → base_len p + inserted_len p + inserted_len q ≤ MAX_TEXT_LEN
    → Restates f delta left (flat_map f (steps p q))
Restates-start f delta p q left none is small = rw (none, is) record {
  so_far = refl;
  base = omega (arith, length-steps p q);
  out = omega (arith, length-steps p q);
}

pub Restates-run : (f : Step → List Mark) (delta new : List Mark) (left run after : List Step) (whole : List Mark) → left ≡ run ++ after → new ≡ delta ++ flat_map f run → NoMore (flat_map f run) run
    → Restates f delta left whole → Restates f new after whole
Restates-run f delta new left run after whole is grown few r =
    let all = ap length is ∙ length-append run after in
    rw grown record {
      so_far = append_assoc delta (flat_map f run) (flat_map f after) ∙ ap (λ ms. delta ++ ms) (sym (flat_map-append f run after) ∙ ap (flat_map f) (sym is)) ∙ r.so_far;
      base = omega (arith, few.base, r.base, base_len-append delta (flat_map f run));
      out = omega (arith, few.out, r.out, out_len-append delta (flat_map f run));
    }
