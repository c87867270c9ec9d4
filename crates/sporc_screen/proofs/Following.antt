-- Lines that follow each other: their lengths, one more, those behind a place, and all in one.
use Rattle.std.proofs.Common.{◌≡◌, ℕ, zero, suc, ◌+◌, ◌-◌, ◌≤◌, List, [], ◌∷◌, ◌++◌, length, drop, take, refl, subst, ap, sym, ◌∙◌, arith, length-drop}
use Rattle.std.proofs.lemmas.List.{take_all}
use Rattle.sporc_screen.proofs.Common.{fold, flat_map, Mark, Keep, Remove, Insert, apply, base_len, out_len, inserted_len, keep_marks, Step, Both, Earlier, Later, steps, later, earlier, later_step, earlier_step, compose}
use Rattle.sporc_screen.proofs.Common.{composes, apply-compose, out_len-keep_marks, base_len-keep_marks, out_len-append, LeadTo, composed, first_joined, len_before}

-- ---- lengths of texts

pub length-apply : (ms : List Mark) (s : List ℕ) → base_len ms ≡ length s → length (apply ms s) ≡ out_len ms
length-apply [] s h = refl
length-apply (Insert c ∷ ms) s h = ap suc (length-apply ms s h)
length-apply (Keep ∷ ms) (c ∷ s) h = ap suc (length-apply ms s (omega arith))
length-apply (Remove ∷ ms) (c ∷ s) h = length-apply ms s (omega arith)
length-apply ms [] h = absurd (omega arith)

pub apply-keep_marks : (s : List ℕ) → apply (keep_marks (length s)) s ≡ s
apply-keep_marks [] = refl
apply-keep_marks (c ∷ s) = ap (λ (t : List ℕ). c ∷ t) (apply-keep_marks s)

-- the text after a delta has no more characters than the one before and those inserted
pub out_len_le : (ms : List Mark) → out_len ms ≤ base_len ms + inserted_len ms
out_len_le [] = omega arith
out_len_le (Keep ∷ ms) = omega (arith, out_len_le ms)
out_len_le (Remove ∷ ms) = omega (arith, out_len_le ms)
out_len_le (Insert c ∷ ms) = omega (arith, out_len_le ms)

-- both orders lead to texts of one length
one_step : (s : Step) → out_len (later_step s) ≡ out_len (earlier_step s)
one_step (Earlier c) = refl
one_step (Later c) = refl
one_step (Both Keep Keep) = refl
one_step (Both Keep Remove) = refl
one_step (Both Keep (Insert d)) = refl
one_step (Both Remove Keep) = refl
one_step (Both Remove Remove) = refl
one_step (Both Remove (Insert d)) = refl
one_step (Both (Insert c) Keep) = refl
one_step (Both (Insert c) Remove) = refl
one_step (Both (Insert c) (Insert d)) = refl

steps_lead : (u : List Step) → out_len (flat_map later_step u) ≡ out_len (flat_map earlier_step u)
steps_lead [] = refl
steps_lead (s ∷ u) = omega (arith, one_step s, steps_lead u, out_len-append (later_step s) (flat_map later_step u), out_len-append (earlier_step s) (flat_map earlier_step u))

pub out_len-both : (p q : List Mark) → out_len (later q p) ≡ out_len (earlier p q)
out_len-both p q = steps_lead (steps p q)

-- ---- lines

pub len_before-append : (xs : List (List Mark)) (x : List Mark) (n : ℕ) → len_before (xs ++ x ∷ []) n ≡ len_before xs (base_len x)
len_before-append [] x n = refl
len_before-append (y ∷ ys) x n = refl

pub LeadTo-append : (xs : List (List Mark)) (x : List Mark) → LeadTo xs (base_len x) → LeadTo (xs ++ x ∷ []) (out_len x)
LeadTo-append [] x lead = (refl, tt)
LeadTo-append (y ∷ ys) x lead = (lead.0 ∙ sym (len_before-append ys x (out_len x)), LeadTo-append ys x lead.1)

pub LeadTo-drop : (i : ℕ) (xs : List (List Mark)) (n : ℕ) → LeadTo xs n → LeadTo (drop i xs) n
LeadTo-drop zero xs n lead = lead
LeadTo-drop (suc i) [] n lead = tt
LeadTo-drop (suc i) (x ∷ xs) n lead = LeadTo-drop i xs n lead.1

-- those from a place on, as the code has them
pub rest_leads : (xs ys : List (List Mark)) (i n : ℕ) → xs ≡ ys → LeadTo ys n → LeadTo (take (length xs - i) (drop i xs)) n
rest_leads xs ys i n is lead =
    let Q : List (List Mark) → Type 0 = λ zs. LeadTo zs n in
    rw is (subst Q (sym (take_all (length ys - i) (drop i ys) (omega (arith, length-drop i ys)))) (LeadTo-drop i ys n lead))

pub LeadTo-joined : (xs : List (List Mark)) (n : ℕ) → LeadTo xs n → LeadTo (first_joined xs) n
LeadTo-joined [] n lead = tt
LeadTo-joined (x ∷ []) n lead = lead
LeadTo-joined (x ∷ y ∷ xs) n lead = ((composes x y lead.0).out ∙ lead.1.0, lead.1.1)

pub length-joined : (xs : List (List Mark)) → 2 ≤ length xs → suc (length (first_joined xs)) ≡ length xs
length-joined (x ∷ y ∷ xs) h = refl
length-joined (x ∷ []) h = absurd (omega arith)
length-joined [] h = absurd (omega arith)

-- ---- all in one

pub record Lengths (ms : List Mark) (base out : ℕ) : Type 0 where
  pub base_is : base_len ms ≡ base
  pub out_is : out_len ms ≡ out

folded : (all : List Mark) (xs : List (List Mark)) (n : ℕ) → out_len all ≡ len_before xs n → LeadTo xs n → Lengths (fold compose all xs) (base_len all) n
folded all [] n next lead = record { base_is = refl; out_is = next }
folded all (x ∷ xs) n next lead =
    let both = composes all x next in
    let rest = folded (compose all x) xs n (both.out ∙ lead.0) lead.1 in
    record { base_is = rest.base_is ∙ both.base; out_is = rest.out_is }

pub composed_lengths : (xs : List (List Mark)) (n : ℕ) → LeadTo xs n → Lengths (composed (len_before xs n) xs) (len_before xs n) n
composed_lengths xs n lead =
    let len = len_before xs n in
    let all = folded (keep_marks len) xs n (out_len-keep_marks len) lead in
    record { base_is = all.base_is ∙ base_len-keep_marks len; out_is = all.out_is }

-- the text after each of the lines in turn
abbrev pub apply_all : List (List Mark) → List ℕ → List ℕ
apply_all [] s = s
apply_all (x ∷ xs) s = apply_all xs (apply x s)

pub apply_all-append : (xs : List (List Mark)) (x : List Mark) (s : List ℕ) → apply_all (xs ++ x ∷ []) s ≡ apply x (apply_all xs s)
apply_all-append [] x s = refl
apply_all-append (y ∷ ys) x s = apply_all-append ys x (apply y s)

folded_leads : (all : List Mark) (xs : List (List Mark)) (n : ℕ) (s : List ℕ) → base_len all ≡ length s → out_len all ≡ len_before xs n → LeadTo xs n → apply (fold compose all xs) s ≡ apply_all xs (apply all s)
folded_leads all [] n s base next lead = refl
folded_leads all (x ∷ xs) n s base next lead =
    let both = composes all x next in
    folded_leads (compose all x) xs n s (both.base ∙ base) (both.out ∙ lead.0) lead.1 ∙ ap (apply_all xs) (apply-compose all x s base next)

pub composed_leads : (xs : List (List Mark)) (n : ℕ) (s : List ℕ) → len_before xs n ≡ length s → LeadTo xs n → apply (composed (len_before xs n) xs) s ≡ apply_all xs s
composed_leads xs n s base lead =
    let len = len_before xs n in
    folded_leads (keep_marks len) xs n s (base_len-keep_marks len ∙ base) (out_len-keep_marks len) lead ∙ ap (apply_all xs) (ap (λ (n : ℕ). apply (keep_marks n) s) base ∙ apply-keep_marks s)

-- ---- a loop that composes them

pub record Composing (all : List Mark) (i : ℕ) (xs : List (List Mark)) (n : ℕ) : Type 0 where
  pub so_far : fold compose all (drop i xs) ≡ composed (len_before xs n) xs
  pub next : out_len all ≡ len_before (drop i xs) n
  pub lead : LeadTo (drop i xs) n

pub Composing-start : (all : List Mark) (xs : List (List Mark)) (n : ℕ) → all ≡ keep_marks (len_before xs n) → LeadTo xs n → Composing all 0 xs n
Composing-start all xs n is lead = rw is record { so_far = refl; next = out_len-keep_marks (len_before xs n); lead = lead }

pub Composing-step : (all new x : List Mark) (i : ℕ) (xs : List (List Mark)) (n : ℕ) → drop i xs ≡ x ∷ drop (i + 1) xs → new ≡ compose all x → Composing all i xs n → Composing new (i + 1) xs n
Composing-step all new x i xs n at is h =
    let so_far : fold compose all (x ∷ drop (i + 1) xs) ≡ composed (len_before xs n) xs = ap (fold compose all) (sym at) ∙ h.so_far in
    let next : out_len all ≡ base_len x = h.next ∙ ap (λ (ys : List (List Mark)). len_before ys n) at in
    let lead : LeadTo (x ∷ drop (i + 1) xs) n = subst (λ (ys : List (List Mark)). LeadTo ys n) at h.lead in
    rw is record { so_far = so_far; next = (composes all x next).out ∙ lead.0; lead = lead.1 }
