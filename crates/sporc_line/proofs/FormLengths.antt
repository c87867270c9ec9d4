-- The lengths of forms: each form of a good history is stated on the text before it.
use Rattle.std.proofs.Common.{◌≡◌, ℕ, suc, zero, ◌+◌, ◌<◌, ◌≤◌, List, [], ◌∷◌, ◌++◌, length, take, drop, fold, refl, ap, sym, ◌∙◌, subst, arith, Option, None, Some, Ok, ◌⊎◌, inl, inr, length-append}
use Rattle.sporc_line.proofs.Common.{take-append-le, take-append-drop, take_all, length-map, eqb-true, cases_lt, first_of, Mark, Keep, Remove, Insert, base_len, out_len, inserted_len, apply}
use Rattle.sporc_line.proofs.Common.{keep_marks, base_len-keep_marks, later_over, reached, Follow, all_inserted, passes, Entry, ChangeBody, Genesis, author_device, entry_of, change_of, WrongLength}
use Rattle.sporc_line.proofs.Common.{Kit, epoch_key, Operation, edit_marks, operation_read, operations, form_of, forms_of, next_form, text_after, text_of, is_over, edit_checks, key_checks_of, Good}
use Rattle.sporc_line.proofs.Common.{from_end, Follow-take, reached-append}
use Rattle.sporc_delta.specs.Transforms.{later}
use Rattle.sporc_xform.proofs.LengthLemmas.{base_len-later, inserted_len-later, out_len-le}
use Rattle.sporc_suffix.proofs.Passing.{Follow-append, Follow-drop}
use Rattle.sporc_line.specs.Operations.{edited, what_of, operation_in}
use Rattle.sporc_line.specs.Document.{form_of_what, forms_from}
use Rattle.sporc_line.specs.LineChecks.{key_checks}
use Rattle.sporc_line.proofs.Passes.{Passes}
use Rattle.sporc_line.proofs.Goods.{good_front, last_passes}
use Rattle.sporc_line.proofs.MoreForms.{forms_push}

-- ---- any forms that follow one another

pub length-apply : (ms : List Mark) (s : List ℕ) → base_len ms ≡ length s → length (apply ms s) ≡ out_len ms
length-apply [] s h = refl
length-apply (Insert c ∷ ms) s h = ap suc (length-apply ms s h)
length-apply (Keep ∷ ms) (c ∷ s) h = ap suc (length-apply ms s (omega arith))
length-apply (Remove ∷ ms) (c ∷ s) h = length-apply ms s (omega arith)
length-apply ms [] h = absurd (omega arith)

pub text_reached : (base : ℕ) (forms : List (List Mark)) (s : List ℕ) → Follow base forms → base ≡ length s → length (fold (λ (text : List ℕ) (form : List Mark). apply form text) s forms) ≡ reached base forms
text_reached base [] s h is = sym is
text_reached base (f ∷ fs) s h is = text_reached (out_len f) fs (apply f s) h.1 (sym (length-apply f s (h.0 ∙ is)))

-- the text after forms is as long as they reach
pub length-text : (forms : List (List Mark)) → Follow 0 forms → length (text_after forms) ≡ reached 0 forms
length-text forms h = text_reached 0 forms [] h refl

pub base_len-over : (q : List Mark) (forms : List (List Mark)) → Follow (base_len q) forms → base_len (later_over q forms) ≡ reached (base_len q) forms
base_len-over q [] h = refl
base_len-over q (f ∷ fs) h =
    let after : base_len (later q f) ≡ out_len f = base_len-later f q h.0 in
    let P : ℕ → Type 0 = λ n. Follow n fs in
    base_len-over (later q f) fs (subst P (sym after) h.1) ∙ ap (λ (n : ℕ). reached n fs) after

pub inserted_len-over : (q : List Mark) (forms : List (List Mark)) → inserted_len (later_over q forms) ≤ inserted_len q
inserted_len-over q [] = omega arith
inserted_len-over q (f ∷ fs) = omega (arith, inserted_len-over (later q f) fs, inserted_len-later f q)

pub reached-le : (base : ℕ) (forms : List (List Mark)) → Follow base forms → reached base forms ≤ base + all_inserted forms
reached-le base [] h = omega arith
reached-le base (f ∷ fs) h = omega (arith, reached-le (out_len f) fs h.1, out_len-le f, h.0)

-- ---- beginnings

length-forms_from : (fs : List (List Mark)) (os : List Operation) → length (forms_from fs os) ≡ length fs + length os
unfolding forms_from
length-forms_from fs [] = omega arith
length-forms_from fs (o ∷ os) = omega (arith, length-forms_from (fs ++ form_of fs o ∷ []) os, length-append fs (form_of fs o ∷ []))

pub length-forms : (g : Genesis) (kit : Kit) (A : List (List ℕ)) → length (forms_of g kit A) ≡ length A
length-forms g kit A = length-forms_from [] (operations g kit A) ∙ omega (arith, length-map A (operation_in (epoch_key g kit A)))

-- the forms of a beginning are the first ones
abbrev FormsTake : Genesis → Kit → List (List ℕ) → Type 0
FormsTake g kit A = Good g kit A → (n : ℕ) → forms_of g kit (take n A) ≡ take n (forms_of g kit A)

forms_take_none : (g : Genesis) (kit : Kit) → FormsTake g kit []
unfolding forms_from
forms_take_none g kit good zero = refl
forms_take_none g kit good (suc n) = refl

forms_take_more : (g : Genesis) (kit : Kit) (A : List (List ℕ)) (b : List ℕ) → FormsTake g kit A → FormsTake g kit (A ++ b ∷ [])
forms_take_more g kit A b ih good n = go (cases_lt (length A) n)
  where
    all : length (A ++ b ∷ []) ≤ n → forms_of g kit (take n (A ++ b ∷ [])) ≡ take n (forms_of g kit (A ++ b ∷ []))
    all h =
        let k : length (forms_of g kit (A ++ b ∷ [])) ≤ n = omega (arith, length-forms g kit (A ++ b ∷ []), h) in
        ap (forms_of g kit) (take_all n (A ++ b ∷ []) h) ∙ sym (take_all n (forms_of g kit (A ++ b ∷ [])) k)

    go : (length A < n) ⊎ (n ≤ length A) → forms_of g kit (take n (A ++ b ∷ [])) ≡ take n (forms_of g kit (A ++ b ∷ []))
    go (inl h) = all (omega (arith, length-append A (b ∷ []), h))
    go (inr h) =
        let k : n ≤ length (forms_of g kit A) = omega (arith, length-forms g kit A, h) in
        ap (forms_of g kit) (take-append-le n A (b ∷ []) h) ∙ ih (good_front g kit A b good) n
        ∙ sym (take-append-le n (forms_of g kit A) (next_form g kit A b ∷ []) k) ∙ ap (take n) (sym (forms_push g kit A b good))

pub forms_take : (g : Genesis) (kit : Kit) (A : List (List ℕ)) → Good g kit A → (n : ℕ) → forms_of g kit (take n A) ≡ take n (forms_of g kit A)
forms_take g kit A = from_end (FormsTake g kit) (forms_take_none g kit) (forms_take_more g kit) A

-- ---- the forms of a good history

-- marks that passed their checks
pub edit_passed : (len : ℕ) (marks : Option (List Mark)) → first_of (edit_checks len marks) ≡ None → (m : List Mark) × (marks ≡ Some m) × (base_len m ≡ len)
edit_passed len None h = absurd cc
edit_passed len (Some m) h = let p = passes (is_over len (Some m)) WrongLength [] h in (m, refl, eqb-true (base_len m) len p.0)

-- what an entry that was read does
pub operation_is : (keys : ℕ → Option (List ℕ)) (b : List ℕ) (e : Entry) (o : Option ChangeBody) → entry_of b ≡ Ok e → change_of e ≡ o
    → operation_in keys b ≡ record { author = author_device e.header; number = e.header.number; base = e.header.base; what = what_of (keys e.header.epoch) e o }
unfolding operation_in
operation_is keys b e o is c =
    ap (operation_read keys) is
    ∙ ap (λ (o : Option ChangeBody). let x : Operation = record { author = author_device e.header; number = e.header.number; base = e.header.base; what = what_of (keys e.header.epoch) e o } in x) c

-- the form of an entry that changes the members
pub change_form : (g : Genesis) (kit : Kit) (A : List (List ℕ)) (b : List ℕ) (e : Entry) (c : ChangeBody) → entry_of b ≡ Ok e → change_of e ≡ Some c → next_form g kit A b ≡ keep_marks (length (text_of g kit A))
change_form g kit A b e c is h = ap (form_of (forms_of g kit A)) (operation_is (epoch_key g kit A) b e (Some c) is h)

-- and of one that edits the text
pub edit_form : (g : Genesis) (kit : Kit) (A : List (List ℕ)) (b : List ℕ) (e : Entry) (m : List Mark) → entry_of b ≡ Ok e → change_of e ≡ None → edit_marks (epoch_key g kit A e.header.epoch) e ≡ Some m
    → next_form g kit A b ≡ later_over m (drop e.header.base (forms_of g kit A))
edit_form g kit A b e m is h marks =
    ap (form_of (forms_of g kit A)) (operation_is (epoch_key g kit A) b e None is h)
    ∙ ap (λ (o : Option (List Mark)). form_of_what (forms_of g kit A) e.header.base (edited o)) marks

-- an edit that passed is stated on the text after its base
pub edit_over : (g : Genesis) (kit : Kit) (A : List (List ℕ)) (pos : ℕ) (e : Entry) → Passes g kit A pos e → change_of e ≡ None
    → (m : List Mark) × (edit_marks (epoch_key g kit A e.header.epoch) e ≡ Some m) × (base_len m ≡ length (text_of g kit (take e.header.base A)))
unfolding key_checks
edit_over g kit A pos e p none =
    edit_passed (length (text_of g kit (take e.header.base A))) (edit_marks (epoch_key g kit A e.header.epoch) e) (ap (λ (o : Option ChangeBody). first_of (key_checks_of g kit A e o)) (sym none) ∙ p.keys)

-- the text after a beginning of a good history is as long as the forms up to there reach
pub text_at : (g : Genesis) (kit : Kit) (A : List (List ℕ)) (n : ℕ) → Good g kit A → Follow 0 (forms_of g kit (take n A)) → length (text_of g kit (take n A)) ≡ reached 0 (take n (forms_of g kit A))
text_at g kit A n good follow = length-text (forms_of g kit (take n A)) follow ∙ ap (reached 0) (forms_take g kit A good n)

-- the marks of an edit that passed follow the forms up to its base
pub edit_follows : (g : Genesis) (kit : Kit) (A : List (List ℕ)) (n : ℕ) (m : List Mark) → Good g kit A → Follow 0 (forms_of g kit A) → base_len m ≡ length (text_of g kit (take n A))
    → (base_len m ≡ reached 0 (take n (forms_of g kit A))) × Follow (base_len m) (drop n (forms_of g kit A))
edit_follows g kit A n m good follow over =
    let P : List (List Mark) → Type 0 = λ fs. Follow 0 fs in
    let front = subst P (sym (forms_take g kit A good n)) (Follow-take 0 n (forms_of g kit A) follow) in
    let at : base_len m ≡ reached 0 (take n (forms_of g kit A)) = over ∙ text_at g kit A n good front in
    let Q : ℕ → Type 0 = λ k. Follow k (drop n (forms_of g kit A)) in
    (at, subst Q (sym at) (Follow-drop 0 n (forms_of g kit A) follow))

-- the next form is stated on the text that the others reach
pub next_form_base : (g : Genesis) (kit : Kit) (A : List (List ℕ)) (b : List ℕ) (pos : ℕ) (e : Entry) → Good g kit A → Follow 0 (forms_of g kit A) → entry_of b ≡ Ok e → Passes g kit A pos e
    → base_len (next_form g kit A b) ≡ reached 0 (forms_of g kit A)
next_form_base g kit A b pos e good follow is p = go (change_of e) refl
  where
    go : (o : Option ChangeBody) → change_of e ≡ o → base_len (next_form g kit A b) ≡ reached 0 (forms_of g kit A)
    go (Some c) h = ap base_len (change_form g kit A b e c is h) ∙ base_len-keep_marks (length (text_of g kit A)) ∙ length-text (forms_of g kit A) follow
    go None h =
        let m = edit_over g kit A pos e p h in
        let f = edit_follows g kit A e.header.base m.0 good follow m.2 in
        let n : ℕ = e.header.base in
        ap base_len (edit_form g kit A b e m.0 is h m.1)
        ∙ base_len-over m.0 (drop n (forms_of g kit A)) f.1
        ∙ ap (λ (k : ℕ). reached k (drop n (forms_of g kit A))) f.0
        ∙ sym (reached-append 0 (take n (forms_of g kit A)) (drop n (forms_of g kit A)))
        ∙ ap (reached 0) (take-append-drop n (forms_of g kit A))

abbrev FormsFollow : Genesis → Kit → List (List ℕ) → Type 0
FormsFollow g kit A = Good g kit A → Follow 0 (forms_of g kit A)

follow_none : (g : Genesis) (kit : Kit) → FormsFollow g kit []
unfolding forms_from
follow_none g kit good = tt

follow_more : (g : Genesis) (kit : Kit) (A : List (List ℕ)) (b : List ℕ) → FormsFollow g kit A → FormsFollow g kit (A ++ b ∷ [])
follow_more g kit A b ih good =
    let front = good_front g kit A b good in
    let p = last_passes g kit A b good in
    let follow = ih front in
    let base = next_form_base g kit A b (length A + 1) p.0 front follow p.1 p.2 in
    let P : List (List Mark) → Type 0 = λ fs. Follow 0 fs in
    subst P (sym (forms_push g kit A b good)) (Follow-append 0 (forms_of g kit A) (next_form g kit A b) follow base)

-- the forms of a good history follow one another
pub forms_follow : (g : Genesis) (kit : Kit) (A : List (List ℕ)) → Good g kit A → Follow 0 (forms_of g kit A)
forms_follow g kit A = from_end (FormsFollow g kit) (follow_none g kit) (follow_more g kit) A
