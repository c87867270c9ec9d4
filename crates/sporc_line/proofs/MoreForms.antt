-- The keys, operations, forms and text of one entry more.
use Rattle.std.proofs.Common.{◌≡◌, ℕ, suc, zero, ◌+◌, ◌≤◌, List, [], ◌∷◌, ◌++◌, length, take, drop, map, refl, ap, sym, ◌∙◌, arith, Option, Ok, length-append}
use Rattle.sporc_line.proofs.Common.{slice_get, map-append, take-append-le, take-append-drop, Mark, apply, Entry, Genesis, entry_of, CommittedChange, change_in, changes, epoch_of, Kit, key_started}
use Rattle.sporc_line.proofs.Common.{epoch_key, Operation, operation_read, operations, form_of, forms_of, next_form, text_after, text_of, Good, filter_map-append}
use Rattle.std.proofs.lemmas.List.Sums.{fold-append}
use Rattle.sporc_line.specs.Keys.{key_after}
use Rattle.sporc_line.specs.Operations.{operation_in, operation_of}
use Rattle.sporc_line.specs.Document.{forms_from}
use Rattle.sporc_suffix.proofs.Kept.{slice_get_front}
use Rattle.sporc_line.proofs.Lists.{map_same}
use Rattle.sporc_line.proofs.Passes.{Passes}
use Rattle.sporc_line.proofs.Goods.{good_entry, good_front, last_passes}

-- ---- the keys of epochs that began before stay

pub key_after_front : (g : Genesis) (kit : Kit) (cs ds : List CommittedChange) (e : ℕ) → e ≤ length cs → key_after g kit (cs ++ ds) e ≡ key_after g kit cs e
unfolding key_after
key_after_front g kit cs ds zero h = refl
key_after_front g kit cs ds (suc e) h =
    let a = take-append-le (suc e) cs ds h in
    let b = slice_get_front cs ds e h in
    ap (λ (l : List CommittedChange). key_started g kit l (suc e) (slice_get (cs ++ ds) e)) a ∙ ap (key_started g kit (take (suc e) cs) (suc e)) b

pub changes_append : (A B : List (List ℕ)) → changes (A ++ B) ≡ changes A ++ changes B
changes_append A B = filter_map-append change_in A B

pub key_of_push : (g : Genesis) (kit : Kit) (A : List (List ℕ)) (b : List ℕ) (e : ℕ) → e ≤ epoch_of A → epoch_key g kit (A ++ b ∷ []) e ≡ epoch_key g kit A e
key_of_push g kit A b e h = ap (λ (cs : List CommittedChange). key_after g kit cs e) (changes_append A (b ∷ [])) ∙ key_after_front g kit (changes A) (changes (b ∷ [])) e h

-- the changes of a beginning begin those of the history
pub changes_front : (A : List (List ℕ)) (n : ℕ) → changes A ≡ changes (take n A) ++ changes (drop n A)
changes_front A n = ap changes (sym (take-append-drop n A)) ∙ changes_append (take n A) (drop n A)

pub epoch_front : (A : List (List ℕ)) (n : ℕ) → epoch_of (take n A) ≤ epoch_of A
epoch_front A n = omega (arith, ap length (changes_front A n), length-append (changes (take n A)) (changes (drop n A)))

-- the key of an epoch that began in a beginning is that of the whole history
pub key_of_take : (g : Genesis) (kit : Kit) (A : List (List ℕ)) (n e : ℕ) → e ≤ epoch_of (take n A) → epoch_key g kit A e ≡ epoch_key g kit (take n A) e
key_of_take g kit A n e h = ap (λ (cs : List CommittedChange). key_after g kit cs e) (changes_front A n) ∙ key_after_front g kit (changes (take n A)) (changes (drop n A)) e h

-- ---- the operations

pub operation_same : (keys keys' : ℕ → Option (List ℕ)) (b : List ℕ) (e : Entry) → entry_of b ≡ Ok e → keys e.header.epoch ≡ keys' e.header.epoch → operation_in keys b ≡ operation_in keys' b
unfolding operation_in
operation_same keys keys' b e is h = ap (operation_read keys) is ∙ ap (λ (k : Option (List ℕ)). operation_of k e) h ∙ sym (ap (operation_read keys') is)

pub operations_push : (g : Genesis) (kit : Kit) (A : List (List ℕ)) (b : List ℕ) → Good g kit (A ++ b ∷ [])
    → operations g kit (A ++ b ∷ []) ≡ operations g kit A ++ operation_in (epoch_key g kit A) b ∷ []
operations_push g kit A b good =
    let keys = epoch_key g kit (A ++ b ∷ []) in
    let old : map (operation_in keys) A ≡ operations g kit A = map_same (operation_in keys) (operation_in (epoch_key g kit A)) A (λ i x at.
    let p = good_entry g kit A i x (good_front g kit A b good) at in
    let q : Passes g kit (take i A) (i + 1) p.0 = p.2 in
    let l : p.0.header.epoch ≤ epoch_of A = omega (arith, q.epoch, epoch_front A i) in
    operation_same keys (epoch_key g kit A) x p.0 p.1 (key_of_push g kit A b p.0.header.epoch l)) in
    let p = last_passes g kit A b good in
    let q : Passes g kit A (length A + 1) p.0 = p.2 in
    let l : p.0.header.epoch ≤ epoch_of A = omega (arith, q.epoch) in
    let new = operation_same keys (epoch_key g kit A) b p.0 p.1 (key_of_push g kit A b p.0.header.epoch l) in
    map-append (operation_in keys) A (b ∷ []) ∙ ap (λ (os : List Operation). os ++ operation_in keys b ∷ []) old ∙ ap (λ (o : Operation). operations g kit A ++ o ∷ []) new

-- ---- the forms and the text

pub forms_from_push : (fs : List (List Mark)) (os : List Operation) (o : Operation) → forms_from fs (os ++ o ∷ []) ≡ forms_from fs os ++ form_of (forms_from fs os) o ∷ []
unfolding forms_from
forms_from_push fs [] o = refl
forms_from_push fs (p ∷ os) o = forms_from_push (fs ++ form_of fs p ∷ []) os o

pub forms_push : (g : Genesis) (kit : Kit) (A : List (List ℕ)) (b : List ℕ) → Good g kit (A ++ b ∷ []) → forms_of g kit (A ++ b ∷ []) ≡ forms_of g kit A ++ next_form g kit A b ∷ []
forms_push g kit A b good = ap (λ (os : List Operation). forms_from [] os) (operations_push g kit A b good) ∙ forms_from_push [] (operations g kit A) (operation_in (epoch_key g kit A) b)

pub text_push : (g : Genesis) (kit : Kit) (A : List (List ℕ)) (b : List ℕ) → Good g kit (A ++ b ∷ []) → text_of g kit (A ++ b ∷ []) ≡ apply (next_form g kit A b) (text_of g kit A)
text_push g kit A b good =
    ap text_after (forms_push g kit A b good) ∙ fold-append (λ (text : List ℕ) (form : List Mark). apply form text) [] (forms_of g kit A) (next_form g kit A b ∷ [])
