-- The lines of entries, one after another, and the text that they tell.
use Rattle.std.proofs.Common.{◌≡◌, ℕ, suc, zero, ◌-◌, ◌<◌, ◌≤◌, List, [], ◌∷◌, ◌++◌, length, take, drop, map, fold, get_or, option_map, Option, None, Some, Result, Ok, refl, sym, ap, ap₂, ◌∙◌, subst, arith, append_assoc}
use Rattle.sporc_report.proofs.Common.{drop_all, length-map, slice_get, Mark, apply, Genesis, lines_behind}
use Rattle.std.specs.Result.{IsOk}
use Rattle.std.proofs.lemmas.List.Sums.{fold-append}
use Rattle.std.proofs.lemmas.Option.{slice_get-map, slice_get_read}
use Rattle.sporc_hash.proofs.Lists.{from_end}
use Rattle.sporc_entry.specs.declared.entry.Entry.{Entry}
use Rattle.sporc_entry.specs.declared.change.ChangeBody.{ChangeBody}
use Rattle.sporc_entry.specs.Entry.{entry_of, change_of}
use Rattle.sporc_line.specs.Kit.{Kit}
use Rattle.sporc_line.specs.Operations.{Operation}
use Rattle.sporc_line.specs.Document.{forms_from, forms_of, next_form, text_of}
use Rattle.sporc_line.specs.Good.{Good}
use Rattle.sporc_line.proofs.FormLengths.{change_form, forms_take, length-forms}
use Rattle.sporc_line.proofs.Goods.{good_entry, good_front, good_take, last_passes}
use Rattle.sporc_line.proofs.MoreForms.{forms_push, text_push}
use Rattle.sporc_client.proofs.Shown.{apply-keep_marks}
use Rattle.sporc_report.specs.EntryLines.{committed, committed_by, committed_with, done_by, entry_line, followed, lines_after, text_behind}

-- ---- entries with their forms

drop_with : (bs : List (List ℕ)) (fs : List (List Mark)) (n : ℕ) (b : List ℕ) (f : List Mark) → slice_get bs n ≡ Some b → slice_get fs n ≡ Some f
    → drop n (committed_with bs fs) ≡ committed_by (entry_of b) f ∷ drop (suc n) (committed_with bs fs)
drop_with (c ∷ bs) (g ∷ fs) zero b f is form =
    let same : c ≡ b = cc in
    let like : g ≡ f = cc in
    ap₂ (λ (x : List ℕ) (y : List Mark). committed_by (entry_of x) y ∷ committed_with bs fs) same like
drop_with (c ∷ bs) (g ∷ fs) (suc n) b f is form = drop_with bs fs n b f is form
drop_with bs fs n b f is form = absurd cc

length_with : (bs : List (List ℕ)) (fs : List (List Mark)) → length (committed_with bs fs) ≤ length bs
length_with (b ∷ bs) (f ∷ fs) = omega (arith, length_with bs fs)
length_with bs fs = omega arith

take_with : (n : ℕ) (bs : List (List ℕ)) (fs : List (List Mark)) → take n (committed_with bs fs) ≡ committed_with (take n bs) (take n fs)
take_with (suc n) (b ∷ bs) (f ∷ fs) = ap (λ (os : List Operation). committed_by (entry_of b) f ∷ os) (take_with n bs fs)
take_with n bs fs = refl

with_more : (bs : List (List ℕ)) (fs : List (List Mark)) (b : List ℕ) (f : List Mark) → length fs ≡ length bs
    → committed_with (bs ++ b ∷ []) (fs ++ f ∷ []) ≡ committed_with bs fs ++ committed_by (entry_of b) f ∷ []
with_more [] [] b f same = refl
with_more (c ∷ bs) (g ∷ fs) b f same = ap (λ (os : List Operation). committed_by (entry_of c) g ∷ os) (with_more bs fs b f (omega (arith, same)))
with_more bs fs b f same = absurd (omega (arith, same))

-- ---- their lines

-- the first of the lines that are left
pub one_line : (g : Genesis) (kit : Kit) (A : List (List ℕ)) (position : ℕ) (b : List ℕ) (f : List Mark) (old new : List ℕ) → 1 ≤ position
    → slice_get A (position - 1) ≡ Some b → slice_get (forms_of g kit A) (position - 1) ≡ Some f → new ≡ old ++ entry_line position (committed_by (entry_of b) f)
    → new ++ lines_behind position (committed g kit A) ≡ old ++ lines_behind (position - 1) (committed g kit A)
unfolding committed lines_after
one_line g kit A zero b f old new first is form grown = absurd (omega (arith, first))
one_line g kit A (suc n) b f old new first is form grown =
    let back : suc n - 1 ≡ n = omega arith in
    let at = subst (λ (k : ℕ). slice_get A k ≡ Some b) back is in
    let has = subst (λ (k : ℕ). slice_get (forms_of g kit A) k ≡ Some f) back form in
    let left = drop_with A (forms_of g kit A) n b f at has in
    let line = entry_line (suc n) (committed_by (entry_of b) f) in
    let rest = lines_behind (suc n) (committed_with A (forms_of g kit A)) in
    ap (λ (t : List ℕ). t ++ rest) grown ∙ append_assoc old line rest ∙ ap (λ (t : List ℕ). old ++ t) (sym (ap (lines_after n) left))
    ∙ ap (λ (k : ℕ). old ++ lines_behind k (committed_with A (forms_of g kit A))) (sym back)

-- no line is left
pub no_lines : (g : Genesis) (kit : Kit) (A : List (List ℕ)) (n : ℕ) → length A ≤ n → lines_behind n (committed g kit A) ≡ []
unfolding committed lines_after
no_lines g kit A n past = ap (lines_after n) (drop_all n (committed_with A (forms_of g kit A)) (omega (arith, past, length_with A (forms_of g kit A))))

-- an entry in a list of vectors
pub entry_at : {V : Type 0} (f : V → List ℕ) (vs : List V) (A : List (List ℕ)) (i : ℕ) (v : V) (b : List ℕ) → map f vs ≡ A → i < length A → v ≡ get_or vs i v → b ≡ f v → slice_get A i ≡ Some b
entry_at f vs A i v b is within at bytes =
    ap (λ (es : List (List ℕ)). slice_get es i) (sym is) ∙ slice_get-map f vs i
    ∙ ap (option_map f) (slice_get_read vs (length vs) i v refl (omega (arith, within, ap length is, length-map vs f)) at) ∙ ap Some (sym bytes)

-- the entries of a good history can be read
pub is_read : (g : Genesis) (kit : Kit) (A : List (List ℕ)) (i : ℕ) (b : List ℕ) → Good g kit A → slice_get A i ≡ Some b → IsOk (entry_of b)
is_read g kit A i b good at = let (e, is, passes) = good_entry g kit A i b good at in rw is refl

-- ---- the text that they tell

-- an entry that was read makes the text that its form makes
told_by_entry : (g : Genesis) (kit : Kit) (A : List (List ℕ)) (b : List ℕ) (e : Entry) → entry_of b ≡ Ok e
    → followed (text_of g kit A) (committed_by (entry_of b) (next_form g kit A b)) ≡ apply (next_form g kit A b) (text_of g kit A)
told_by_entry g kit A b e is = ap (λ (r : Result Entry ℕ). followed (text_of g kit A) (committed_by r (next_form g kit A b))) is ∙ by (change_of e) refl
  where
    by : (o : Option ChangeBody) → change_of e ≡ o → text_behind (done_by (change_of e) (next_form g kit A b)) (text_of g kit A) ≡ apply (next_form g kit A b) (text_of g kit A)
    by None none = ap (λ (o : Option ChangeBody). text_behind (done_by o (next_form g kit A b)) (text_of g kit A)) none
    by (Some c) some =
        ap (λ (o : Option ChangeBody). text_behind (done_by o (next_form g kit A b)) (text_of g kit A)) some
        ∙ sym (apply-keep_marks (text_of g kit A)) ∙ ap (λ (m : List Mark). apply m (text_of g kit A)) (sym (change_form g kit A b e c is some))

abbrev Tells : Genesis → Kit → List (List ℕ) → Type 0
Tells g kit A = Good g kit A → fold followed [] (committed g kit A) ≡ text_of g kit A

tells_none : (g : Genesis) (kit : Kit) → Tells g kit []
unfolding committed forms_from
tells_none g kit good = refl

tells_more : (g : Genesis) (kit : Kit) (A : List (List ℕ)) (b : List ℕ) → Tells g kit A → Tells g kit (A ++ b ∷ [])
unfolding committed
tells_more g kit A b before good =
    let front = good_front g kit A b good in
    let (e, is, passes) = last_passes g kit A b good in
    let form = next_form g kit A b in
    let told = committed_by (entry_of b) form in
    ap (λ (fs : List (List Mark)). fold followed [] (committed_with (A ++ b ∷ []) fs)) (forms_push g kit A b good)
    ∙ ap (fold followed []) (with_more A (forms_of g kit A) b form (length-forms g kit A))
    ∙ fold-append followed [] (committed_with A (forms_of g kit A)) (told ∷ [])
    ∙ ap (λ (s : List ℕ). followed s told) (before front)
    ∙ told_by_entry g kit A b e is ∙ sym (text_push g kit A b good)

tells : (g : Genesis) (kit : Kit) (A : List (List ℕ)) → Tells g kit A
tells g kit A = from_end (Tells g kit) (tells_none g kit) (tells_more g kit) A

pub tells_text : (g : Genesis) (kit : Kit) (A : List (List ℕ)) (n : ℕ) → Good g kit A → fold followed [] (take n (committed g kit A)) ≡ text_of g kit (take n A)
unfolding committed
tells_text g kit A n good =
    ap (fold followed []) (take_with n A (forms_of g kit A) ∙ ap (committed_with (take n A)) (sym (forms_take g kit A good n)))
    ∙ tells g kit (take n A) (good_take g kit A n good)
