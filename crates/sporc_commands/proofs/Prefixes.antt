-- The text after the first entries of a history, form by form.
use Rattle.std.proofs.Common.{◌≡◌, ℕ, suc, ◌+◌, ◌-◌, List, [], ◌∷◌, ◌++◌, length, take, fold, Some, add-one, refl, sym, ap, ◌∙◌, subst, arith}
use Rattle.sporc_commands.proofs.Common.{slice_get, Genesis, Kit}
use Rattle.sporc_delta.specs.Marks.{Mark, apply, base_len}
use Rattle.sporc_suffix.proofs.Following.{Follow-at}
use Rattle.sporc_line.specs.Document.{forms_of, text_after, text_of}
use Rattle.sporc_line.specs.Good.{Good}
use Rattle.sporc_line.proofs.FormLengths.{forms_follow, forms_take, text_at}
use Rattle.sporc_line.proofs.Goods.{good_take}
use Rattle.sporc_line.proofs.Lists.{take_slice_get_more}

abbrev behind : List ℕ → List Mark → List ℕ
behind text form = apply form text

fold_more : (fs : List (List Mark)) (f : List Mark) (s : List ℕ) → fold behind s (fs ++ f ∷ []) ≡ apply f (fold behind s fs)
fold_more [] f s = refl
fold_more (h ∷ fs) f s = fold_more fs f (apply h s)

module _ (g : Genesis) (kit : Kit) (A : List (List ℕ)) (good : Good g kit A) (i : ℕ) (f : List Mark) (text : List ℕ) (is : text ≡ text_of g kit (take i A))
    (form : slice_get (forms_of g kit A) (i + 1 - 1) ≡ Some f) where
  at : slice_get (forms_of g kit A) i ≡ Some f
  at =
      let back : i + 1 - 1 ≡ i = omega arith in
      subst (λ (n : ℕ). slice_get (forms_of g kit A) n ≡ Some f) back form

  -- a form is stated on the text before it
  pub form_fits : base_len f ≡ length text
  form_fits =
      Follow-at 0 (forms_of g kit A) i f (forms_follow g kit A good) at
      ∙ sym (text_at g kit A i good (forms_follow g kit (take i A) (good_take g kit A i good))) ∙ ap length (sym is)

  -- and makes the text behind it
  pub form_applied : apply f text ≡ text_of g kit (take (i + 1) A)
  form_applied =
      ap (apply f) (is ∙ ap text_after (forms_take g kit A good i))
      ∙ sym (fold_more (take i (forms_of g kit A)) f [])
      ∙ ap text_after (sym (take_slice_get_more (forms_of g kit A) i f at))
      ∙ ap text_after (sym (forms_take g kit A good (suc i)))
      ∙ ap (λ (n : ℕ). text_of g kit (take n A)) (sym (add-one i))
