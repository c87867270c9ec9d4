-- What holds of a line's fields.
use Rattle.std.proofs.Common.{◌≡◌, ℕ, zero, suc, ◌+◌, ◌^◌, ◌<◌, ◌≤◌, List, [], ◌∷◌, ◌++◌, length, take, drop, ◌-◌, refl, ap, sym, ◌∙◌, subst, arith, Option, None, Some, length-append}
use Rattle.sporc_line.proofs.Common.{is_some, slice_get, get, Mark, base_len, inserted_len, apply, reached, Follow, all_inserted, Genesis, MAX_EDIT_BODY, Kit, epoch_key, forms_of, next_form, text_of}
use Rattle.sporc_line.proofs.Common.{LineModel, LineInvariant, first_fault, Good, Meets, commitment_of, Follow-at, all_inserted-append, all_inserted-drop, CheckedModel, MAX_COMMITTED_LEN, prepared_of}
use Rattle.sporc_line.proofs.Common.{Effect, PreparedModel, IsEffect, IsPrepared}
use Rattle.sporc_delta.specs.declared.limits.TheConstants.{MAX_TEXT_LEN}
use Rattle.sporc_suffix.specs.Runs.{IsReadyAt, ReadyModel}
use Rattle.sporc_text.specs.ReadyTextModel.{rewritten}
use Rattle.sporc_line.specs.Keys.{key_after}
use Rattle.sporc_line.specs.Document.{forms_from}
use Rattle.sporc_line.specs.declared.line.Line.TheInside as line
use Rattle.sporc_line.specs.declared.prepared.Prepared.TheInside as prepared
use Rattle.sporc_line.specs.LineFields.{model_of, invariant_of}
use Rattle.sporc_line.proofs.Goods.{good_none, good_take, good_push}
use Rattle.sporc_line.proofs.MoreForms.{forms_push, text_push}
use Rattle.sporc_line.proofs.FormLengths.{length-text, reached-le, length-forms, forms_take, text_at, forms_follow, edit_follows, next_form_base}
use Rattle.sporc_line.proofs.Passes.{passed}
use Rattle.sporc_line.proofs.NextEntry.{keyed_push}

-- ---- the empty line

opening : (g : Genesis) (kit : Kit) (key : List ℕ) → get kit.ring 0 ≡ Some key → commitment_of g.document 0 key ≡ g.commitment → Meets g 0 (epoch_key g kit [] 0) g.commitment
unfolding key_after
opening g kit key holds meets = subst (λ k. Meets g 0 k g.commitment) (sym holds) meets

line_empty : (g : Genesis) (kit : Kit) (key : List ℕ) → get kit.ring 0 ≡ Some key → commitment_of g.document 0 key ≡ g.commitment → LineInvariant g kit [] (Some key) 0 [] []
unfolding key_after forms_from
line_empty g kit key holds meets = record {
  good = good_none g kit (opening g kit key holds meets);
  room = omega arith;
  key_is = sym holds;
  keyed = refl;
  base_is = refl;
  forms_are = refl;
  text_is = refl;
  few = omega arith;
}

pub line_opens : (genesis g : Genesis) (kit : Kit) (A : List (List ℕ)) (key : List ℕ) (base : ℕ) (forms : List (List Mark)) (text : List ℕ) → get kit.ring 0 ≡ Some key → commitment_of g.document 0 key ≡ g.commitment
    → genesis ≡ g → A ≡ [] → base ≡ 0 → forms ≡ [] → text ≡ [] → LineInvariant genesis kit A (Some key) base forms text
line_opens genesis g kit A key base forms text holds meets is a b f t =
    rw (is, a, b, f, t) (line_empty g kit key holds meets)

-- the key of epoch 0 of a member whose history is good
pub opens_with : (g : Genesis) (kit : Kit) (A : List (List ℕ)) (k : Option (List ℕ)) → Good g kit A → k ≡ get kit.ring 0 → Meets g 0 k g.commitment
unfolding key_after
opens_with g kit A k good is = subst (λ k. Meets g 0 k g.commitment) (sym is) good.opens

-- ---- lengths

all_inserted-take : (forms : List (List Mark)) (i : ℕ) → all_inserted (take i forms) ≤ all_inserted forms
all_inserted-take (f ∷ fs) (suc i) = omega (arith, all_inserted-take fs i)
all_inserted-take forms zero = omega arith
all_inserted-take [] (suc i) = omega arith

module _ {g : Genesis} {kit : Kit} {A : List (List ℕ)} {key : Option (List ℕ)} {base : ℕ} {forms : List (List Mark)} {text : List ℕ} (k : LineInvariant g kit A key base forms text) where
  -- each entry has its form
  pub form_place : (i : ℕ) → i < length A → i < length forms
  form_place i h = omega (arith, h, ap length k.forms_are, length-forms g kit A)

  follow_at : (i : ℕ) → Follow 0 (forms_of g kit (take i A))
  follow_at i = forms_follow g kit (take i A) (good_take g kit A i k.good)

  -- a form is stated on the text after the entries before it
  pub before_form : (i : ℕ) (f : List Mark) → slice_get forms i ≡ Some f → base_len f ≡ length (text_of g kit (take i A))
  before_form i f at =
      Follow-at 0 (forms_of g kit A) i f (forms_follow g kit A k.good) (ap (λ (fs : List (List Mark)). slice_get fs i) (sym k.forms_are) ∙ at)
      ∙ sym (text_at g kit A i k.good (follow_at i))

  -- texts are short
  pub before_small : (i : ℕ) → length (text_of g kit (take i A)) ≤ MAX_COMMITTED_LEN
  before_small i =
      let r = reached-le 0 (forms_of g kit (take i A)) (follow_at i) in
      let l = length-text (forms_of g kit (take i A)) (follow_at i) in
      let t = ap all_inserted (forms_take g kit A k.good i) in
      let m = all_inserted-take (forms_of g kit A) i in
      let f = ap all_inserted k.forms_are in
      omega (arith, l, r, t, m, f, k.few, k.room)

  pub text_small : length text ≤ MAX_COMMITTED_LEN
  text_small =
      let l = length-text (forms_of g kit A) (forms_follow g kit A k.good) in
      let r = reached-le 0 (forms_of g kit A) (forms_follow g kit A k.good) in
      let t = ap length k.text_is in
      let f = ap all_inserted k.forms_are in
      omega (arith, l, r, t, f, k.few, k.room)

-- ---- what calls on the fields require

-- marks over the text after n entries can pass the forms after these
pub record CanPass (m : List Mark) (n base : ℕ) (forms : List (List Mark)) : Type 0 where
  pub within : n ≤ length forms
  pub base_is : base_len m ≡ reached base (take n forms)
  pub limit : base_len m + inserted_len m + all_inserted (drop n forms) ≤ MAX_TEXT_LEN

-- a form over the last text can be put
pub record CanPut (f : List Mark) (base : ℕ) (forms : List (List Mark)) (text : List ℕ) : Type 0 where
  pub over_text : base_len f ≡ length text
  pub over_forms : base_len f ≡ reached base forms
  pub few : length forms < 2 ^ 32 - 1

module _ {g : Genesis} {kit : Kit} {A : List (List ℕ)} {key : Option (List ℕ)} {base : ℕ} {forms : List (List Mark)} {text : List ℕ} (k : LineInvariant g kit A key base forms text) where
  pub can_pass : (m : List Mark) (n : ℕ) → n ≤ length A → base_len m ≡ length (text_of g kit (take n A)) → inserted_len m ≤ MAX_EDIT_BODY → CanPass m n base forms
  can_pass m n within over small =
      let f = edit_follows g kit A n m k.good (forms_follow g kit A k.good) over in
      record {
        within = omega (arith, within, ap length k.forms_are, length-forms g kit A);
        base_is = f.0 ∙ ap (λ (fs : List (List Mark)). reached 0 (take n fs)) (sym k.forms_are) ∙ ap (λ (b : ℕ). reached b (take n forms)) (sym k.base_is);
        limit = omega (arith, over, before_small k n, small, all_inserted-drop forms n, k.few, k.room);
      }

  -- the text after n entries is as long as the forms of these lead to
  pub text_before : (n : ℕ) → length (text_of g kit (take n A)) ≡ reached base (take n forms)
  text_before n = text_at g kit A n k.good (follow_at k n) ∙ ap (λ (fs : List (List Mark)). reached 0 (take n fs)) (sym k.forms_are) ∙ ap (λ (b : ℕ). reached b (take n forms)) (sym k.base_is)

  next_over : (b : List ℕ) (f : List Mark) → first_fault g kit A (length A + 1) b ≡ None → f ≡ next_form g kit A b → CanPut f base forms text
  next_over b f none is =
      let p = passed g kit A (length A + 1) b none in
      let over = ap base_len is ∙ next_form_base g kit A b (length A + 1) p.0 k.good (forms_follow g kit A k.good) p.1 p.2 in
      record {
        over_text = over ∙ sym (ap length k.text_is ∙ length-text (forms_of g kit A) (forms_follow g kit A k.good));
        over_forms = over ∙ ap (reached 0) (sym k.forms_are) ∙ ap (λ (b : ℕ). reached b forms) (sym k.base_is);
        few = omega (arith, ap length k.forms_are, length-forms g kit A, k.room);
      }

  pub effect_fits : (c : CheckedModel) (effect : Effect) → first_fault g kit A (length A + 1) c.bytes ≡ None → IsEffect g kit A c effect → CanPut effect.form base forms text
  effect_fits c effect none q = next_over c.bytes effect.form none q.form_is

  -- what was made ready at the forms was made ready at the fields
  pub ready_here : (r : ReadyModel) → IsReadyAt 0 (forms_of g kit A) r → IsReadyAt base forms r
  ready_here r h =
      subst (λ (b : ℕ). IsReadyAt b forms r) (sym k.base_is) (subst (λ (fs : List (List Mark)). IsReadyAt 0 fs r) (sym k.forms_are) h)

  pub prepared_fits : (p : PreparedModel) → IsPrepared g kit A p → CanPut p.form base forms text
  prepared_fits p q = next_over p.checked.bytes p.form q.passed q.form_is

-- ---- one entry more

pub line_push : (g : Genesis) (kit : Kit) (A : List (List ℕ)) (key : Option (List ℕ)) (base : ℕ) (forms : List (List Mark)) (text : List ℕ) (p : PreparedModel) → LineInvariant g kit A key base forms text → IsPrepared g kit A p
    → LineInvariant g kit (A ++ p.checked.bytes ∷ []) p.key base (forms ++ p.form ∷ []) (rewritten p.text text)
line_push g kit A key base forms text p k q =
    let good = good_push g kit A p.checked.bytes k.good q.passed in
    record {
      good = good;
      room = omega (arith, (passed g kit A (length A + 1) p.checked.bytes q.passed).2.room, length-append A (p.checked.bytes ∷ []));
      key_is = q.key_is;
      keyed = ap is_some q.key_is ∙ keyed_push g kit A p.checked.bytes (length A + 1) (ap is_some (sym k.key_is) ∙ k.keyed) q.passed;
      base_is = k.base_is;
      forms_are = ap (λ (fs : List (List Mark)). fs ++ p.form ∷ []) k.forms_are ∙ ap (λ (f : List Mark). forms_of g kit A ++ f ∷ []) q.form_is ∙ sym (forms_push g kit A p.checked.bytes good);
      text_is = ap (rewritten p.text) k.text_is ∙ q.text_is ∙ ap (λ (f : List Mark). apply f (text_of g kit A)) q.form_is ∙ sym (text_push g kit A p.checked.bytes good);
      few = omega (arith, all_inserted-append forms (p.form ∷ []), k.few, q.small, length-append A (p.checked.bytes ∷ []));
    }

-- a line with one entry more, over what the fields became
pub line_pushed : (g g' : Genesis) (kit : Kit) (A A' : List (List ℕ)) (key key' : Option (List ℕ)) (base base' : ℕ) (forms forms' : List (List Mark)) (text text' : List ℕ) (p : PreparedModel)
    → LineInvariant g kit A key base forms text → IsPrepared g kit A p → g' ≡ g → A' ≡ A ++ p.checked.bytes ∷ [] → key' ≡ p.key → base' ≡ base → forms' ≡ forms ++ p.form ∷ [] → text' ≡ rewritten p.text text
    → LineInvariant g' kit A' key' base' forms' text'
line_pushed g g' kit A A' key key' base base' forms forms' text text' p k q is a e b f t =
    rw (is, a, e, b, f, t) (line_push g kit A key base forms text p k q)

-- ---- facts of a model are facts of the fields

pub prepared_here : (i : line.Inside) (j : prepared.Inside) (m : LineModel) (p : PreparedModel) → model_of i ≡ m → prepared_of j ≡ p → IsPrepared m.genesis m.kit m.entries p
    → IsPrepared i.heads.genesis i.kit i.heads.entries (prepared_of j)
prepared_here i j m p is here q =
    subst (λ (m : LineModel). IsPrepared m.genesis m.kit m.entries (prepared_of j)) (sym is) (subst (λ (p : PreparedModel). IsPrepared m.genesis m.kit m.entries p) (sym here) q)

pub effect_here : (i : line.Inside) (m : LineModel) (c : CheckedModel) (effect : Effect) → model_of i ≡ m → invariant_of i → first_fault m.genesis m.kit m.entries (length m.entries + 1) c.bytes ≡ None → IsEffect m.genesis m.kit m.entries c effect
    → CanPut effect.form i.forms.base i.forms.forms i.text
effect_here i m c effect is k none q =
    effect_fits k c effect (subst (λ (m : LineModel). first_fault m.genesis m.kit m.entries (length m.entries + 1) c.bytes ≡ None) (sym is) none)
    (subst (λ (m : LineModel). IsEffect m.genesis m.kit m.entries c effect) (sym is) q)
