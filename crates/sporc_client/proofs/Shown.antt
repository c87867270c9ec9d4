-- The shown text after one more event.
use Rattle.std.proofs.Common.{◌≡◌, ℕ, zero, suc, ◌+◌, List, [], ◌∷◌, ◌++◌, length, take, drop, refl, ap, sym, ◌∙◌, subst, add-one, Some}
use Rattle.sporc_client.proofs.Common.{slice_get, take_slice_get_more, take-append-drop, Mark, apply, base_len, insert_marks, out_len, replacement, keep_marks, base_len-insert_marks}
use Rattle.sporc_client.proofs.Common.{base_len-keep_marks, Follow, later_over, reached, Follow-take, reached-append, text_after, base_len-over, length-text, fold_push}
use Rattle.sporc_suffix.proofs.Passing.{Follow-append, Follow-drop}

pub apply-keep_marks : (s : List ℕ) → apply (keep_marks (length s)) s ≡ s
apply-keep_marks [] = refl
apply-keep_marks (c ∷ s) = ap (λ t. c ∷ t) (apply-keep_marks s)

pub apply-insert_marks : (t : List ℕ) → apply (insert_marks t) [] ≡ t
apply-insert_marks [] = refl
apply-insert_marks (c ∷ t) = ap (λ u. c ∷ u) (apply-insert_marks t)

pub apply-replacement : (s t : List ℕ) → apply (replacement (length s) t) s ≡ t
apply-replacement [] t = apply-insert_marks t
apply-replacement (c ∷ s) t = apply-replacement s t

pub base_len-replacement : (n : ℕ) (t : List ℕ) → base_len (replacement n t) ≡ n
base_len-replacement zero t = base_len-insert_marks t
base_len-replacement (suc n) t = ap suc (base_len-replacement n t)

-- the forms so far lead to a text
pub record LeadTo (forms : List (List Mark)) (text : List ℕ) : Type 0 where
  pub follow : Follow 0 forms
  pub text_is : text_after forms ≡ text

pub length_shown : (forms : List (List Mark)) (text : List ℕ) → LeadTo forms text → reached 0 forms ≡ length text
length_shown forms text leads = sym (length-text forms leads.follow) ∙ ap length leads.text_is

-- one form more
pub leads_on : (forms : List (List Mark)) (form : List Mark) (text next : List ℕ) → LeadTo forms text → base_len form ≡ length text → apply form text ≡ next
    → LeadTo (forms ++ form ∷ []) next
leads_on forms form text next leads base is = record {
  follow = Follow-append 0 forms form leads.follow (base ∙ sym (length_shown forms text leads));
  text_is = fold_push (λ text form. apply form text) [] forms form ∙ ap (apply form) leads.text_is ∙ is;
}

-- one that keeps the text
pub leads_on_same : (forms : List (List Mark)) (text : List ℕ) → LeadTo forms text → LeadTo (forms ++ keep_marks (length text) ∷ []) text
leads_on_same forms text leads = leads_on forms (keep_marks (length text)) text text leads (base_len-keep_marks (length text)) (apply-keep_marks text)

-- marks stated after the first forms, restated behind the others
pub base_restated : (forms : List (List Mark)) (text : List ℕ) (seen : ℕ) (marks : List Mark) → LeadTo forms text
    → base_len marks ≡ length (text_after (take seen forms)) → base_len (later_over marks (drop seen forms)) ≡ length text
base_restated forms text seen marks leads base =
    let begin : Follow 0 (take seen forms) = Follow-take 0 seen forms leads.follow in
    let from : base_len marks ≡ reached 0 (take seen forms) = base ∙ length-text (take seen forms) begin in
    let P : ℕ → Type 0 = λ n. Follow n (drop seen forms) in
    base_len-over marks (drop seen forms) (subst P (sym from) (Follow-drop 0 seen forms leads.follow))
    ∙ ap (λ (n : ℕ). reached n (drop seen forms)) from
    ∙ sym (reached-append 0 (take seen forms) (drop seen forms))
    ∙ ap (reached 0) (take-append-drop seen forms)
    ∙ length_shown forms text leads

-- the first forms reach as far as the last of them does
pub reached_last : (forms : List (List Mark)) (m n : ℕ) (form : List Mark) → n + 1 ≡ m → slice_get forms n ≡ Some form → reached 0 (take m forms) ≡ out_len form
reached_last forms m n form next is =
    let more : take m forms ≡ take n forms ++ form ∷ [] = ap (λ (i : ℕ). take i forms) (sym next ∙ add-one n) ∙ take_slice_get_more forms n form is in
    ap (reached 0) more ∙ reached-append 0 (take n forms) (form ∷ [])

-- so the text after the first forms is as long
pub length_last : (forms : List (List Mark)) (m n : ℕ) (form : List Mark) → Follow 0 forms → n + 1 ≡ m → slice_get forms n ≡ Some form → length (text_after (take m forms)) ≡ out_len form
length_last forms m n form follow next is = length-text (take m forms) (Follow-take 0 m forms follow) ∙ reached_last forms m n form next is
