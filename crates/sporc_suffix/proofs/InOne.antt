-- Forms that follow one another, in one.
use Rattle.std.proofs.Common.{◌≡◌, ◌≤◌, ◌<◌, ℕ, zero, suc, List, [], ◌∷◌, ◌++◌, get_or, length, take, arith, refl, ap, sym, subst, ◌∙◌}
use Rattle.std.specs.Prelude.{fold}
use Rattle.std.proofs.lemmas.List.Sums.{fold-append}
use Rattle.sporc_suffix.proofs.Common.{map-append, Mark, base_len, out_len, compose, composed, keep_marks, Follow, reached, ReadyModel, forms_in}
use Rattle.sporc_delta.proofs.Lengths.{base_len-keep_marks, out_len-keep_marks}
use Rattle.sporc_xform.proofs.Associative.{compose-assoc, compose-keep_before, compose-keep_after}
use Rattle.sporc_xform.proofs.LawLemmas.{composes}

-- ---- the lengths

pub record InOne (p : List Mark) (fs : List (List Mark)) : Type 0 where
  pub base : base_len (fold compose p fs) ≡ base_len p
  pub out : out_len (fold compose p fs) ≡ reached (out_len p) fs

in_one : (p : List Mark) (fs : List (List Mark)) → Follow (out_len p) fs → InOne p fs
in_one p [] h = record { base = refl; out = refl }
in_one p (f ∷ fs) h =
    let both = composes p f (sym h.0) in
    let rest = in_one (compose p f) fs (subst (λ (n : ℕ). Follow n fs) (sym both.out) h.1) in
    record { base = rest.base ∙ both.base; out = rest.out ∙ ap (λ (n : ℕ). reached n fs) both.out }

kept : (len : ℕ) (fs : List (List Mark)) → Follow len fs → InOne (keep_marks len) fs
kept len fs h = in_one (keep_marks len) fs (subst (λ (n : ℕ). Follow n fs) (sym (out_len-keep_marks len)) h)

pub base_len-composed : (len : ℕ) (fs : List (List Mark)) → Follow len fs → base_len (composed len fs) ≡ len
base_len-composed len fs h = (kept len fs h).base ∙ base_len-keep_marks len

pub out_len-composed : (len : ℕ) (fs : List (List Mark)) → Follow len fs → out_len (composed len fs) ≡ reached len fs
out_len-composed len fs h = (kept len fs h).out ∙ ap (λ (n : ℕ). reached n fs) (out_len-keep_marks len)

-- ---- one form

-- the text before it is as long as its base
composed-one : (len : ℕ) (f : List Mark) → base_len f ≡ len → composed len (f ∷ []) ≡ f
composed-one len f h = ap (λ (n : ℕ). compose (keep_marks n) f) (sym h) ∙ compose-keep_before f

pub one_ready : (len : ℕ) (items : List ReadyModel) (item : ReadyModel) → 1 ≤ length items → length items < 2 → item ≡ get_or items 0 item → Follow len (forms_in items) → item.form ≡ composed len (forms_in items)
one_ready len [] item some few is h = absurd (omega arith)
one_ready len (x ∷ []) item some few is h = ap (λ (r : ReadyModel). r.form) is ∙ sym (composed-one len x.form h.0)
one_ready len (x ∷ y ∷ ys) item some few is h = absurd (omega arith)

-- ---- two lists of forms

fold-composed : (p : List Mark) (fs : List (List Mark)) → Follow (out_len p) fs → fold compose p fs ≡ compose p (composed (out_len p) fs)
fold-composed p [] h = sym (compose-keep_after p)
fold-composed p (f ∷ fs) h =
    let out = (composes p f (sym h.0)).out in
    let whole : composed (out_len p) (f ∷ fs) ≡ compose f (composed (out_len f) fs) = ap (λ (g : List Mark). fold compose g fs) (composed-one (out_len p) f h.0) ∙ fold-composed f fs h.1 in
    fold-composed (compose p f) fs (subst (λ (n : ℕ). Follow n fs) (sym out) h.1)
    ∙ ap (λ (n : ℕ). compose (compose p f) (composed n fs)) out ∙ compose-assoc p f (composed (out_len f) fs) (sym h.0) (sym (base_len-composed (out_len f) fs h.1)) ∙ ap (compose p) (sym whole)

Follow-both : (base : ℕ) (fs gs : List (List Mark)) → Follow base (fs ++ gs) → Follow base fs × Follow (reached base fs) gs
Follow-both base [] gs h = (tt, h)
Follow-both base (f ∷ fs) gs h = let rest = Follow-both (out_len f) fs gs h.1 in ((h.0, rest.0), rest.1)

-- what the first and the last of some forms have in one
pub record Halves (len : ℕ) (items front back : List ReadyModel) : Type 0 where
  pub front_follow : Follow len (forms_in front)
  pub back_follow : Follow (out_len (composed len (forms_in front))) (forms_in back)
  pub joined : out_len (composed len (forms_in front)) ≡ base_len (composed (out_len (composed len (forms_in front))) (forms_in back))
  pub whole : compose (composed len (forms_in front)) (composed (out_len (composed len (forms_in front))) (forms_in back)) ≡ composed len (forms_in items)

pub halves : (len : ℕ) (items front back : List ReadyModel) → items ≡ front ++ back → Follow len (forms_in items) → Halves len items front back
halves len items front back cut h =
    let F = forms_in front in
    let B = forms_in back in
    let split : forms_in items ≡ forms_in front ++ forms_in back = ap forms_in cut ∙ map-append (λ (item : ReadyModel). item.form) front back in
    let both = Follow-both len (forms_in front) (forms_in back) (subst (Follow len) split h) in
    let after : Follow (out_len (composed len (forms_in front))) (forms_in back) = subst (λ (m : ℕ). Follow m B) (sym (out_len-composed len F both.0)) both.1 in
    record {
      front_follow = both.0;
      back_follow = after;
      joined = sym (base_len-composed (out_len (composed len F)) B after);
      whole = sym (fold-composed (composed len F) B after) ∙ sym (fold-append compose (keep_marks len) F B) ∙ ap (composed len) (sym split);
    }

-- ---- up to a place

-- the form before a place leads to the text there
pub reached_behind : (base n : ℕ) (items : List ReadyModel) (item : ReadyModel) → n < length items → item ≡ get_or items n item → out_len item.form ≡ reached base (take (suc n) (forms_in items))
reached_behind base n [] item within is = absurd (omega arith)
reached_behind base zero (x ∷ xs) item within is = ap (λ (r : ReadyModel). out_len r.form) is
reached_behind base (suc n) (x ∷ xs) item within is = reached_behind (out_len x.form) n xs item (omega arith) is
