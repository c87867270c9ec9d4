-- Another's form and the pending items pass each other: both ways lead to one text.
use Rattle.std.proofs.Common.{◌≡◌, ℕ, suc, ◌+◌, ◌<◌, ◌≤◌, List, [], ◌∷◌, ◌++◌, length, drop, fold, get_or, refl, sym, ap, ◌∙◌, add-one, append_assoc, arith, take, set, subst, Option}
use Rattle.sporc_client.proofs.Common.{MAX_TEXT_LEN, Mark, apply, base_len, inserted_len, out_len, keep_marks, earlier, later, compose, base_len-later, base_len-earlier}
use Rattle.sporc_client.proofs.Common.{inserted_len-earlier, out_len-le, length-apply, Pending, after_pending, AreOver, AreStated, beyond, inserted_by, rebased, in_one, length-append, length-take-le}
use Rattle.sporc_client.proofs.Common.{base_len-keep_marks, drop-cons, take-suc, CanAllBecome, ItemCanBecome, all_became, item_became}
use Rattle.sporc_xform.proofs.LawLemmas.{later_merges, earlier_merges, composes}
use Rattle.sporc_client.specs.declared.pending.Pending.TheVariants.{Edit, Change}
use Rattle.sporc_xform.specs.declared.restating.Passed.{Passed}
use Rattle.sporc_xform.proofs.InTurn.{apply-compose}
use Rattle.sporc_client.proofs.Shown.{apply-keep_marks}

-- the text after pending items
abbrev pub text_shown : List ℕ → List Pending → List ℕ
text_shown text items = fold after_pending text items

-- what passing leaves
pub record Passes (form : List Mark) (text : List ℕ) (items : List Pending) : Type 0 where
  pub stated : AreStated (apply form text) (rebased form items)
  pub base : base_len (beyond form items) ≡ length (text_shown text items)
  pub same : text_shown (apply form text) (rebased form items) ≡ apply (beyond form items) (text_shown text items)

-- both orders, for one edit
both_orders : (form marks : List Mark) (text : List ℕ) → base_len form ≡ length text → base_len marks ≡ length text
    → apply (later marks form) (apply form text) ≡ apply (earlier form marks) (apply marks text)
both_orders form marks text one two = later_merges form marks text one two ∙ sym (earlier_merges form marks text one two)

pub passes : (form : List Mark) (text : List ℕ) (items : List Pending) → base_len form ≡ length text → AreStated text items → Passes form text items
passes form text [] base stated = record { stated = tt; base = base; same = refl }
passes form text (Change change ∷ items) base stated =
    let rest = passes form text items base stated in
    record { stated = rest.stated; base = rest.base; same = rest.same }
passes form text (Edit marks ∷ items) base stated =
    let one = both_orders form marks text base stated.0 in
    let base' : base_len (earlier form marks) ≡ length (apply marks text) =
    base_len-earlier form marks (base ∙ sym stated.0) ∙ sym (length-apply marks text stated.0) in
    let rest = passes (earlier form marks) (apply marks text) items base' stated.1 in
    record {
      stated = (base_len-later form marks (base ∙ sym stated.0) ∙ sym (length-apply form text base), rw one rest.stated);
      base = rest.base;
      same = ap (λ t. text_shown t (rebased (earlier form marks) items)) one ∙ rest.same;
    }

-- ---- lengths

-- a form can pass these items
pub record Fits (form : List Mark) (items : List Pending) : Type 0 where
  pub over : AreOver (base_len form) items
  pub limit : base_len form + inserted_len form + inserted_by items ≤ MAX_TEXT_LEN

-- what passing the first of some items leaves
pub record FirstPassed (form : List Mark) (item : Pending) (items : List Pending) : Type 0 where
  pub rebased_is : rebased form (item ∷ items) ≡ rebased form (item ∷ []) ++ rebased (beyond form (item ∷ [])) items
  pub beyond_is : beyond form (item ∷ items) ≡ beyond (beyond form (item ∷ [])) items
  pub rest : Fits (beyond form (item ∷ [])) items

pub first_passed : (form : List Mark) (item : Pending) (items : List Pending) → Fits form (item ∷ items) → FirstPassed form item items
first_passed form (Change change) items fits = record {
  rebased_is = refl;
  beyond_is = refl;
  rest = record { over = fits.over; limit = fits.limit };
}
first_passed form (Edit marks) items fits =
    let same = fits.over.0 in
    let base = base_len-earlier form marks (sym same) in
    record {
      rebased_is = refl;
      beyond_is = refl;
      rest = record {
        over = rw base fits.over.1;
        limit = omega (arith, base, same, fits.limit, out_len-le marks, inserted_len-earlier form marks);
      };
    }

-- the item at a place, and those behind it
pub item_at : (items : List Pending) (i : ℕ) (item : Pending) → i < length items → item ≡ get_or items i item → drop i items ≡ item ∷ drop (i + 1) items
item_at items i item within is = rw add-one (drop-cons items i item within ∙ ap (λ one. one ∷ drop (suc i) items) (sym is))

-- one item more has passed
pub items_more : (form next : List Mark) (item one : Pending) (left rest done new all : List Pending) → left ≡ item ∷ rest
    → one ∷ [] ≡ rebased form (item ∷ []) → next ≡ beyond form (item ∷ []) → new ≡ done ++ one ∷ []
    → rebased form (item ∷ rest) ≡ rebased form (item ∷ []) ++ rebased (beyond form (item ∷ [])) rest
    → done ++ rebased form left ≡ all → new ++ rebased next rest ≡ all
items_more form next item one left rest done new all here is after pushed first so_far =
    rw (pushed, after, append_assoc done (one ∷ []) (rebased (beyond form (item ∷ [])) rest))
    (ap (λ (l : List Pending). done ++ (l ++ rebased (beyond form (item ∷ [])) rest)) is ∙ ap (λ (l : List Pending). done ++ l) (sym first) ∙ ap (λ (l : List Pending). done ++ rebased form l) (sym here) ∙ so_far)

-- ---- pending items that become, one by one, what is said of them

-- one item more, from the front
pub all_became-more : (ps : List (Option Passed)) (items : List Pending) (p : Option Passed) (item : Pending) → length ps ≡ length items
    → all_became (ps ++ p ∷ []) (items ++ item ∷ []) ≡ all_became ps items ++ item_became p item ∷ []
all_became-more [] [] p item same = refl
all_became-more (q ∷ ps) (i ∷ items) p item same = ap (λ (is : List Pending). item_became q i ∷ is) (all_became-more ps items p item (omega arith))
all_became-more ps items p item same = absurd (omega arith)

pub CanAllBecome-more : (ps : List (Option Passed)) (items : List Pending) (p : Option Passed) (item : Pending) → length ps ≡ length items
    → CanAllBecome ps items → ItemCanBecome p item → CanAllBecome (ps ++ p ∷ []) (items ++ item ∷ [])
CanAllBecome-more [] [] p item same all one = (one, tt)
CanAllBecome-more (q ∷ ps) (i ∷ items) p item same all one = (all.0, CanAllBecome-more ps items p item (omega arith) all.1 one)
CanAllBecome-more ps items p item same all one = absurd (omega arith)

-- one item less, from the end
pub last_within : (left ps : List (Option Passed)) (p : Option Passed) (items : List Pending) → left ≡ ps ++ p ∷ [] → CanAllBecome left items → length ps < length items
last_within left ps p items is all = let P : List (Option Passed) → Type 0 = λ l. CanAllBecome l items in by_front ps items (subst P is all)
  where
    by_front : (ps : List (Option Passed)) (items : List Pending) → CanAllBecome (ps ++ p ∷ []) items → length ps < length items
    by_front [] [] all = absurd all
    by_front [] (i ∷ items) all = omega arith
    by_front (q ∷ ps) [] all = absurd all
    by_front (q ∷ ps) (i ∷ items) all = omega (arith, by_front ps items all.1)

-- the item at this place becomes what is said of it
record LastBecomes (ps : List (Option Passed)) (p : Option Passed) (items : List Pending) (item new : Pending) : Type 0 where
  pub fits : ItemCanBecome p (get_or items (length ps) item)
  pub rest_fits : CanAllBecome ps (set items (length ps) new)
  pub same : new ≡ item_became p (get_or items (length ps) item) → all_became ps (set items (length ps) new) ≡ all_became (ps ++ p ∷ []) items

last_becomes : (ps : List (Option Passed)) (p : Option Passed) (items : List Pending) (item new : Pending) → CanAllBecome (ps ++ p ∷ []) items → LastBecomes ps p items item new
last_becomes [] p (i ∷ items) item new all = record { fits = all.0; rest_fits = tt; same = λ is. ap (λ (j : Pending). j ∷ items) is }
last_becomes (q ∷ ps) p (i ∷ items) item new all =
    let rest = last_becomes ps p items item new all.1 in
    record {
      fits = rest.fits;
      rest_fits = (all.0, rest.rest_fits);
      same = λ is. ap (λ (is : List Pending). item_became q i ∷ is) (rest.same is);
    }
last_becomes ps p items item new all = absurd all

pub record LastPut (left ps : List (Option Passed)) (p : Option Passed) (items : List Pending) (place : ℕ) (item new : Pending) : Type 0 where
  pub fits : ItemCanBecome p item
  pub rest_fits : CanAllBecome ps (set items place new)
  pub same : new ≡ item_became p item → all_became ps (set items place new) ≡ all_became left items

pub last_put : (left ps : List (Option Passed)) (p : Option Passed) (items : List Pending) (place : ℕ) (item new : Pending) → left ≡ ps ++ p ∷ [] → place ≡ length ps → item ≡ get_or items place item
    → CanAllBecome left items → LastPut left ps p items place item new
last_put left ps p items place item new is at here all =
    let P : List (Option Passed) → Type 0 = λ l. CanAllBecome l items in
    let F : Pending → Type 0 = λ i. ItemCanBecome p i in
    let R : ℕ → Type 0 = λ n. CanAllBecome ps (set items n new) in
    let last = last_becomes ps p items item new (subst P is all) in
    let there : get_or items (length ps) item ≡ item = ap (λ (n : ℕ). get_or items n item) (sym at) ∙ sym here in
    record {
      fits = subst F there last.fits;
      rest_fits = subst R (sym at) last.rest_fits;
      same = λ e.
          ap (λ (n : ℕ). all_became ps (set items n new)) at ∙ last.same (e ∙ ap (item_became p) (sym there)) ∙ ap (λ (l : List (Option Passed)). all_became l items) (sym is);
    }

-- a form that has passed the first i items
pub record PassedSome (form : List Mark) (all : List Pending) (after : List Mark) (ps : List (Option Passed)) (i : ℕ) : Type 0 where
  pub count : length ps ≡ i
  pub items : all_became ps (take i all) ++ rebased after (drop i all) ≡ rebased form all
  pub can : CanAllBecome ps (take i all)
  pub form_is : beyond after (drop i all) ≡ beyond form all
  pub fits : Fits after (drop i all)

pub passed_one : (form : List Mark) (all : List Pending) (after next : List Mark) (ps new : List (Option Passed)) (p : Option Passed) (i : ℕ) (item : Pending) → i < length all → item ≡ get_or all i item
    → new ≡ ps ++ p ∷ [] → item_became p item ∷ [] ≡ rebased after (item ∷ []) → ItemCanBecome p item → next ≡ beyond after (item ∷ []) → PassedSome form all after ps i → PassedSome form all next new (i + 1)
passed_one form all after next ps new p i item within is pushed one can_one form_one so_far =
    let here = item_at all i item within is in
    let P : List Pending → Type 0 = λ items. Fits after items in
    let first = first_passed after item (drop (i + 1) all) (subst P here so_far.fits) in
    let taken : take (i + 1) all ≡ take i all ++ item ∷ [] = rw add-one (take-suc all i item within ∙ ap (λ (x : Pending). take i all ++ x ∷ []) (sym is)) in
    let same : length ps ≡ length (take i all) = so_far.count ∙ sym (length-take-le i all (omega arith)) in
    let done : all_became new (take (i + 1) all) ≡ all_became ps (take i all) ++ item_became p item ∷ [] = rw (pushed, taken) (all_became-more ps (take i all) p item same) in
    record {
      count = omega (arith, so_far.count, ap length pushed, length-append ps (p ∷ []));
      items = items_more after next item (item_became p item) (drop i all) (drop (i + 1) all) (all_became ps (take i all)) (all_became new (take (i + 1) all)) (rebased form all) here one form_one done first.rebased_is so_far.items;
      can = rw (pushed, taken) (CanAllBecome-more ps (take i all) p item same so_far.can can_one);
      form_is = ap (λ f. beyond f (drop (i + 1) all)) form_one ∙ sym first.beyond_is ∙ ap (beyond after) (sym here) ∙ so_far.form_is;
      fits = rw form_one first.rest;
    }

-- ---- pending edits one after the other

-- the first of some items is stated on a text, and the others on that after it
pub record FirstStated (text : List ℕ) (item : Pending) (others : List Pending) : Type 0 where
  pub first : AreStated text (item ∷ [])
  pub rest : AreStated (after_pending text item) others

pub first_stated : (text : List ℕ) (item : Pending) (rest : List Pending) → AreStated text (item ∷ rest) → FirstStated text item rest
first_stated text (Change change) rest stated = record { first = tt; rest = stated }
first_stated text (Edit marks) rest stated = record { first = (stated.0, tt); rest = stated.1 }

-- ---- pending edits in one

pub record InOne (start : List Mark) (text : List ℕ) (pending : List Pending) : Type 0 where
  pub base : base_len (in_one start pending) ≡ length text
  pub text_is : apply (in_one start pending) text ≡ fold after_pending (apply start text) pending

pub all_in_one : (start : List Mark) (text : List ℕ) (pending : List Pending) → base_len start ≡ length text → AreStated (apply start text) pending → InOne start text pending
all_in_one start text [] base stated = record { base = base; text_is = refl }
all_in_one start text (Change change ∷ ps) base stated =
    let rest = all_in_one start text ps base stated in
    record { base = rest.base; text_is = rest.text_is }
all_in_one start text (Edit marks ∷ ps) base stated =
    let between : out_len start ≡ base_len marks = sym (length-apply start text base) ∙ sym stated.0 in
    let next : apply (compose start marks) text ≡ apply marks (apply start text) = apply-compose start marks text base between in
    let P : List ℕ → Type 0 = λ t. AreStated t ps in
    let rest = all_in_one (compose start marks) text ps ((composes start marks between).base ∙ base) (subst P (sym next) stated.1) in
    record { base = rest.base; text_is = rest.text_is ∙ ap (λ (t : List ℕ). fold after_pending t ps) next }

-- all pending edits in one lead from a text to that with each of them applied
pub pending_in_one : (text : List ℕ) (pending : List Pending) → AreStated text pending → InOne (keep_marks (length text)) text pending × (apply (in_one (keep_marks (length text)) pending) text ≡ fold after_pending text pending)
pending_in_one text pending stated =
    let P : List ℕ → Type 0 = λ t. AreStated t pending in
    let all = all_in_one (keep_marks (length text)) text pending (base_len-keep_marks (length text)) (subst P (sym (apply-keep_marks text)) stated) in
    (all, all.text_is ∙ ap (λ (t : List ℕ). fold after_pending t pending) (apply-keep_marks text))
