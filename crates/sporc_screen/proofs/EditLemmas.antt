-- An edit restated behind lines: what keeps it from being done, lengths, and the screen after it.
use Rattle.std.proofs.Common.{◌≡◌, ℕ, zero, suc, ◌+◌, ◌-◌, ◌≤◌, Bool, true, false, None, List, [], ◌∷◌, ◌++◌, refl, ap, sym, ◌∙◌, subst, arith}
use Rattle.std.proofs.lemmas.Bool.{leb-true}
use Rattle.sporc_base.specs.FirstFault.{first_of, unless}
use Rattle.sporc_delta.proofs.Lengths.{inserted_len-append, inserted_len-insert_marks, inserted_len-keep_marks}
use Rattle.sporc_screen.specs.declared.edit.Edit.TheVariants.{Insert, Remove}
use Rattle.sporc_screen.specs.declared.fault.ScreenFault.TheVariants.{Outside, TooLong}
use Rattle.sporc_screen.proofs.Common.{Mark, base_len, out_len, inserted_len, keep_marks, remove_marks, insert_marks, later, composes, base_len-append, base_len-keep_marks, base_len-insert_marks, base_len-remove_marks}
use Rattle.sporc_screen.proofs.Common.{base_len-later, inserted_len-later, inserted_len_le, LeadTo, len_before, MAX_COUNT, MAX_TEXT_LEN, Edit, bounds_checks, draft_with, edit_marks, is_in_bounds, leading, line_with, seen_len, typed_len, ScreenInvariant, ScreenModel}
use Rattle.sporc_screen.proofs.Following.{composed_lengths, out_len-both, out_len_le}

inserted_len-remove_marks : (n : ℕ) → inserted_len (remove_marks n) ≡ 0
inserted_len-remove_marks zero = refl
inserted_len-remove_marks (suc n) = inserted_len-remove_marks n

-- ---- the lengths of an edit

pub base_len-edit_marks : (len : ℕ) (edit : Edit) → is_in_bounds len edit ≡ true → base_len (edit_marks len edit) ≡ len
base_len-edit_marks len (Insert at text) within = omega (
  arith,
  leb-true at len within,
  base_len-append (keep_marks at ++ insert_marks text) (keep_marks (len - at)),
  base_len-append (keep_marks at) (insert_marks text),
  base_len-keep_marks at,
  base_len-insert_marks text,
  base_len-keep_marks (len - at),
)
base_len-edit_marks len (Remove at count) within = omega (
  arith,
  leb-true (at + count) len within,
  base_len-append (keep_marks at ++ remove_marks count) (keep_marks (len - (at + count))),
  base_len-append (keep_marks at) (remove_marks count),
  base_len-keep_marks at,
  base_len-remove_marks count,
  base_len-keep_marks (len - (at + count)),
)

pub inserted_len-edit_marks : (len : ℕ) (edit : Edit) → inserted_len (edit_marks len edit) ≡ typed_len edit
inserted_len-edit_marks len (Insert at text) = omega (
  arith,
  inserted_len-append (keep_marks at ++ insert_marks text) (keep_marks (len - at)),
  inserted_len-append (keep_marks at) (insert_marks text),
  inserted_len-keep_marks at,
  inserted_len-insert_marks text,
  inserted_len-keep_marks (len - at),
)
inserted_len-edit_marks len (Remove at count) = omega (
  arith,
  inserted_len-append (keep_marks at ++ remove_marks count) (keep_marks (len - (at + count))),
  inserted_len-append (keep_marks at) (remove_marks count),
  inserted_len-keep_marks at,
  inserted_len-remove_marks count,
  inserted_len-keep_marks (len - (at + count)),
)

-- ---- an edit that may be

pub record MayBe (draft : List Mark) (lines : List (List Mark)) (edit : Edit) : Type 0 where
  pub lead : LeadTo lines (out_len draft)
  pub within : is_in_bounds (seen_len draft lines) edit ≡ true
  pub limit : base_len draft + out_len draft + seen_len draft lines + typed_len edit ≤ MAX_COUNT

none_failed : (a b : Bool) → first_of (unless a Outside ∷ unless b TooLong ∷ []) ≡ None → (a ≡ true) × (b ≡ true)
none_failed true true h = (refl, refl)
none_failed true false h = absurd cc
none_failed false b h = absurd cc

pub may_be : (draft : List Mark) (lines : List (List Mark)) (edit : Edit) → LeadTo lines (out_len draft) → first_of (bounds_checks draft lines edit) ≡ None → MayBe draft lines edit
may_be draft lines edit lead none =
    let both = none_failed _ _ none in record {
      lead = lead;
      within = both.0;
      limit = leb-true _ _ both.1;
    }

-- the tests of the code
pub may_restate : (draft : List Mark) (lines : List (List Mark)) (edit : Edit) (len out : ℕ) (b : Bool) → LeadTo lines (out_len draft) → out ≡ out_len draft → len ≡ len_before lines out → b ≡ is_in_bounds len edit
    → b ≡ true → base_len draft + out + len + typed_len edit ≤ MAX_COUNT → MayBe draft lines edit
may_restate draft lines edit len out b lead out_is len_is test so small =
    let same : len ≡ seen_len draft lines = len_is ∙ ap (len_before lines) out_is in
    let P : ℕ → Type 0 = λ n. is_in_bounds n edit ≡ true in record {
      lead = lead;
      within = subst P same (sym test ∙ so);
      limit = omega (arith, small, out_is, same);
    }

-- the edit and what leads to the text after the draft are stated on one text, and the edit, restated,
-- on that text
pub record Passes (draft : List Mark) (lines : List (List Mark)) (edit : Edit) : Type 0 where
  pub first : base_len (leading draft lines) ≡ seen_len draft lines
  pub last : out_len (leading draft lines) ≡ out_len draft
  pub base : base_len (leading draft lines) ≡ base_len (edit_marks (seen_len draft lines) edit)
  pub follows : out_len draft ≡ base_len (later (edit_marks (seen_len draft lines) edit) (leading draft lines))

pub passes : (draft : List Mark) (lines : List (List Mark)) (edit : Edit) → LeadTo lines (out_len draft) → is_in_bounds (seen_len draft lines) edit ≡ true → Passes draft lines edit
passes draft lines edit lead within =
    let len = seen_len draft lines in
    let shown = leading draft lines in
    let marks = edit_marks len edit in
    let all = composed_lengths lines (out_len draft) lead in
    let base : base_len shown ≡ base_len marks = all.base_is ∙ sym (base_len-edit_marks len edit within) in record {
      first = all.base_is;
      last = all.out_is;
      base = base;
      follows = sym (base_len-later shown marks base ∙ all.out_is);
    }

pub passes_limit : (draft : List Mark) (lines : List (List Mark)) (edit : Edit) → MayBe draft lines edit
    → base_len (leading draft lines) + inserted_len (leading draft lines) + inserted_len (edit_marks (seen_len draft lines) edit) ≤ MAX_TEXT_LEN
passes_limit draft lines edit may =
    let pass = passes draft lines edit may.lead may.within in omega (arith, pass.first, pass.last, inserted_len_le (leading draft lines), inserted_len-edit_marks (seen_len draft lines) edit, may.limit)

-- ---- the screen after it

pub edited_keeps : (s : ScreenModel) (lines : List (List Mark)) (seen : ℕ) (edit : Edit) → MayBe s.draft lines edit → seen ≤ s.last → ScreenInvariant s
    → ScreenInvariant (record { draft = draft_with s.draft lines edit; own = s.own + 1; last = s.last + 1; base = seen; since = line_with s.draft lines edit ∷ [] })
edited_keeps s lines seen edit may before h =
    let shown = leading s.draft lines in
    let marks = edit_marks (seen_len s.draft lines) edit in
    let pass = passes s.draft lines edit may.lead may.within in
    let both = composes s.draft (later marks shown) pass.follows in
    let out : out_len (draft_with s.draft lines edit) ≤ out_len s.draft + typed_len edit = omega (
      arith,
      both.out,
      out_len_le (later marks shown),
      pass.follows,
      inserted_len-later shown marks,
      inserted_len-edit_marks (seen_len s.draft lines) edit,
    ) in record {
      lead = (sym (both.out ∙ out_len-both shown marks), tt);
      few = omega arith;
      numbered = omega (arith, before);
      own_limit = omega (arith, h.own_limit);
      inserted_limit = omega (arith, inserted_len_le (draft_with s.draft lines edit), out, may.limit);
      limit = omega (arith, inserted_len_le (draft_with s.draft lines edit), out, may.limit, both.base);
    }
