-- What an editor that types ahead has to be sent.
use Rattle.std.specs.Prelude.{ℕ, ◌+◌, ◌*◌, ◌≤◌}
use Rattle.std.specs.Prelude.{Bool, List, [], ◌∷◌, length, drop, Option}
use Rattle.sporc_base.specs.FirstFault.{unless}
use Rattle.sporc_delta.specs.declared.limits.TheConstants.{MAX_COUNT}
use Rattle.sporc_delta.specs.Marks.{Mark, base_len, inserted_len, keep_marks, out_len}
use Rattle.sporc_delta.specs.Transforms.{earlier, later}
use Rattle.sporc_screen.specs.declared.edit.Edit.{Edit}
use Rattle.sporc_screen.specs.declared.fault.ScreenFault.{ScreenFault}
use Rattle.sporc_screen.specs.declared.fault.ScreenFault.TheVariants.{Seen}
use Rattle.sporc_screen.specs.declared.limits.TheConstants.{MAX_NAMED}
use Rattle.sporc_screen.specs.declared.lines.Numbers.{Numbers}
use Rattle.sporc_screen.specs.declared.lines.Written.{Written}
use Rattle.sporc_screen.specs.Lines.{LeadTo, knows_line, last_of, place_of, with_line}
use Rattle.sporc_screen.specs.Edits.{bounds_checks, draft_with, line_with}

pub record ScreenModel : Type 0 where
  -- the edits that were done and not taken, as one delta of the client's text
  pub draft : List Mark
  -- how many of the editor's edits were done or refused
  pub own : ℕ
  -- the number of the last line
  pub last : ℕ
  -- the number of the line that the last edit was stated on
  pub base : ℕ
  -- the lines since: they lead from the editor's text, with that edit, to the text shown
  pub since : List (List Mark)

-- a screen over a client's text of so many characters
abbrev pub opened : ℕ → ScreenModel
opened len = record { draft = keep_marks len; own = 0; last = 0; base = 0; since = [] }

-- ---- the lines that an edit may name

-- whether a line of this number is the base or one of those since
abbrev pub knows : ScreenModel → ℕ → Bool
knows s seen = knows_line s.base s.last (length s.since) seen

-- the lines behind it
abbrev pub lines_behind : ScreenModel → ℕ → List (List Mark)
lines_behind s seen = drop (place_of s.base s.last (length s.since) seen) s.since

-- ---- what happens

-- an edit of the text that the editor has, which is that of the line it names with its edits since
abbrev pub edited : ScreenModel → ℕ → Edit → ScreenModel
edited s seen edit = let lines = lines_behind s seen in record {
  draft = draft_with s.draft lines edit;
  own = s.own + 1;
  last = s.last + 1;
  base = seen;
  since = line_with s.draft lines edit ∷ [];
}

-- what keeps an edit from being done
abbrev pub edit_checks : ScreenModel → ℕ → Edit → List (Option ScreenFault)
edit_checks s seen edit =
    unless (knows s seen) Seen ∷ bounds_checks s.draft (lines_behind s seen) edit

-- a delta of the client's text comes, which is ordered earlier than the draft
abbrev pub came : ScreenModel → List Mark → ScreenModel
came s form = record s {
  draft = later s.draft form;
  last = s.last + 1;
  since = with_line s.since (earlier form s.draft);
}

-- an edit is refused, and the whole text written: lines before that are known no more
abbrev pub refused : ScreenModel → ScreenModel
refused s = record s { own = s.own + 1; last = s.last + 1; base = s.last + 1; since = [] }

-- the whole text is written anew
abbrev pub renewed : ScreenModel → ScreenModel
renewed s = record s {
  last = s.last + 1;
  since = with_line s.since (keep_marks (out_len s.draft));
}

-- the client has the edits of the draft
abbrev pub taken : ScreenModel → ScreenModel
taken s = record s { draft = keep_marks (out_len s.draft) }

-- ---- what is written

-- the numbers of the last line
abbrev pub numbers_of : ScreenModel → Numbers
numbers_of s = record { line = s.last; own = s.own }

-- the last line
abbrev pub last_line : ScreenModel → Written
last_line s = record { numbers = numbers_of s; delta = last_of s.since }

-- ---- what holds at every moment

pub record ScreenInvariant (s : ScreenModel) : Type 0 where
  pub lead : LeadTo s.since (out_len s.draft)
  pub few : length s.since ≤ MAX_NAMED
  pub numbered : s.base + length s.since ≤ s.last
  pub own_limit : s.own ≤ s.last
  pub inserted_limit : inserted_len s.draft ≤ MAX_COUNT
  pub limit : base_len s.draft + inserted_len s.draft ≤ 2 * MAX_COUNT
