-- Lines of bytes, each of which ends at an LF or at the end.
use Rattle.std.specs.Prelude.{◌≡◌, ℕ, ◌+◌, ◌^◌, ◌<◌, ◌≤◌, ◌==◌, not, Bool, List, []}
use Rattle.std.specs.Prelude.{◌∷◌, length, take, drop, Option, None, Some}
use Rattle.std.specs.List.{prefix_len}
use Rattle.std.specs.Io.KnownBytes.{prepend_known}
use Rattle.sporc_outside.specs.Told.{IfBoth}

abbrev pub is_no_lf : ℕ → Bool
is_no_lf b = not (b == 10)

-- how many bytes stand before the first LF, or how many there are
abbrev pub line_len : List ℕ → ℕ
line_len bytes = prefix_len is_no_lf bytes

-- the bytes before the first LF, or all
abbrev pub first_line : List ℕ → List ℕ
first_line bytes = take (line_len bytes) bytes

-- the bytes after the first LF, if there is one
abbrev pub after_line : List ℕ → List ℕ
after_line bytes = drop (line_len bytes + 1) bytes

-- the first line of bytes, if there are any
abbrev pub line_of : List ℕ → Option (List ℕ)
line_of [] = None
line_of (b ∷ bs) = Some (first_line (b ∷ bs))

-- there is an LF
abbrev pub HasLine : List ℕ → Type 0
HasLine bytes = line_len bytes < length bytes

-- the first line was taken off told bytes, or there were none
abbrev pub TakesLine : Option (List ℕ) → Option (List ℕ) → Option (List ℕ) → Type 0
TakesLine old new line =
    IfBoth old new (λ before after. (line ≡ line_of before) × (after ≡ after_line before))

-- what contracts see of a reader of lines: the bytes that it took off its source and did not hand
-- out, and how many a line has at most
pub record LinesModel : Type 0 where
  pub held : List ℕ
  pub limit : ℕ

-- the bytes that come next, where the source tells those that it has left
abbrev pub unread_of : LinesModel → Option (List ℕ) → Option (List ℕ)
unread_of lines left = prepend_known lines.held left

-- the bytes from a place on are held, and as many as were seen are no LF
pub record LinesInvariant (bytes : List ℕ) (at seen limit : ℕ) : Type 0 where
  pub in_bounds : at ≤ length bytes
  pub known : seen ≤ line_len (drop at bytes)
  pub fits : limit < 2 ^ 62
