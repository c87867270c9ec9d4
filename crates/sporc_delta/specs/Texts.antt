-- Texts in UTF-8 that count their characters.
use Rattle.std.specs.Prelude.{◌≡◌, ℕ, List, true, length}
use Rattle.std.specs.Str.{chars, is_utf8}

-- what holds of a text at every moment: its bytes are the UTF-8 of so many characters
pub record TextInvariant (bytes : List ℕ) (count : ℕ) : Type 0 where
  pub utf8 : is_utf8 bytes ≡ true
  pub count_is : count ≡ length (chars bytes)
