-- The text that a word is in quotes.
use Rattle.std.specs.Prelude.{ℕ, ◌-◌, ◌&&◌, Bool, false, if◌then◌else◌, List, length, take, drop}
use Rattle.std.specs.Prelude.{Option, None, Some}
use Rattle.std.specs.Str.{all_scalars, bytes_eq, chars}
use Rattle.sporc_script.specs.Quoted.{quoted}
use Rattle.sporc_script.specs.Readers.{then_read}
use Rattle.sporc_script.specs.Unescape.{unescape}

-- what stands between the first byte and the last
abbrev pub inner : List ℕ → List ℕ
inner word = take (length word - 2) (drop 1 word)

abbrev pub is_text : List ℕ → List ℕ → Bool
is_text word text = all_scalars text && bytes_eq (quoted text) word

unfoldable pub text_of : List ℕ → Option (List ℕ)
text_of word = then_read (unescape false (inner word))
    (λ bytes. if is_text word (chars bytes) then Some (chars bytes) else None)
