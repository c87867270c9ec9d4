-- The bytes that a word is in hexadecimal digits, which are lower case.
use Rattle.std.specs.Prelude.{ℕ, ◌&&◌, nat_lt, Bool, if◌then◌else◌, List, length, Option, None}
use Rattle.std.specs.Prelude.{Some, Result, Ok, Err}
use Rattle.std.specs.Str.{bytes_eq}
use Rattle.hex.specs.Hex.{decode_of, encode_lower}
use Rattle.hex.specs.declared.error.FromHexError.{FromHexError}

-- these bytes, of which there is one at least, are spelled so
abbrev pub is_hex : List ℕ → List ℕ → Bool
is_hex word bytes = nat_lt 0 (length bytes) && bytes_eq (encode_lower bytes) word

abbrev pub hex_kept : List ℕ → Result (List ℕ) FromHexError → Option (List ℕ)
hex_kept word (Err e) = None
hex_kept word (Ok bytes) = if is_hex word bytes then Some bytes else None

unfoldable pub hex_of : List ℕ → Option (List ℕ)
hex_of word = hex_kept word (decode_of word)
