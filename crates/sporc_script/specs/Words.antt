-- Words of a line: one space stands between two of them, and a space in a quoted text ends none.
use Rattle.std.specs.Prelude.{◌≡◌, ◌≢◌, ℕ, ◌<◌, ◌^◌, ◌==◌, nat_lt, ◌&&◌, if◌then◌else◌, Bool, false}
use Rattle.std.specs.Prelude.{List, [], ◌∷◌, ◌++◌, length, slice_index, Option, None, Some}
use Rattle.std.specs.Prelude.{option_map}
use Rattle.std.specs.List.{AllByRecursion}
use Rattle.std.specs.Str.{bytes_eq}
use Rattle.std.specs.Str.Parse.{digits_value}
use Rattle.std.specs.Fmt.{decimal}
use Rattle.sporc_script.specs.declared.words.Place.{Place}
use Rattle.sporc_script.specs.declared.words.Place.TheVariants.{Outside, Quoted, Escaped}

-- no byte is b
abbrev pub Lacks : ℕ → List ℕ → Type 0
Lacks b bytes = AllByRecursion (λ x. x ≢ b) bytes

-- these stand before the first b and after it
abbrev pub Splits : ℕ → List ℕ → List ℕ → List ℕ → Type 0
Splits b bytes front rest = Lacks b front × (bytes ≡ front ++ b ∷ rest)

-- where the byte after this one stands
abbrev pub place_after : Place → ℕ → Place
place_after Outside b = if b == 34 then Quoted else Outside
place_after Quoted b = if b == 92 then Escaped else (if b == 34 then Outside else Quoted)
place_after Escaped b = Quoted

-- the byte ends a word
abbrev pub ends_word : Place → ℕ → Bool
ends_word Outside b = b == 32
ends_word Quoted b = false
ends_word Escaped b = false

abbrev pub with_first : ℕ → List ℕ × List ℕ → List ℕ × List ℕ
with_first b parts = (b ∷ parts.0, parts.1)

-- what stands before the first space that is in no quoted text, and what stands after it
unfoldable pub cut_at : Place → List ℕ → Option (List ℕ × List ℕ)
cut_at place [] = None
cut_at place (b ∷ bs) =
    if ends_word place b then Some ([], bs)
    else option_map (with_first b) (cut_at (place_after place b) bs)

-- the first word of a line that has more, and those after it
abbrev pub cut : List ℕ → Option (List ℕ × List ℕ)
cut line = cut_at Outside line

-- what stands before the first b, and what stands after it
unfoldable pub split_at : ℕ → List ℕ → Option (List ℕ × List ℕ)
split_at b [] = None
split_at b (x ∷ xs) = if x == b then Some ([], xs) else option_map (with_first x) (split_at b xs)

-- as a number is written: not empty, with no plus and no leading zero
pub record IsPlain (word : List ℕ) : Type 0 where
  pub some : 0 < length word
  pub no_plus : slice_index word 0 ≢ 43
  pub no_zero : slice_index word 0 ≡ 48 → length word ≡ 1

abbrev pub is_number : ℕ → List ℕ → Bool
is_number n word = nat_lt n (2 ^ 64) && bytes_eq (decimal n) word

-- the number that the word is
unfoldable pub number_of : List ℕ → Option ℕ
number_of word = if is_number (digits_value 10 word) word then Some (digits_value 10 word) else None
