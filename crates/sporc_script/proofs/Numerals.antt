-- Words that are numbers.
use Rattle.std.proofs.Common.{◌≡◌, ℕ, zero, suc, ◌^◌, ◌<◌, List, [], ◌∷◌, length, Result, Ok, Err, refl, sym, ap, ◌∙◌, subst, arith}
use Rattle.sporc_script.proofs.Common.{decimal, AllDigits, digits_value, ParsesUnsigned, decimal-digits_value, first_decimal, decimal_nonempty, decimal_digit, parse-decimal, IsAscii-decimal, IsUtf8}
use Rattle.sporc_script.proofs.Common.{IsUtf8-from_ascii, IsPlain, IsNumeralModel, numerals_by_value, tells_digits, parse_plain}

pub own : IsNumeralModel (AllDigits 10) (digits_value 10)
own = numerals_by_value (AllDigits 10) tells_digits

pub decimal_plain : (n : ℕ) → n < 2 ^ 64 → IsPlain (decimal n)
decimal_plain zero fits = let zero_is : decimal 0 ≡ 48 ∷ [] = decimal_digit 0 (omega arith) in rw zero_is (record { some = omega arith; no_plus = omega arith; no_zero = λ _. refl })
decimal_plain (suc n) fits =
    let first = first_decimal (suc n) (omega arith) fits in
    record { some = decimal_nonempty (suc n) fits; no_plus = omega (arith, first); no_zero = λ h. absurd (omega (arith, first)) }

pub number_from_parse : (E : Type 0) (word : List ℕ) (n : ℕ) (r : Result ℕ E) → r ≡ Ok n → IsPlain word → ParsesUnsigned 64 10 word r → (n < 2 ^ 64) × (word ≡ decimal n)
number_from_parse E word n r is plain parsed =
    let whole : (AllDigits 10 word × (0 < length word) × (digits_value 10 word < 2 ^ 64)) × (n ≡ digits_value 10 word) =
    rw is at (parse_plain own 64 word r parsed plain.no_plus) in
    (subst (λ (m : ℕ). m < 2 ^ 64) (sym whole.1) whole.0.2, sym (decimal-digits_value own word whole.0.0 whole.0.1 plain.no_zero whole.0.2) ∙ ap decimal (sym whole.1))

pub no_number_from_parse : (E : Type 0) (word : List ℕ) (e : E) (r : Result ℕ E) → r ≡ Err e → ParsesUnsigned 64 10 word r → (n : ℕ) → n < 2 ^ 64 → word ≡ decimal n → ⊥
no_number_from_parse E word e r is parsed n fits spelled =
    let ok : r ≡ Ok n = parse-decimal 64 n word r fits fits spelled parsed in
    let no : Err e ≡ Ok n = sym is ∙ ok in cc

pub decimal_utf8 : (word : List ℕ) (n : ℕ) → n < 2 ^ 64 → word ≡ decimal n → IsUtf8 word
decimal_utf8 word n fits spelled = subst IsUtf8 (sym spelled) (IsUtf8-from_ascii (decimal n) (IsAscii-decimal n fits))
