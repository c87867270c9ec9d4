-- Escaping the bytes of a text is escaping its characters.
use Rattle.std.proofs.Common.{◌≡◌, ℕ, suc, ◌<◌, ◌≤◌, List, [], ◌∷◌, ◌++◌, length, get_or, flat_map, refl, sym, ap, ap₂, ◌∙◌, inl, inr, arith, append-nil}
use Rattle.sporc_script.proofs.Common.{◌==◌, if◌then◌else◌, encode_utf8_all, cases_lt, nat_tests, encode_ascii, inside_one, escape}
use Rattle.std.specs.Char.{encode_utf8}
use Rattle.std.proofs.lemmas.Grind.{flat_map-append}

-- a byte as it stands in a quoted text
abbrev pub escape_byte : ℕ → List ℕ
escape_byte b =
    if b == 92 then 92 ∷ 92 ∷ [] else (if b == 34 then 92 ∷ 34 ∷ [] else (if b == 10 then 92 ∷ 110 ∷ [] else b ∷ []))

fixed_byte : (b : ℕ) → 128 ≤ b → escape_byte b ≡ b ∷ []
fixed_byte b high = grind (arith, nat_tests)

fixed : (xs : List ℕ) → ((k : ℕ) → k < length xs → 128 ≤ get_or xs k 0) → flat_map escape_byte xs ≡ xs
fixed [] high = refl
fixed (x ∷ xs) high = ap₂ (λ a b. a ++ b) (fixed_byte x (high 0 (omega arith))) (fixed xs (λ k h. high (suc k) (omega arith)))

small : (c : ℕ) → c < 128 → escape c ≡ escape_byte c
small c low = rw (encode_ascii c low) refl

large : (c : ℕ) → 128 ≤ c → escape c ≡ encode_utf8 c
large c high = grind (arith, nat_tests)

pub flat_map-encode : (c : ℕ) → flat_map escape_byte (encode_utf8 c) ≡ escape c
flat_map-encode c =
    elim (cases_lt c 128) [
      | inl low ↦ ap (flat_map escape_byte) (encode_ascii c low) ∙ append-nil (escape_byte c) ∙ sym (small c low)
      | inr high ↦ fixed (encode_utf8 c) (λ k h. elim (cases_lt (get_or (encode_utf8 c) k 0) 128) [
        | inl ascii ↦ (let is = inside_one c [] (encode_utf8 c) k (sym (append-nil (encode_utf8 c))) h ascii in absurd (omega (arith, is)))
        | inr above ↦ above
      ]) ∙ sym (large c high)
    ]

pub flat_map-encode_all : (cs : List ℕ) → flat_map escape_byte (encode_utf8_all cs) ≡ flat_map escape cs
flat_map-encode_all [] = refl
flat_map-encode_all (c ∷ cs) =
    flat_map-append escape_byte (encode_utf8 c) (encode_utf8_all cs) ∙ ap₂ (λ a b. a ++ b) (flat_map-encode c) (flat_map-encode_all cs)
