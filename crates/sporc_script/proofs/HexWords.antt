-- Words that are hexadecimal digits, read exactly.
use Rattle.std.proofs.Common.{◌≡◌, ◌≢◌, ℕ, zero, suc, Bool, true, List, [], ◌∷◌, length, Some, None, Result, Ok, Err, refl, sym, ap, ◌∙◌, subst, arith}
use Rattle.sporc_script.proofs.Common.{◌/◌, ◌%◌, nat_lt, slice_index, if◌then◌else◌, bytes_eq, and_from, and_parts, Decides-ltb, bytes_eq-Decides, cond_some, encode_lower, hex_kept, is_hex, IsPayload}
use Rattle.hex.specs.Hex.{decode_of, encode_with, lower_digits}
use Rattle.hex.specs.declared.error.FromHexError.{FromHexError}
use Rattle.hex.proofs.HexLemmas.{decode_of-encode_lower, decode_of-ok}
use Rattle.sporc_script.specs.Hex.{hex_of}
use Rattle.sporc_script.proofs.Cuts.{IsBare, bare_from_test, bare_word}
use Rattle.sporc_script.proofs.Exact.{AreWords, IsExact}

hex_kept-some : (word bytes : List ℕ) (r : Result (List ℕ) FromHexError) → hex_kept word r ≡ Some bytes → (r ≡ Ok bytes) × (is_hex word bytes ≡ true)
hex_kept-some word bytes (Err e) is = cc
hex_kept-some word bytes (Ok b) is =
    let kept = cond_some (is_hex word b) b bytes is in
    (ap (λ (x : List ℕ). Ok x) kept.1, subst (λ (x : List ℕ). is_hex word x ≡ true) kept.1 kept.0)

pub hex_exact : IsExact (List ℕ) IsPayload encode_lower hex_of
unfolding hex_of
hex_exact = record {
  sound = λ word bytes e.
      let got = hex_kept-some word bytes (decode_of word) e in
      let parts = and_parts (nat_lt 0 (length bytes)) (bytes_eq (encode_lower bytes) word) got.1 in
      (((decode_of-ok word bytes got.0).3, (Decides-ltb 0 (length bytes)).0 parts.0), sym ((bytes_eq-Decides (encode_lower bytes) word).0 parts.1));
  complete = λ bytes range.
      ap (hex_kept (encode_lower bytes)) (decode_of-encode_lower bytes range.0)
      ∙ ap (λ (t : Bool). if t then Some bytes else None)
      (and_from (nat_lt 0 (length bytes)) (bytes_eq (encode_lower bytes) (encode_lower bytes)) ((Decides-ltb 0 (length bytes)).1 range.1) ((bytes_eq-Decides (encode_lower bytes) (encode_lower bytes)).1 refl));
}

-- a table with no space and no quote gives such words
bare_at : (t : List ℕ) → IsBare t → (i : ℕ) → (slice_index t i ≢ 32) × (slice_index t i ≢ 34)
bare_at [] bare i = (omega arith, omega arith)
bare_at (x ∷ xs) bare zero = bare.0
bare_at (x ∷ xs) bare (suc i) = bare_at xs bare.1 i

bare_encoded : (t bytes : List ℕ) → IsBare t → IsBare (encode_with t bytes)
unfolding encode_with
bare_encoded t [] bare = tt
bare_encoded t (b ∷ bs) bare = (bare_at t bare (b / 16), (bare_at t bare (b % 16), bare_encoded t bs bare))

pub hex_words : AreWords (List ℕ) IsPayload encode_lower
hex_words bytes range = bare_word (encode_lower bytes) (bare_encoded lower_digits bytes (bare_from_test lower_digits refl))
