-- Words that are numbers, members and texts, read exactly.
use Rattle.std.proofs.Common.{◌≡◌, ℕ, ◌+◌, ◌-◌, ◌<◌, ◌^◌, Bool, true, false, List, [], ◌∷◌, ◌++◌, length, take, flat_map, Option, Some, None, refl, sym, ap, ◌∙◌, subst, arith, length-append}
use Rattle.sporc_script.proofs.Common.{nat_lt, if◌then◌else◌, decimal, all_scalars, bytes_eq, chars, encode_utf8_all, digits_value, decimal_is_IsNumeral, bytes_eq-Decides, Decides-ltb, chars-encodes}
use Rattle.sporc_script.proofs.Common.{and_from, and_parts, cond_some, escape, quoted, fits_u32, is_member, then_read, inner, is_text, unescape, is_number}
use Rattle.std.proofs.Math.Seq.{take-append_seam}
use Rattle.sporc_script.specs.Readers.{member_of, u32_of}
use Rattle.sporc_script.specs.Texts.{text_of}
use Rattle.sporc_script.specs.Words.{number_of}
use Rattle.sporc_script.proofs.CharEscapes.{flat_map-encode_all}
use Rattle.sporc_script.proofs.Escapes.{complete}
use Rattle.sporc_script.proofs.Exact.{IsExact, passing_exact, range_exact, then_some}

pub number_exact : IsExact ℕ (λ n. n < 2 ^ 64) decimal number_of
unfolding number_of
number_exact = record {
  sound = λ bytes n e.
      let got = cond_some (is_number (digits_value 10 bytes) bytes) (digits_value 10 bytes) n e in
      let parts = and_parts (nat_lt (digits_value 10 bytes) (2 ^ 64)) (bytes_eq (decimal (digits_value 10 bytes)) bytes) got.0 in
      subst (λ (m : ℕ). (m < 2 ^ 64) × (bytes ≡ decimal m)) got.1
      ((Decides-ltb (digits_value 10 bytes) (2 ^ 64)).0 parts.0, sym ((bytes_eq-Decides (decimal (digits_value 10 bytes)) bytes).0 parts.1));
  complete = λ n fits.
      ap (λ m. if is_number m (decimal n) then Some m else None) (decimal_is_IsNumeral n fits).1
      ∙ ap (λ (t : Bool). if t then Some n else None) (and_from (nat_lt n (2 ^ 64)) (bytes_eq (decimal n) (decimal n)) ((Decides-ltb n (2 ^ 64)).1 fits) ((bytes_eq-Decides (decimal n) (decimal n)).1 refl));
}

pub u32_exact : IsExact ℕ (λ n. n < 2 ^ 32) decimal u32_of
unfolding u32_of
u32_exact = range_exact ℕ _ _ decimal _ (passing_exact ℕ _ decimal number_of fits_u32 number_exact)
    (λ n h. (Decides-ltb n (2 ^ 32)).0 h.1)
    (λ n h. (omega (arith, h), (Decides-ltb n (2 ^ 32)).1 h))

pub member_exact : IsExact ℕ (λ n. (0 < n) × (n < 2 ^ 16)) decimal member_of
unfolding member_of
member_exact = range_exact ℕ _ _ decimal _ (passing_exact ℕ _ decimal number_of is_member number_exact)
    (λ n h. let p = and_parts (nat_lt 0 n) (nat_lt n (2 ^ 16)) h.1 in ((Decides-ltb 0 n).0 p.0, (Decides-ltb n (2 ^ 16)).0 p.1))
    (λ n h. (omega (arith, h.1), and_from (nat_lt 0 n) (nat_lt n (2 ^ 16)) ((Decides-ltb 0 n).1 h.0) ((Decides-ltb n (2 ^ 16)).1 h.1)))

inner_quoted : (text : List ℕ) → inner (quoted text) ≡ flat_map escape text
inner_quoted text =
    let body = flat_map escape text in
    let long : length (body ++ 34 ∷ []) ≡ length body + 1 = length-append body (34 ∷ []) in
    let size : length (34 ∷ (body ++ 34 ∷ [])) - 2 ≡ length body = omega (arith, long) in
    ap (λ n. take n (body ++ 34 ∷ [])) size ∙ take-append_seam body (34 ∷ [])

pub text_exact : IsExact (List ℕ) (λ text. all_scalars text ≡ true) quoted text_of
unfolding text_of
text_exact = record {
  sound = λ bytes text e.
      let got = then_some (unescape false (inner bytes)) (λ b. if is_text bytes (chars b) then Some (chars b) else None) text e in
      let kept = cond_some (is_text bytes (chars got.0)) (chars got.0) text got.2 in
      let parts = and_parts (all_scalars (chars got.0)) (bytes_eq (quoted (chars got.0)) bytes) kept.0 in
      subst (λ (t : List ℕ). (all_scalars t ≡ true) × (bytes ≡ quoted t)) kept.1 (parts.0, sym ((bytes_eq-Decides (quoted (chars got.0)) bytes).0 parts.1));
  complete = λ text scalars.
      let read : unescape false (inner (quoted text)) ≡ Some (encode_utf8_all text) =
      ap (unescape false) (inner_quoted text ∙ sym (flat_map-encode_all text)) ∙ complete (encode_utf8_all text) in
      ap (λ (o : Option (List ℕ)). then_read o (λ bytes. if is_text (quoted text) (chars bytes) then Some (chars bytes) else None)) read
      ∙ ap (λ (t : List ℕ). if is_text (quoted text) t then Some t else None) (chars-encodes text scalars)
      ∙ ap (λ (t : Bool). if t then Some text else None) (and_from (all_scalars text) (bytes_eq (quoted text) (quoted text)) scalars ((bytes_eq-Decides (quoted text) (quoted text)).1 refl));
}

pub rest_of : (word rest text : List ℕ) → word ≡ 34 ∷ rest → word ≡ quoted text → rest ≡ flat_map escape text ++ 34 ∷ []
rest_of word rest text first is = let whole : 34 ∷ rest ≡ 34 ∷ (flat_map escape text ++ 34 ∷ []) = sym first ∙ is in cc
