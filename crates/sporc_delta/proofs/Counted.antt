-- Texts in UTF-8 that count their characters.
use Rattle.std.proofs.Common.{◌≡◌, ℕ, zero, suc, [], ◌∷◌, take, drop, ◌+◌, ◌≤◌, Bool, true, false, List, ◌++◌, length, refl, ap, sym, ◌∙◌, arith, add-one, append_assoc, ◌<◌, ◌-◌, Option, Some, None}
use Rattle.sporc_delta.proofs.Common.{MatchOption, append-nil, length-drop, length-take, take_at, drop_at, length-append, take-append-drop, chars-append, encodes-chars, length-le-encodes}
use Rattle.sporc_delta.proofs.Common.{encodes-append, scalars-chars, chars-encodes, chars_past_char, chars-nil, IsUtf8-past_char, IsCharBoundary-at_seam, IsUtf8-append, IsUtf8-from_is_utf8}
use Rattle.sporc_delta.proofs.Common.{is_utf8-from_IsUtf8, chars, all_scalars, IsUtf8, IsCharBoundary, is_utf8, encode_utf8_all, and_parts}
use lib.Utf8.{scalar}
use Rattle.std.specs.Char.{encode_utf8}
use Rattle.sporc_delta.specs.Texts.{TextInvariant}

-- the bytes are those of their characters
pub encode_chars : (bytes text : List ℕ) → is_utf8 bytes ≡ true → chars bytes ≡ text → bytes ≡ encode_utf8_all text
encode_chars bytes text utf8 is = sym (encodes-chars bytes (IsUtf8-from_is_utf8 bytes utf8)) ∙ ap encode_utf8_all is

-- a text behind a text
pub chars_joined : (xs ys bytes : List ℕ) (m : ℕ) → TextInvariant xs m → bytes ≡ xs ++ ys → chars bytes ≡ chars xs ++ chars ys
chars_joined xs ys bytes m counted is = ap chars is ∙ chars-append xs ys (IsUtf8-from_is_utf8 xs counted.utf8)

pub TextInvariant-append : (xs ys bytes : List ℕ) (m n : ℕ) → TextInvariant xs m → TextInvariant ys n → bytes ≡ xs ++ ys → TextInvariant bytes (m + n)
TextInvariant-append xs ys bytes m n a b is = record {
  utf8 = rw is (is_utf8-from_IsUtf8 (xs ++ ys) (IsUtf8-append xs ys (IsUtf8-from_is_utf8 xs a.utf8) (IsUtf8-from_is_utf8 ys b.utf8)));
  count_is = rw (chars_joined xs ys bytes m a is, length-append, a.count_is, b.count_is) refl;
}

-- a text has no more characters than bytes
pub length-chars : (bytes : List ℕ) → IsUtf8 bytes → length (chars bytes) ≤ length bytes
length-chars bytes utf8 = omega (arith, length-le-encodes (chars bytes), ap length (encodes-chars bytes utf8))

-- bytes that no text has
pub is_utf8-false : (bytes : List ℕ) → ¬ (IsUtf8 bytes) → is_utf8 bytes ≡ false
is_utf8-false bytes not = by (is_utf8 bytes) refl
  where
    by : (b : Bool) → is_utf8 bytes ≡ b → is_utf8 bytes ≡ false
    by true e = absurd (not (IsUtf8-from_is_utf8 bytes e))
    by false e = e

-- ---- a text is cut behind so many of its characters

seam : (bytes : List ℕ) (n : ℕ) → IsUtf8 bytes → bytes ≡ encode_utf8_all (take n (chars bytes)) ++ encode_utf8_all (drop n (chars bytes))
seam bytes n utf8 =
    sym (encodes-chars bytes utf8) ∙ ap encode_utf8_all (sym (take-append-drop n (chars bytes))) ∙ encodes-append (take n (chars bytes)) (drop n (chars bytes))

-- the characters of a part of a text are characters
scalars-take : (n : ℕ) (text : List ℕ) → all_scalars text ≡ true → all_scalars (take n text) ≡ true
scalars-take (suc n) (c ∷ text) h = let b = and_parts (scalar c) (all_scalars text) h in rw (b.0, scalars-take n text b.1) refl
scalars-take n text h = refl

scalars-drop : (n : ℕ) (text : List ℕ) → all_scalars text ≡ true → all_scalars (drop n text) ≡ true
scalars-drop zero text h = h
scalars-drop (suc n) [] h = refl
scalars-drop (suc n) (c ∷ text) h = scalars-drop n text (and_parts (scalar c) (all_scalars text) h).1

pub IsUtf8-encode_all : (text : List ℕ) → all_scalars text ≡ true → IsUtf8 (encode_utf8_all text)
IsUtf8-encode_all text h = (text, (h, refl))

-- one more character, where the rest of a list begins with it
drop_step : (i : ℕ) (cs : List ℕ) (c : ℕ) (xs : List ℕ) → drop i cs ≡ c ∷ xs → (drop (suc i) cs ≡ xs) × (take (suc i) cs ≡ take i cs ++ c ∷ [])
drop_step zero [] c xs e = absurd cc
drop_step zero (d ∷ cs) c xs e = (cc, cc)
drop_step (suc i) [] c xs e = absurd cc
drop_step (suc i) (d ∷ cs) c xs e = let s = drop_step i cs c xs e in (s.0, ap (λ ds. d ∷ ds) s.1)

-- a walk over the first i characters
pub record Walked (text rest : List ℕ) (i : ℕ) : Type 0 where
  pub utf8 : is_utf8 rest ≡ true
  pub left : chars rest ≡ drop i (chars text)
  pub seam : encode_utf8_all (take i (chars text)) ++ rest ≡ text

pub Walked-start : (text : List ℕ) → IsUtf8 text → Walked text text 0
Walked-start text utf8 = record { utf8 = is_utf8-from_IsUtf8 text utf8; left = refl; seam = refl }

Walked-step : (text rest after : List ℕ) (i c : ℕ) → rest ≡ encode_utf8 c ++ after → Walked text rest i → Walked text after (i + 1)
Walked-step text rest after i c is w =
    let utf8 = IsUtf8-from_is_utf8 rest w.utf8 in
    let s = drop_step i (chars text) c (chars after) (sym w.left ∙ chars_past_char rest after c utf8 is) in
    rw add-one record {
      utf8 = is_utf8-from_IsUtf8 after (IsUtf8-past_char rest after c utf8 is);
      left = sym s.0;
      seam = rw (s.1, encodes-append, append_assoc, append-nil, ← is) w.seam;
    }

pub Walked-next : (text rest after : List ℕ) (i : ℕ) (next : Option ℕ) (Q : Type 0) → i < length (chars text)
    → MatchOption next ((length rest ≡ 0) × Q) (λ c. rest ≡ encode_utf8 c ++ after) → Walked text rest i → Walked text after (i + 1)
Walked-next text rest after i (Some c) Q more is w = Walked-step text rest after i c is w
Walked-next text [] after i None Q more is w = absurd (omega (arith, ap length w.left, length-drop i (chars text), ap length chars-nil))
Walked-next text (b ∷ rest) after i None Q more is w = absurd (omega (arith, is.0))

pub Walked-len : (text rest : List ℕ) (i n : ℕ) → i ≡ n → Walked text rest i → length (encode_utf8_all (take n (chars text))) + length rest ≡ length text
Walked-len text rest i n same w = rw (← same) (sym (length-append (encode_utf8_all (take i (chars text))) rest) ∙ ap length w.seam)

-- a text that is cut at the place behind its first n characters
pub record CutAt (text : List ℕ) (n place : ℕ) : Type 0 where
  pub boundary : IsCharBoundary text place
  pub front : TextInvariant (take place text) n
  pub back : TextInvariant (drop place text) (length (chars text) - n)
  pub front_is : chars (take place text) ≡ take n (chars text)
  pub back_is : chars (drop place text) ≡ drop n (chars text)

pub cut_at : (text : List ℕ) (n place : ℕ) → IsUtf8 text → n ≤ length (chars text) → place ≡ length (encode_utf8_all (take n (chars text))) → CutAt text n place
cut_at text n place utf8 within is =
    let cs = chars text in
    let xs = encode_utf8_all (take n (chars text)) in
    let ys = encode_utf8_all (drop n (chars text)) in
    let text_is = seam text n utf8 in
    let all = scalars-chars text utf8 in
    let front_chars = scalars-take n (chars text) all in
    let back_chars = scalars-drop n (chars text) all in
    let front_bytes : take place text ≡ encode_utf8_all (take n (chars text)) = ap (take place) text_is ∙ take_at xs ys place (sym is) in
    let back_bytes : drop place text ≡ encode_utf8_all (drop n (chars text)) = ap (drop place) text_is ∙ drop_at xs ys place (sym is) in
    let front_is : chars (take place text) ≡ take n (chars text) = ap chars front_bytes ∙ chars-encodes (take n (chars text)) front_chars in
    let back_is : chars (drop place text) ≡ drop n (chars text) = ap chars back_bytes ∙ chars-encodes (drop n (chars text)) back_chars in
    record {
      boundary = rw is (IsCharBoundary-at_seam text xs ys text_is (IsUtf8-encode_all (drop n (chars text)) back_chars));
      front = record { utf8 = rw front_bytes (is_utf8-from_IsUtf8 xs (IsUtf8-encode_all (take n (chars text)) front_chars)); count_is = rw front_is (omega (arith, length-take n (chars text))) };
      back = record { utf8 = rw back_bytes (is_utf8-from_IsUtf8 ys (IsUtf8-encode_all (drop n (chars text)) back_chars)); count_is = rw back_is (omega (arith, length-drop n (chars text))) };
      front_is = front_is;
      back_is = back_is;
    }
