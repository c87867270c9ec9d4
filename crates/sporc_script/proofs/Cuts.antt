-- What a cut at the first space gives.
use Rattle.std.proofs.Common.{◌≡◌, ◌≢◌, ℕ, ◌+◌, ◌<◌, ◌^◌, Bool, true, false, List, [], ◌∷◌, ◌++◌, length, take, drop, get_or, flat_map, Option, Some, None, option_map, refl, sym, ap, ◌∙◌, subst, inl, inr, add-one, drop-cons, append_assoc, append-nil, length-drop, arith, ◌-◌, ◌≤◌, not, ◌&&◌}
use Rattle.sporc_script.proofs.Common.{◌==◌, if◌then◌else◌, and_parts, eqb-true, nil_from_length, take_all, take_more, decimal, AllDigits, decimal_is_IsNumeral, eqb_tells, Lacks, cut, quoted}
use Rattle.sporc_script.proofs.Common.{encode_utf8_all, same_Some, AllByRecursion, list_all, digit_from_value}
use Rattle.sporc_script.specs.declared.words.Place.{Place}
use Rattle.sporc_script.specs.declared.words.Place.TheVariants.{Outside, Quoted}
use Rattle.sporc_script.specs.Words.{cut_at, ends_word, place_after, split_at, with_first}
use Rattle.sporc_script.proofs.CharEscapes.{escape_byte, flat_map-encode_all}

-- bytes that end where no quoted text is open, with no end of a word among them
abbrev pub IsWhole : Place → List ℕ → Type 0
IsWhole place [] = place ≡ Outside
IsWhole place (b ∷ bs) = (ends_word place b ≡ false) × IsWhole (place_after place b) bs

abbrev pub IsWord : List ℕ → Type 0
IsWord word = IsWhole Outside word

cut_at-end : (place : Place) (word : List ℕ) → IsWhole place word → cut_at place word ≡ None
unfolding cut_at
cut_at-end place [] whole = refl
cut_at-end place (b ∷ bs) whole = rw (whole.0, cut_at-end (place_after place b) bs whole.1) refl

pub cut_end : (word : List ℕ) → IsWord word → cut word ≡ None
cut_end word whole = cut_at-end Outside word whole

cut_at-word : (place : Place) (word rest : List ℕ) → IsWhole place word → cut_at place (word ++ 32 ∷ rest) ≡ Some (word, rest)
unfolding cut_at
cut_at-word place [] rest whole = rw whole refl
cut_at-word place (b ∷ bs) rest whole = rw (whole.0, cut_at-word (place_after place b) bs rest whole.1) refl

pub cut_word : (word rest : List ℕ) → IsWord word → cut (word ++ 32 ∷ rest) ≡ Some (word, rest)
cut_word word rest whole = cut_at-word Outside word rest whole

ends_at_space : (place : Place) (b : ℕ) → ends_word place b ≡ true → b ≡ 32
ends_at_space Outside b e = elim (eqb_tells b 32) [ inl h ↦ h.1 | inr h ↦ let no : true ≡ false = sym e ∙ h.0 in cc ]
ends_at_space place b e = cc

abbrev pub parted : List ℕ → List ℕ → List ℕ × List ℕ
parted word rest = (word, rest)

with_first-some : (b : ℕ) (o : Option (List ℕ × List ℕ)) (word rest : List ℕ) → option_map (with_first b) o ≡ Some (parted word rest) → (front : List ℕ) × (o ≡ Some (parted front rest)) × (word ≡ b ∷ front)
with_first-some b None word rest e = cc
with_first-some b (Some parts) word rest e =
    let pair = same_Some (with_first b parts) (parted word rest) e in
    (parts.0, ap (λ r. Some (parted parts.0 r)) (ap (λ (p : List ℕ × List ℕ). p.1) pair), sym (ap (λ (p : List ℕ × List ℕ). p.0) pair))

-- one byte of a cut at a separator: it is one, or a later one was found
cut_step : (separator b : ℕ) (bs word rest : List ℕ) (later : Option (List ℕ × List ℕ)) (t : Bool) → (t ≡ true → b ≡ separator) → ((front : List ℕ) → later ≡ Some (parted front rest) → bs ≡ front ++ separator ∷ rest)
    → (if t then Some (parted [] bs) else option_map (with_first b) later) ≡ Some (parted word rest) → b ∷ bs ≡ word ++ separator ∷ rest
cut_step separator b bs word rest later true is more e =
    let pair = same_Some (parted [] bs) (parted word rest) e in
    let none : [] ≡ word = ap (λ (p : List ℕ × List ℕ). p.0) pair in
    let all : bs ≡ rest = ap (λ (p : List ℕ × List ℕ). p.1) pair in
    ap (λ x. x ∷ bs) (is refl) ∙ ap (λ zs. separator ∷ zs) all ∙ ap (λ w. w ++ separator ∷ rest) none
cut_step separator b bs word rest later false is more e =
    let got = with_first-some b later word rest e in
    ap (λ zs. b ∷ zs) (more got.0 got.1) ∙ ap (λ zs. zs ++ separator ∷ rest) (sym got.2)

cut_at-sound : (place : Place) (bytes word rest : List ℕ) → cut_at place bytes ≡ Some (word, rest) → bytes ≡ word ++ 32 ∷ rest
unfolding cut_at
cut_at-sound place [] word rest e = cc
cut_at-sound place (b ∷ bs) word rest e =
    cut_step 32 b bs word rest (cut_at (place_after place b) bs) (ends_word place b) (ends_at_space place b) (λ front h. cut_at-sound (place_after place b) bs front rest h) e

pub cut_sound : (bytes word rest : List ℕ) → cut bytes ≡ Some (word, rest) → bytes ≡ word ++ 32 ∷ rest
cut_sound bytes word rest e = cut_at-sound Outside bytes word rest e

-- ---- words

-- no space and no quote
abbrev pub IsBare : List ℕ → Type 0
IsBare word = AllByRecursion (λ b. (b ≢ 32) × (b ≢ 34)) word

is_not : (a b : ℕ) → a ≢ b → (a == b) ≡ false
is_not a b other = elim (eqb_tells a b) [ inl h ↦ absurd (other h.1) | inr h ↦ h.0 ]

pub bare_word : (word : List ℕ) → IsBare word → IsWord word
bare_word [] bare = refl
bare_word (b ∷ bs) bare =
    let stays : place_after Outside b ≡ Outside = rw (is_not b 34 bare.0.1) refl in
    (is_not b 32 bare.0.0, rw stays (bare_word bs bare.1))

bare_digits : (ds : List ℕ) → AllDigits 10 ds → IsBare ds
bare_digits [] all = tt
bare_digits (d ∷ ds) all = let range = digit_from_value d all.0 in (((omega (arith, range.0)), (omega (arith, range.0))), bare_digits ds all.1)

pub bare_point : (word more : List ℕ) → IsBare word → IsBare more → IsBare (word ++ 46 ∷ more)
bare_point [] more bare bare' = ((omega arith, omega arith), bare')
bare_point (b ∷ bs) more bare bare' = (bare.0, bare_point bs more bare.1 bare')

pub decimal_bare : (n : ℕ) → n < 2 ^ 64 → IsBare (decimal n)
decimal_bare n fits = bare_digits (decimal n) (decimal_is_IsNumeral n fits).0.1

-- a separator below the digits
lacks_digits : (b : ℕ) (ds : List ℕ) → b < 48 → AllDigits 10 ds → Lacks b ds
lacks_digits b [] low all = tt
lacks_digits b (d ∷ ds) low all = let range = digit_from_value d all.0 in (omega (arith, low, range.0), lacks_digits b ds low all.1)

pub decimal_lacks : (b n : ℕ) → b < 48 → n < 2 ^ 64 → Lacks b (decimal n)
decimal_lacks b n low fits = lacks_digits b (decimal n) low (decimal_is_IsNumeral n fits).0.1

pub decimal_word : (n : ℕ) → n < 2 ^ 64 → IsWord (decimal n)
decimal_word n fits = bare_word (decimal n) (decimal_bare n fits)

whole_escape : (b : ℕ) (more : List ℕ) → IsWhole Quoted more → IsWhole Quoted (escape_byte b ++ more)
whole_escape b more whole =
    elim (eqb_tells b 92) [
      | inl h ↦ subst (λ (c : ℕ). IsWhole Quoted (escape_byte c ++ more)) (sym h.1) (refl, (refl, whole))
      | inr n ↦ elim (eqb_tells b 34) [
        | inl h ↦ subst (λ (c : ℕ). IsWhole Quoted (escape_byte c ++ more)) (sym h.1) (refl, (refl, whole))
        | inr m ↦ elim (eqb_tells b 10) [
          | inl h ↦ subst (λ (c : ℕ). IsWhole Quoted (escape_byte c ++ more)) (sym h.1) (refl, (refl, whole))
          | inr k ↦
              let same : escape_byte b ≡ b ∷ [] = rw (n.0, m.0, k.0) refl in
              let stays : place_after Quoted b ≡ Quoted = rw (n.0, m.0) refl in
              subst (λ (zs : List ℕ). IsWhole Quoted (zs ++ more)) (sym same) (refl, subst (λ (p : Place). IsWhole p more) (sym stays) whole)
        ]
      ]
    ]

whole_escapes : (bytes : List ℕ) → IsWhole Quoted (flat_map escape_byte bytes ++ 34 ∷ [])
whole_escapes [] = (refl, refl)
whole_escapes (b ∷ bs) =
    subst (IsWhole Quoted) (sym (append_assoc (escape_byte b) (flat_map escape_byte bs) (34 ∷ [])))
    (whole_escape b (flat_map escape_byte bs ++ 34 ∷ []) (whole_escapes bs))

pub quoted_word : (text : List ℕ) → IsWord (quoted text)
quoted_word text = (refl, subst (λ (zs : List ℕ). IsWhole Quoted (zs ++ 34 ∷ [])) (flat_map-encode_all text) (whole_escapes (encode_utf8_all text)))

abbrev pub is_bare : List ℕ → Bool
is_bare word = list_all (λ b. not (b == 32) && not (b == 34)) word

is_other : (a b : ℕ) → not (a == b) ≡ true → a ≢ b
is_other a b e same = elim (eqb_tells a b) [ inl h ↦ let no : not true ≡ true = ap not (sym h.0) ∙ e in cc | inr h ↦ h.1 same ]

pub bare_from_test : (word : List ℕ) → is_bare word ≡ true → IsBare word
bare_from_test [] e = tt
bare_from_test (b ∷ bs) e =
    let parts = and_parts (not (b == 32) && not (b == 34)) (is_bare bs) e in
    let other = and_parts (not (b == 32)) (not (b == 34)) parts.0 in
    ((is_other b 32 other.0, is_other b 34 other.1), bare_from_test bs parts.1)

-- a word that is known, by a test that computes
pub word_from_test : (word : List ℕ) → is_bare word ≡ true → IsWord word
word_from_test word e = bare_word word (bare_from_test word e)

-- ---- a cut at the first byte of a kind

same_byte : (b : ℕ) → (b == b) ≡ true
same_byte b = elim (eqb_tells b b) [ inl h ↦ h.0 | inr h ↦ absurd (h.1 refl) ]

pub split_none : (b : ℕ) (bytes : List ℕ) → Lacks b bytes → split_at b bytes ≡ None
unfolding split_at
split_none b [] lacks = refl
split_none b (x ∷ xs) lacks = rw (is_not x b lacks.0, split_none b xs lacks.1) refl

pub split_some : (b : ℕ) (front rest : List ℕ) → Lacks b front → split_at b (front ++ b ∷ rest) ≡ Some (front, rest)
unfolding split_at
split_some b [] rest lacks = rw (same_byte b) refl
split_some b (x ∷ xs) rest lacks = rw (is_not x b lacks.0, split_some b xs rest lacks.1) refl

pub split_sound : (b : ℕ) (bytes front rest : List ℕ) → split_at b bytes ≡ Some (front, rest) → bytes ≡ front ++ b ∷ rest
unfolding split_at
split_sound b [] front rest e = cc
split_sound b (x ∷ xs) front rest e =
    cut_step b x xs front rest (split_at b xs) (x == b) (λ is. eqb-true x b is) (λ first h. split_sound b xs first rest h) e

-- ---- the loop that looks for the space

abbrev pub behind : List ℕ → List ℕ × List ℕ → List ℕ × List ℕ
behind front parts = (front ++ parts.0, parts.1)

cut_at-drop : (place : Place) (xs : List ℕ) (i : ℕ) → i < length xs → cut_at place (drop i xs) ≡ (if ends_word place (get_or xs i 0) then Some ([], drop (i + 1) xs) else option_map (with_first (get_or xs i 0)) (cut_at (place_after place (get_or xs i 0)) (drop (i + 1) xs)))
unfolding cut_at
cut_at-drop place xs i low =
    let here : drop i xs ≡ get_or xs i 0 ∷ drop (i + 1) xs = rw add-one (drop-cons xs i 0 low) in
    ap (cut_at place) here

behind_first : (front : List ℕ) (b : ℕ) (o : Option (List ℕ × List ℕ)) → option_map (behind front) (option_map (with_first b) o) ≡ option_map (behind (front ++ b ∷ [])) o
behind_first front b None = refl
behind_first front b (Some parts) = ap (λ zs. Some (zs, parts.1)) (sym (append_assoc front (b ∷ []) parts.0))

pub behind_none : (o : Option (List ℕ × List ℕ)) → o ≡ option_map (behind []) o
behind_none None = refl
behind_none (Some parts) = refl

-- the byte ends no word
pub cut_more : (xs : List ℕ) (place : Place) (i : ℕ) → i < length xs → ends_word place (get_or xs i 0) ≡ false
    → cut xs ≡ option_map (behind (take i xs)) (cut_at place (drop i xs))
    → cut xs ≡ option_map (behind (take (i + 1) xs)) (cut_at (place_after place (get_or xs i 0)) (drop (i + 1) xs))
cut_more xs place i low stays so_far =
    let b = get_or xs i 0 in
    let later = cut_at (place_after place b) (drop (i + 1) xs) in
    so_far
    ∙ ap (option_map (behind (take i xs))) (cut_at-drop place xs i low ∙ ap (λ (t : Bool). if t then Some ([], drop (i + 1) xs) else option_map (with_first b) later) stays)
    ∙ behind_first (take i xs) b later
    ∙ ap (λ zs. option_map (behind zs) later) (sym (take_more xs i 0 low))

-- it ends one
pub cut_here : (xs : List ℕ) (place : Place) (i : ℕ) → i < length xs → ends_word place (get_or xs i 0) ≡ true
    → cut xs ≡ option_map (behind (take i xs)) (cut_at place (drop i xs))
    → cut xs ≡ Some (take i xs, take (length xs - (i + 1)) (drop (i + 1) xs))
cut_here xs place i low ends so_far =
    let b = get_or xs i 0 in
    let rest : drop (i + 1) xs ≡ take (length xs - (i + 1)) (drop (i + 1) xs) = sym (take_all (length xs - (i + 1)) (drop (i + 1) xs) (omega (arith, length-drop (i + 1) xs))) in
    so_far
    ∙ ap (option_map (behind (take i xs))) (cut_at-drop place xs i low ∙ ap (λ (t : Bool). if t then Some ([], drop (i + 1) xs) else option_map (with_first b) (cut_at (place_after place b) (drop (i + 1) xs))) ends)
    ∙ ap (λ zs. Some (zs, drop (i + 1) xs)) (append-nil (take i xs))
    ∙ ap (λ zs. Some (take i xs, zs)) rest

pub cut_nowhere : (xs : List ℕ) (place : Place) (i : ℕ) → length xs ≤ i → cut xs ≡ option_map (behind (take i xs)) (cut_at place (drop i xs)) → cut xs ≡ None
unfolding cut_at
cut_nowhere xs place i past so_far =
    so_far ∙ ap (λ zs. option_map (behind (take i xs)) (cut_at place zs)) (nil_from_length (drop i xs) (omega (arith, length-drop i xs, past)))
