-- Lines that read as a script: there is one such script, or one first line outside the grammar.
use Rattle.std.proofs.Common.{◌≡◌, ◌⊎◌, ℕ, ◌+◌, ◌<◌, ◌≤◌, Bool, true, false, List, [], ◌∷◌, ◌++◌, length, Option, Some, None, refl, sym, ap, ◌∙◌, subst, inl, inr, arith, append-nil, append_assoc, length-append}
use Rattle.sporc_script.proofs.Common.{◌==◌, nat_lt, IsUtf8, all_scalars, chars, encode_utf8_all, eqb-true, Decides-ltb, eqb_tells, nil_from_length, bytes_eq-Decides, encodes-chars, scalars-chars}
use Rattle.sporc_script.proofs.Common.{bytes_eq, same_Some, IsFirstBad, IsSkipped, ReadsAs, lines_of, option_to_list}
use Rattle.sporc_script.proofs.Exact.{IsExact, read_is}

-- one of which this holds, or none
abbrev pub Found : (A : Type 0) → (A → Type 0) → Type 0
Found A P = ((a : A) × P a) ⊎ ((a : A) → ¬ (P a))

pub bool_cases : (b : Bool) → (b ≡ true) ⊎ (b ≡ false)
bool_cases true = inl refl
bool_cases false = inr refl

-- ---- what an exact reader decides

module _ (A : Type 0) (In : A → Type 0) (spell : A → List ℕ) (read : List ℕ → Option A) (exact : IsExact A In spell read) where
  decided : (bytes : List ℕ) (o : Option A) → read bytes ≡ o → Found A (λ a. In a × (bytes ≡ spell a))
  decided bytes None is = inr (λ a h. let no : None ≡ Some a = sym is ∙ read_is A In spell read exact bytes a h.0 h.1 in cc)
  decided bytes (Some a) is = inl (a, exact.sound bytes a is)

  pub spelled_or_not : (bytes : List ℕ) → Found A (λ a. In a × (bytes ≡ spell a))
  spelled_or_not bytes = decided bytes (read bytes) refl

  pub one_spelled : (bytes : List ℕ) (a b : A) → In a × (bytes ≡ spell a) → In b × (bytes ≡ spell b) → a ≡ b
  one_spelled bytes a b first second =
      same_Some a b (sym (read_is A In spell read exact bytes a first.0 first.1) ∙ read_is A In spell read exact bytes b second.0 second.1)

-- ---- skipped lines

-- the first byte comes after '#'
abbrev pub is_named : List ℕ → Bool
is_named [] = false
is_named (b ∷ bs) = nat_lt 35 b

pub not_skipped : (line name rest : List ℕ) → is_named name ≡ true → line ≡ name ++ rest → IsSkipped line → ⊥
not_skipped line [] rest named is skipped = cc
not_skipped [] (b ∷ bs) rest named is skipped = omega (arith, ap length is)
not_skipped (x ∷ xs) (b ∷ bs) rest named is skipped =
    let same : x ≡ b = cc in
    let low : 35 < b = (Decides-ltb 35 b).0 named in
    omega (arith, same, low, skipped.0)

utf8 : (bytes : List ℕ) → IsUtf8 bytes ⊎ ¬ (IsUtf8 bytes)
utf8 bytes =
    elim (bool_cases (all_scalars (chars bytes))) [
      | inl scalars ↦ elim (bool_cases (bytes_eq (encode_utf8_all (chars bytes)) bytes)) [
        | inl same ↦ inl (chars bytes, (scalars, (bytes_eq-Decides (encode_utf8_all (chars bytes)) bytes).0 same))
        | inr other ↦ inr (λ is.
            let no : true ≡ false = sym ((bytes_eq-Decides (encode_utf8_all (chars bytes)) bytes).1 (encodes-chars bytes is)) ∙ other in cc)
      ]
      | inr other ↦ inr (λ is. let no : true ≡ false = sym (scalars-chars bytes is) ∙ other in cc)
    ]

pub skipped_or_not : (line : List ℕ) → IsSkipped line ⊎ ¬ (IsSkipped line)
skipped_or_not [] = inl tt
skipped_or_not (b ∷ bs) =
    elim (eqb_tells b 35) [
      | inl h ↦ elim (utf8 (b ∷ bs)) [
        | inl is ↦ inl (h.1, is)
        | inr other ↦ inr (λ is. other is.1)
      ]
      | inr n ↦ inr (λ is. n.1 is.0)
    ]

pub counted : {L : Type 0} (lines : List L) (read : Option L) → length (lines ++ option_to_list read) ≤ length lines + 1
counted lines None = omega (arith, length-append lines [])
counted lines (Some x) = omega (arith, length-append lines (x ∷ []))

module _ (A L : Type 0) (numbered : ℕ → A → L) (IsNext : List L → List ℕ → A → Type 0) where
  abbrev Reads : List L → ℕ → List (List ℕ) → List L → Type 0
  Reads before n ls script = ReadsAs numbered IsNext before n ls script

  abbrev Bad : List L → ℕ → List (List ℕ) → ℕ → Type 0
  Bad before n ls k = IsFirstBad numbered IsNext before n ls k

  -- ---- one line more

  -- a line is skipped, or is the next for a value that is numbered
  abbrev pub ReadsPart : List L → ℕ → List ℕ → Option L → Type 0
  ReadsPart before n l None = IsSkipped l
  ReadsPart before n l (Some x) = (a : A) × (x ≡ numbered n a) × IsNext before l a

  pub reads_more : (before : List L) (n : ℕ) (l : List ℕ) (ls : List (List ℕ)) (read : Option L) (more : List L)
      → ReadsPart before n l read → Reads (before ++ option_to_list read) (n + 1) ls more → Reads before n (l ∷ ls) (option_to_list read ++ more)
  reads_more before n l ls None more line rest = inl (line, subst (λ (b : List L). Reads b (n + 1) ls more) (append-nil before) rest)
  reads_more before n l ls (Some x) more line rest =
      inr (line.0, more, line.2, ap (λ (y : L). y ∷ more) line.1, subst (λ (y : L). Reads (before ++ y ∷ []) (n + 1) ls more) line.1 rest)

  pub bad_later : (before : List L) (n : ℕ) (l : List ℕ) (ls : List (List ℕ)) (read : Option L) (k : ℕ)
      → ReadsPart before n l read → Bad (before ++ option_to_list read) (n + 1) ls k → Bad before n (l ∷ ls) k
  bad_later before n l ls None k line rest = inr (inl (line, subst (λ (b : List L). Bad b (n + 1) ls k) (append-nil before) rest))
  bad_later before n l ls (Some x) k line rest =
      inr (inr (line.0, line.2, subst (λ (y : L). Bad (before ++ y ∷ []) (n + 1) ls k) line.1 rest))

  -- ---- one script or one fault

  module _ (one : (before : List L) (l : List ℕ) (a b : A) → IsNext before l a → IsNext before l b → a ≡ b)
      (apart : (before : List L) (l : List ℕ) (a : A) → IsSkipped l → IsNext before l a → ⊥) where
    pub one_reading : (ls : List (List ℕ)) (before : List L) (n : ℕ) (s t : List L) → Reads before n ls s → Reads before n ls t → s ≡ t
    one_reading [] before n s t x y = x ∙ sym y
    one_reading (l ∷ ls) before n s t (inl x) (inl y) = one_reading ls before (n + 1) s t x.1 y.1
    one_reading (l ∷ ls) before n s t (inl x) (inr y) = absurd (apart before l y.0 x.0 y.2)
    one_reading (l ∷ ls) before n s t (inr x) (inl y) = absurd (apart before l x.0 y.0 x.2)
    one_reading (l ∷ ls) before n s t (inr x) (inr y) =
        let same = one before l x.0 y.0 x.2 y.2 in
        let other : Reads (before ++ numbered n x.0 ∷ []) (n + 1) ls y.1 =
        subst (λ (a : A). Reads (before ++ numbered n a ∷ []) (n + 1) ls y.1) (sym same) y.4 in
        let rest = one_reading ls (before ++ numbered n x.0 ∷ []) (n + 1) x.1 y.1 x.4 other in
        x.3 ∙ ap (λ (r : List L). numbered n x.0 ∷ r) rest ∙ ap (λ (a : A). numbered n a ∷ y.1) same ∙ sym y.3

    pub not_both : (ls : List (List ℕ)) (before : List L) (n : ℕ) (s : List L) (k : ℕ) → Reads before n ls s → Bad before n ls k → ⊥
    not_both [] before n s k x y = y
    not_both (l ∷ ls) before n s k (inl x) (inl y) = y.1 x.0
    not_both (l ∷ ls) before n s k (inl x) (inr (inl y)) = not_both ls before (n + 1) s k x.1 y.1
    not_both (l ∷ ls) before n s k (inl x) (inr (inr y)) = apart before l y.0 x.0 y.1
    not_both (l ∷ ls) before n s k (inr x) (inl y) = y.2 x.0 x.2
    not_both (l ∷ ls) before n s k (inr x) (inr (inl y)) = apart before l x.0 y.0 x.2
    not_both (l ∷ ls) before n s k (inr x) (inr (inr y)) =
        let same = one before l y.0 x.0 y.1 x.2 in
        not_both ls (before ++ numbered n x.0 ∷ []) (n + 1) x.1 k x.4
        (subst (λ (a : A). Bad (before ++ numbered n a ∷ []) (n + 1) ls k) same y.2)

    pub one_fault : (ls : List (List ℕ)) (before : List L) (n k j : ℕ) → Bad before n ls k → Bad before n ls j → k ≡ j
    one_fault [] before n k j x y = absurd x
    one_fault (l ∷ ls) before n k j (inl x) (inl y) = x.0 ∙ sym y.0
    one_fault (l ∷ ls) before n k j (inl x) (inr (inl y)) = absurd (x.1 y.0)
    one_fault (l ∷ ls) before n k j (inl x) (inr (inr y)) = absurd (x.2 y.0 y.1)
    one_fault (l ∷ ls) before n k j (inr (inl x)) (inl y) = absurd (y.1 x.0)
    one_fault (l ∷ ls) before n k j (inr (inl x)) (inr (inl y)) = one_fault ls before (n + 1) k j x.1 y.1
    one_fault (l ∷ ls) before n k j (inr (inl x)) (inr (inr y)) = absurd (apart before l y.0 x.0 y.1)
    one_fault (l ∷ ls) before n k j (inr (inr x)) (inl y) = absurd (y.2 x.0 x.1)
    one_fault (l ∷ ls) before n k j (inr (inr x)) (inr (inl y)) = absurd (apart before l x.0 y.0 x.1)
    one_fault (l ∷ ls) before n k j (inr (inr x)) (inr (inr y)) =
        let same = one before l y.0 x.0 y.1 x.1 in
        one_fault ls (before ++ numbered n x.0 ∷ []) (n + 1) k j x.2
        (subst (λ (a : A). Bad (before ++ numbered n a ∷ []) (n + 1) ls j) same y.2)

  module _ (next : (before : List L) (l : List ℕ) → Found A (λ a. IsNext before l a)) where
    pub script_or_fault : (ls : List (List ℕ)) (before : List L) (n : ℕ) → ((script : List L) × Reads before n ls script) ⊎ ((k : ℕ) × Bad before n ls k)
    script_or_fault [] before n = inl ([], refl)
    script_or_fault (l ∷ ls) before n =
        elim (skipped_or_not l) [
          | inl skip ↦ elim (script_or_fault ls before (n + 1)) [
            | inl r ↦ inl (r.0, inl (skip, r.1))
            | inr k ↦ inr (k.0, inr (inl (skip, k.1)))
          ]
          | inr other ↦ elim (next before l) [
            | inl c ↦ elim (script_or_fault ls (before ++ numbered n c.0 ∷ []) (n + 1)) [
              | inl r ↦ inl (numbered n c.0 ∷ r.0, inr (c.0, r.0, c.1, refl, r.1))
              | inr k ↦ inr (k.0, inr (inr (c.0, c.1, k.1)))
            ]
            | inr none ↦ inr (n, inl (refl, other, none))
          ]
        ]

-- ---- a text, read line by line

-- a text is read up to here: what the rest reads as follows what was read, and the first line outside
-- in the rest is the first of all
pub record IsReadTo {A L : Type 0} (numbered : ℕ → A → L) (IsNext : List L → List ℕ → A → Type 0) (text : List ℕ) (before : List L) (n : ℕ) (rest : List ℕ) : Type 0 where
  pub reads : (more : List L) → ReadsAs numbered IsNext before n (lines_of rest) more → ReadsAs numbered IsNext [] 1 (lines_of text) (before ++ more)
  pub outside : (k : ℕ) → IsFirstBad numbered IsNext before n (lines_of rest) k → IsFirstBad numbered IsNext [] 1 (lines_of text) k
  pub number : n + length rest ≤ length text + 1
  pub count : length before + length rest ≤ length text

pub none_read : {A L : Type 0} (numbered : ℕ → A → L) (IsNext : List L → List ℕ → A → Type 0) (text : List ℕ) → IsReadTo numbered IsNext text [] 1 text
none_read numbered IsNext text = record { reads = λ more h. h; outside = λ k h. h; number = omega arith; count = omega arith }

pub line_read : {A L : Type 0} {numbered : ℕ → A → L} {IsNext : List L → List ℕ → A → Type 0} {text : List ℕ} {before : List L} {n : ℕ} {rest : List ℕ} (line after : List ℕ) (read : Option L) (now : List L)
    → lines_of rest ≡ line ∷ lines_of after → length after < length rest → now ≡ before ++ option_to_list read → ReadsPart A L numbered IsNext before n line read
    → IsReadTo numbered IsNext text before n rest → IsReadTo numbered IsNext text now (n + 1) after
line_read {A} {L} {numbered} {IsNext} {text} {before} {n} {rest} line after read now lines shorter kept part so_far = record {
  reads = λ more later.
      let next : ReadsAs numbered IsNext before n (line ∷ lines_of after) (option_to_list read ++ more) =
      reads_more A L numbered IsNext before n line (lines_of after) read more part (subst (λ (b : List L). ReadsAs numbered IsNext b (n + 1) (lines_of after) more) kept later) in
      rw (kept, append_assoc) (so_far.reads (option_to_list read ++ more) (rw lines next));
  outside = λ k later.
      let next : IsFirstBad numbered IsNext before n (line ∷ lines_of after) k =
      bad_later A L numbered IsNext before n line (lines_of after) read k part (subst (λ (b : List L). IsFirstBad numbered IsNext b (n + 1) (lines_of after) k) kept later) in
      so_far.outside k (rw lines next);
  number = omega (arith, shorter, so_far.number);
  count = omega (arith, ap length kept, counted before read, shorter, so_far.count);
}

pub all_read : {A L : Type 0} {numbered : ℕ → A → L} {IsNext : List L → List ℕ → A → Type 0} {text : List ℕ} {before : List L} {n : ℕ} {rest : List ℕ}
    → (length rest == 0) ≡ true → IsReadTo numbered IsNext text before n rest → ReadsAs numbered IsNext [] 1 (lines_of text) before
all_read {A} {L} {numbered} {IsNext} {text} {before} {n} {rest} empty so_far =
    let none : rest ≡ [] = nil_from_length rest (eqb-true (length rest) 0 empty) in
    subst (λ (zs : List L). ReadsAs numbered IsNext [] 1 (lines_of text) zs) (append-nil before) (so_far.reads [] (rw none refl))
