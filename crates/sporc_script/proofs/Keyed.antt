-- Readers of what a first word begins.
use Rattle.std.proofs.Common.{◌≡◌, ◌⊎◌, inl, inr, ℕ, Bool, true, false, List, ◌∷◌, ◌++◌, Option, Some, None, option_map, refl, sym, ap, ◌∙◌, subst}
use Rattle.sporc_script.proofs.Common.{IsSomeAnd, MatchOption, ◌≢◌, if◌then◌else◌, bytes_eq, same_Some, bytes_eq-Decides, cut, behind_of, keyed_of, lone_or, then_read}
use Rattle.sporc_script.proofs.Cuts.{IsWord, cut_sound, cut_word}
use Rattle.sporc_script.proofs.Exact.{IsExact, map_some, read_is, read_none, then_some}

read_if : {A : Type 0} (t : Bool) (o : Option A) (a : A) → (if t then o else None) ≡ Some a → (t ≡ true) × (o ≡ Some a)
read_if true o a e = (refl, e)
read_if false o a e = cc

-- what the reader of one first word tells of the value
pub variant_sound : (A B : Type 0) (In : A → Type 0) (spell : A → List ℕ) (read : List ℕ → Option A) → IsExact A In spell read
    → (In' : B → Type 0) (spell' : B → List ℕ) (name : List ℕ) (to : A → B)
    → ((a : A) → In a → In' (to a)) → ((a : A) → name ++ 32 ∷ spell a ≡ spell' (to a))
    → (bytes : List ℕ) (b : B) → option_map to (read bytes) ≡ Some b → In' b × (name ++ 32 ∷ bytes ≡ spell' b)
variant_sound A B In spell read exact In' spell' name to range same bytes b e =
    let got = map_some (read bytes) to b e in
    let h = exact.sound bytes got.0 got.1 in
    subst (λ (x : B). In' x × (name ++ 32 ∷ bytes ≡ spell' x)) got.2
    (range got.0 h.0, ap (λ r. name ++ 32 ∷ r) h.1 ∙ same got.0)

-- a spelling that begins with the name of a first word, whose reader gives the value
pub record Begins (K A : Type 0) (name : K → List ℕ) (spell : A → List ℕ) (read : K → List ℕ → Option A) (a : A) : Type 0 where
  pub word : K
  pub rest : List ℕ
  pub spelled : spell a ≡ name word ++ 32 ∷ rest
  pub reads : read word rest ≡ Some a

pub keyed_exact : (K A : Type 0) (name : K → List ℕ) (word_of : List ℕ → Option K) → IsExact K (λ _. Unit {0}) name word_of → ((k : K) → IsWord (name k))
    → (In : A → Type 0) (spell : A → List ℕ) (read : K → List ℕ → Option A)
    → ((k : K) (bytes : List ℕ) (a : A) → read k bytes ≡ Some a → In a × (name k ++ 32 ∷ bytes ≡ spell a))
    → ((a : A) → In a → Begins K A name spell read a)
    → IsExact A In spell (keyed_of word_of read)
keyed_exact K A name word_of exact words In spell read sound complete = record {
  sound = λ bytes a e.
      let parts = then_some (cut bytes) (λ p. then_read (word_of p.0) (λ k. read k p.1)) a e in
      let word = then_some (word_of parts.0.0) (λ k. read k parts.0.1) a parts.2 in
      let named = exact.sound parts.0.0 word.0 word.1 in
      let h = sound word.0 parts.0.1 a word.2 in
      (h.0, cut_sound bytes parts.0.0 parts.0.1 parts.1 ∙ ap (λ w. w ++ 32 ∷ parts.0.1) named.1 ∙ h.1);
  complete = λ a range.
      let b = complete a range in
      ap (keyed_of word_of read) b.spelled
      ∙ ap (λ (c : Option (List ℕ × List ℕ)). then_read c (λ p. then_read (word_of p.0) (λ k. read k p.1))) (cut_word (name b.word) b.rest (words b.word))
      ∙ ap (λ (o : Option K). then_read o (λ k. read k b.rest)) (exact.complete b.word tt)
      ∙ b.reads;
}

-- those in range whose spelling is not this word alone
abbrev pub IsMoreThan : {A : Type 0} → List ℕ → (A → Type 0) → (A → List ℕ) → A → Type 0
IsMoreThan name In spell a = In a × (bytes_eq (spell a) name ≡ false)

-- a word that stands alone for a value, or what others are
lone_sound : (A : Type 0) (name : List ℕ) (value : A) (In In' : A → Type 0) (spell : A → List ℕ) (read : List ℕ → Option A) → IsExact A In' spell read
    → In value → spell value ≡ name → ((a : A) → In' a → In a)
    → (bytes : List ℕ) (a : A) (t : Bool) → bytes_eq bytes name ≡ t → (if t then Some value else read bytes) ≡ Some a → In a × (bytes ≡ spell a)
lone_sound A name value In In' spell read exact range named wider bytes a true is e =
    let same : bytes ≡ name = (bytes_eq-Decides bytes name).0 is in
    subst (λ (x : A). In x × (bytes ≡ spell x)) (same_Some value a e) (range, same ∙ sym named)
lone_sound A name value In In' spell read exact range named wider bytes a false is e =
    let h = exact.sound bytes a e in (wider a h.0, h.1)

pub lone_exact : (A : Type 0) (name : List ℕ) (value : A) (In In' : A → Type 0) (spell : A → List ℕ) (read : List ℕ → Option A) → IsExact A In' spell read
    → In value → spell value ≡ name → ((a : A) → In' a → In a)
    → ((a : A) → In a → (a ≡ value) ⊎ (In' a × (bytes_eq (spell a) name ≡ false)))
    → IsExact A In spell (lone_or name value read)
lone_exact A name value In In' spell read exact range named wider cases = record {
  sound = λ bytes a e. lone_sound A name value In In' spell read exact range named wider bytes a (bytes_eq bytes name) refl e;
  complete = λ a h.
      elim (cases a h) [
        | inl is ↦
            let same : spell a ≡ name = ap spell is ∙ named in
            ap (λ (t : Bool). if t then Some value else read (spell a)) ((bytes_eq-Decides (spell a) name).1 same) ∙ ap (λ (x : A). Some x) (sym is)
        | inr other ↦ ap (λ (t : Bool). if t then Some value else read (spell a)) other.1 ∙ exact.complete a other.0
      ];
}

-- a name that was found is the one that is read
pub named_is : (K : Type 0) (name : K → List ℕ) (word_of : List ℕ → Option K) → IsExact K (λ _. Unit {0}) name word_of
    → (word : List ℕ) (found : Option K) → MatchOption found ((k : K) → word ≢ name k) (λ k. word ≡ name k) → found ≡ word_of word
named_is K name word_of exact word None none = sym (read_none K (λ _. Unit {0}) name word_of exact word (λ k _ is. none k is))
named_is K name word_of exact word (Some k) is = sym (read_is K (λ _. Unit {0}) name word_of exact word k tt is)

-- what stands behind a word
pub behind_exact : (A : Type 0) (In : A → Type 0) (spell : A → List ℕ) (read : List ℕ → Option A) → IsExact A In spell read
    → (name : List ℕ) → IsWord name → IsExact A In (λ a. name ++ 32 ∷ spell a) (behind_of name read)
behind_exact A In spell read exact name word = record {
  sound = λ bytes a e.
      let parts = then_some (cut bytes) (λ p. if bytes_eq p.0 name then read p.1 else None) a e in
      let kept = read_if (bytes_eq parts.0.0 name) (read parts.0.1) a parts.2 in
      let h = exact.sound parts.0.1 a kept.1 in
      let named : parts.0.0 ≡ name = (bytes_eq-Decides parts.0.0 name).0 kept.0 in
      (h.0, cut_sound bytes parts.0.0 parts.0.1 parts.1 ∙ ap (λ w. w ++ 32 ∷ parts.0.1) named ∙ ap (λ r. name ++ 32 ∷ r) h.1);
  complete = λ a range.
      ap (λ (c : Option (List ℕ × List ℕ)). then_read c (λ p. if bytes_eq p.0 name then read p.1 else None)) (cut_word name (spell a) word)
      ∙ ap (λ (t : Bool). if t then read (spell a) else None) ((bytes_eq-Decides name name).1 refl)
      ∙ exact.complete a range;
}

-- what is read behind a word is read of what stands behind it
pub behind_then : (A : Type 0) (name : List ℕ) (read : List ℕ → Option A) (words rest : List ℕ) → behind_of name Some words ≡ Some rest → behind_of name read words ≡ read rest
behind_then A name read words rest is = by_cut (cut words) is
  where
    by_test : (t : Bool) (more : List ℕ) → (if t then Some more else None) ≡ Some rest → (if t then read more else None) ≡ read rest
    by_test true more e = ap read (same_Some more rest e)
    by_test false more e = cc

    by_cut : (c : Option (List ℕ × List ℕ)) → then_read c (λ p. if bytes_eq p.0 name then Some p.1 else None) ≡ Some rest → then_read c (λ p. if bytes_eq p.0 name then read p.1 else None) ≡ read rest
    by_cut None e = cc
    by_cut (Some p) e = by_test (bytes_eq p.0 name) p.1 e

-- what a value that may be there becomes
pub mapped : {A B : Type 0} (to : A → B) (o : Option A) (r : Option B) → MatchOption o (r ≡ None) (λ a. IsSomeAnd r (λ b. b ≡ to a)) → r ≡ option_map to o
mapped to None r is = is
mapped to (Some a) None is = absurd is
mapped to (Some a) (Some b) is = ap (λ x. Some x) is
