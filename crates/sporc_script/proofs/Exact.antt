-- Readers that are exact: they give a value where its spelling is what is read, and nothing elsewhere.
use Rattle.std.proofs.Common.{◌≡◌, ℕ, Bool, true, List, ◌∷◌, ◌++◌, Option, Some, None, option_map, refl, sym, ap, ◌∙◌, subst}
use Rattle.sporc_base.proofs.ListLemmas.{found_passes}
use Rattle.sporc_script.proofs.Common.{if◌then◌else◌, bytes_eq, bytes_eq-Decides, cond_some, same_Some, cut, pair_of, passing, then_read, with_more, named_of}
use Rattle.sporc_script.proofs.Cuts.{IsWord, cut_word, cut_end, cut_sound}

pub none_unless : {A : Type 0} (o : Option A) → ((a : A) → o ≡ Some a → ⊥) → o ≡ None
none_unless None never = refl
none_unless (Some a) never = absurd (never a refl)

pub then_some : {A B : Type 0} (o : Option A) (f : A → Option B) (b : B) → then_read o f ≡ Some b → (a : A) × (o ≡ Some a) × (f a ≡ Some b)
then_some None f b e = cc
then_some (Some a) f b e = (a, refl, e)

pub map_some : {A B : Type 0} (o : Option A) (f : A → B) (b : B) → option_map f o ≡ Some b → (a : A) × (o ≡ Some a) × (f a ≡ b)
map_some None f b e = cc
map_some (Some a) f b e = (a, refl, same_Some (f a) b e)

pub record IsExact (A : Type 0) (In : A → Type 0) (spell : A → List ℕ) (read : List ℕ → Option A) : Type 0 where
  pub sound : (bytes : List ℕ) (a : A) → read bytes ≡ Some a → In a × (bytes ≡ spell a)
  pub complete : (a : A) → In a → read (spell a) ≡ Some a

-- its spelling is one word
abbrev pub AreWords : (A : Type 0) → (A → Type 0) → (A → List ℕ) → Type 0
AreWords A In spell = (a : A) → In a → IsWord (spell a)

-- the value is the one that is spelled
pub read_is : (A : Type 0) (In : A → Type 0) (spell : A → List ℕ) (read : List ℕ → Option A) → IsExact A In spell read
    → (bytes : List ℕ) (a : A) → In a → bytes ≡ spell a → read bytes ≡ Some a
read_is A In spell read exact bytes a range is = ap read is ∙ exact.complete a range

pub read_none : (A : Type 0) (In : A → Type 0) (spell : A → List ℕ) (read : List ℕ → Option A) → IsExact A In spell read
    → (bytes : List ℕ) → ((a : A) → In a → bytes ≡ spell a → ⊥) → read bytes ≡ None
read_none A In spell read exact bytes never = none_unless (read bytes) (λ a e. let h = exact.sound bytes a e in never a h.0 h.1)

pub passing_exact : (A : Type 0) (In : A → Type 0) (spell : A → List ℕ) (read : List ℕ → Option A) (test : A → Bool) → IsExact A In spell read
    → IsExact A (λ a. In a × (test a ≡ true)) spell (λ bytes. passing test (read bytes))
passing_exact A In spell read test exact = record {
  sound = λ bytes a e.
      let got = then_some (read bytes) (λ b. if test b then Some b else None) a e in
      let passed = cond_some (test got.0) got.0 a got.2 in
      let h = exact.sound bytes got.0 got.1 in
      subst (λ (b : A). (In b × (test b ≡ true)) × (bytes ≡ spell b)) passed.1 ((h.0, passed.0), h.1);
  complete = λ a range.
      ap (passing test) (exact.complete a range.0) ∙ ap (λ (t : Bool). if t then Some a else None) range.1;
}

-- a value in another shape
pub map_exact : (A B : Type 0) (In : A → Type 0) (spell : A → List ℕ) (read : List ℕ → Option A) → IsExact A In spell read
    → (to : A → B) (from : B → A) → ((a : A) → from (to a) ≡ a) → ((b : B) → to (from b) ≡ b)
    → IsExact B (λ b. In (from b)) (λ b. spell (from b)) (λ bytes. option_map to (read bytes))
map_exact A B In spell read exact to from back forth = record {
  sound = λ bytes b e.
      let got = map_some (read bytes) to b e in
      let h = exact.sound bytes got.0 got.1 in
      let same : got.0 ≡ from b = sym (back got.0) ∙ ap from got.2 in
      subst (λ (a : A). In a × (bytes ≡ spell a)) same h;
  complete = λ b range. ap (option_map to) (exact.complete (from b) range) ∙ ap Some (forth b);
}

-- a reading that is exact over a range is exact over an equal one
pub range_exact : (A : Type 0) (In In' : A → Type 0) (spell : A → List ℕ) (read : List ℕ → Option A) → IsExact A In spell read
    → ((a : A) → In a → In' a) → ((a : A) → In' a → In a) → IsExact A In' spell read
range_exact A In In' spell read exact there back = record {
  sound = λ bytes a e. let h = exact.sound bytes a e in (there a h.0, h.1);
  complete = λ a range. exact.complete a (back a range);
}

pub pair_exact : (A B : Type 0) (In : A → Type 0) (In' : B → Type 0) (spell : A → List ℕ) (spell' : B → List ℕ) (read : List ℕ → Option A) (read' : List ℕ → Option B)
    → IsExact A In spell read → AreWords A In spell → IsExact B In' spell' read'
    → IsExact (A × B) (λ p. In p.0 × In' p.1) (λ p. spell p.0 ++ 32 ∷ spell' p.1) (pair_of read read')
pair_exact A B In In' spell spell' read read' exact words exact' = record {
  sound = λ bytes p e.
      let parts = then_some (cut bytes) (λ c. then_read (read c.0) (λ a. then_read (read' c.1) (λ b. Some (a, b)))) p e in
      let first = then_some (read parts.0.0) (λ a. then_read (read' parts.0.1) (λ b. Some (a, b))) p parts.2 in
      let second = then_some (read' parts.0.1) (λ b. Some (first.0, b)) p first.2 in
      let h = exact.sound parts.0.0 first.0 first.1 in
      let k = exact'.sound parts.0.1 second.0 second.1 in
      let whole : bytes ≡ spell first.0 ++ 32 ∷ spell' second.0 = cut_sound bytes parts.0.0 parts.0.1 parts.1 ∙ ap (λ w. w ++ 32 ∷ parts.0.1) h.1 ∙ ap (λ r. spell first.0 ++ 32 ∷ r) k.1 in
      subst (λ (q : A × B). (In q.0 × In' q.1) × (bytes ≡ spell q.0 ++ 32 ∷ spell' q.1)) (same_Some (first.0, second.0) p second.2) ((h.0, k.0), whole);
  complete = λ p range.
      ap (λ (c : Option (List ℕ × List ℕ)). then_read c (λ parts. then_read (read parts.0) (λ a. then_read (read' parts.1) (λ b. Some (a, b)))))
      (cut_word (spell p.0) (spell' p.1) (words p.0 range.0))
      ∙ ap (λ (o : Option A). then_read o (λ a. then_read (read' (spell' p.1)) (λ b. Some (a, b)))) (exact.complete p.0 range.0)
      ∙ ap (λ (o : Option B). then_read o (λ b. Some (p.0, b))) (exact'.complete p.1 range.1);
}

-- what a word that others may follow is spelled as
abbrev pub with_spelling : {A B : Type 0} → (A → List ℕ) → (B → List ℕ) → A → Option B → List ℕ
with_spelling spell spell' a None = spell a
with_spelling spell spell' a (Some b) = spell a ++ 32 ∷ spell' b

abbrev pub IfIn : {B : Type 0} → (B → Type 0) → Option B → Type 0
IfIn In None = Unit {0}
IfIn In (Some b) = In b

module _ (A B : Type 0) (In : A → Type 0) (In' : B → Type 0) (spell : A → List ℕ) (spell' : B → List ℕ) (read : List ℕ → Option A) (read' : List ℕ → Option B) (exact : IsExact A In spell read) (words : AreWords A In spell) (exact' : IsExact B In' spell' read') where
  more_sound : (bytes : List ℕ) (p : A × Option B) (c : Option (List ℕ × List ℕ)) → cut bytes ≡ c → with_more read read' bytes c ≡ Some p → (In p.0 × IfIn In' p.1) × (bytes ≡ with_spelling spell spell' p.0 p.1)
  more_sound bytes p None was e =
      let got = map_some (read bytes) (λ a. (a, None)) p e in
      let h = exact.sound bytes got.0 got.1 in
      subst (λ (q : A × Option B). (In q.0 × IfIn In' q.1) × (bytes ≡ with_spelling spell spell' q.0 q.1)) got.2 ((h.0, tt), h.1)
  more_sound bytes p (Some parts) was e =
      let first = then_some (read parts.0) (λ a. option_map (λ b. (a, Some b)) (read' parts.1)) p e in
      let second = map_some (read' parts.1) (λ b. (first.0, Some b)) p first.2 in
      let h = exact.sound parts.0 first.0 first.1 in
      let k = exact'.sound parts.1 second.0 second.1 in
      let whole : bytes ≡ spell first.0 ++ 32 ∷ spell' second.0 = cut_sound bytes parts.0 parts.1 was ∙ ap (λ w. w ++ 32 ∷ parts.1) h.1 ∙ ap (λ r. spell first.0 ++ 32 ∷ r) k.1 in
      subst (λ (q : A × Option B). (In q.0 × IfIn In' q.1) × (bytes ≡ with_spelling spell spell' q.0 q.1)) second.2 ((h.0, k.0), whole)

  more_complete : (a : A) (o : Option B) → In a → IfIn In' o → with_more read read' (with_spelling spell spell' a o) (cut (with_spelling spell spell' a o)) ≡ Some (a, o)
  more_complete a None range _ =
      ap (with_more read read' (spell a)) (cut_end (spell a) (words a range))
      ∙ ap (λ (o : Option A). option_map (λ x. (x, None)) o) (exact.complete a range)
  more_complete a (Some b) range more =
      ap (with_more read read' (spell a ++ 32 ∷ spell' b)) (cut_word (spell a) (spell' b) (words a range))
      ∙ ap (λ (o : Option A). then_read o (λ x. option_map (λ y. (x, Some y)) (read' (spell' b)))) (exact.complete a range)
      ∙ ap (λ (o : Option B). option_map (λ y. (a, Some y)) o) (exact'.complete b more)

  pub with_exact : IsExact (A × Option B) (λ p. In p.0 × IfIn In' p.1) (λ p. with_spelling spell spell' p.0 p.1) (λ bytes. with_more read read' bytes (cut bytes))
  with_exact = record {
    sound = λ bytes p e. more_sound bytes p (cut bytes) refl e;
    complete = λ p range. more_complete p.0 p.1 range.0 range.1;
  }

pub named_exact : (A : Type 0) (name : A → List ℕ) (all : List A) → ((a : A) → named_of name all (name a) ≡ Some a) → IsExact A (λ _. Unit {0}) name (named_of name all)
named_exact A name all each = record {
  sound = λ bytes a e. (tt, sym ((bytes_eq-Decides (name a) bytes).0 (found_passes (λ b. bytes_eq (name b) bytes) all a e)));
  complete = λ a _. each a;
}
