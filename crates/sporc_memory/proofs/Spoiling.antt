-- A loop that puts one byte at each place that is in one of some ranges, and the images that are
-- listed so.
use Rattle.std.proofs.Common.{◌≡◌, ◌⊎◌, ℕ, ◌+◌, ◌<◌, ◌≤◌, inl, inr, List, [], ◌∷◌, ◌++◌, length, slice_index, set, length-set, ap, subst, sym, ◌∙◌, arith, get_or-set_same, get_or-set_other}
use Rattle.sporc_memory.proofs.Common.{eq-or-lt_of_le, DiskState, IsUnsynced}
use Rattle.sporc_memory.specs.MemoryDisk.{AddsSpoilt, AreListed}

-- so far, as of these bytes
pub record SpoiltTo (ranges : List (ℕ × ℕ)) (byte : ℕ) (at : ℕ) (old image : List ℕ) : Type 0 where
  pub as_long : length image ≡ length old
  pub spoilt : (i : ℕ) → i < at → IsUnsynced ranges i → slice_index image i ≡ byte
  pub others : (i : ℕ) → (IsUnsynced ranges i → ⊥) → slice_index image i ≡ slice_index old i

-- one place more, which is in a range
pub spoils_one : (ranges : List (ℕ × ℕ)) (byte : ℕ) (at : ℕ) (old image : List ℕ) → at < length image → IsUnsynced ranges at
    → SpoiltTo ranges byte at old image → SpoiltTo ranges byte (at + 1) old (set image at byte)
spoils_one ranges byte at old image fits is before = record {
  as_long = length-set image at byte ∙ before.as_long;
  spoilt = λ i lt unsynced. at_or_before i unsynced (up_to i lt);
  others = λ i synced. get_or-set_other image at i byte 0 (λ same. synced (subst (IsUnsynced ranges) (sym same) is)) ∙ before.others i synced;
} where
  up_to : (i : ℕ) → i < at + 1 → (i ≡ at) ⊎ (i < at)
  up_to i lt = let le : i ≤ at = omega (arith, lt) in eq-or-lt_of_le le

  at_or_before : (i : ℕ) → IsUnsynced ranges i → (i ≡ at) ⊎ (i < at) → slice_index (set image at byte) i ≡ byte
  at_or_before i unsynced (inl same) = subst (λ (k : ℕ). slice_index (set image at byte) k ≡ byte) (sym same) (get_or-set_same image at byte 0 fits)
  at_or_before i unsynced (inr lt) = get_or-set_other image at i byte 0 (λ same. absurd (omega (arith, same, lt))) ∙ before.spoilt i lt unsynced

-- one place more, which is in none
pub leaves_one : (ranges : List (ℕ × ℕ)) (byte : ℕ) (at : ℕ) (old image : List ℕ) → (IsUnsynced ranges at → ⊥)
    → SpoiltTo ranges byte at old image → SpoiltTo ranges byte (at + 1) old image
leaves_one ranges byte at old image synced before = record {
  as_long = before.as_long;
  spoilt = λ i lt unsynced. at_or_before i unsynced (up_to i lt);
  others = before.others;
} where
  up_to : (i : ℕ) → i < at + 1 → (i ≡ at) ⊎ (i < at)
  up_to i lt = let le : i ≤ at = omega (arith, lt) in eq-or-lt_of_le le

  at_or_before : (i : ℕ) → IsUnsynced ranges i → (i ≡ at) ⊎ (i < at) → slice_index image i ≡ byte
  at_or_before i unsynced (inl same) = absurd (synced (subst (IsUnsynced ranges) same unsynced))
  at_or_before i unsynced (inr lt) = before.spoilt i lt unsynced

-- four that are listed one behind the other
pub four_listed : (s : DiskState) (a b c d : List (List ℕ)) (same : List ℕ) → a ≡ same ∷ [] → same ≡ s.bytes
    → AddsSpoilt s 0 a b → AddsSpoilt s 1 b c → AddsSpoilt s 255 c d → AreListed s d
four_listed s a b c d same first is zeros ones highest =
    let add : List ℕ → List (List ℕ) → List (List ℕ) = λ image images. images ++ image ∷ [] in
    let four : d ≡ same ∷ zeros.image ∷ ones.image ∷ highest.image ∷ [] =
    highest.behind ∙ ap (add highest.image) (ones.behind ∙ ap (add ones.image) (zeros.behind ∙ ap (add zeros.image) first)) in
    subst (AreListed s) (sym four) (is, zeros.spoilt, ones.spoilt, highest.spoilt)
