-- A text in chunks.
use Rattle.std.specs.Prelude.{◌≡◌, ℕ, ◌+◌, ◌-◌, ◌*◌, ◌<◌, ◌≤◌, List, [], ◌∷◌, length, take}
use Rattle.std.specs.Prelude.{slice_index_or, ⊤}
use Rattle.std.specs.List.{concat}
use Rattle.sporc_text.specs.declared.limits.TheConstants.{MAX_CHUNK, MAX_JOINED, MEAN_CHUNK}

-- the first of these chunks isn't joined to one of so many characters in front of it
abbrev pub IsApart : ℕ → List (List ℕ) → Type 0
IsApart n [] = ⊤
IsApart n (c ∷ cs) = MAX_JOINED < n + length c

-- a chunk in front of these
pub record IsInFront (c : List ℕ) (cs : List (List ℕ)) : Type 0 where
  pub some : 0 < length c
  pub most : length c ≤ MAX_CHUNK
  pub apart : IsApart (length c) cs

-- no chunk is empty or too long, and no two neighbours hold few characters together
abbrev pub AreChunks : List (List ℕ) → Type 0
AreChunks [] = ⊤
AreChunks (c ∷ cs) = IsInFront c cs × AreChunks cs

-- the last of these chunks is joined to one of so many characters behind it
abbrev pub Joins : List (List ℕ) → ℕ → Type 0
Joins cs n = (0 < length cs) × (length (slice_index_or cs (length cs - 1) []) + n ≤ MAX_JOINED)

-- a list of this capacity has room for one more chunk behind those of so many characters
abbrev pub HasRoom : ℕ → ℕ → Type 0
HasRoom capacity len = len + MEAN_CHUNK < MEAN_CHUNK * capacity

-- the place stands in this chunk or at its end, so many characters behind its beginning; it is the
-- last place if there is no such chunk
pub record IsAt (chunks : List (List ℕ)) (place i offset : ℕ) : Type 0 where
  pub index : i ≤ length chunks
  pub before : length (concat (take i chunks)) + offset ≡ place
  pub within : offset ≤ length (slice_index_or chunks i [])

-- the chunk can give way to one of so many characters
pub record Fits (chunks : List (List ℕ)) (i n : ℕ) : Type 0 where
  pub some : 0 < n
  pub most : n ≤ MAX_CHUNK
  pub front : 0 < i → MAX_JOINED < length (slice_index_or chunks (i - 1) []) + n
  pub back : i + 1 < length chunks → MAX_JOINED < n + length (slice_index_or chunks (i + 1) [])

-- of the chunk so many characters, from a place on, can give way to so many others
pub record IsWithin (chunks : List (List ℕ)) (i offset removed added : ℕ) : Type 0 where
  pub index : i < length chunks
  pub within : offset + removed ≤ length (slice_index_or chunks i [])
  pub fits : Fits chunks i (length (slice_index_or chunks i []) - removed + added)

-- what holds of a text at every moment
pub record DocInvariant (chunks : List (List ℕ)) (len : ℕ) : Type 0 where
  pub are_chunks : AreChunks chunks
  pub len_is : len ≡ length (concat chunks)
