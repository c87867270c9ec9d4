-- The bodies of entries.
use Rattle.std.proofs.Common.{◌≡◌, ◌∙◌, ℕ, ◌+◌, ◌<◌, ◌≤◌, List, [], ◌∷◌, ◌++◌, length, take, get_or, map, Result, Ok, Err, OnOk, Vec, Global, ap, arith, append_assoc, length-append, sym}
use Rattle.sporc_wire.proofs.Common.{length-map, flat_map_more, take_more, take_all, flat_map, w32, to_be_bytes, counted, Entries, to_client_bytes, flat_map-map, ENTRIES}

-- the bytes of an entry, and how they are written
abbrev bytes : Vec ℕ Global → List ℕ
bytes entry = entry.items

abbrev written : Vec ℕ Global → List ℕ
written entry = counted (bytes entry)

module _ (first : ℕ) (entries : List (Vec ℕ Global)) where
  -- the body of an Entries of these entries
  abbrev body : List ℕ
  body = to_client_bytes (Entries first (map bytes entries))

  list_is : flat_map counted (map bytes entries) ≡ flat_map written entries
  list_is = flat_map-map counted bytes entries

  -- it has six bytes more than the counted entries
  pub body_length : length body ≡ length (flat_map written entries) + 6
  body_length =
      omega (arith, length-append (to_be_bytes w32 first) (length (map bytes entries) ∷ flat_map counted (map bytes entries)), ap length list_is)

  -- it is written field by field
  body_written : (old : List ℕ) → (((old ++ ENTRIES ∷ []) ++ to_be_bytes w32 first) ++ length entries ∷ []) ++ flat_map written entries ≡ old ++ body
  body_written old =
      let n = length-map entries bytes in
      let L = flat_map written entries in
      append_assoc ((old ++ ENTRIES ∷ []) ++ to_be_bytes w32 first) (length entries ∷ []) L
      ∙ append_assoc (old ++ ENTRIES ∷ []) (to_be_bytes w32 first) (length entries ∷ L)
      ∙ append_assoc old (ENTRIES ∷ []) (to_be_bytes w32 first ++ (length entries ∷ L))
      ∙ ap (λ (k : ℕ). old ++ (ENTRIES ∷ to_be_bytes w32 first ++ (k ∷ L))) (sym n)
      ∙ ap (λ (l : List ℕ). old ++ (ENTRIES ∷ to_be_bytes w32 first ++ (length (map bytes entries) ∷ l))) (sym list_is)

  pub body_put : {X E : Type 0} (r : Result X E) (old kind place count new : List ℕ) → kind ≡ old ++ ENTRIES ∷ [] → place ≡ kind ++ to_be_bytes w32 first
      → count ≡ place ++ length entries ∷ [] → OnOk r (new ≡ count ++ flat_map written entries) → OnOk r (new ≡ old ++ body)
  body_put (Ok x) old kind place count new is_kind is_place is_count is =
      let L = flat_map written entries in
      is ∙ ap (λ (l : List ℕ). l ++ L) is_count ∙ ap (λ (l : List ℕ). (l ++ length entries ∷ []) ++ L) is_place
      ∙ ap (λ (l : List ℕ). ((l ++ to_be_bytes w32 first) ++ length entries ∷ []) ++ L) is_kind ∙ body_written old
  body_put (Err e) old kind place count new is_kind is_place is_count is = tt

-- counted entries are appended one by one, and then all of them are
module _ (entries : List (Vec ℕ Global)) where
  pub put_more : (i : ℕ) (entry : Vec ℕ Global) (given first old new : List ℕ) → i < length entries → entry ≡ get_or entries i entry → given ≡ bytes entry
      → old ≡ first ++ flat_map written (take i entries) → new ≡ old ++ counted given
      → new ≡ first ++ flat_map written (take (i + 1) entries)
  put_more i entry given first old new within is same before more =
      more ∙ ap (λ (t : List ℕ). old ++ counted t) same ∙ ap (λ (t : List ℕ). t ++ written entry) before ∙ flat_map_more written first (take i entries) entry
      ∙ ap (λ (e : Vec ℕ Global). first ++ flat_map written (take i entries ++ e ∷ [])) is
      ∙ ap (λ (es : List (Vec ℕ Global)). first ++ flat_map written es) (sym (take_more entries i entry within))

  pub put_all : (i : ℕ) (first new : List ℕ) → length entries ≤ i → new ≡ first ++ flat_map written (take i entries)
      → new ≡ first ++ flat_map written entries
  put_all i first new end before = before ∙ ap (λ (es : List (Vec ℕ Global)). first ++ flat_map written es) (take_all i entries end)
