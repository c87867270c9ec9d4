-- Entries by their numbers.
use Rattle.std.proofs.Common.{◌≡◌, ℕ, zero, suc, ◌+◌, ◌-◌, ◌<◌, List, [], ◌∷◌, ◌++◌, length, get_or, map, drop, drop-cons, add-one, append_assoc, Some, Option, Vec, Global, refl, ap, sym, subst}
use Rattle.std.proofs.Common.{arith, ◌∙◌, option_map}
use Rattle.sporc_play.proofs.Common.{false, is_some, None, Result, Ok, Err, slice_get, entries_found, entries_at, entry_at, with_entry, slice_get_read, slice_get-map}
use Rattle.sporc_play.proofs.Common.{ClientModel, Join, MemoryDiskModel, Seat, Setup, joining_from, joining_of, seat_joining, state_of}
use Rattle.sporc_play.specs.declared.made.Found.{Found}
use Rattle.sporc_play.specs.declared.made.Found.TheVariants.{Entries}

abbrev bytes_of : Vec ℕ Global → List ℕ
bytes_of v = v.items

get_there : (made : List (Vec ℕ Global)) (i : ℕ) (entry : Vec ℕ Global) → i < length made → entry ≡ get_or made i entry → slice_get (map bytes_of made) i ≡ Some (bytes_of entry)
get_there made i entry low is = slice_get-map bytes_of made i ∙ ap (option_map bytes_of) (slice_get_read made (length made) i entry refl low is)

-- an entry with a number above 0
pub entry_there : (made : List (Vec ℕ Global)) (n : ℕ) (entry : Vec ℕ Global) → (n ≡ 0 → ⊥) → n - 1 < length made → entry ≡ get_or made (n - 1) entry
    → Some (bytes_of entry) ≡ entry_at (map bytes_of made) n
entry_there made zero entry some low is = absurd (some refl)
entry_there made (suc n) entry some low is =
    let same : suc n - 1 ≡ n = omega arith in
    let there : entry ≡ get_or made n entry = subst (λ (i : ℕ). entry ≡ get_or made i entry) same is in
    sym (get_there made n entry (omega arith) there)

-- entries that were found in front of what is left
abbrev pub behind : List (List ℕ) → Result (List (List ℕ)) ℕ → Result (List (List ℕ)) ℕ
behind found (Ok rest) = Ok (found ++ rest)
behind found (Err missing) = Err missing

behind_found : (found : List (List ℕ)) (entry : List ℕ) (n : ℕ) (at : Option (List ℕ)) (rest : Result (List (List ℕ)) ℕ) → Some entry ≡ at → behind found (with_entry n at rest) ≡ behind (found ++ entry ∷ []) rest
behind_found found entry n at rest is = subst (λ (o : Option (List ℕ)). behind found (with_entry n o rest) ≡ behind (found ++ entry ∷ []) rest) is (go rest)
  where
    go : (r : Result (List (List ℕ)) ℕ) → behind found (with_entry n (Some entry) r) ≡ behind (found ++ entry ∷ []) r
    go (Ok entries) = ap Ok (sym (append_assoc found (entry ∷ []) entries))
    go (Err missing) = refl

-- one more entry is found
pub found_more : (made found : List (List ℕ)) (entry : List ℕ) (numbers : List ℕ) (i : ℕ) → i < length numbers → Some entry ≡ entry_at made (get_or numbers i 0)
    → behind found (entries_at made (drop i numbers)) ≡ behind (found ++ entry ∷ []) (entries_at made (drop (i + 1) numbers))
found_more made found entry numbers i low there = rw (add-one, drop-cons numbers i 0) (behind_found found entry _ _ (entries_at made (drop (suc i) numbers)) there)

-- all entries are found
pub all_found : (made : List (List ℕ)) (numbers slice : List ℕ) (found : Found) (entries : Vec (Vec ℕ Global) Global) (items : List (Vec ℕ Global))
    → found ≡ Entries entries → entries_found found ≡ entries_at made slice → slice ≡ numbers → items ≡ entries.items → entries_at made numbers ≡ Ok (map bytes_of items)
all_found made numbers slice found entries items is value same read =
    ap (λ (ns : List ℕ). entries_at made ns) (sym same) ∙ sym value ∙ ap entries_found is ∙ ap (λ (xs : List (Vec ℕ Global)). Ok (map bytes_of xs)) (sym read)

pub none_there : {X : Type 0} (o : Option X) → false ≡ is_some o → o ≡ None
none_there o is = grind arith

-- a seat without a client joins by entries that are found
pub joining_found : (s : Setup) (made : List (List ℕ)) (j : Join) (seat : Seat) (entries : List (List ℕ)) → entries_at made j.entries ≡ Ok entries → seat.client ≡ None
    → joining_from s seat.device (Ok entries) ≡ seat_joining s made j seat
joining_found s made j seat entries found none =
    ap (joining_from s seat.device) (sym found)
    ∙ ap (λ (o : Option (ClientModel MemoryDiskModel)). joining_of s seat.device (entries_at made j.entries) (option_map state_of o)) (sym none)
