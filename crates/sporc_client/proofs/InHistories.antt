-- What an entry of a good history says of the history before it and of the entries of its author's device, and what edits of others behind it leave.
use Rattle.std.proofs.Common.{◌≡◌, ℕ, suc, ◌+◌, ◌<◌, ◌≤◌, Bool, true, List, [], ◌∷◌, ◌++◌, length, take, drop, ap, sym, ◌∙◌, subst, arith, Some, Ok, inl, inr, false, cond, refl, Option}
use Rattle.sporc_client.proofs.Common.{fold, is_some, slice_get, AllByRecursion, cons_option, take-append-drop, take-take, length-take-le, append-nil, sum_by-append, fold-append, Contains-append_left}
use Rattle.sporc_client.proofs.Common.{Contains-append_right, Contains-append_cases, filter_map-append, cases_order, Device, one_same, CollisionFree, chain_strings, key_strings, Entry, Genesis}
use Rattle.sporc_client.proofs.Common.{author_device, entry_of, genesis_bytes, count_of, epoch_of, hash_of, is_read_by, CommittedChange, barrier_of, change_in, changes, last_from, last_of, Kit}
use Rattle.sporc_client.proofs.Common.{epoch_key, line_strings, Good, take_slice_get_more, Passes, good_entry, IsOthersEdit}
use Rattle.std.specs.List.{Contains, count_by}
use Rattle.std.proofs.lemmas.Option.{slice_get_within}
use Rattle.sporc_hash.proofs.SameHistory.{one_value_one_history}
use Rattle.sporc_hash.proofs.Prefixes.{one_value_one_prefix}
use Rattle.sporc_head.specs.History.{is_by}

-- ---- one value, one history

-- the strings of the chains are among those of the histories
chains_free : (g : Genesis) (kit kit' : Kit) (A B : List (List ℕ)) → CollisionFree (line_strings g kit A ++ line_strings g kit' B)
    → CollisionFree (chain_strings (genesis_bytes g) A ++ chain_strings (genesis_bytes g) B)
chains_free g kit kit' A B free x y in_x in_y same = free x y (more x in_x) (more y in_y) same
  where
    more : (z : List ℕ) → Contains (chain_strings (genesis_bytes g) A ++ chain_strings (genesis_bytes g) B) z → Contains (line_strings g kit A ++ line_strings g kit' B) z
    more z h = elim (Contains-append_cases (chain_strings (genesis_bytes g) A) (chain_strings (genesis_bytes g) B) z h) [
      | inl p ↦ Contains-append_left (line_strings g kit A) (line_strings g kit' B) z (Contains-append_left (chain_strings (genesis_bytes g) A) (key_strings g.document (epoch_key g kit A) (epoch_of A + 1)) z p)
      | inr p ↦ Contains-append_right (line_strings g kit A) (line_strings g kit' B) z (Contains-append_left (chain_strings (genesis_bytes g) B) (key_strings g.document (epoch_key g kit' B) (epoch_of B + 1)) z p)
    ]

pub one_hash : (g : Genesis) (kit kit' : Kit) (A B : List (List ℕ)) → CollisionFree (line_strings g kit A ++ line_strings g kit' B) → hash_of g A ≡ hash_of g B → A ≡ B
one_hash g kit kit' A B free h = one_value_one_history (genesis_bytes g) A B (chains_free g kit kit' A B free) h

pub one_prefix : (g : Genesis) (kit kit' : Kit) (A B : List (List ℕ)) (m n : ℕ) → CollisionFree (line_strings g kit A ++ line_strings g kit' B)
    → hash_of g (take m A) ≡ hash_of g (take n B) → take m A ≡ take n B
one_prefix g kit kit' A B m n free h = one_value_one_prefix (genesis_bytes g) A B m n (chains_free g kit kit' A B free) h

-- ---- the entry at a place

pub passes_at : (g : Genesis) (kit : Kit) (A : List (List ℕ)) (x : ℕ) (b : List ℕ) (e : Entry) → Good g kit A → slice_get A x ≡ Some b → entry_of b ≡ Ok e → Passes g kit (take x A) (x + 1) e
passes_at g kit A x b e good at is =
    let p = good_entry g kit A x b good at in
    let read = p.1 in
    let same : p.0 ≡ e = cc in
    subst (Passes g kit (take x A) (x + 1)) same p.2

-- it names the history up to its base
pub named_prefix : (g : Genesis) (kit : Kit) (A : List (List ℕ)) (x : ℕ) (b : List ℕ) (e : Entry) → Good g kit A → slice_get A x ≡ Some b → entry_of b ≡ Ok e
    → (e.header.base ≤ x) × (e.header.base_hash ≡ hash_of g (take e.header.base A))
named_prefix g kit A x b e good at is =
    let q = passes_at g kit A x b e good at is in
    let w : x < length A = slice_get_within A x b at in
    let xs : x ≤ length A = omega (arith, w) in
    let l : length (take x A) ≡ x = length-take-le x A xs in
    let le : e.header.base ≤ x = omega (arith, q.base, l) in
    (le, q.history ∙ ap (hash_of g) (take-take e.header.base x A le))

-- histories that hold one entry agree up to its base
pub same_base : (g : Genesis) (kit kit' : Kit) (A B : List (List ℕ)) (x y : ℕ) (b : List ℕ) (e : Entry) → Good g kit A → Good g kit' B
    → CollisionFree (line_strings g kit A ++ line_strings g kit' B) → slice_get A x ≡ Some b → slice_get B y ≡ Some b → entry_of b ≡ Ok e
    → take e.header.base A ≡ take e.header.base B
same_base g kit kit' A B x y b e good good' free at at' is =
    let p = named_prefix g kit A x b e good at is in
    let q = named_prefix g kit' B y b e good' at' is in
    one_prefix g kit kit' A B e.header.base e.header.base free (sym p.1 ∙ q.1)

-- ---- authors and numbers

count-take-le : (p : List ℕ → Bool) (A : List (List ℕ)) (m n : ℕ) → m ≤ n → count_by p (take m A) ≤ count_by p (take n A)
count-take-le p A m n h =
    let e : take m A ++ drop m (take n A) ≡ take n A = ap (λ l. l ++ drop m (take n A)) (sym (take-take m n A h)) ∙ take-append-drop m (take n A) in
    let c : count_by p (take n A) ≡ count_by p (take m A) + count_by p (drop m (take n A)) = ap (count_by p) (sym e) ∙ sum_by-append (λ x. cond (p x) 1 0) (take m A) (drop m (take n A)) in
    omega (arith, c)

-- an entry adds one to the count of its author's device
count_own : (A : List (List ℕ)) (x : ℕ) (b : List ℕ) (e : Entry) → slice_get A x ≡ Some b → entry_of b ≡ Ok e
    → count_of (author_device e.header) (take (suc x) A) ≡ count_of (author_device e.header) (take x A) + 1
unfolding is_by
count_own A x b e at is =
    let author : is_by (author_device e.header) b ≡ true = ap (is_read_by (author_device e.header)) is ∙ one_same (author_device e.header) in
    let t : take (suc x) A ≡ take x A ++ b ∷ [] = take_slice_get_more A x b at in
    ap (count_of (author_device e.header)) t ∙ sum_by-append (λ c. cond (is_by (author_device e.header) c) 1 0) (take x A) (b ∷ []) ∙ ap (λ (t : Bool). count_of (author_device e.header) (take x A) + (0 + cond t 1 0)) author

-- of two entries by one device the later one has the greater number
numbers_grow : (g : Genesis) (kit : Kit) (A : List (List ℕ)) (x y : ℕ) (b c : List ℕ) (e f : Entry) → Good g kit A → slice_get A x ≡ Some b → slice_get A y ≡ Some c
    → entry_of b ≡ Ok e → entry_of c ≡ Ok f → author_device e.header ≡ author_device f.header → x < y → e.header.number < f.header.number
numbers_grow g kit A x y b c e f good at at' is is' same h =
    let m = (passes_at g kit A x b e good at is).number in
    let n = (passes_at g kit A y c f good at' is').number in
    let own = count_own A x b e at is in
    let more = count-take-le (is_by (author_device e.header)) A (suc x) y h in
    let k : count_of (author_device f.header) (take y A) ≡ count_of (author_device e.header) (take y A) = ap (λ (d : Device). count_of d (take y A)) (sym same) in
    omega (arith, m, n, own, more, k)

-- no two places have one device and number
pub one_place : (g : Genesis) (kit : Kit) (A : List (List ℕ)) (x y : ℕ) (b c : List ℕ) (e f : Entry) → Good g kit A → slice_get A x ≡ Some b → slice_get A y ≡ Some c
    → entry_of b ≡ Ok e → entry_of c ≡ Ok f → author_device e.header ≡ author_device f.header → e.header.number ≡ f.header.number → x ≡ y
one_place g kit A x y b c e f good at at' is is' same number = elim (cases_order x y) [
  | inl h ↦ h
  | inr (inl h) ↦ absurd (omega (arith, numbers_grow g kit A x y b c e f good at at' is is' same h, number))
  | inr (inr h) ↦ absurd (omega (arith, numbers_grow g kit A y x c b f e good at' at is' is (sym same) h, number))
]

-- ---- a history followed by edits of others says the same of its changes and of a device

changes_none : (author : Device) (edits : List (List ℕ)) → AllByRecursion (IsOthersEdit author) edits → changes edits ≡ []
changes_none author [] h = refl
changes_none author (bytes ∷ edits) h = ap (λ (o : Option CommittedChange). cons_option o (changes edits)) h.0.edit ∙ changes_none author edits h.1

pub changes_stay : (author : Device) (entries edits : List (List ℕ)) → AllByRecursion (IsOthersEdit author) edits → changes (entries ++ edits) ≡ changes entries
changes_stay author entries edits h =
    filter_map-append change_in entries edits ∙ ap (λ (cs : List CommittedChange). changes entries ++ cs) (changes_none author edits h) ∙ append-nil (changes entries)

counted_none : (author : Device) (n : ℕ) (edits : List (List ℕ)) → AllByRecursion (IsOthersEdit author) edits → fold (λ (m : ℕ) (b : List ℕ). m + cond (is_by author b) 1 0) n edits ≡ n
counted_none author n [] h = refl
counted_none author n (bytes ∷ edits) h =
    let z : n + cond (is_by author bytes) 1 0 ≡ n = ap (λ (t : Bool). n + cond t 1 0) h.0.others ∙ omega arith in
    ap (λ (k : ℕ). fold (λ (m : ℕ) (b : List ℕ). m + cond (is_by author b) 1 0) k edits) z ∙ counted_none author n edits h.1

pub count_stays : (author : Device) (entries edits : List (List ℕ)) → AllByRecursion (IsOthersEdit author) edits → count_of author (entries ++ edits) ≡ count_of author entries
count_stays author entries edits h =
    fold-append (λ (m : ℕ) (b : List ℕ). m + cond (is_by author b) 1 0) 0 entries edits ∙ counted_none author (count_of author entries) edits h

-- the last position of a test that none of the further entries passes
last_from_none : (p : List ℕ → Bool) (found at : ℕ) (entries edits : List (List ℕ)) → AllByRecursion (λ b. p b ≡ false) edits → last_from p found at (entries ++ edits) ≡ last_from p found at entries
last_from_none p found at [] [] h = refl
last_from_none p found at [] (b ∷ edits) h = ap (λ (t : Bool). last_from p (cond t (suc at) found) (suc at) edits) h.0 ∙ last_from_none p found (suc at) [] edits h.1
last_from_none p found at (a ∷ entries) edits h = last_from_none p (cond (p a) (suc at) found) (suc at) entries edits h

last_from_le : (p : List ℕ → Bool) (found at : ℕ) (entries : List (List ℕ)) → found ≤ at → last_from p found at entries ≤ at + length entries
last_from_le p found at [] h = omega (arith, h)
last_from_le p found at (a ∷ entries) h = go (p a) (last_from_le p (suc at) (suc at) entries (omega arith)) (last_from_le p found (suc at) entries (omega (arith, h)))
  where
    go : (t : Bool) → last_from p (suc at) (suc at) entries ≤ suc at + length entries → last_from p found (suc at) entries ≤ suc at + length entries
        → last_from p (cond t (suc at) found) (suc at) entries ≤ at + suc (length entries)
    go true a b = omega (arith, a)
    go false a b = omega (arith, b)

no_changes : (author : Device) (edits : List (List ℕ)) → AllByRecursion (IsOthersEdit author) edits → AllByRecursion (λ b. is_some (change_in b) ≡ false) edits
no_changes author [] h = tt
no_changes author (b ∷ edits) h = (ap (λ (o : Option CommittedChange). is_some o) h.0.edit, no_changes author edits h.1)

not_own : (author : Device) (edits : List (List ℕ)) → AllByRecursion (IsOthersEdit author) edits → AllByRecursion (λ b. is_by author b ≡ false) edits
not_own author [] h = tt
not_own author (b ∷ edits) h = (h.0.others, not_own author edits h.1)

pub barrier_before : (author : Device) (entries edits : List (List ℕ)) → AllByRecursion (IsOthersEdit author) edits → barrier_of (entries ++ edits) ≤ length entries
barrier_before author entries edits h =
    omega (arith, last_from_none (λ b. is_some (change_in b)) 0 0 entries edits (no_changes author edits h), last_from_le (λ b. is_some (change_in b)) 0 0 entries (omega arith))

pub last_before : (author : Device) (entries edits : List (List ℕ)) → AllByRecursion (IsOthersEdit author) edits → last_of author (entries ++ edits) ≤ length entries
last_before author entries edits h =
    omega (arith, last_from_none (is_by author) 0 0 entries edits (not_own author edits h), last_from_le (is_by author) 0 0 entries (omega arith))
