-- What was saved is read again, and what is read to its end was saved so.
use Rattle.std.proofs.Common.{◌≡◌, ℕ, zero, suc, ◌+◌, ◌-◌, ◌^◌, ◌<◌, ◌≤◌, Bool, true, false, cond, leb, eqb, List, [], ◌∷◌, ◌++◌, length, drop, Result, Ok, Err, refl, sym, ap, ◌∙◌, subst, arith}
use Rattle.sporc_store.proofs.Common.{le-leb, Decides-eqb, drop_at, All-head, All-tail, starts_is, All, flat_map, starts_with, w32, to_be_bytes, IsBytes, Reading, ◌>>=◌, fault_as, number_at, only_if}
use Rattle.sporc_store.proofs.Common.{counted_at, counted, end_at, bind_ok, ok_is, only_if_ok, Takes, wide32, number_takes, u32_again, counted_takes, counted_again, MAX_ENTRIES, End, Foreign, Cut}
use Rattle.sporc_store.proofs.Common.{Taken, read_to, first_and, stop_behind, entry_and, listed, head_bytes, IsBytes-drop, HEAD_LEN}
use Rattle.sporc_store.specs.SavedFile.{entries_at, count_at, opened, saved_in, saved_bytes}

-- ---- entries

entries_again : (es : List (List ℕ)) (at : ℕ) → All (λ e. length e < 2 ^ 32) es → entries_at (length es) (record { rest = flat_map counted es; at = at }) ≡ read_to es End
unfolding entries_at
entries_again [] at sized = refl
entries_again (e ∷ es) at sized =
    let lt : length e < 2 ^ 32 = All-head (λ e. length e < 2 ^ 32) e es sized in
    let le : length e ≤ 2 ^ 32 - 1 = omega (arith, lt) in
    rw (counted_again (2 ^ 32 - 1) at e (flat_map counted es) lt le)
    (ap (first_and e) (entries_again es (at + 4 + length e) (All-tail (λ e. length e < 2 ^ 32) e es sized)))

-- reading stopped at the end
ends : (r : Reading) → stop_behind (end_at r) ≡ End → r.rest ≡ []
ends r = go r.rest
  where
    go : (bs : List ℕ) → stop_behind (end_at (record { rest = bs; at = r.at })) ≡ End → bs ≡ []
    go [] e = refl
    go (b ∷ bs) e = absurd cc

entries_take : (n : ℕ) (r : Reading) (es : List (List ℕ)) → IsBytes r.rest → entries_at n r ≡ read_to es End → (r.rest ≡ flat_map counted es) × (length es ≡ n)
unfolding entries_at
entries_take zero r es h e =
    let none : [] ≡ es = ap (λ (t : Taken). t.entries) e in
    let P : List (List ℕ) → Type 0 = λ es. (r.rest ≡ flat_map counted es) × (length es ≡ 0) in
    subst P none (ends r (ap (λ (t : Taken). t.stop) e), refl)
entries_take (suc n) r es h e = by (entries_take n) (counted_at (2 ^ 32 - 1) r) refl e
  where
    by : ((r : Reading) (es : List (List ℕ)) → IsBytes r.rest → entries_at n r ≡ read_to es End → (r.rest ≡ flat_map counted es) × (length es ≡ n))
        → (read : Result (List ℕ × Reading) ℕ) → counted_at (2 ^ 32 - 1) r ≡ read → entry_and read (entries_at n) ≡ read_to es End → (r.rest ≡ flat_map counted es) × (length es ≡ suc n)
    by again (Err at) is e = absurd (let no : Cut at ≡ End = ap (λ (t : Taken). t.stop) e in cc)
    by again (Ok x) is e =
        let others : Taken = entries_at n x.1 in
        let taken = counted_takes (2 ^ 32 - 1) r x h is in
        let end : others ≡ read_to others.entries End = ap (read_to others.entries) (ap (λ (t : Taken). t.stop) e) in
        let rest = again x.1 others.entries taken.0.bytes end in
        let all : r.rest ≡ flat_map counted (x.0 ∷ others.entries) = taken.0.parts ∙ ap (λ (bs : List ℕ). counted x.0 ++ bs) rest.0 in
        let same : x.0 ∷ others.entries ≡ es = ap (λ (t : Taken). t.entries) e in
        let P : List (List ℕ) → Type 0 = λ es. (r.rest ≡ flat_map counted es) × (length es ≡ suc n) in
        subst P same (all, ap suc rest.1)

-- ---- the number of entries

count_again : (n at : ℕ) (rest : List ℕ) → n ≤ MAX_ENTRIES → count_at (record { rest = to_be_bytes w32 n ++ rest; at = at }) ≡ Ok (n, record { rest = rest; at = at + 4 })
unfolding count_at
count_again n at rest le = rw (u32_again n at rest (omega (arith, le)), le-leb n MAX_ENTRIES le) refl

count_takes : (r : Reading) (x : ℕ × Reading) → IsBytes r.rest → count_at r ≡ Ok x → Takes r (to_be_bytes w32 x.0) x.1
unfolding count_at
count_takes r x h e =
    let count = bind_ok (number_at w32 r) (λ n. only_if (leb n.0 MAX_ENTRIES) r.at n.0 >>= λ allowed. Ok (allowed, n.1)) x e in
    let allowed = bind_ok (only_if (leb count.0.0 MAX_ENTRIES) r.at count.0.0) (λ allowed. Ok (allowed, count.0.1)) x count.2 in
    let same = only_if_ok (leb count.0.0 MAX_ENTRIES) r.at count.0.0 allowed.0 allowed.1 in
    let taken = number_takes w32 (2 ^ 32) wide32 r count.0 h count.1 in
    let found : (allowed.0, count.0.1) ≡ x = ok_is (allowed.0, count.0.1) x allowed.2 in
    let P : ℕ × Reading → Type 0 = λ y. Takes r (to_be_bytes w32 y.0) y.1 in
    subst P found (subst (λ (n : ℕ). Takes r (to_be_bytes w32 n) count.0.1) same.1 taken.0)

-- ---- the file

head_len : (document : List ℕ) → length document ≡ 16 → length (head_bytes document) ≡ HEAD_LEN
head_len document is = omega (arith, is)

begins : (document rest : List ℕ) → starts_with eqb (head_bytes document ++ rest) (head_bytes document) ≡ true
begins document rest =
    let s : List ℕ = head_bytes document ++ rest in
    (starts_is Decides-eqb s (head_bytes document) (starts_with eqb s (head_bytes document)) refl).1 rest refl

pub read_again : (document : List ℕ) (entries : List (List ℕ)) → length document ≡ 16 → length entries ≤ MAX_ENTRIES → All (λ e. length e < 2 ^ 32) entries
    → saved_in document (saved_bytes document entries) ≡ read_to entries End
unfolding saved_in opened saved_bytes
read_again document entries is few sized =
    let rest : List ℕ = to_be_bytes w32 (length entries) ++ flat_map counted entries in
    rw (
      begins document rest,
      drop_at (head_bytes document) rest HEAD_LEN (head_len document is),
      count_again (length entries) HEAD_LEN (flat_map counted entries) few,
    ) (entries_again entries (HEAD_LEN + 4) sized)

pub written_so : (document bytes : List ℕ) (entries : List (List ℕ)) → length document ≡ 16 → IsBytes bytes → saved_in document bytes ≡ read_to entries End → bytes ≡ saved_bytes document entries
unfolding saved_in opened saved_bytes
written_so document bytes entries is h e = by (starts_with eqb bytes (head_bytes document)) refl e
  where
    r : Reading
    r = record { rest = drop HEAD_LEN bytes; at = HEAD_LEN }

    by : (own : Bool) → starts_with eqb bytes (head_bytes document) ≡ own → listed (cond own (fault_as Cut (count_at r)) (Err Foreign)) ≡ read_to entries End
        → bytes ≡ head_bytes document ++ (to_be_bytes w32 (length entries) ++ flat_map counted entries)
    by false own e = absurd (let no : Foreign ≡ End = ap (λ (t : Taken). t.stop) e in cc)
    by true own e = counted_so (count_at r) refl e
      where
        head : bytes ≡ head_bytes document ++ drop HEAD_LEN bytes
        head = (starts_is Decides-eqb bytes (head_bytes document) (starts_with eqb bytes (head_bytes document)) refl).0 own
            ∙ ap (λ (n : ℕ). head_bytes document ++ drop n bytes) (head_len document is)

        counted_so : (count : Result (ℕ × Reading) ℕ) → count_at r ≡ count → listed (fault_as Cut count) ≡ read_to entries End
            → bytes ≡ head_bytes document ++ (to_be_bytes w32 (length entries) ++ flat_map counted entries)
        counted_so (Err at) is_count e = absurd (let no : Cut at ≡ End = ap (λ (t : Taken). t.stop) e in cc)
        counted_so (Ok found) is_count e =
            let front = count_takes r found (IsBytes-drop HEAD_LEN bytes h) is_count in
            let list = entries_take found.0 found.1 entries front.bytes e in
            head ∙ ap (λ (bs : List ℕ). head_bytes document ++ bs) (front.parts ∙ ap (λ (bs : List ℕ). to_be_bytes w32 found.0 ++ bs) list.0
            ∙ ap (λ (n : ℕ). to_be_bytes w32 n ++ flat_map counted entries) (sym list.1))
