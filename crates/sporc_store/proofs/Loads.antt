-- A history that was accepted and saved is loaded whole.
use Rattle.std.proofs.Common.{◌≡◌, ℕ, zero, suc, ◌+◌, ◌<◌, ◌≤◌, ◌^◌, ◌⊎◌, inl, inr, List, [], ◌∷◌, ◌++◌, length, take, None, Some, refl, sym, ap, ◌∙◌, subst, arith, length-append}
use Rattle.sporc_store.proofs.Common.{All, slice_get, length-take-le, take-append-le, take-append-add, Genesis, MAX_ENTRIES, End, Taken, read_to, saved_bytes, AreAccepted, Checker, an_order, accepted}
use Rattle.sporc_store.proofs.Common.{accepted_from, loaded, MAX_ENTRY}
use Rattle.std.proofs.lemmas.Option.{slice_get_within}
use Rattle.sporc_entry.specs.Genesis.{IsGenesis}
use Rattle.sporc_head.specs.HeadChecks.{head_fault}
use Rattle.sporc_line.proofs.Lists.{slice_get_push, take_front}
use Rattle.sporc_line.specs.Kit.{Kit}
use Rattle.sporc_line.specs.Good.{Good}
use Rattle.sporc_line.specs.LineChecks.{first_fault}
use Rattle.sporc_store.specs.Loading.{a_member, fault_behind}
use Rattle.sporc_store.proofs.Prefixes.{all_accepted}
use Rattle.sporc_store.proofs.SavedLaws.{read_again}

-- each entry fails no check where it stands
abbrev IsAccepted : Checker → List (List ℕ) → Type 0
IsAccepted checker entries = (i : ℕ) (e : List ℕ) → slice_get entries i ≡ Some e → fault_behind checker (take i entries) e ≡ None

loads_whole : (checker : Checker) (document : List ℕ) (entries : List (List ℕ)) → length document ≡ 16 → IsAccepted checker entries → length entries ≤ MAX_ENTRIES → All (λ e. length e ≤ MAX_ENTRY) entries
    → loaded checker document (saved_bytes document entries) ≡ read_to entries End
loads_whole checker document entries is each few sized =
    let short : All (λ e. length e < 2 ^ 32) entries = λ k d lt. omega (arith, sized k d lt) in
    ap (accepted checker) (read_again document entries is few short) ∙ all_accepted checker [] entries End each

-- the position that an entry's place gives
at_place : (P : ℕ → Type 0) (entries : List (List ℕ)) (i : ℕ) (e : List ℕ) → slice_get entries i ≡ Some e → P (i + 1) → P (length (take i entries) + 1)
at_place P entries i e at p =
    let lt : i < length entries = slice_get_within entries i e at in
    let le : i ≤ length entries = omega (arith, lt) in
    subst (λ (n : ℕ). P (n + 1)) (sym (length-take-le i entries le)) p

pub loads_for_a_member : (genesis : Genesis) (kit : Kit) (entries : List (List ℕ)) → IsGenesis genesis → Good genesis kit entries → length entries ≤ MAX_ENTRIES → All (λ e. length e ≤ MAX_ENTRY) entries
    → loaded (a_member genesis kit) genesis.document (saved_bytes genesis.document entries) ≡ read_to entries End
unfolding fault_behind
loads_for_a_member genesis kit entries is good = loads_whole (a_member genesis kit) genesis.document entries is.document each
  where
    each : IsAccepted (a_member genesis kit) entries
    each i e at = at_place (λ n. first_fault genesis kit (take i entries) n e ≡ None) entries i e at (good.each i e at)

pub loads_by_an_order : (genesis : Genesis) (entries : List (List ℕ)) → IsGenesis genesis → AreAccepted genesis entries → length entries ≤ MAX_ENTRIES → All (λ e. length e ≤ MAX_ENTRY) entries
    → loaded (an_order genesis) genesis.document (saved_bytes genesis.document entries) ≡ read_to entries End
unfolding fault_behind
loads_by_an_order genesis entries is passed = loads_whole (an_order genesis) genesis.document entries is.document each
  where
    each : IsAccepted (an_order genesis) entries
    each i e at = at_place (λ n. head_fault genesis None (take i entries) n e ≡ None) entries i e at (passed i e at)

-- ---- behind a log

-- an entry behind those that are accepted
pub accepted_more : (genesis : Genesis) (entries : List (List ℕ)) (entry : List ℕ) → AreAccepted genesis entries
    → head_fault genesis None entries (length entries + 1) entry ≡ None → AreAccepted genesis (entries ++ entry ∷ [])
accepted_more genesis entries entry each passed i e at = by (slice_get_push entries entry e i at)
  where
    by : ((i < length entries) × (slice_get entries i ≡ Some e)) ⊎ ((i ≡ length entries) × (entry ≡ e)) → head_fault genesis None (take i (entries ++ entry ∷ [])) (i + 1) e ≡ None
    by (inl (before, same)) =
        let within : i ≤ length entries = omega (arith, before) in
        subst (λ (l : List (List ℕ)). head_fault genesis None l (i + 1) e ≡ None) (sym (take-append-le i entries (entry ∷ []) within)) (each i e same)
    by (inr (last, same)) =
        subst (λ (n : ℕ). head_fault genesis None (take n (entries ++ entry ∷ [])) (n + 1) e ≡ None) (sym last)
        (subst (λ (l : List (List ℕ)). head_fault genesis None l (length entries + 1) e ≡ None) (sym (take_front entries entry))
        (subst (λ (x : List ℕ). head_fault genesis None entries (length entries + 1) x ≡ None) same passed))

slice_get_behind : {X : Type 0} (xs ys : List X) (i k : ℕ) → k ≡ length xs + i → slice_get (xs ++ ys) k ≡ slice_get ys i
slice_get_behind [] ys i k is = let same : k ≡ i = omega (arith, is) in ap (slice_get ys) same
slice_get_behind (x ∷ xs) ys i zero is = absurd (omega (arith, is))
slice_get_behind (x ∷ xs) ys i (suc k) is = slice_get_behind xs ys i k (omega (arith, is))

-- entries that are accepted with those before them are all taken behind these
pub takes_behind : (genesis : Genesis) (log es entries : List (List ℕ)) → log ++ es ≡ entries → AreAccepted genesis entries
    → accepted_from (an_order genesis) log es End ≡ read_to entries End
unfolding fault_behind
takes_behind genesis log es entries all passed =
    ap (λ (t : Taken). read_to (log ++ t.entries) t.stop) (all_accepted (an_order genesis) log es End each) ∙ ap (λ (l : List (List ℕ)). read_to l End) all
  where
    each : (i : ℕ) (e : List ℕ) → slice_get es i ≡ Some e → fault_behind (an_order genesis) (log ++ take i es) e ≡ None
    each i e at =
        let within : i ≤ length es = omega (arith, slice_get_within es i e at) in
        let there : slice_get entries (length log + i) ≡ Some e = ap (λ (l : List (List ℕ)). slice_get l (length log + i)) (sym all) ∙ slice_get_behind log es i (length log + i) refl ∙ at in
        let front : take (length log + i) entries ≡ log ++ take i es = ap (take (length log + i)) (sym all) ∙ take-append-add log es i in
        let place : length log + i + 1 ≡ length (log ++ take i es) + 1 = omega (arith, length-append log (take i es), length-take-le i es within) in
        subst (λ (n : ℕ). head_fault genesis None (log ++ take i es) n e ≡ None) place
        (subst (λ (l : List (List ℕ)). head_fault genesis None l (length log + i + 1) e ≡ None) front (passed (length log + i) e there))
