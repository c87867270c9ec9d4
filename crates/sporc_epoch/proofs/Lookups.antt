-- What look-ups in maps of the code say of them as finite maps.
use Rattle.std.proofs.Common.{◌≡◌, ℕ, List, [], ◌∷◌, Some, cond, refl, ap, sym, ◌∙◌, ◌==◌}
use Rattle.sporc_epoch.proofs.Common.{nat_eq, nat_cmp, eq_by_cmp, nat_cmp_total, nat_eq_equiv, unsigned_tied, unsigned_ties, get, insert, from_entries, get-insert, same_map, nat_cmp-IsAntisymmetric}
use Rattle.sporc_epoch.proofs.Common.{pairs_in, BTreeMap}
use Rattle.std.specs.Map.{lookup}
use Rattle.std.specs.BTreeMap as tree
use Rattle.std.specs.FinMap.{find, get-from_entries}

find-lookup : {X : Type 0} (q : ℕ) (es : List (ℕ × X)) → find nat_cmp q es ≡ lookup (nat_eq q) es
find-lookup q [] = refl
find-lookup q (e ∷ es) =
    ap (λ b. cond b (Some e.1) (find nat_cmp q es)) (unsigned_tied q e.0)
    ∙ ap (cond (q == e.0) (Some e.1)) (find-lookup q es)

-- entries as a map
pub get-entries : {X : Type 0} (es : List (ℕ × X)) (q : ℕ) → get (from_entries {R = nat_cmp} es) q ≡ lookup (nat_eq q) es
get-entries es q = get-from_entries nat_cmp_total es q ∙ find-lookup q es

-- entries that answer alike
pub same_lookups : {X : Type 0} (es fs : List (ℕ × X)) → ((q : ℕ) → lookup (nat_eq q) fs ≡ lookup (nat_eq q) es)
    → from_entries {R = nat_cmp} fs ≡ from_entries es
same_lookups es fs h =
    same_map nat_cmp_total nat_cmp-IsAntisymmetric _ _ (λ q. get-entries fs q ∙ h q ∙ sym (get-entries es q))

-- entries with a key more
pub lookups_put : {X : Type 0} (es fs : List (ℕ × X)) (k : ℕ) (v : X)
    → ((q : ℕ) → lookup (nat_eq q) fs ≡ cond (nat_eq k q) (Some v) (lookup (nat_eq q) es))
    → from_entries {R = nat_cmp} fs ≡ insert (from_entries es) k v
lookups_put es fs k v h =
    same_map nat_cmp_total nat_cmp-IsAntisymmetric _ _ (λ q.
    get-entries fs q ∙ h q
    ∙ ap (λ b. cond b (Some v) (lookup (nat_eq q) es)) (nat_eq_equiv.symm k q ∙ unsigned_ties q k)
    ∙ ap (cond (eq_by_cmp nat_cmp q k) (Some v)) (sym (get-entries es q))
    ∙ sym (get-insert nat_cmp_total (from_entries es) k v q))

find_in_order : {X : Type 0} (q : ℕ) (es : List (ℕ × X)) → find nat_cmp q es ≡ lookup (tree.is_at (nat_cmp q)) es
find_in_order q [] = refl
find_in_order q (e ∷ es) = ap (cond (eq_by_cmp nat_cmp q e.0) (Some e.1)) (find_in_order q es)

-- the pairwise keys of the code
pub get_pairs : (pairs : BTreeMap ℕ (List ℕ)) (q : ℕ) → tree.get nat_cmp pairs q ≡ get (pairs_in pairs) q
get_pairs pairs q = sym (get-from_entries nat_cmp_total pairs.entries q ∙ find_in_order q pairs.entries)
