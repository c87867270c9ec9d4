-- Keys that members share, as the maps of the code hold them.
use Rattle.std.proofs.Common.{◌≡◌, ℕ, List, Some, cond, ap, sym, ◌∙◌}
use Rattle.sporc_epoch.proofs.Common.{nat_cmp, eq_by_cmp, nat_cmp_total, nat_eq_equiv, unsigned_tied, unsigned_ties, insert, get-insert, same_map, nat_cmp-IsAntisymmetric, pairs_in, BTreeMap}
use Rattle.std.specs.BTreeMap as tree
use Rattle.sporc_epoch.proofs.Lookups.{get_pairs}

is_it : (k q : ℕ) → tree.is_at (nat_cmp k) q ≡ eq_by_cmp nat_cmp q k
is_it k q = unsigned_tied k q ∙ nat_eq_equiv.symm k q ∙ unsigned_ties q k

-- a key that is put into a map is one of its keys
pub pairs_put : (old new : BTreeMap ℕ (List ℕ)) (k : ℕ) (v : List ℕ) → tree.Updates nat_cmp old new k (Some v) → pairs_in new ≡ insert (pairs_in old) k v
pairs_put old new k v put =
    same_map nat_cmp_total nat_cmp-IsAntisymmetric _ _ (λ q.
    sym (get_pairs new q) ∙ put.0 q
    ∙ ap (λ b. cond b (Some v) (tree.get nat_cmp old q)) (is_it k q)
    ∙ ap (cond (eq_by_cmp nat_cmp q k) (Some v)) (get_pairs old q)
    ∙ sym (get-insert nat_cmp_total (pairs_in old) k v q))
