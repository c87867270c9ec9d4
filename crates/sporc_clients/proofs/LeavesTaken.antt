-- What stands of the leaf file of a client that was closed.
use Rattle.std.proofs.Common.{◌≡◌, ℕ, ◌≤◌, Option, None, Some, ap, arith, sym, subst}
use Rattle.sporc_clients.proofs.Common.{DiskTold, disk_images, ArePassed, AreTaken, LeavesModel, ClientModel, Rise, first_leaf_of, kept_count, leaves_of, past_of, LeavesAreTaken}

-- it keeps one leaf at most
kept_one : (ticket : Option ℕ) → kept_count ticket ≤ 1
kept_one None = omega arith
kept_one (Some leaf) = omega arith

pub leaves_are_taken : {D : Type 0} (disk_told : D → DiskTold) (c : ClientModel D) (leaves : LeavesModel D) (disk : D) → leaves ≡ c.leaves → disk ≡ leaves.disk
    → Rise (first_leaf_of c) leaves.next (leaves_of c.log) → leaves.next_at_open ≤ first_leaf_of c
    → AreTaken (disk_images (disk_told leaves.disk)) leaves.next_at_open leaves.next → ArePassed (disk_images (disk_told leaves.disk)) leaves.next
    → LeavesAreTaken (disk_images (disk_told disk)) (past_of c)
leaves_are_taken {D} disk_told c leaves disk same back rise since_open taken passed =
    let next : leaves.next ≡ c.leaves.next = ap (λ (l : LeavesModel D). l.next) same in
    subst (λ (d : D). LeavesAreTaken (disk_images (disk_told d)) (past_of c)) (sym back)
    (record {
      next = leaves.next;
      forward = omega (arith, next);
      few = let one = kept_one c.ticket in omega (arith, one, next);
      rise = rise;
      taken = λ leaf from below. taken leaf (omega (arith, since_open, from)) below;
      passed = passed;
    })
