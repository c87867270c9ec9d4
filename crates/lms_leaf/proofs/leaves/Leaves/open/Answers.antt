use Rattle.std.proofs.Common.{◌≡◌, ◌∙◌, refl, sym, ℕ, ◌*◌, ◌≤◌, List, slice_index, Option, Some, None, IfSome, arith}
use Rattle.sporc_outside.specs.LeafDisk.{disk_images}
use Rattle.lms_leaf.specs.LeafFile.{taken_blocks}
use Rattle.lms_leaf.specs.declared.leaf_file.TheConstants.{LEAVES_PER_BLOCK}
use Rattle.lms_leaf.proofs.Opened.{taken_at_open}
use Rattle.lms_leaf.proofs.TakenBlocks.{zero-from-taken_blocks}
use Rattle.lms_leaf.proofs.leaves.Leaves.open.Goals as goal

if_some : {T : Type 0} {P Q : T → Type 0} (o : Option T) → ((x : T) → P x → Q x) → IfSome o P → IfSome o Q
if_some None f p = tt
if_some (Some x) f p = f x p

-- behind the last block that is taken all bytes are zero
free : (next : ℕ) (bytes : List ℕ) → next ≡ LEAVES_PER_BLOCK * taken_blocks bytes → (block : ℕ) → next ≤ LEAVES_PER_BLOCK * block → slice_index bytes block ≡ 0
free next bytes is block h = zero-from-taken_blocks bytes block (omega arith)

pub invariant_of-result : goal.invariant_of-result
invariant_of-result g c =
    let found = c.in-Ok.ensures in
    let leaves = c.blocks_of.ensures in
    let first = found.first_of_block in
    record {
      opened = omega (arith, first.1);
      forward = omega arith;
      within = omega (arith, first.1, first.2, leaves.value);
      whole = omega arith;
      file = rw found.stored (if_some (g.D.LeafDisk.told c.args.disk).stored (λ bytes is. omega (arith, is, leaves.value)) found.right_length);
      taken =
          taken_at_open (g.D.LeafDisk.told c.find_next.new.disk).stored (disk_images (g.D.LeafDisk.told c.find_next.new.disk)) c.in-Ok.next
          (rw found.stored found.next) found.synced;
      free = λ sound. rw found.stored (if_some (g.D.LeafDisk.told c.args.disk).stored (λ bytes is. free c.in-Ok.next bytes is) found.next);
      counted = omega (arith, c.faults-faults_at_open.ensures.value, g.met.D.LeafDisk.faults_are_told c.find_next.new.disk);
      fault = λ faulty. cc;
    }

pub returns-in-Ok-clause-fresh : goal.returns-in-Ok-clause-fresh
returns-in-Ok-clause-fresh g c =
    (refl, refl, c.faults-faults_at_open.ensures.value ∙ sym (g.met.D.LeafDisk.faults_are_told c.find_next.new.disk))
