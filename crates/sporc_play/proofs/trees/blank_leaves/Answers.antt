use Rattle.std.proofs.Common.{◌≡◌, ℕ, ◌*◌, List, ap, length, ◌∙◌}
use Rattle.std.proofs.lemmas.List.{length-replicate}
use Rattle.sporc_play.proofs.Common.{replicate, MemoryDiskModel, state_after, block_count, taken_blocks}
use Rattle.lms_leaf.specs.declared.leaf_file.TheConstants.{LEAVES_PER_BLOCK}
use Rattle.sporc_play.proofs.Blanks.{none_taken}
use Rattle.sporc_play.proofs.trees.blank_leaves.Goals as goal

pub unreachable-requires : goal.unreachable-requires
unreachable-requires c =
    let disk = c.in_ok-disk.disk in
    let (other, long) = c.in-Err-BadLength-default.ensures.err.bad_length _ c.in-Err-BadLength-default.field-0-0-is in
    absurd (other (long ∙ ap (λ (d : MemoryDiskModel). length (state_after d.first d.log).bytes) c.in_ok-disk.ensures.ok ∙ ap length c.in_ok-bytes.ensures.value ∙ length-replicate (block_count c.args.height) 0))

pub returns-in-Ok-clause-next : goal.returns-in-Ok-clause-next
returns-in-Ok-clause-next c =
    let disk = c.in_ok-disk.disk in
    let stored : (state_after disk.first disk.log).bytes ≡ replicate (block_count c.args.height) 0 =
    ap (λ (d : MemoryDiskModel). (state_after d.first d.log).bytes) c.in_ok-disk.ensures.ok ∙ c.in_ok-bytes.ensures.value in
    c.in-Ok.ensures.opens.next
    ∙ ap (λ (bytes : List ℕ). LEAVES_PER_BLOCK * taken_blocks bytes) stored
    ∙ ap (λ (n : ℕ). LEAVES_PER_BLOCK * n) (none_taken (block_count c.args.height))
