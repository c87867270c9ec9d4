use Rattle.std.proofs.Common.{◌≡◌, length, ◌*◌, ◌^◌, ◌%◌, arith}
use Rattle.lms_tree.proofs.NodeArrayLemmas.{leaves_behind, leaves_is}
use Rattle.lms_tree.proofs.tree.leaves_by.Goals as goal

pub returns : goal.returns
returns g c =
    let all = leaves_is _ _ c.height.ensures.value (omega arith) in
    let size = c.in_ok-nodes.ensures.len in
    let half : length c.split_at_mut-leaves.result.1.now ≡ 1 * 2 ^ c.height.result % 2 ^ 64 = omega (arith, size) in
    leaves_behind _ c.split_at_mut-leaves.result.0.now c.fill_leaves.new.leaves _ _ _ all (omega (arith, size)) (omega (arith, size)) (omega (arith, half))
    (λ q low. rw half at (c.fill_leaves.ensures q (omega (arith, half))))
