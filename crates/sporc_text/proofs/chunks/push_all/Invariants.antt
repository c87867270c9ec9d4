use Rattle.std.proofs.Common.{◌≡◌, ◌*◌, ◌≤◌, ◌++◌, length, vec_capacity, vec_len}
use Rattle.sporc_text.proofs.Common.{concat, AreChunks, MAX_CHUNK}
use Rattle.sporc_text.proofs.chunks.push_all.Given as goal

abbrev pub invariant-loop-left : goal.invariant-loop-left
invariant-loop-left l = record {
  are_chunks : AreChunks l.list.items;
  value : concat l.list.items ++ l.left ≡ concat l.initial.list.items ++ l.initial.left;
  capacity : vec_capacity l.initial.list ≤ vec_capacity l.list;
  spare : length l.left ≤ MAX_CHUNK * vec_len l.chunks;
}

abbrev pub decreases-loop-left : goal.decreases-loop-left
decreases-loop-left l = length l.left
