use Rattle.std.proofs.Common.{ℕ, List, ◌++◌, length, take, ap, sym, ◌∙◌, append_assoc, arith, length-append, length-drop, option_to_list}
use Rattle.sporc_text.proofs.Common.{eqb-false, take-append-drop, concat, MAX_CHUNK}
use Rattle.sporc_text.proofs.chunks.push_all.Goals as goal

pub push_first-left-requires-clause-room : goal.push_first-left-requires-clause-room
push_first-left-requires-clause-room c =
    omega (arith, ap length c.loop-left.invariant.value, length-append (concat c.loop-left.list.items) c.loop-left.left.now, length-append (concat c.args.list.now.items) c.args.characters.now, c.loop-left.invariant.capacity)

pub loop-left-smaller : goal.loop-left-smaller
loop-left-smaller c =
    omega (arith, ap length c.push_first-left.ensures.rest, length-drop MAX_CHUNK c.loop-left.left.now, eqb-false (length c.loop-left.left.now) 0 (sym c.loop-left-test.ensures))

pub loop-left-preserved : goal.loop-left-preserved
loop-left-preserved c = record {
  are_chunks = c.push_first-left.ensures.chunks;
  value = ap (λ (t : List ℕ). t ++ c.push_first-left.result.now) c.push_first-left.ensures.value
      ∙ append_assoc (concat c.loop-left.list.items) (take MAX_CHUNK c.loop-left.left.now) c.push_first-left.result.now
      ∙ ap (λ (t : List ℕ). concat c.loop-left.list.items ++ (take MAX_CHUNK c.loop-left.left.now ++ t)) c.push_first-left.ensures.rest
      ∙ ap (λ (t : List ℕ). concat c.loop-left.list.items ++ t) (take-append-drop MAX_CHUNK c.loop-left.left.now)
      ∙ c.loop-left.invariant.value;
  capacity = omega (arith, c.loop-left.invariant.capacity, c.push_first-left.ensures.capacity);
  spare = omega (arith, c.loop-left.invariant.spare, ap length c.push_first-left.ensures.rest, length-drop MAX_CHUNK c.loop-left.left.now, c.pop.ensures.len, ap (λ r. length (option_to_list r)) c.unwrap-chunk.ensures);
}
