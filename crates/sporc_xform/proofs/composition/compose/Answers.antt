use Rattle.std.proofs.Common.{◌≡◌, ◌++◌}
use Rattle.sporc_xform.proofs.Common.{owned, part_marks, compose}
use Rattle.sporc_xform.proofs.Composing.{Composed-start, Composed-room}
use Rattle.sporc_xform.proofs.composition.compose.Goals as goal

pub chunks-init : goal.chunks-init
chunks-init c =
    Composed-start c.new-delta.result c.args.p1.now c.args.p2.now c.new-row.result.first c.new-row.result.second c.new-delta.ensures.value c.new-row.ensures.first c.new-row.ensures.second c.requires c.new-row.ensures.base_within c.new-row.ensures.out_within

pub push-requires-clause-base_limit : goal.push-requires-clause-base_limit
push-requires-clause-base_limit c =
    let taken : compose c.chunks.row.first c.chunks.row.second ≡ part_marks (owned c.in-Left.piece) ++ compose c.next.new.self.first c.next.new.self.second = rw c.in-Left.is at c.in-Some.ensures.taken in
    (Composed-room c.chunks.delta _ (part_marks (owned c.in-Left.piece)) _ _ taken c.chunks.invariant).0

pub push-requires-clause-out_limit : goal.push-requires-clause-out_limit
push-requires-clause-out_limit c =
    let taken : compose c.chunks.row.first c.chunks.row.second ≡ part_marks (owned c.in-Left.piece) ++ compose c.next.new.self.first c.next.new.self.second = rw c.in-Left.is at c.in-Some.ensures.taken in
    (Composed-room c.chunks.delta _ (part_marks (owned c.in-Left.piece)) _ _ taken c.chunks.invariant).1
