use Rattle.std.proofs.Common.{rules, ◌≡◌, ℕ, List, length, min, arith, sym, ap, subst, ◌∙◌}
use Rattle.sporc_memory.specs.MemoryBytesModel.{MemoryBytesModel}
use Rattle.sporc_memory.proofs.Known.{moved, at_end, left-is}
use Rattle.sporc_memory.proofs.memory_source.MemorySourceSource.read.Goals as goal

pub returns-clause-did : goal.returns-clause-did
returns-clause-did c =
    let given = rw c.deref.ensures.value at c.copy_from_slice.ensures.after in
    let count = rw (c.deref.ensures.value, c.min.ensures) at c.min-n.ensures in
    let left = ap (λ (m : MemoryBytesModel). m.bytes) (sym c.self.view_is) in record {
      bytes = (
        left ∙ moved c.self.inside.bytes.items c.args.buf.now c.copy_from_slice.new.self c.self.inside.at c.min-n.result (omega (arith, count)) given,
        λ none room. at_end c.self.inside.bytes.items c.self.inside.at (length c.args.buf.now) c.self.inside.piece c.min-n.result (omega (arith, c.self.invariant.1)) (omega (arith, room, c.copy_from_slice.ensures.len)) count none,
      );
      written = search rules;
      is_shut = search rules;
      count = search rules;
    }

pub returns-clause-piece : goal.returns-clause-piece
returns-clause-piece c =
    let count = rw (c.deref.ensures.value, c.min.ensures) at c.min-n.ensures in
    subst (λ (m : MemoryBytesModel). c.min-n.result ≡ min (min (length c.args.buf.now) m.piece) (length m.bytes)) c.self.view_is
    (count ∙ ap (λ (b : List ℕ). min (min (length c.args.buf.now) c.self.inside.piece) (length b)) (left-is c.self.inside.bytes.items c.self.inside.at))
