use Rattle.std.proofs.Common.{[], Ok, Err, Some, refl, ap, ◌∙◌, arith}
use Rattle.sporc_serve.proofs.Common.{Inlet, inlet_at}
use Rattle.sporc_serve.proofs.Waiting.{waits_none, waits_more, first_found, first_ends}
use Rattle.sporc_serve.proofs.first.first_message.Goals as goal

pub loop-init : goal.loop-init
loop-init g c = record {
  waits = ([], waits_none (g.L.Stream.told c.args.link.now).left (g.L.Stream.told c.args.link.now).faults c.args.frames.now c.requires.fresh);
  written = refl;
  shut = refl;
  kept = omega arith;
}

pub loop-preserved : goal.loop-preserved
loop-preserved g c =
    let a : Inlet = inlet_at (g.L.Stream.told c.args.link.now) c.args.frames.now in
    let b : Inlet = inlet_at (g.L.Stream.told c.loop.link) c.loop.frames in
    let d : Inlet = inlet_at (g.L.Stream.told c.next_message.new.link) c.next_message.new.frames in
    let w = c.loop.invariant.waits in
    record {
      waits = waits_more a b d w.0 c.next_message.result w.1 c.next_message.ensures.next c.next_message.ensures.kept (c.in-Ok.is ∙ ap Ok c.in_default.is);
      written = c.next_message.ensures.written ∙ c.loop.invariant.written;
      shut = c.next_message.ensures.shut ∙ c.loop.invariant.shut;
      kept = omega (arith, c.next_message.ensures.kept, c.loop.invariant.kept);
    }

pub returns-in-Some-found-clause-first : goal.returns-in-Some-found-clause-first
returns-in-Some-found-clause-first g c =
    let a : Inlet = inlet_at (g.L.Stream.told c.args.link.now) c.args.frames.now in
    let b : Inlet = inlet_at (g.L.Stream.told c.loop.link) c.loop.frames in
    let d : Inlet = inlet_at (g.L.Stream.told c.next_message.new.link) c.next_message.new.frames in
    let w = c.loop.invariant.waits in
    first_found a b d w.0 c.next_message.result w.1 c.next_message.ensures.next c.next_message.ensures.kept c.in-Some-found.message (c.in-Ok.is ∙ ap Ok c.in-Some-found.is)

pub returns-in-Err-clause-first : goal.returns-in-Err-clause-first
returns-in-Err-clause-first g c =
    let a : Inlet = inlet_at (g.L.Stream.told c.args.link.now) c.args.frames.now in
    let b : Inlet = inlet_at (g.L.Stream.told c.loop.link) c.loop.frames in
    let d : Inlet = inlet_at (g.L.Stream.told c.next_message.new.link) c.next_message.new.frames in
    let w = c.loop.invariant.waits in
    first_ends a b d w.0 c.next_message.result w.1 c.next_message.ensures.next c.next_message.ensures.kept c.in-Err.end c.in-Err.is
