use Rattle.sporc_line.proofs.LineKeeps.{effect_here}
use Rattle.sporc_line.proofs.line.Line.ready.Goals as goal

pub ready-requires : goal.ready-requires
ready-requires c = record { base = (effect_here c.self.inside c.args.self.now c.args.checked c.args.effect c.self.view_is c.self.invariant c.requires.passed c.requires.effect).over_text }

pub ready-requires-2-clause-base : goal.ready-requires-2-clause-base
ready-requires-2-clause-base c = (effect_here c.self.inside c.args.self.now c.args.checked c.args.effect c.self.view_is c.self.invariant c.requires.passed c.requires.effect).over_forms

pub ready-requires-2-clause-limit : goal.ready-requires-2-clause-limit
ready-requires-2-clause-limit c = (effect_here c.self.inside c.args.self.now c.args.checked c.args.effect c.self.view_is c.self.invariant c.requires.passed c.requires.effect).few
