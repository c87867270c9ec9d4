use Rattle.std.proofs.Common.{[], refl, sym, ◌∙◌, append-nil}
use Rattle.sporc_serve.proofs.Common.{known_of, known_held, value_of, log_of}
use Rattle.sporc_serve.proofs.Turning.{adds_none, extends_after, held_is}
use Rattle.sporc_serve.proofs.turns.take_look.Goals as goal

pub give-requires-clause-log : goal.give-requires-clause-log
give-requires-clause-log g c =
    let k = known_of c.args.pass in
    let held = c.seek_held-sought.new.held in
    let v = value_of c.in-Ok.held in
    let found = log_of v.order v.numbers.items in
    extends_after k (known_held held) found (log_of (value_of held).order (value_of held).numbers.items) k.number []
    (held_is c.in-Ok.held held c.seek_held-sought.ensures.turn c.in-Ok.ensures.held) refl (c.seek_held-sought.ensures.log ∙ sym (append-nil found))

pub returns-in-Err-clause-looks : goal.returns-in-Err-clause-looks
returns-in-Err-clause-looks g c =
    let k = known_of c.args.pass in
    (k.seen, adds_none k (known_of c.in-Err.pass) c.in-Err.ensures.unchanged, c.in-Err.ensures.worn)
