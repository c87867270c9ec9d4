use Rattle.sporc_serve.proofs.Common.{known_of}
use Rattle.sporc_serve.proofs.Looking.{turn_after}
use Rattle.sporc_serve.proofs.replying.reply_to.Goals as goal

pub returns-in-Ok-clause-turn : goal.returns-in-Ok-clause-turn
returns-in-Ok-clause-turn g c genesis log =
    turn_after genesis (known_of c.args.pass) (known_of c.take_look-sought.result.1) (known_of c.take_turn-in-Ok.result.1) c.take_look-sought.result.0
    c.take_look-sought.ensures.looks c.args.session.now c.take_turn-in-Ok.new.session c.args.message.now c.take_turn-in-Ok.result.0
    c.take_turn-in-Ok.ensures.turn log
