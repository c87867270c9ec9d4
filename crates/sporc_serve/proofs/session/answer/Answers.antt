use Rattle.sporc_serve.proofs.Common.{known_of, read_of}
use Rattle.sporc_serve.proofs.Stepping.{answer_goes, answer_ends}
use Rattle.sporc_serve.proofs.session.answer.Goals as goal

pub returns-in-Ok-clause-goes : goal.returns-in-Ok-clause-goes
returns-in-Ok-clause-goes g c unread here =
    answer_goes (known_of c.args.pass) (known_of c.reply_to-reply.result.1) (g.L.Stream.told c.args.link.now).left (g.L.Stream.told c.send.new.link).left
    (g.L.Stream.told c.args.link.now).written (g.L.Stream.told c.send.new.link).written (g.L.Stream.told c.args.link.now).faults (g.L.Stream.told c.send.new.link).faults
    unread c.args.session.now c.reply_to-reply.new.session c.args.message.now c.reply_to-reply.result.0 c.reply_to-reply.ensures.turn here
    c.in-Ok.reply c.send.result c.in-Ok.is c.send.ensures.left c.send.ensures.kept c.send.ensures.none c.send.ensures.some c.send.ensures.close

pub returns-in-Err-clause-goes : goal.returns-in-Err-clause-goes
returns-in-Err-clause-goes g c unread here =
    answer_ends (known_of c.args.pass) (known_of c.reply_to-reply.result.1) (g.L.Stream.told c.args.link.now).left (g.L.Stream.told c.args.link.now).left
    (g.L.Stream.told c.args.link.now).written (g.L.Stream.told c.args.link.now).written (g.L.Stream.told c.args.link.now).faults (g.L.Stream.told c.args.link.now).faults
    unread c.args.session.now c.reply_to-reply.new.session c.args.message.now c.reply_to-reply.result.0 c.reply_to-reply.ensures.turn here
    c.in-Err.end c.in-Err.is

pub returns-in-Ok-clause-worn : goal.returns-in-Ok-clause-worn
returns-in-Ok-clause-worn g c = c.send.ensures.worn (read_of c.reply_to-reply.result.1)
