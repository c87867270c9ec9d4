use Rattle.sporc_commands.proofs.Examined.{accepted}
use Rattle.sporc_commands.proofs.examining.examine.Goals as goal

pub returns-in-Ok : goal.returns-in-Ok
returns-in-Ok g c = record {
  value = accepted c.args.genesis c.in-Ok.line.genesis c.args.device c.args.ring.now c.args.history.now c.in_ok-line.line c.in-Ok.line.kit _ c.whole_line.result
      c.in_ok-line.ensures.kit c.in_ok-line.ensures.genesis c.in-Ok.ensures.genesis c.in-Ok.ensures.kit c.in-Ok.ensures.ok c.whole_line.ensures.value;
}
