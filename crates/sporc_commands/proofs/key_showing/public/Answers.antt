use Rattle.std.proofs.Common.{subst, sym}
use Rattle.sporc_commands.proofs.Common.{use_of}
use Rattle.sporc_commands.specs.KeyShowing.{IsLineOf}
use Rattle.sporc_commands.proofs.Printed.{key_printed}
use Rattle.sporc_commands.proofs.key_showing.public.Goals as goal

pub returns-clause-outcome : goal.returns-clause-outcome
returns-clause-outcome g c =
    key_printed c.args.asked.now (use_of g.F.Folder.told c.args.files.now c.read_line.new.files) (use_of g.O.Stream.told c.args.out.now c.print.new.out) c.as_str.result.now c.print.result
    (subst (IsLineOf c.args.asked.now (g.F.Folder.told c.args.files.now).files) (sym c.as_str.ensures.value) c.in_ok-line.ensures.ok) c.print.ensures.prints
