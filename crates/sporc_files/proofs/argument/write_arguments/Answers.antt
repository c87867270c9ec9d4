use Rattle.sporc_files.proofs.Common.{argument_bytes}
use Rattle.sporc_files.specs.declared.argument.Argument.TheVariants.{Nothing}
use Rattle.sporc_files.proofs.Written.{any_err, cut_off}
use Rattle.sporc_files.proofs.argument.write_arguments.Goals as goal

pub returns-in_err-write_argument-clause-err : goal.returns-in_err-write_argument-clause-err
returns-in_err-write_argument-clause-err g c =
    any_err _ _ (cut_off (argument_bytes c.args.names.now) c.args.arguments.now c.loop-argument.argument-index Nothing _ _ _ c.loop-argument-test.true
    c.loop-argument.invariant.written c.in_err-write_argument.ensures.err)
