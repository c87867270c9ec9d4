use Rattle.std.proofs.Common.{◌≤◌, take}
use Rattle.sporc_files.proofs.Common.{flat_map, argument_bytes, Appends}
use Rattle.sporc_files.proofs.argument.write_arguments.Given as goal

abbrev pub invariant-loop-argument : goal.invariant-loop-argument
invariant-loop-argument g l = record {
  written : Appends (g.O.Stream.told l.initial.out).written (g.O.Stream.told l.out).written (flat_map (argument_bytes l.names) (take l.argument-index l.arguments));
  kept : (g.O.Stream.told l.initial.out).faults ≤ (g.O.Stream.told l.out).faults;
}
