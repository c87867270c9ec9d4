use Rattle.std.proofs.Common.{take}
use Rattle.sporc_commands.proofs.Common.{use_of, AreNamed, keys_read}
use Rattle.sporc_files.specs.Uses.{OnlyReads}
use Rattle.sporc_commands.proofs.founding.read_founders.Given as goal

abbrev pub invariant-loop-participant : goal.invariant-loop-participant
invariant-loop-participant g l = record {
  read : AreNamed (g.F.Folder.told l.initial.files).files l.names (take l.participant-index l.participants) l.named.items;
  reads : OnlyReads l.names (keys_read l.participants) (use_of g.F.Folder.told l.initial.files l.files);
}
