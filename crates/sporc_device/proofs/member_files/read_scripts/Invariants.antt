use Rattle.std.proofs.Common.{◌≡◌, length}
use Rattle.sporc_files.specs.Uses.{OnlyReads}
use Rattle.sporc_device.proofs.Common.{use_of, SayScripts, script_files}
use Rattle.sporc_device.proofs.member_files.read_scripts.Given as goal

abbrev pub invariant-loop-read : goal.invariant-loop-read
invariant-loop-read g l = record {
  each : SayScripts (g.F.Folder.told l.initial.files).files l.names 1 l.scripts.items;
  all : length l.scripts.items ≡ l.read;
  reads : OnlyReads l.names (script_files l.fn.editors) (use_of g.F.Folder.told l.initial.files l.files);
}
