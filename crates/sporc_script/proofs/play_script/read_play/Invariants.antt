use Rattle.std.proofs.Common.{◌≡◌, length}
use Rattle.sporc_script.proofs.Common.{declared_by, IsNext, play_line}
use Rattle.sporc_script.proofs.ScriptLines.{IsReadTo}
use Rattle.sporc_script.proofs.play_script.read_play.Given as goal

abbrev pub invariant-loop-rest : goal.invariant-loop-rest
invariant-loop-rest l = record {
  so_far : IsReadTo play_line IsNext l.text l.lines.items l.number l.rest;
  declared : l.declared ≡ declared_by l.lines.items;
}

abbrev pub decreases-loop-rest : goal.decreases-loop-rest
decreases-loop-rest l = length l.rest
