use Rattle.sporc_store.proofs.TailRunning.{begins_again, found_again, nothing_lost}
use Rattle.sporc_store.proofs.laws.nothing_ordered_is_lost.Goals as goal

pub returns : goal.returns
returns g c = record {
  nothing_lost = λ genesis s before after is16 begins run.
      nothing_lost g.A.AppendFile.told genesis g.met.A.AppendFile.stored_is_image is16 s before after begins run;
  found = λ genesis s run is16 begins may.
      found_again g.A.AppendFile.told genesis g.met.A.AppendFile.stored_is_image is16 s run begins may;
  begins_again = λ genesis s run is16 begins accepted may checked.
      begins_again g.A.AppendFile.told genesis g.met.A.AppendFile.stored_is_image is16 s run begins accepted may checked;
}
