use Rattle.sporc_clients.proofs.Lives.{run_is_life}
use Rattle.sporc_clients.proofs.laws.runs_are_lives.Goals as goal

pub returns : goal.returns
returns g c = record {
  life = λ run told.
      run_is_life g.D.LeafDisk.told g.met.D.LeafDisk.stored_is_image run.words run.member run.did run.first run.last run.answer run.outcome told;
}
