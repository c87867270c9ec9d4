use Rattle.sporc_suffix.proofs.runs.+over_runs.Given as goal

abbrev pub decreases-over_runs : goal.decreases-over_runs
decreases-over_runs g l = l.count
