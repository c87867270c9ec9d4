use Rattle.sporc_delta.proofs.Runs.{AreRuns-runs, marks_of-runs, runs-marks_of}
use Rattle.sporc_delta.proofs.laws.one_list_of_parts_has_these_marks.Goals as goal

pub returns-clause-are_runs : goal.returns-clause-are_runs
returns-clause-are_runs c = AreRuns-runs

pub returns-clause-marks : goal.returns-clause-marks
returns-clause-marks c = marks_of-runs

pub returns-clause-no_other : goal.returns-clause-no_other
returns-clause-no_other c = runs-marks_of
