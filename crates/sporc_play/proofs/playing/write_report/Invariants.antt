use Rattle.std.proofs.Common.{ℕ, ◌≤◌, List, take}
use Rattle.sporc_play.proofs.Common.{Appends, setup_of, ReportsFrom, opening, StandsFor}
use Rattle.sporc_play.proofs.Reported.{scene_at}
use Rattle.sporc_play.proofs.playing.write_report.Given as goal

abbrev pub invariant-loop-line : goal.invariant-loop-line
invariant-loop-line g l = record {
  -- the report of the lines so far is written
  written : (report : List ℕ) × ReportsFrom (setup_of l.lines) (opening l.lines) (take l.line-index l.lines) report
      × Appends (g.O.Stream.told l.initial.out).written (g.O.Stream.told l.out).written report;
  stands : StandsFor l.lines (scene_at l.lines l.line-index) l.state;
  kept : (g.O.Stream.told l.initial.out).faults ≤ (g.O.Stream.told l.out).faults;
}
