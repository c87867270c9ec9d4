use Rattle.std.proofs.Common.{ℕ, List, sym, subst}
use Rattle.sporc_play.proofs.Common.{IsPlayScript, PlayLine}
use Rattle.sporc_play.proofs.ClosedPlays.{played}
use Rattle.sporc_play.proofs.playing.play.Goals as goal

pub write_report-requires : goal.write_report-requires
write_report-requires g c = (
  c.in_ok-text.text.items,
  c.in_ok-text.ensures.within,
  subst (λ (t : List ℕ). IsPlayScript t c.lines.result.now) c.as_slice.ensures.value
      (subst (λ (s : List PlayLine). IsPlayScript c.as_slice.result.now s) (sym c.lines.ensures.value) c.in_ok-script.ensures.ok),
)

pub returns-clause-outcome : goal.returns-clause-outcome
returns-clause-outcome g c =
    played _ _ c.in_ok-text.text.items c.as_slice.result.now c.in_ok-script.script c.lines.result.now c.write_report.result c.in_ok-text.ensures.all c.in_ok-text.ensures.end c.in_ok-text.ensures.within
    c.as_slice.ensures.value c.in_ok-script.ensures.ok c.lines.ensures.value c.write_report.ensures.ok c.write_report.ensures.err c.write_report.ensures.causes
