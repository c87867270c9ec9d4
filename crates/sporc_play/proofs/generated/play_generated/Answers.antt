use Rattle.std.proofs.Common.{rules, ◌≡◌, ℕ, List, Err, string_bytes, subst}
use Rattle.sporc_play.proofs.Common.{Appends, generated_scene, AppendsPrefix}
use Rattle.sporc_outside.specs.Counts.{Rose}
use Rattle.sporc_play.specs.declared.fault.PlayFault.TheVariants as faults
use Rattle.sporc_play.proofs.GeneratedRun.{generated_one, generated_open}
use Rattle.sporc_play.proofs.generated.play_generated.Goals as goal

pub summary-line-requires : goal.summary-line-requires
summary-line-requires g c = generated_open c.args.edits c.in_ok-state.state c.in_ok-state.ensures

pub returns-in_err-write_all-clause-err : goal.returns-in_err-write_all-clause-err
returns-in_err-write_all-clause-err g c =
    let is : c.from_residual-in_err-write_all.result ≡ Err faults.WriteFault = search rules in
    let rose : Rose (g.O.Stream.told c.args.out.now).faults (g.O.Stream.told c.write_all.new.out).faults = search rules in
    let written = subst (λ (bs : List ℕ). AppendsPrefix (g.O.Stream.told c.args.out.now).written (g.O.Stream.told c.write_all.new.out).written bs) c.as_bytes.ensures.value c.in_err-write_all.ensures.err in
    rw is (rose, (generated_one c.args.edits c.requires.limit, (string_bytes c.in_ok-line.line, c.in_ok-line.ensures (generated_scene c.args.edits) c.in_ok-state.ensures, written)))

pub returns-clause-ok : goal.returns-clause-ok
returns-clause-ok g c =
    let written = subst (λ (bs : List ℕ). Appends (g.O.Stream.told c.args.out.now).written (g.O.Stream.told c.write_all.new.out).written bs) c.as_bytes.ensures.value c.in_ok-write_all.ensures.ok in
    (generated_one c.args.edits c.requires.limit, (string_bytes c.in_ok-line.line, c.in_ok-line.ensures (generated_scene c.args.edits) c.in_ok-state.ensures, written))
