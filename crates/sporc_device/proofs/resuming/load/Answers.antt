use Rattle.std.proofs.Common.{List, ℕ, Err, Some, option_map, ap, sym, ◌∙◌}
use Rattle.sporc_device.proofs.Common.{err_from_is_err_and}
use Rattle.std.specs.Global.{Vec}
use Rattle.sporc_device.proofs.Resumed.{stopped_so}
use Rattle.sporc_device.proofs.resuming.load.Goals as goal

pub returns-in_err-stopped-in-Ok-clause-entries : goal.returns-in_err-stopped-in-Ok-clause-entries
returns-in_err-stopped-in-Ok-clause-entries g c =
    let p = err_from_is_err_and c.from_residual.result c.from_residual.ensures.1 in
    stopped_so c.args.device c.args.line.genesis c.args.line.kit _ c.as_slice.result.now c.in-Ok.line.entries c.in-Ok.stop c.in_err-stopped-in-Ok.field-0.0 c.from_residual.result
    (ap (option_map (λ (bytes : Vec ℕ). bytes.items)) c.in-Some.is ∙ ap (λ (bytes : List ℕ). Some bytes) (sym c.as_slice.ensures.value)) c.in-Ok.ensures.ok c.in_err-stopped-in-Ok.ensures.value
    (p.1 ∙ ap Err p.2)
