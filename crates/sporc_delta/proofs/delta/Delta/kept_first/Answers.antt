use Rattle.std.proofs.Common.{◌≡◌, ap, arith, sym, ◌∙◌}
use Rattle.sporc_delta.proofs.Common.{First, base_len, runs, kept_at_start, kept_first}
use Rattle.sporc_delta.proofs.Runs.{runs-marks_of}
use Rattle.sporc_delta.proofs.Shifted.{shifted_lengths}
use Rattle.sporc_delta.proofs.delta.Delta.kept_first.Goals as goal

pub returns : goal.returns
returns c =
    let known = c.self.invariant in
    let value : c.kept_first.result ≡ kept_first c.args.self.now =
    c.kept_first.ensures.value ∙ ap kept_at_start (c.as_slice.ensures.value ∙ sym (runs-marks_of c.self.inside.parts.items known.are_runs) ∙ ap runs c.self.view_is) in
    record {
      value = value;
      within = omega (arith, value, (shifted_lengths (First 0) c.args.self.now).in_base, known.base_is, known.base_limit, ap base_len c.self.view_is);
    }
