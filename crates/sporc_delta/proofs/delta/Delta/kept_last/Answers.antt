use Rattle.std.proofs.Common.{◌≡◌, ap, arith, sym, ◌∙◌}
use Rattle.sporc_delta.proofs.Common.{Last, base_len, kept_at_end, runs, kept_last}
use Rattle.sporc_delta.proofs.Runs.{runs-marks_of}
use Rattle.sporc_delta.proofs.Shifted.{shifted_lengths}
use Rattle.sporc_delta.proofs.delta.Delta.kept_last.Goals as goal

pub returns : goal.returns
returns c =
    let known = c.self.invariant in
    let value : c.kept_last.result ≡ kept_last c.args.self.now =
    c.kept_last.ensures.value ∙ ap kept_at_end (c.as_slice.ensures.value ∙ sym (runs-marks_of c.self.inside.parts.items known.are_runs) ∙ ap runs c.self.view_is) in
    record {
      value = value;
      within = omega (arith, value, (shifted_lengths (Last 0) c.args.self.now).in_base, known.base_is, known.base_limit, ap base_len c.self.view_is);
    }
