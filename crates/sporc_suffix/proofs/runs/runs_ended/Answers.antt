use Rattle.std.proofs.Common.{◌≡◌, ◌-◌, ◌∷◌, ◌++◌, ℕ, [], suc, Some, get_or, length, ap, refl, sym, ◌∙◌, arith}
use Rattle.sporc_suffix.proofs.Common.{slice_get, length-append, length-map, compose, ReadyModel, forms_in, runs_of}
use Rattle.sporc_suffix.proofs.Composed.{length-pairs, few_left}
use Rattle.sporc_suffix.proofs.Kept.{ended_more, ended_all, next_follow}
use Rattle.sporc_suffix.proofs.runs.runs_ended.Goals as goal

pub composed-requires : goal.composed-requires
composed-requires c =
    let n : c.len.result ≡ length c.levels.runs.items = omega arith in
    let at : slice_get (runs_of (length c.levels.runs.items) (forms_in c.args.forms.now)) (c.levels.count - 1) ≡ Some c.run_at-before.result.now =
    ap (λ (k : ℕ). slice_get (runs_of k (forms_in c.args.forms.now)) (c.levels.count - 1)) (sym n) ∙ c.run_at-before.ensures.value in
    rw (c.newest.ensures.value, c.as_slice.ensures.value)
    (next_follow (forms_in c.args.forms.now) c.args.form.now c.levels.runs.items c.levels.count c.run_at-before.result.now c.requires.joined c.levels.invariant.ended (omega (arith, c.levels-test.true)) c.levels.invariant.count at)

pub levels-preserved : goal.levels-preserved
levels-preserved c =
    let runs = c.levels.runs.items in
    let n : c.len.result ≡ length c.levels.runs.items = omega arith in
    let at : slice_get (runs_of (length c.levels.runs.items) (forms_in c.args.forms.now)) (c.levels.count - 1) ≡ Some c.run_at-before.result.now =
    ap (λ (k : ℕ). slice_get (runs_of k (forms_in c.args.forms.now)) (c.levels.count - 1)) (sym n) ∙ c.run_at-before.ensures.value in
    let composed : c.in_ok-run.run' ≡ compose c.run_at-before.result.now (get_or (c.args.form.now ∷ c.levels.runs.items) (length c.levels.runs.items) c.args.form.now) =
    c.in_ok-run.ensures.ok ∙ ap (compose c.run_at-before.result.now) (rw (c.newest.ensures.value, c.as_slice.ensures.value) refl) in
    let more : length (c.levels.runs.items ++ c.in_ok-run.run' ∷ []) ≡ suc (length c.levels.runs.items) = omega (arith, length-append c.levels.runs.items (c.in_ok-run.run' ∷ [])) in
    rw c.in_ok-push.ensures.items record {
      ended = ended_more (forms_in c.args.forms.now) c.args.form.now c.levels.runs.items c.levels.count c.run_at-before.result.now c.in_ok-run.run' c.levels.invariant.ended c.levels-test.true c.levels.invariant.count at composed;
      count = rw more (omega (arith, c.levels.invariant.count, c.levels-test.true, length-pairs (runs_of (length c.levels.runs.items) (forms_in c.args.forms.now)), few_left (runs_of (length c.levels.runs.items) (forms_in c.args.forms.now))));
      few = omega (arith, more, c.levels.invariant.few, c.levels-test.true);
    }

pub returns : goal.returns
returns c = record {
  ok =
      ended_all (forms_in c.args.forms.now) c.args.form.now c.levels.runs.items c.levels.count (length c.args.forms.now) c.levels.invariant.ended (omega (arith, c.levels-test.false)) c.levels.invariant.count
      (sym (length-map c.args.forms.now (λ (item : ReadyModel). item.form)));
}
