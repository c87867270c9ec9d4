use Rattle.std.proofs.Common.{◌≡◌, ◌+◌, ◌≤◌, ℕ, drop, take, sym, subst}
use Rattle.sporc_suffix.proofs.Common.{base_len, inserted_len, BlocksModel, Follow, all_inserted, reached, forms_in}
use Rattle.sporc_delta.specs.declared.limits.TheConstants.{MAX_TEXT_LEN}
use Rattle.sporc_suffix.proofs.Passing.{Follow-drop}
use Rattle.sporc_suffix.proofs.blocks.Blocks.later_over.Goals as goal

pub over_runs-requires-clause-fits : goal.over_runs-requires-clause-fits
over_runs-requires-clause-fits g c =
    let q = c.args.q.now in
    let items = c.self.inside.forms.items in
    let P : BlocksModel → Type 0 = λ b. base_len c.args.q.now ≡ reached b.base (take c.args.from b.forms) in
    let Q : BlocksModel → Type 0 = λ b. base_len c.args.q.now + inserted_len c.args.q.now + all_inserted (drop c.args.from b.forms) ≤ MAX_TEXT_LEN in
    let stated = subst P (sym c.self.view_is) c.requires.base in
    let R : ℕ → Type 0 = λ n. Follow n (drop c.args.from (forms_in c.self.inside.forms.items)) in
    rw (c.in_ok-copy.ensures.ok, c.as_slice.ensures.value) record {
      follow = subst R (sym stated) (Follow-drop c.self.inside.base c.args.from (forms_in c.self.inside.forms.items) c.self.invariant.follow);
      limit = subst Q (sym c.self.view_is) c.requires.limit;
    }
