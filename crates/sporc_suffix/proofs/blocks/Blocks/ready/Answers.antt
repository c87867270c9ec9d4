use Rattle.std.proofs.Common.{◌≡◌, sym, subst}
use Rattle.sporc_suffix.proofs.Common.{base_len, BlocksModel, reached, forms_in}
use Rattle.sporc_suffix.proofs.Composed.{joined}
use Rattle.sporc_suffix.proofs.Passing.{Follow-append}
use Rattle.sporc_suffix.proofs.blocks.Blocks.ready.Goals as goal

pub room_and_runs-requires-clause-joined : goal.room_and_runs-requires-clause-joined
room_and_runs-requires-clause-joined c =
    let P : BlocksModel → Type 0 = λ b. base_len c.args.form ≡ reached b.base b.forms in
    joined c.self.inside.base _ (Follow-append c.self.inside.base (forms_in c.self.inside.forms.items) c.args.form c.self.invariant.follow (subst P (sym c.self.view_is) c.requires.base))
