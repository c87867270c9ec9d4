use Rattle.std.proofs.Common.{◌≡◌, ℕ, List, sym, subst}
use Rattle.sporc_client.proofs.Common.{IfOk, OnOk, Pending, IsSpelled, body_of}
use Rattle.sporc_client.proofs.client.submitting.unsigned.entry_body.Goals as goal

pub returns-in-Change-clause-value : goal.returns-in-Change-clause-value
returns-in-Change-clause-value c =
    let P : Pending → Type 0 = λ item. IfOk c.change_body.result (λ (body : List ℕ). body ≡ body_of c.args.line.now c.args.leaf c.args.new_key.now item) in
    subst P (sym c.in-Change.is) c.change_body.ensures.value

pub returns-in-Change-clause-spelled : goal.returns-in-Change-clause-spelled
returns-in-Change-clause-spelled c =
    let P : Pending → Type 0 = λ item. OnOk c.change_body.result (IsSpelled c.args.line.now c.args.leaf c.args.new_key.now item) in
    subst P (sym c.in-Change.is) c.change_body.ensures.spelled
