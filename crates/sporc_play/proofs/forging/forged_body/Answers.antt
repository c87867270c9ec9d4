use Rattle.std.proofs.Common.{◌≡◌, sym, subst}
use Rattle.sporc_play.proofs.Common.{state_of, Setup, What, forged_body, IsCastOf, IfOk, IfOk-weaker}
use Rattle.sporc_play.proofs.forging.forged_body.Goals as goal

pub returns-in-Insert-clause-value : goal.returns-in-Insert-clause-value
returns-in-Insert-clause-value c =
    let f = c.args.forgery.now in
    let P : What → Type 0 = λ what. IfOk c.insertion_body.result (λ body. (s : Setup) → IsCastOf s c.args.cast.now
    → body.items ≡ forged_body s (state_of c.args.client.now) f.signed.suffix c.args.header.now c.args.new_key.now what) in
    subst P (sym c.in-Insert.is) (IfOk-weaker c.insertion_body.result _ _ (λ v e. λ s is. e s f.signed.suffix c.args.new_key.now) c.insertion_body.ensures.value)
