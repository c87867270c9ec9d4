use Rattle.std.proofs.Common.{◌<◌, ◌^◌, List, ℕ, length, sym, subst, arith}
use Rattle.sporc_play.proofs.Common.{IsSmallBody, IfOk-weaker}
use Rattle.sporc_play.proofs.Forgeries.{small_bytes, spoiled_small}
use Rattle.sporc_play.proofs.forging.change_body.Goals as goal

pub write_change-requires : goal.write_change-requires
write_change-requires c =
    let small : IsSmallBody c.in_ok-body-2.body = subst IsSmallBody (sym c.in_ok-body-2.ensures) (spoiled_small c.args.suffix c.in_ok-body.body c.in_ok-body.ensures.small) in
    omega (arith, small.few)

pub returns-clause-within : goal.returns-clause-within
returns-clause-within c =
    let small : IsSmallBody c.in_ok-body-2.body = subst IsSmallBody (sym c.in_ok-body-2.ensures) (spoiled_small c.args.suffix c.in_ok-body.body c.in_ok-body.ensures.small) in
    let AreShort : List ℕ → Type 0 = λ bytes. length bytes < 2 ^ 32 in
    IfOk-weaker c.write_change.result _ _ (λ bytes e. subst AreShort (sym e) (small_bytes c.in_ok-body-2.body small)) c.write_change.ensures.ok
