use Rattle.std.proofs.Common.{◌≡◌, length, arith, rules}
use Rattle.sporc_exchange.proofs.Common.{length-append}
use Rattle.sporc_exchange.proofs.exchange.hello_of.Goals as goal

pub returns-clause-within : goal.returns-clause-within
returns-clause-within c =
    let document : length c.args.document.now ≡ 16 = search rules in
    omega (arith, document, length-append c.args.document.now)
