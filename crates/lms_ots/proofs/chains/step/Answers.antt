use Rattle.std.proofs.Common.{◌≡◌, length, rules}
use Rattle.lms_ots.proofs.WrittenLemmas.{written_from}
use Rattle.lms_ots.proofs.chains.step.Goals as goal

pub returns-clause-value : goal.returns-clause-value
returns-clause-value c =
    let value : c.copy_from_slice.new.self ≡ c.args.value.now = search rules in
    let size : length c.args.string.now ≡ 55 = search rules in
    let all : length c.args.value.now ≡ 32 = search rules in
    rw (← written_from 22 32 c.args.string.now c.args.value.now c.args.j size all, ← value) c.digest.ensures
