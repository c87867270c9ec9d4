use Rattle.std.proofs.Common.{◌≡◌, length, rules}
use Rattle.sporc_session.proofs.Submitting.{both_put}
use Rattle.sporc_session.proofs.receiver.joined.Goals as goal

pub returns : goal.returns
returns c =
    let first : length c.args.first.now ≡ 32 = search rules in
    let second : length c.args.second.now ≡ 32 = search rules in
    let both : length c.put_at-2.new.bytes ≡ 64 = search rules in
    both_put c.put_at.new.bytes c.put_at-2.new.bytes c.args.first.now c.args.second.now first second both c.put_at.ensures.value c.put_at-2.ensures.value
