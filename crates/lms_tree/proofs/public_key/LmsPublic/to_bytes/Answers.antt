use Rattle.std.proofs.Common.{◌≡◌, arith, rules}
use Rattle.std.proofs.lemmas.Grind.{common_steps}
use Rattle.lms_tree.specs.LmsPublic.{public_key_bytes}
use Rattle.lms_tree.proofs.PublicKeyLemmas.{public_key_read_back}
use Rattle.lms_tree.proofs.public_key.LmsPublic.to_bytes.Goals as goal

pub returns-clause-read_again : goal.returns-clause-read_again
returns-clause-read_again c =
    let bytes : c.put_at-4.new.bytes ≡ public_key_bytes c.args.self.now = grind (arith, common_steps) in
    rw bytes (public_key_read_back c.args.self.now (search rules) (search rules))
