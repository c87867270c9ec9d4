use Rattle.std.proofs.Common.{◌≡◌, length, ap, ◌∙◌}
use Rattle.sporc_epoch.proofs.Common.{pairs_in, length-sha256}
use Rattle.sporc_epoch.proofs.SpelledBodies.{spelled_with}
use Rattle.sporc_epoch.proofs.seal.seal_change_at.Goals as goal

pub returns-clause-spelled : goal.returns-clause-spelled
returns-clause-spelled c version kind change few =
    let sealing = c.args.sealing.now in
    let previous : length c.masked.result ≡ 32 = search in
    spelled_with version _ sealing.stream sealing.new.now (pairs_in c.args.pairs.now) sealing.members.now kind change
    (ap length c.commit.ensures.value ∙ length-sha256 _) previous (c.new.ensures.value ∙ c.in_ok-wraps.ensures.value)
    c.seal_wraps.ensures.typed.0 c.seal_wraps.ensures.typed.1 few
