use Rattle.sporc_cipher.proofs.Stream.{mask_from-mask_from, length-mask_from}
use Rattle.sporc_cipher.proofs.laws.mask_twice.Goals as goal

pub returns-clause-undone : goal.returns-clause-undone
returns-clause-undone c = mask_from-mask_from c.args.key.now c.args.stream 0 c.args.bytes.now

pub returns-clause-len : goal.returns-clause-len
returns-clause-len c = length-mask_from c.args.key.now c.args.stream 0 c.args.bytes.now
