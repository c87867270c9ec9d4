use Rattle.std.proofs.Common.{ap}
use Rattle.sporc_hash.specs.Chain.{chain}
use Rattle.sporc_entry.specs.Genesis.{genesis_bytes}
use Rattle.sporc_evidence.proofs.Shown.{consistent, no_history, part}
use Rattle.sporc_evidence.proofs.laws.forks_are_shown.Goals as goal

pub returns-clause-no_history : goal.returns-clause-no_history
returns-clause-no_history c genesis entries a b after left right e of_a of_b = no_history (chain (genesis_bytes genesis) entries) a b after left right e of_a of_b

pub returns-clause-two_entries : goal.returns-clause-two_entries
returns-clause-two_entries c s moves i j x y after left right p q free e =
    part (genesis_bytes s.genesis) p.client.entries q.client.entries x.hashes y.hashes (ap (λ z. z.hashes) p.summary) (ap (λ z. z.hashes) q.summary) free after left right e

pub returns-clause-one_history : goal.returns-clause-one_history
returns-clause-one_history c s moves i j x y verdict p q free e =
    consistent (genesis_bytes s.genesis) p.client.entries q.client.entries x.hashes y.hashes (ap (λ z. z.hashes) p.summary) (ap (λ z. z.hashes) q.summary) free verdict e

pub returns-clause-whoever_signed : goal.returns-clause-whoever_signed
returns-clause-whoever_signed c genesis p q a b after left right of_a of_b free e = part (genesis_bytes genesis) p q a b of_a of_b free after left right e
