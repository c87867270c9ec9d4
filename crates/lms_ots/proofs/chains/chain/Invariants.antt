use Rattle.std.proofs.Common.{◌≡◌, ◌-◌, take}
use Rattle.lms_ots.specs.Chains.{chain_front, chain_of}
use Rattle.lms_ots.proofs.chains.chain.Given as goal

abbrev pub invariant-steps : goal.invariant-steps
invariant-steps l =
    (take 22 l.string ≡ chain_front l.fn.id l.fn.q l.fn.i)
    × (l.value ≡ chain_of l.fn.id l.fn.q l.fn.i l.from (l.j - l.from) l.fn.start)
