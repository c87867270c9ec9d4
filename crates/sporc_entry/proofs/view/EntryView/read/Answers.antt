use Rattle.std.proofs.Common.{arith, ◌≤◌, ℕ, List, length, subst, sym}
use Rattle.sporc_entry.proofs.Common.{MAX_ENTRY, entry_of, Malformed, fault_as_ok}
use Rattle.sporc_entry.proofs.EntryLaws.{entry_takes, entry_size}
use Rattle.sporc_entry.proofs.ViewLaws.{view_holds}
use Rattle.sporc_entry.proofs.view.EntryView.read.Goals as goal

pub invariant_of-result : goal.invariant_of-result
invariant_of-result c = view_holds c.args.bytes.now _ c.in_ok-parts.parts.change (λ i. omega (arith, c.type_inv.bytes i)) (fault_as_ok Malformed (entry_of c.args.bytes.now) _ c.in_ok-parts.ensures.value) c.in_ok-parts.ensures.edit c.in_ok-parts.ensures.change

pub returns-clause-found : goal.returns-clause-found
returns-clause-found c = entry_takes c.args.bytes.now _ (λ i. omega (arith, c.type_inv.bytes i)) (fault_as_ok Malformed (entry_of c.args.bytes.now) _ c.in_ok-parts.ensures.value)

pub returns-clause-within : goal.returns-clause-within
returns-clause-within c =
    let t = entry_takes c.args.bytes.now _ (λ i. omega (arith, c.type_inv.bytes i)) (fault_as_ok Malformed (entry_of c.args.bytes.now) _ c.in_ok-parts.ensures.value) in
    subst (λ (b : List ℕ). length b ≤ MAX_ENTRY) (sym t.1) (entry_size _ t.0)
