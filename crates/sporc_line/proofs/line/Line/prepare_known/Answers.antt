use Rattle.std.proofs.Common.{◌≡◌, ℕ, ◌+◌, List, length, Some, None, ap, sym, ◌∙◌, subst}
use Rattle.sporc_line.proofs.Common.{err_from_is_err_and, first_of, Device, Memory, head_fault, key_checks, first_fault, LineModel, unless_exit}
use Rattle.sporc_line.proofs.NextEntry.{fault_at_head, at_next}
use Rattle.sporc_line.proofs.Effects.{checked_faults}
use Rattle.sporc_line.proofs.line.Line.prepare_known.Goals as goal

pub returns-in_err-checked-clause-fault : goal.returns-in_err-checked-clause-fault
returns-in_err-checked-clause-fault c =
    let p = err_from_is_err_and c.from_residual.result c.from_residual.ensures.1 in
    let i = c.self.inside in
    unless_exit Memory _ p.0 c.in_err-checked.field-0.0 _ p.1 p.2 (λ n.
    subst (λ (m : LineModel). first_fault m.genesis m.kit m.entries c.args.pos c.args.bytes.now ≡ Some c.in_err-checked.field-0.0) c.self.view_is
    (fault_at_head i.heads.genesis i.kit i.heads.entries c.args.pos c.args.bytes.now c.in_err-checked.field-0.0
    (ap (λ (me : Device). head_fault i.heads.genesis (Some me) i.heads.entries c.args.pos c.args.bytes.now) (sym c.me.ensures.value) ∙ c.in_err-checked.ensures.fault n)))

pub returns-in_err-effect-clause-fault : goal.returns-in_err-effect-clause-fault
returns-in_err-effect-clause-fault c =
    let p = err_from_is_err_and c.from_residual-in_err-effect.result c.from_residual-in_err-effect.ensures.1 in
    let here : first_fault c.args.self.now.genesis c.args.self.now.kit c.args.self.now.entries c.args.pos c.args.bytes.now ≡ first_of (key_checks c.args.self.now.genesis c.args.self.now.kit c.args.self.now.entries c.in_ok-checked.checked.entry)
    = subst (λ (m : LineModel). first_fault m.genesis m.kit m.entries c.args.pos c.args.bytes.now ≡ first_of (key_checks m.genesis m.kit m.entries c.in_ok-checked.checked.entry)) c.self.view_is
    (checked_faults c.self.inside.heads.genesis c.self.inside.kit c.self.inside.heads.entries c.args.pos c.me.result c.args.bytes.now c.in_ok-checked.checked c.in_ok-checked.ensures.checked c.in_ok-checked.ensures.bytes c.me.ensures.value c.in_ok-checked.ensures.fault) in
    unless_exit Memory _ p.0 c.in_err-effect.field-0.0 _ p.1 p.2 (λ n. here ∙ c.in_err-effect.ensures.fault n)

pub ready-requires-clause-passed : goal.ready-requires-clause-passed
ready-requires-clause-passed c =
    let here : first_fault c.args.self.now.genesis c.args.self.now.kit c.args.self.now.entries c.args.pos c.args.bytes.now ≡ first_of (key_checks c.args.self.now.genesis c.args.self.now.kit c.args.self.now.entries c.in_ok-checked.checked.entry)
    = subst (λ (m : LineModel). first_fault m.genesis m.kit m.entries c.args.pos c.args.bytes.now ≡ first_of (key_checks m.genesis m.kit m.entries c.in_ok-checked.checked.entry)) c.self.view_is
    (checked_faults c.self.inside.heads.genesis c.self.inside.kit c.self.inside.heads.entries c.args.pos c.me.result c.args.bytes.now c.in_ok-checked.checked c.in_ok-checked.ensures.checked c.in_ok-checked.ensures.bytes c.me.ensures.value c.in_ok-checked.ensures.fault) in
    let none = at_next c.args.self.now.genesis c.args.self.now.kit c.args.self.now.entries c.args.pos c.args.bytes.now (here ∙ c.in_ok-effect.ensures.fault) in
    subst (λ (b : List ℕ). first_fault c.args.self.now.genesis c.args.self.now.kit c.args.self.now.entries (length c.args.self.now.entries + 1) b ≡ None) (sym c.in_ok-checked.ensures.bytes) none

pub returns-clause-fault : goal.returns-clause-fault
returns-clause-fault c =
    let here : first_fault c.args.self.now.genesis c.args.self.now.kit c.args.self.now.entries c.args.pos c.args.bytes.now ≡ first_of (key_checks c.args.self.now.genesis c.args.self.now.kit c.args.self.now.entries c.in_ok-checked.checked.entry)
    = subst (λ (m : LineModel). first_fault m.genesis m.kit m.entries c.args.pos c.args.bytes.now ≡ first_of (key_checks m.genesis m.kit m.entries c.in_ok-checked.checked.entry)) c.self.view_is
    (checked_faults c.self.inside.heads.genesis c.self.inside.kit c.self.inside.heads.entries c.args.pos c.me.result c.args.bytes.now c.in_ok-checked.checked c.in_ok-checked.ensures.checked c.in_ok-checked.ensures.bytes c.me.ensures.value c.in_ok-checked.ensures.fault) in
    here ∙ c.in_ok-effect.ensures.fault
