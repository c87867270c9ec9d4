use Rattle.std.proofs.Common.{◌≡◌, ◌≤◌, ℕ, List, length, ap, sym, ◌∙◌, subst, Result, Ok}
use Rattle.sporc_head.proofs.Common.{next_value, Entry, entry_of, hash_of}
use Rattle.sporc_entry.specs.declared.limits.TheConstants.{MAX_ENTRY}
use Rattle.sporc_entry.specs.declared.fault.EntryFault.TheVariants.{Malformed}
use Rattle.sporc_entry.proofs.FieldLaws.{fault_as_ok}
use Rattle.sporc_head.proofs.ChecksPass.{fault_for_nobody}
use Rattle.sporc_head.proofs.Examination.{exact_of, if_some}
use Rattle.sporc_head.proofs.OnceChecked.{passed_of}
use Rattle.sporc_head.proofs.heads.Heads.check_known.Goals as goal

pub check_entry-requires : goal.check_entry-requires
check_entry-requires c =
    let found : entry_of c.args.bytes.now ≡ Ok c.in_ok-view.view.entry = fault_as_ok Malformed (entry_of c.args.bytes.now) c.in_ok-view.view.entry c.in_ok-view.ensures.value in
    record { exact = if_some c.args.known _ _ c.requires.exact (λ v h. exact_of v.now c.args.bytes.now c.in_ok-view.view.entry found h) }

pub returns-clause-checked : goal.returns-clause-checked
returns-clause-checked c =
    let g = c.args.self.now.genesis in
    let entries : List (List ℕ) = c.args.self.now.entries in
    let checked = c.in_ok-checked.checked in
    let same : checked.bytes ≡ c.args.bytes.now = c.in_ok-checked.ensures.bytes ∙ c.in_ok-view.ensures.bytes in
    let made : Entry → Result Entry ℕ = λ e. Ok e in
    let found : entry_of c.args.bytes.now ≡ Ok c.in_ok-view.view.entry = fault_as_ok Malformed (entry_of c.args.bytes.now) c.in_ok-view.view.entry c.in_ok-view.ensures.value in
    let read : entry_of checked.bytes ≡ Ok checked.entry = ap entry_of same ∙ found ∙ ap made (sym c.in_ok-checked.ensures.entry) in
    let seen : entry_of checked.bytes ≡ Ok c.in_ok-view.view.entry = ap entry_of same ∙ found in
    record {
      read = read;
      sized = subst (λ (b : List ℕ). length b ≤ MAX_ENTRY) (sym same) c.in_ok-view.ensures.within;
      hash = c.in_ok-checked.ensures.hash ∙ c.hash_after-hash.ensures.value ∙ ap (next_value (hash_of g entries)) (sym same);
      passed = fault_for_nobody g c.args.me entries c.args.pos checked.bytes (passed_of g c.args.me entries c.args.pos checked.bytes c.in_ok-view.view.entry seen c.in_ok-check_entry.ensures);
    }
