use Rattle.std.proofs.Common.{◌∙◌, ℕ, List, Vec, Global, ap, sym, subst}
use Rattle.sporc_wire.proofs.Common.{Entries, framed, to_client_bytes, GivesUnless}
use Rattle.sporc_wire.specs.declared.fault.FrameFault.TheVariants as faults
use Rattle.sporc_wire.proofs.to_client.write_to_client.Goals as goal

pub returns-in-Entries : goal.returns-in-Entries
returns-in-Entries c =
    let same = ap (λ (es : List (List ℕ)). to_client_bytes (Entries c.in-Entries.first es)) c.as_slice.ensures.value ∙ ap to_client_bytes (sym c.in-Entries.is) in
    record {
      value = subst (λ (body : List ℕ). GivesUnless faults.Memory (λ (v : Vec ℕ Global). v.items) c.entries_frame.result (framed body)) same c.entries_frame.ensures.value;
    }
