-- Which summaries are evidence: those that a founder signed of a document's own history.
use Rattle.std.specs.Prelude.{ℕ, ◌==◌, Bool, false, List, [], ◌∷◌, slice_get, Option, None, Some}
use Rattle.std.specs.Prelude.{is_some, find, option_map, Result, Ok, Err, if◌then◌else◌}
use Rattle.std.specs.Option.{option_map_or}
use Rattle.std.specs.Str.{bytes_eq}
use Rattle.sporc_base.specs.FirstFault.{unless, first_of}
use Rattle.sporc_bytes.specs.Fields.{fault_as}
use Rattle.sporc_hash.specs.Chain.{genesis_value}
use Rattle.sporc_member.specs.declared.device.TheConstants.{FIRST_DEVICE}
use Rattle.sporc_entry.specs.declared.genesis.Genesis.{Genesis}
use Rattle.sporc_entry.specs.Genesis.{genesis_bytes}
use Rattle.sporc_head.specs.HeadChecks.{verifies_device}
use Rattle.sporc_evidence.specs.declared.fault.EvidenceFault.{EvidenceFault}
use Rattle.sporc_evidence.specs.declared.fault.EvidenceFault.TheVariants.{Malformed, WrongDocument}
use Rattle.sporc_evidence.specs.declared.fault.EvidenceFault.TheVariants.{WrongGenesis}
use Rattle.sporc_evidence.specs.declared.fault.EvidenceFault.TheVariants.{UnknownSigner}
use Rattle.sporc_evidence.specs.declared.fault.EvidenceFault.TheVariants.{BadSignature}
use Rattle.sporc_evidence.specs.Summary.{SummaryModel}
use Rattle.sporc_evidence.specs.SummaryBytes.{signed_string, summary_in}

-- the key of a founder, which is that of its first device, as the genesis names it
abbrev pub founder_key : Genesis → ℕ → ℕ → Option (List ℕ)
founder_key genesis author device =
    if device == FIRST_DEVICE
    then option_map (λ f. f.key) (find (λ f. f.member == author) genesis.founders)
    else None

-- whether the values of a chain begin with a genesis
abbrev pub begins_with : List (List ℕ) → Genesis → Bool
begins_with hashes genesis =
    option_map_or (bytes_eq (genesis_value (genesis_bytes genesis))) (slice_get hashes 0) false

-- the checks of a summary with its signature, in their order
abbrev pub evidence_checks : Genesis → SummaryModel → List ℕ → List (Option EvidenceFault)
evidence_checks genesis x signature =
    let key = founder_key genesis x.author x.device in
    unless (bytes_eq x.document genesis.document) WrongDocument
    ∷ unless (begins_with x.hashes genesis) WrongGenesis
    ∷ unless (is_some key) UnknownSigner
    ∷ unless (verifies_device (signed_string x) signature key) BadSignature
    ∷ []

-- a summary that no check refuses
abbrev pub passed : SummaryModel → Option EvidenceFault → Result SummaryModel EvidenceFault
passed x None = Ok x
passed x (Some fault) = Err fault

-- a summary that was read with its signature, if no check refuses it
abbrev pub checked : Genesis → Result (SummaryModel × List ℕ) EvidenceFault
    → Result SummaryModel EvidenceFault
checked genesis (Ok x) = passed x.0 (first_of (evidence_checks genesis x.0 x.1))
checked genesis (Err fault) = Err fault

-- the evidence that bytes are, for a document of this genesis
unfoldable pub evidence_in : Genesis → List ℕ → Result SummaryModel EvidenceFault
evidence_in genesis bytes = checked genesis (fault_as Malformed (summary_in bytes))
