-- A refusal as two numbers: that of its check, from 1 to 23, and a detail.
use Rattle.std.specs.Prelude.{ℕ, ◌==◌, List, [], ◌∷◌, Option, None, Some, find, if◌then◌else◌}
use Rattle.sporc_member.specs.ChangeFault.{change_fault_code_of, change_fault_with_code}
use Rattle.sporc_head.specs.HeadChecks.{bad_change}
use Rattle.sporc_head.specs.declared.refusal.Refusal.{Refusal}
use Rattle.sporc_head.specs.declared.refusal.Refusal.TheVariants.{Malformed, WrongDocument}
use Rattle.sporc_head.specs.declared.refusal.Refusal.TheVariants.{WrongPosition, Removed}
use Rattle.sporc_head.specs.declared.refusal.Refusal.TheVariants.{HistoryFull, UnknownAuthor}
use Rattle.sporc_head.specs.declared.refusal.Refusal.TheVariants.{BaseAhead, BeforeBarrier}
use Rattle.sporc_head.specs.declared.refusal.Refusal.TheVariants.{WrongHistory, WrongNumber}
use Rattle.sporc_head.specs.declared.refusal.Refusal.TheVariants.{BehindOwn, WrongEpoch, NoRight}
use Rattle.sporc_head.specs.declared.refusal.Refusal.TheVariants.{LeafMismatch, BadSignature}
use Rattle.sporc_head.specs.declared.refusal.Refusal.TheVariants.{BadPayload, WrongLength}
use Rattle.sporc_head.specs.declared.refusal.Refusal.TheVariants.{BadChange, WrongWraps, NoKey}
use Rattle.sporc_head.specs.declared.refusal.Refusal.TheVariants.{WrongKey, WrongVersion}
use Rattle.sporc_head.specs.declared.refusal.Refusal.TheVariants.{UnknownDevice}
use Rattle.sporc_head.specs.Refusal.{refusal_code_of}

-- the detail: where an entry is malformed, which fault a change has, and else 0
abbrev pub refusal_detail_of : Refusal → ℕ
refusal_detail_of (Malformed at) = at
refusal_detail_of (BadChange fault) = change_fault_code_of fault
refusal_detail_of _ = 0

-- the refusals with no detail
abbrev pub plain_refusals : List Refusal
plain_refusals = WrongDocument ∷ WrongPosition ∷ Removed ∷ HistoryFull ∷ UnknownAuthor ∷ BaseAhead
    ∷ BeforeBarrier ∷ WrongHistory ∷ WrongNumber ∷ BehindOwn
    ∷ WrongEpoch ∷ NoRight ∷ LeafMismatch ∷ BadSignature ∷ BadPayload ∷ WrongLength ∷ WrongWraps
    ∷ NoKey ∷ WrongKey ∷ WrongVersion ∷ UnknownDevice ∷ []

-- the refusal with these two numbers, if there is one
unfoldable pub refusal_with : ℕ → ℕ → Option Refusal
refusal_with code detail =
    if code == refusal_code_of (Malformed detail) then Some (Malformed detail)
    else if code == 18 then bad_change (change_fault_with_code detail)
    else if detail == 0 then find (λ r. refusal_code_of r == code) plain_refusals
    else None
