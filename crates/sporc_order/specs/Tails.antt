-- Entries that a tail keeps before an order takes them.
use Rattle.std.specs.Prelude.{◌≡◌, ◌≢◌, Option, None, Some, Result, Ok, Err}
use Rattle.sporc_head.specs.declared.refusal.Refusal.{Refusal}
use Rattle.sporc_head.specs.declared.refusal.Refusal.TheVariants.{Memory}
use Rattle.sporc_order.specs.declared.tail.Untaken.{Untaken}
use Rattle.sporc_order.specs.declared.tail.Untaken.TheVariants.{Refused, Unkept}
use Rattle.sporc_order.specs.declared.tail.Unanswered.{Unanswered}
use Rattle.sporc_order.specs.declared.tail.Unanswered.TheVariants as unanswered

-- an entry that fails this first check, or none, is answered by it, unless memory ran out; one that
-- fails none may not be kept
abbrev pub TakesUnless : {X : Type 0} → Type 0 → Result X Untaken → Option Refusal → Type 0
TakesUnless may_fail (Ok x) fault = fault ≡ None
TakesUnless may_fail (Err (Refused refusal)) fault = refusal ≢ Memory → fault ≡ Some refusal
TakesUnless may_fail (Err Unkept) fault = (fault ≡ None) × may_fail

-- why a message is not answered
abbrev pub IsUnanswered : Type 0 → Unanswered → Type 0
IsUnanswered may_fail unanswered.Memory = Unit {0}
IsUnanswered may_fail unanswered.Unkept = may_fail
