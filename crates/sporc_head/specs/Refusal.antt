-- What is printed and sent of a refusal.
use Rattle.std.specs.Prelude.{ℕ, List, [], ◌++◌, Option, Some, None, codes}
use Rattle.std.specs.Fmt.{decimal}
use Rattle.sporc_member.specs.ChangeFault.{change_fault_name}
use Rattle.sporc_head.specs.declared.refusal.NameParts.{NameParts}
use Rattle.sporc_head.specs.declared.refusal.Refusal.{Refusal}
use Rattle.sporc_head.specs.declared.refusal.Refusal.TheVariants.{Malformed, WrongDocument}
use Rattle.sporc_head.specs.declared.refusal.Refusal.TheVariants.{WrongPosition, Removed}
use Rattle.sporc_head.specs.declared.refusal.Refusal.TheVariants.{HistoryFull, WrongVersion}
use Rattle.sporc_head.specs.declared.refusal.Refusal.TheVariants.{UnknownAuthor, UnknownDevice}
use Rattle.sporc_head.specs.declared.refusal.Refusal.TheVariants.{BaseAhead, BeforeBarrier}
use Rattle.sporc_head.specs.declared.refusal.Refusal.TheVariants.{WrongHistory, WrongNumber}
use Rattle.sporc_head.specs.declared.refusal.Refusal.TheVariants.{BehindOwn, WrongEpoch, NoRight}
use Rattle.sporc_head.specs.declared.refusal.Refusal.TheVariants.{LeafMismatch, BadSignature}
use Rattle.sporc_head.specs.declared.refusal.Refusal.TheVariants.{BadPayload, WrongLength}
use Rattle.sporc_head.specs.declared.refusal.Refusal.TheVariants.{BadChange, WrongWraps, NoKey}
use Rattle.sporc_head.specs.declared.refusal.Refusal.TheVariants.{WrongKey, Memory}

-- a number, if there is one
abbrev pub number_text : Option ℕ → List ℕ
number_text None = []
number_text (Some number) = decimal number

-- the name of which these are the parts
abbrev pub name_of : NameParts → List ℕ
name_of parts = parts.before.now ++ (number_text parts.number ++ parts.behind.now)

-- the first word of its name
abbrev pub refusal_word : Refusal → List ℕ
refusal_word (Malformed at) = codes "malformed"
refusal_word WrongDocument = codes "wrong-document"
refusal_word WrongPosition = codes "wrong-position"
refusal_word Removed = codes "removed"
refusal_word HistoryFull = codes "history-full"
refusal_word WrongVersion = codes "wrong-version"
refusal_word UnknownAuthor = codes "unknown-author"
refusal_word UnknownDevice = codes "unknown-device"
refusal_word BaseAhead = codes "base-ahead"
refusal_word BeforeBarrier = codes "before-barrier"
refusal_word WrongHistory = codes "wrong-history"
refusal_word WrongNumber = codes "wrong-number"
refusal_word BehindOwn = codes "behind-own"
refusal_word WrongEpoch = codes "wrong-epoch"
refusal_word NoRight = codes "no-right"
refusal_word LeafMismatch = codes "leaf-mismatch"
refusal_word BadSignature = codes "bad-signature"
refusal_word BadPayload = codes "bad-payload"
refusal_word WrongLength = codes "wrong-length"
refusal_word (BadChange fault) = codes "bad-change"
refusal_word WrongWraps = codes "wrong-wraps"
refusal_word NoKey = codes "no-key"
refusal_word WrongKey = codes "wrong-key"
refusal_word Memory = codes "memory"

-- its name
abbrev pub refusal_name : Refusal → List ℕ
refusal_name (Malformed at) = codes "malformed " ++ decimal at
refusal_name (BadChange fault) = codes "bad-change " ++ change_fault_name fault
refusal_name refusal = refusal_word refusal

-- the number of its check, 0 if memory ran out
abbrev pub refusal_code_of : Refusal → ℕ
refusal_code_of (Malformed at) = 1
refusal_code_of WrongDocument = 2
refusal_code_of WrongPosition = 3
refusal_code_of Removed = 4
refusal_code_of HistoryFull = 5
refusal_code_of WrongVersion = 22
refusal_code_of UnknownAuthor = 6
refusal_code_of UnknownDevice = 23
refusal_code_of BaseAhead = 7
refusal_code_of BeforeBarrier = 8
refusal_code_of WrongHistory = 9
refusal_code_of WrongNumber = 10
refusal_code_of BehindOwn = 11
refusal_code_of WrongEpoch = 12
refusal_code_of NoRight = 13
refusal_code_of LeafMismatch = 14
refusal_code_of BadSignature = 15
refusal_code_of BadPayload = 16
refusal_code_of WrongLength = 17
refusal_code_of (BadChange fault) = 18
refusal_code_of WrongWraps = 19
refusal_code_of NoKey = 20
refusal_code_of WrongKey = 21
refusal_code_of Memory = 0
