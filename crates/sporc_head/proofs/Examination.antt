-- What a verdict on bytes tells of the entry that they spell.
use Rattle.std.proofs.Common.{◌≡◌, ℕ, List, Option, None, Some, Ok, ap, ◌∙◌}
use Rattle.sporc_head.proofs.Common.{IfSome, Entry, entry_of}
use Rattle.sporc_head.specs.declared.examined.Verdict.{Verdict}
use Rattle.sporc_head.specs.Examined.{IsExact, IsExactOf, is_signed_read, is_verified}

pub exact_of : (v : Verdict) (bytes : List ℕ) (e : Entry) → entry_of bytes ≡ Ok e → IsExact v bytes → IsExactOf v e
unfolding is_verified
exact_of v bytes e is h = h.good ∙ ap (is_signed_read v.key) is

-- what holds of the value of an option, if it has one, where something stronger does
pub if_some : {X : Type 0} (o : Option X) (P Q : X → Type 0) → IfSome o P → ((x : X) → P x → Q x) → IfSome o Q
if_some None P Q h all = tt
if_some (Some x) P Q h all = all x h
