-- Changes of a document, one after the other.
use Rattle.std.specs.Prelude.{◌≡◌, ◌≤◌, List, [], ◌∷◌, length, None}
use Rattle.std.specs.List.Sorted.{IsStrictlyIncreasing}
use Rattle.sporc_member.specs.declared.limits.TheConstants.{MAX_MEMBERS}
use Rattle.sporc_member.specs.declared.change.Change.{Change}
use Rattle.sporc_member.specs.declared.founder.Founder.{Founder}
use Rattle.sporc_member.specs.Roster.{Roster, after_change, change_fault_of, founded, founder_numbers}

-- a roster accepts these changes, each after those before it
abbrev pub AreAccepted : Roster → List Change → Type 0
AreAccepted roster [] = Unit {0}
AreAccepted roster (c ∷ cs) =
    (change_fault_of roster c ≡ None) × AreAccepted (after_change roster c) cs

-- founders that a document can have, and changes that their roster accepts
pub record IsHistory (founders : List Founder) (changes : List Change) : Type 0 where
  pub ascending : IsStrictlyIncreasing (founder_numbers founders)
  pub room : length founders ≤ MAX_MEMBERS
  pub accepted : AreAccepted (founded founders) changes
