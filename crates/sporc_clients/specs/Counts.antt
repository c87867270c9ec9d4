-- Faults of a session that stand for a count that rose.
use Rattle.std.specs.Prelude.{◌≡◌, ◌≢◌, ℕ, Result, Ok, Err, ⊤}
use Rattle.lms_leaf.specs.declared.faults.LeafFault.TheVariants as leaves
use Rattle.sporc_outside.specs.Chances.{ChanceTold}
use Rattle.sporc_outside.specs.Counts.{Rose}
use Rattle.sporc_outside.specs.Uses.{Use}
use Rattle.sporc_session.specs.declared.fault.SessionFault.{SessionFault}
use Rattle.sporc_session.specs.declared.fault.SessionFault.TheVariants as faults

-- the counts of a net's links and of a chance, before and after
pub record CountsAround : Type 0 where
  pub links_before : ℕ
  pub links_after : ℕ
  pub chance_before : ℕ
  pub chance_after : ℕ

-- those of a net, or of its link, and of a chance, by the counts of the links and what the chance
-- told
abbrev pub counts_around : ℕ → ℕ → Use ChanceTold → CountsAround
counts_around before after chance = record {
  links_before = before;
  links_after = after;
  chance_before = chance.before.faults;
  chance_after = chance.after.faults;
}

-- that of the links, if the link failed, and that of the chance, if the chance did
abbrev pub RoseFor : CountsAround → SessionFault → Type 0
RoseFor c faults.LinkFault = Rose c.links_before c.links_after
RoseFor c faults.ChanceFault = Rose c.chance_before c.chance_after
RoseFor c fault = ⊤

abbrev pub RoseIfFailed : CountsAround → Result ⊤ SessionFault → Type 0
RoseIfFailed c (Ok done) = ⊤
RoseIfFailed c (Err fault) = RoseFor c fault

-- if the disk of the leaves ended a session, it has counted a fault
abbrev pub CountedIfFailed : ℕ → Result ⊤ SessionFault → Type 0
CountedIfFailed disk_faults session =
    session ≡ Err (faults.Leaf leaves.DiskFault) → disk_faults ≢ 0
