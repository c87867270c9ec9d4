-- All that a run found and left.
use Rattle.std.specs.Prelude.{◌≡◌, ◌≤◌}
use Rattle.sporc_outside.specs.Uses.{Use}
use Rattle.sporc_outside.specs.Streams.{StreamTold}
use Rattle.sporc_outside.specs.Folders.{FolderTold}
use Rattle.sporc_outside.specs.Chances.{ChanceTold}
use Rattle.sporc_outside.specs.Nets.{NetTold}
use Rattle.sporc_clients.specs.Outcome.{ClientUse}

-- what the objects outside told before and after
pub record OutsideUse : Type 0 where
  pub source : Use StreamTold
  pub out : Use StreamTold
  pub folder : Use FolderTold
  pub net : Use NetTold
  pub chance : Use ChanceTold

abbrev pub uses : Use StreamTold → Use StreamTold → Use FolderTold → Use NetTold → Use ChanceTold
    → OutsideUse
uses source out folder net chance =
    record { source = source; out = out; folder = folder; net = net; chance = chance }

-- those that `client` is handed
abbrev pub client_use : OutsideUse → ClientUse
client_use outside = record {
  out = outside.out;
  folder = outside.folder;
  net = outside.net;
  chance = outside.chance;
}

-- beside the sink nothing was used: all else tells what it told before
pub record IsUnused (outside : OutsideUse) : Type 0 where
  pub source : outside.source.after ≡ outside.source.before
  pub folder : outside.folder.after ≡ outside.folder.before
  pub net : outside.net.after ≡ outside.net.before
  pub chance : outside.chance.after ≡ outside.chance.before

-- no object's own count of faults fell, and each link and each disk that was handed out came back
pub record AllKept (outside : OutsideUse) : Type 0 where
  pub source : outside.source.before.faults ≤ outside.source.after.faults
  pub out : outside.out.before.faults ≤ outside.out.after.faults
  pub folder : outside.folder.before.faults ≤ outside.folder.after.faults
  pub net : outside.net.before.faults ≤ outside.net.after.faults
  pub chance : outside.chance.before.faults ≤ outside.chance.after.faults
  pub links_out : outside.net.after.out ≡ outside.net.before.out
  pub lent : outside.folder.after.lent ≡ outside.folder.before.lent
