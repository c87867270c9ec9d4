-- What the lines of a play script declare, and which line may follow.
use Rattle.std.specs.Prelude.{ℕ, ◌==◌, nat_lt, ◌&&◌, ◌||◌, not, Bool, true, false, List, [], ◌∷◌}
use Rattle.std.specs.Prelude.{◌++◌, length, fold, Option, Some}
use Rattle.std.specs.List.{list_any}
use Rattle.sporc_member.specs.declared.device.Device.{Device}
use Rattle.sporc_member.specs.Device.{first_device, same_device}
use Rattle.sporc_member.specs.Role.{is_admin}
use Rattle.sporc_script.specs.declared.command.Command.{Command}
use Rattle.sporc_script.specs.declared.command.Command.TheVariants as commands
use Rattle.sporc_script.specs.declared.declared.TheConstants.{MAX_DECLARED}
use Rattle.sporc_script.specs.declared.play_line.PlayLine.{PlayLine}
use Rattle.sporc_script.specs.declared.roster_change.RosterChange.{RosterChange}
use Rattle.sporc_script.specs.declared.roster_change.RosterChange.TheVariants as changes
use Rattle.sporc_script.specs.declared.sign.Forgery.{Forgery}
use Rattle.sporc_script.specs.declared.sign.Suffix.{Suffix}
use Rattle.sporc_script.specs.declared.sign.Suffix.TheVariants as suffixes
use Rattle.sporc_script.specs.declared.sign.What.{What}
use Rattle.sporc_script.specs.declared.sign.What.TheVariants as whats

-- what the lines before one have declared
pub record Declared : Type 0 where
  -- all numbers that are declared, all devices with a client, the numbers of founders without one,
  -- and of those who join, in the order of their lines
  pub numbers : List ℕ
  pub clients : List Device
  pub rogues : List ℕ
  pub joiners : List ℕ
  -- a founder is an admin
  pub has_admin : Bool
  -- there is a line that is not skipped, and one that is no declaration
  pub started : Bool
  pub begun : Bool

abbrev pub none_declared : Declared
none_declared = record {
  numbers = [];
  clients = [];
  rogues = [];
  joiners = [];
  has_admin = false;
  started = false;
  begun = false;
}

abbrev pub declared_after : Declared → Command → Declared
declared_after d (commands.Tree t) = record d { started = true }
declared_after d (commands.Member m) = record d {
  numbers = d.numbers ++ m.member ∷ [];
  clients = d.clients ++ first_device m.member ∷ [];
  has_admin = d.has_admin || is_admin m.role;
  started = true;
}
declared_after d (commands.Rogue m) = record d {
  numbers = d.numbers ++ m.member ∷ [];
  rogues = d.rogues ++ m.member ∷ [];
  has_admin = d.has_admin || is_admin m.role;
  started = true;
}
declared_after d (commands.Joiner m) = record d {
  numbers = d.numbers ++ m ∷ [];
  clients = d.clients ++ first_device m ∷ [];
  joiners = d.joiners ++ m ∷ [];
  started = true;
}
declared_after d (commands.Unpaired p) = record d { started = true }
declared_after d (commands.Device x) = record d { clients = d.clients ++ x ∷ []; started = true }
declared_after d command = record d { started = true; begun = true }

-- what these lines declare
abbrev pub declared_by : List PlayLine → Declared
declared_by lines = fold (λ d l. declared_after d l.command) none_declared lines

abbrev pub is_among : List ℕ → ℕ → Bool
is_among numbers n = list_any (λ m. m == n) numbers

abbrev pub is_declared : Declared → ℕ → Bool
is_declared d n = is_among d.numbers n

abbrev pub is_rogue : Declared → ℕ → Bool
is_rogue d n = is_among d.rogues n

-- it has a client, or gets one by `join`
abbrev pub is_client : Declared → Device → Bool
is_client d device = list_any (λ c. same_device c device) d.clients

-- it gets one by `join`
abbrev pub is_joiner : Declared → Device → Bool
is_joiner d device = is_among d.joiners device.member && is_client d device

-- another number may be declared
abbrev pub may_declare : Declared → ℕ → Bool
may_declare d n = not d.begun && (nat_lt (length d.numbers) MAX_DECLARED && not (is_declared d n))

-- a member with a client may have a further device, once
abbrev pub may_declare_device : Declared → Device → Bool
may_declare_device d device =
    not d.begun && (is_client d (first_device device.member) && not (is_client d device))

-- who is changed is declared
abbrev pub change_names_declared : Declared → RosterChange → Bool
change_names_declared d (changes.Add m) = is_declared d m.member
change_names_declared d (changes.Remove m) = is_declared d m
change_names_declared d (changes.SetRole m) = is_declared d m.member
change_names_declared d (changes.AddDevice x) = is_declared d x.member
change_names_declared d (changes.DropDevice x) = is_declared d x.member
change_names_declared d changes.Upgrade = true

abbrev pub what_names_declared : Declared → What → Bool
what_names_declared d (whats.Change c) = change_names_declared d c
what_names_declared d what = true

-- whose wrap is changed is declared
abbrev pub suffix_names_declared : Declared → Option Suffix → Bool
suffix_names_declared d (Some (suffixes.Wrap n)) = is_declared d n
suffix_names_declared d (Some (suffixes.Drop n)) = is_declared d n
suffix_names_declared d suffix = true

-- a rogue signs, from a client's history
abbrev pub may_sign : Declared → Forgery → Bool
may_sign d f = is_rogue d f.member && (is_client d f.from
    && (what_names_declared d f.signed.what && suffix_names_declared d f.signed.suffix))

-- those whom a command names can do it
abbrev pub names_performers : Declared → Command → Bool
names_performers d (commands.Edit e) = is_client d e.device
names_performers d (commands.Change e) = is_client d e.device && change_names_declared d e.change
names_performers d (commands.Discard x) = is_client d x
names_performers d (commands.Submit x) = is_client d x
names_performers d (commands.Give g) = is_client d g.device
names_performers d (commands.Restart r) = is_client d r.device
names_performers d (commands.Join j) = is_joiner d j.device
names_performers d (commands.Show x) = is_client d x
names_performers d (commands.Members x) = is_client d x
names_performers d (commands.Hash x) = is_client d x
names_performers d (commands.Journal x) = is_client d x
names_performers d (commands.Compare p) = is_client d p.first && is_client d p.second
names_performers d (commands.Sign f) = may_sign d f
names_performers d command = true

-- which line may follow: a command, if a founder is an admin
abbrev pub may_follow : Declared → Command → Bool
may_follow d (commands.Tree t) = not d.started
may_follow d (commands.Member m) = may_declare d m.member
may_follow d (commands.Rogue m) = may_declare d m.member
may_follow d (commands.Joiner m) = may_declare d m
may_follow d (commands.Unpaired p) =
    not d.begun && (is_declared d p.first && (is_declared d p.second && not (p.first == p.second)))
may_follow d (commands.Device x) = may_declare_device d x
may_follow d command = d.has_admin && names_performers d command
