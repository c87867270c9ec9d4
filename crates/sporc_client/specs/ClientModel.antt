-- What contracts see of a client, and of its leaves.
use Rattle.std.specs.Prelude.{◌≡◌, ℕ, ◌+◌, ◌-◌, ◌<◌, ◌≤◌, List, [], ◌∷◌, ◌++◌, length, Option, None}
use Rattle.std.specs.Prelude.{Some, IfSome, slice_get, ⊤}
use Rattle.std.specs.List.{filter_map}
use Rattle.std.specs.Option.{option_map}
use Rattle.std.specs.Result.{result_ok}
use Rattle.lms_leaf.specs.Leaves.{LeavesModel}
use Rattle.lms_sign.specs.Signer.{SignerModel}
use Rattle.sporc_entry.specs.declared.genesis.Genesis.{Genesis}
use Rattle.sporc_entry.specs.Entry.{entry_of}
use Rattle.sporc_line.specs.Kit.{Kit}
use Rattle.sporc_client.specs.Log.{Logged, Submit}
use Rattle.sporc_client.specs.PlainClient.{Opening, PlainClient}
use Rattle.sporc_client.specs.Step.{replay}

-- what it was opened with, its log, its leaf numbers, and the leaf of a ticket that is kept
pub record ClientModel (D : Type 0) : Type 0 where
  pub opening : Opening
  pub log : List Logged
  pub leaves : LeavesModel D
  pub ticket : Option ℕ

-- one that begins with this log and the leaves of its signer
abbrev pub begun : {D : Type 0} → Genesis → Kit → List Logged → SignerModel D → ClientModel D
begun genesis kit log signer = record {
  opening = record { genesis = genesis; kit = kit; key = signer.key };
  log = log;
  leaves = signer.leaves;
  ticket = None;
}

-- one with these events more
abbrev pub with_events : {D : Type 0} → ClientModel D → List Logged → ClientModel D
with_events c events = record c { log = c.log ++ events }

-- all that follows from its log
abbrev pub state_of : {D : Type 0} → ClientModel D → PlainClient
state_of c = replay c.opening c.log

-- the leaf that signed an event's entry
abbrev pub leaf_in : Logged → Option ℕ
leaf_in (Submit by bytes) = option_map (λ e. e.header.leaf) (result_ok (entry_of bytes))
leaf_in _ = None

-- the leaves of a log's submissions
abbrev pub leaves_of : List Logged → List ℕ
leaves_of log = filter_map leaf_in log

-- each of the numbers stands once
abbrev pub StandOnce : List ℕ → Type 0
StandOnce ns = (i j n : ℕ) → slice_get ns i ≡ Some n → slice_get ns j ≡ Some n → i ≡ j

-- numbers that rise, from the first on and below the end
abbrev pub Rise : ℕ → ℕ → List ℕ → Type 0
Rise first end [] = ⊤
Rise first end (n ∷ ns) = (first ≤ n) × (n < end) × Rise (n + 1) end ns

-- how many leaves a ticket keeps
abbrev pub kept_count : Option ℕ → ℕ
kept_count None = 0
kept_count (Some leaf) = 1

-- The leaf that was next as the log began. So each leaf that was drawn since signed one of its
-- submissions, or is kept.
abbrev pub first_leaf_of : {D : Type 0} → ClientModel D → ℕ
first_leaf_of c = c.leaves.next - (length (leaves_of c.log) + kept_count c.ticket)

-- the leaf of a ticket that is kept: it was drawn last, after all leaves that signed
pub record IsKept (first end : ℕ) (signed : List ℕ) (leaf : ℕ) : Type 0 where
  pub after : first ≤ leaf
  pub last : leaf + 1 ≡ end
  pub unsigned : Rise first leaf signed

-- the leaves that signed rise, from a base on that is not below the first, and below the end; that
-- of a kept ticket comes after them; and no other one was drawn from the base on
pub record AreInOrder (first end : ℕ) (ticket : Option ℕ) (signed : List ℕ) : Type 0 where
  pub base : ℕ
  pub opened : first ≤ base
  pub all : end ≡ base + (length signed + kept_count ticket)
  pub rise : Rise base end signed
  pub kept : IfSome ticket (IsKept base end signed)
