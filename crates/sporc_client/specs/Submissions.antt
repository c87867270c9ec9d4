-- What a submission answers.
use Rattle.std.specs.Prelude.{ℕ, nat_le, nat_lt, Bool, true, false, not, List, [], ◌∷◌, length}
use Rattle.std.specs.Prelude.{drop, take, Option, None, Some, Result, Ok, Err}
use Rattle.sporc_base.specs.FirstFault.{unless, first_of}
use Rattle.lms_leaf.specs.declared.faults.LeafFault.{LeafFault}
use Rattle.lms_leaf.specs.declared.faults.LeafFault.TheVariants as leaves
use Rattle.sporc_delta.specs.Format.{delta_bytes}
use Rattle.sporc_delta.specs.Marks.{Mark}
use Rattle.sporc_member.specs.declared.change.Change.{Change as MemberChange}
use Rattle.sporc_member.specs.declared.change.ChangeFault.{ChangeFault}
use Rattle.sporc_member.specs.Roster.{after_change, change_fault_of, numbers_of}
use Rattle.sporc_epoch.specs.Sealing.{least_unpaired}
use Rattle.sporc_head.specs.declared.limits.TheConstants.{MAX_ENTRIES}
use Rattle.sporc_head.specs.History.{is_removed, roster_of}
use Rattle.sporc_line.specs.LineModel.{LineModel}
use Rattle.sporc_client.specs.declared.client.submitting.due.Due.{Due as Step}
use Rattle.sporc_client.specs.declared.client.submitting.due.Due.TheVariants as steps
use Rattle.sporc_client.specs.declared.limits.TheConstants.{MAX_EVENTS, MAX_HEAD_BYTES}
use Rattle.sporc_client.specs.declared.fault.SubmitFault.{SubmitFault}
use Rattle.sporc_client.specs.declared.fault.SubmitFault.TheVariants.{Removed, NoRight, HistoryFull}
use Rattle.sporc_client.specs.declared.fault.SubmitFault.TheVariants.{JournalFull, HeadTooLong}
use Rattle.sporc_client.specs.declared.fault.SubmitFault.TheVariants.{NoPairKey, Exhausted}
use Rattle.sporc_client.specs.declared.fault.SubmitFault.TheVariants.{LeafFault as DiskFault}
use Rattle.sporc_client.specs.declared.pending.Pending.{Pending}
use Rattle.sporc_client.specs.declared.pending.Pending.TheVariants.{Edit, Change}
use Rattle.sporc_client.specs.declared.submitted.Submitted.{Submitted}
use Rattle.sporc_client.specs.declared.submitted.Submitted.TheVariants as submitted
use Rattle.sporc_client.specs.Answers.{has_right}
use Rattle.sporc_client.specs.Entries.{bytes_made, kind_of}
use Rattle.sporc_client.specs.Log.{Logged, Submit, Dropped}
use Rattle.sporc_client.specs.PlainClient.{PlainClient, line_of}

-- what is due at a submission
pub data Due : Type 0 where
  -- an entry is on its way already
  Waiting : Due
  -- nothing is pending
  Nothing : Due
  -- the first pending item is a change that the members refuse, and is taken off
  Drop : ChangeFault → Due
  Refuse : SubmitFault → Due
  -- an entry of this item is to be signed
  Sign : Pending → Due

-- the first of these faults, or else what is due
abbrev pub or_due : Option SubmitFault → Due → Due
or_due (Some fault) due = Refuse fault
or_due None due = due

abbrev pub no_pair_key : Option ℕ → Option SubmitFault
no_pair_key None = None
no_pair_key (Some member) = Some (NoPairKey member)

-- of a change, by why the members refuse it and by the least member after it without a pairwise
-- key
abbrev pub change_due : MemberChange → Option ChangeFault → Option ℕ → Due
change_due change (Some fault) unpaired = Drop fault
change_due change None unpaired = or_due (no_pair_key unpaired) (Sign (Change change))

abbrev pub edit_due : List Mark → Due
edit_due marks = or_due (unless (nat_le (length (delta_bytes marks)) MAX_HEAD_BYTES)
    (HeadTooLong (length (delta_bytes marks)))) (Sign (Edit marks))

abbrev pub item_due : LineModel → Pending → Due
item_due line (Edit marks) = edit_due marks
item_due line (Change change) =
    let roster = roster_of line.genesis line.entries in
    change_due change (change_fault_of roster change)
    (least_unpaired line.kit.pairs (numbers_of (after_change roster change).members))

-- the checks of a submission of an item, whatever the item says
abbrev pub submit_checks : LineModel → List (List Mark) → Pending → List (Option SubmitFault)
submit_checks line shown item =
    unless (not (is_removed line.kit.me line.entries)) Removed
    ∷ unless (has_right line (kind_of item)) NoRight
    ∷ unless (nat_lt (length line.entries) MAX_ENTRIES) HistoryFull
    ∷ unless (nat_lt (length shown) MAX_EVENTS) JournalFull ∷ []

abbrev pub first_due : LineModel → List (List Mark) → List Pending → Due
first_due line shown [] = Nothing
first_due line shown (item ∷ items) =
    or_due (first_of (submit_checks line shown item)) (item_due line item)

abbrev pub due_behind : LineModel → List (List Mark) → List Pending → Option (List ℕ) → Due
due_behind line shown pending (Some flight) = Waiting
due_behind line shown pending None = first_due line shown pending

unfoldable pub due : PlainClient → Due
due c = due_behind (line_of c) c.shown c.pending c.flight

-- what is due, as the code has it
abbrev pub step_of : Due → Result Step SubmitFault
step_of Waiting = Ok steps.Waiting
step_of Nothing = Ok steps.Nothing
step_of (Drop fault) = Ok (steps.Drop fault)
step_of (Refuse fault) = Err fault
step_of (Sign item) = Ok steps.Sign

-- whether an entry is to be signed
abbrev pub is_signing : Due → Bool
is_signing Waiting = false
is_signing Nothing = false
is_signing (Drop fault) = false
is_signing (Refuse fault) = false
is_signing (Sign item) = true

-- why no leaf was drawn
abbrev pub draw_fault : LeafFault → SubmitFault
draw_fault (leaves.Exhausted next) = Exhausted next
draw_fault leaves.DiskFault = DiskFault

-- the entry of an item, by the leaf that was drawn and 64 random bytes
abbrev pub signed : PlainClient → List ℕ → Pending → Result ℕ LeafFault
    → Result Submitted SubmitFault
signed c random item (Ok leaf) = Ok (submitted.Entry (bytes_made c
    (record { leaf = leaf; randomizer = take 32 random; new_key = drop 32 random }) item))
signed c random item (Err fault) = Err (draw_fault fault)

abbrev pub answered : PlainClient → List ℕ → Result ℕ LeafFault → Due → Result Submitted SubmitFault
answered c random leaf Waiting = Ok submitted.Waiting
answered c random leaf Nothing = Ok submitted.Nothing
answered c random leaf (Drop fault) = Ok (submitted.Dropped fault)
answered c random leaf (Refuse fault) = Err fault
answered c random leaf (Sign item) = signed c random item leaf

-- the answer to a submission, with this answer of the drawing of the leaf, if one is due
unfoldable pub submission : PlainClient → List ℕ → Result ℕ LeafFault → Result Submitted SubmitFault
submission c random leaf = answered c random leaf (due c)

-- the entry that a submission made
abbrev pub entries_made : Result Submitted SubmitFault → List (List ℕ)
entries_made (Ok (submitted.Entry entry)) = entry ∷ []
entries_made (Ok submitted.Waiting) = []
entries_made (Ok submitted.Nothing) = []
entries_made (Ok (submitted.Dropped fault)) = []
entries_made (Err fault) = []

-- what a submission added to the log
abbrev pub submission_added : ℕ → Result Submitted SubmitFault → List Logged
submission_added by (Ok submitted.Waiting) = []
submission_added by (Ok submitted.Nothing) = []
submission_added by (Ok (submitted.Dropped fault)) = Dropped by fault ∷ []
submission_added by (Ok (submitted.Entry entry)) = Submit by entry ∷ []
submission_added by (Err fault) = []
