-- What holds of every client that came to its state by its own calls.
use Rattle.std.specs.Prelude.{◌≡◌, ℕ, ◌≤◌, List, [], ◌∷◌, drop, length, None, Some, Ok, IfSome}
use Rattle.sporc_delta.specs.Marks.{Mark}
use Rattle.sporc_suffix.specs.Forms.{Follow, later_over}
use Rattle.sporc_member.specs.declared.change.Change.{Change as MemberChange}
use Rattle.sporc_entry.specs.declared.change.ChangeBody.{ChangeBody}
use Rattle.sporc_entry.specs.declared.entry.Entry.{Entry}
use Rattle.sporc_entry.specs.Entry.{change_of, entry_of}
use Rattle.sporc_head.specs.History.{epoch_of}
use Rattle.sporc_line.specs.Keys.{epoch_key}
use Rattle.sporc_line.specs.Operations.{edit_marks}
use Rattle.sporc_line.specs.Document.{forms_of, text_after}
use Rattle.sporc_line.specs.Good.{Good}
use Rattle.sporc_client.specs.declared.pending.Pending.{Pending}
use Rattle.sporc_client.specs.declared.pending.Pending.TheVariants.{Edit, Change}
use Rattle.sporc_client.specs.PlainClient.{PlainClient, committed_of, shown_of}
use Rattle.sporc_client.specs.Rebasing.{AreStated}

-- an entry is an edit with these marks, once those that it holds are restated behind the forms
-- since its base
pub record IsEditOf (c : PlainClient) (e : Entry) (marks : List Mark) : Type 0 where
  pub no_change : change_of e ≡ None
  pub held : List Mark
  pub reads : edit_marks (epoch_key c.opening.genesis c.opening.kit c.entries e.header.epoch) e
      ≡ Some held
  pub restated : later_over held
      (drop e.header.base (forms_of c.opening.genesis c.opening.kit c.entries)) ≡ marks

-- an entry makes this change
pub record IsChangeOf (e : Entry) (change : MemberChange) : Type 0 where
  pub body : ChangeBody
  pub reads : change_of e ≡ Some body
  pub same : body.change ≡ change

-- an entry is that of an item
abbrev pub IsEntryOf : PlainClient → Entry → Pending → Type 0
IsEntryOf c e (Edit marks) = IsEditOf c e marks
IsEntryOf c e (Change change) = IsChangeOf e change

abbrev pub IsOfFirst : PlainClient → Entry → List Pending → Type 0
IsOfFirst c e [] = ⊥
IsOfFirst c e (item ∷ items) = IsEntryOf c e item

-- the entry on its way: it can be read, its base and its epoch are there, and it is that of the
-- first pending item
pub record IsInFlight (c : PlainClient) (bytes : List ℕ) : Type 0 where
  pub entry : Entry
  pub reads : entry_of bytes ≡ Ok entry
  pub base : entry.header.base ≤ length c.entries
  pub epoch : entry.header.epoch ≤ epoch_of c.entries
  pub first : IsOfFirst c entry c.pending

pub record IsSound (c : PlainClient) : Type 0 where
  -- its history is good
  pub good : Good c.opening.genesis c.opening.kit c.entries
  -- the pending edits are stated on the committed text, one after the other
  pub stated : AreStated (committed_of c) c.pending
  -- each shown delta leads from the shown text before its event to that after it
  pub follow : Follow 0 c.shown
  pub shown : text_after c.shown ≡ shown_of c
  pub flight : IfSome c.flight (IsInFlight c)
