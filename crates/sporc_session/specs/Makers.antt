-- Who makes which events in a session.
use Rattle.std.specs.Prelude.{◌≡◌, ◌≢◌}
use Rattle.sporc_client.specs.Log.{Edit, Change, Submit, Dropped, Accept, Discard}
use Rattle.sporc_shared.specs.Items.{Item, Opened, Happened}

-- edits and changes of the members are an editor's; submissions, items that were dropped and
-- entries that were accepted are the receiver's, whose number is 0; and nothing is discarded
abbrev pub IsOfItsMaker : Item → Type 0
IsOfItsMaker (Happened (Edit by seen marks)) = by ≢ 0
IsOfItsMaker (Happened (Change by change)) = by ≢ 0
IsOfItsMaker (Happened (Submit by bytes)) = by ≡ 0
IsOfItsMaker (Happened (Dropped by fault)) = by ≡ 0
IsOfItsMaker (Happened (Accept by bytes)) = by ≡ 0
IsOfItsMaker (Happened (Discard by)) = ⊥
IsOfItsMaker (Opened opening first_leaf) = ⊥
