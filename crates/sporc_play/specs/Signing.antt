-- Rogues as the code keeps them, and what signing for one does.
use Rattle.std.specs.Prelude.{◌≡◌, ℕ, ◌+◌, List, length, Option, None, Some, option_map}
use Rattle.std.specs.Option.{option_to_list}
use Rattle.sporc_client.specs.ClientModel.{ClientModel, state_of}
use Rattle.sporc_client.specs.Run.{Setup}
use Rattle.sporc_member.specs.Device.{first_device}
use Rattle.sporc_script.specs.declared.sign.Forgery.{Forgery}
use Rattle.sporc_play.specs.declared.seat.Rogue.{Rogue}
use Rattle.sporc_play.specs.Forged.{forged_entry}
use Rattle.sporc_play.specs.Report.{line_by, sign_line}
use Rattle.sporc_play.specs.Scene.{leaf_after}
use Rattle.sporc_play.specs.Seats.{AreDrawn}

-- the entry that a rogue signs next, by the history of this client, if it is open
abbrev pub forged_by : {D : Type 0} → Setup → Forgery → Rogue → Option (ClientModel D)
    → Option (List ℕ)
forged_by s f rogue None = None
forged_by s f rogue (Some c) = forged_entry s (state_of c) f (rogue.asked + 1)
    (leaf_after rogue.signer.key rogue.signer.leaves.next)

-- the line that tells it, by the number of the next entry
abbrev pub signing_line : {D : Type 0} → Forgery → ℕ → Rogue → Option (ClientModel D) → List ℕ
signing_line f next rogue client = line_by f.from (option_map state_of client) (λ c. sign_line
    (first_device f.member) next (leaf_after rogue.signer.key rogue.signer.leaves.next))

-- a rogue after it was to sign, and signed this entry, if it did
pub record HasSigned (old : Rogue) (made : Option (List ℕ)) (new : Rogue) : Type 0 where
  pub device : new.device ≡ old.device
  pub asked : new.asked ≡ old.asked + 1
  pub key : new.signer.key ≡ old.signer.key
  pub leaves : AreDrawn old.signer.key
      (old.signer.leaves.next + length (option_to_list made)) new.signer.leaves
