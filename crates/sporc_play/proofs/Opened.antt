-- The state before the first command.
use Rattle.std.proofs.Common.{◌≡◌, ℕ, ◌≤◌, Bool, true, false, List, [], length, map, refl, sym, ap, ap₂, ◌∙◌, subst, Option, None, Some, option_map}
use Rattle.sporc_play.proofs.Common.{if◌then◌else◌, take_all, All-from_recursion, SignerModel, MemoryDiskModel, ClientModel, state_of, Move, Device}
use Rattle.sporc_play.proofs.Common.{first_device, has_admin_founder, Tree, PlayLine, Rogue, Seat, PlayState, founders_of, genesis_by, has_admin, pairs_among, private_of, public_of, tree_of, HasBlank}
use Rattle.sporc_play.proofs.Common.{HaveDeclared, IsFresh, IsFreshRogue, Scene, opening, openings, scene_moved, scene_opened, AreDeclared, Holds, IsCastOf, IsRogueOf, IsSeatOf, StandsFor, Pair, Cast}
use Rattle.sporc_play.proofs.Common.{Declared}
use Rattle.sporc_play.specs.Cast.{setup_of}
use Rattle.sporc_play.proofs.Places.{all_each}

-- ---- who takes part

cast_is : (script : List PlayLine) (cast : Cast) (seats : List Seat) (rogues : List Rogue) → HaveDeclared (tree_of script) script cast seats rogues → IsCastOf (setup_of script) cast
unfolding setup_of
cast_is script cast seats rogues known = record {
  keys = All-from_recursion (λ (d : Declared). d.key ≡ public_of (tree_of script) (first_device d.member)) cast.declared.items known.cast_is.keys;
  founders = known.cast_is.founders;
  trees = λ who. ap (λ (t : Tree). private_of t who) (sym known.cast_is.tree_is);
  pairs = λ who. ap₂ (λ (members : List ℕ) (unpaired : List Pair). pairs_among members unpaired who.member) known.cast_is.declared known.cast_is.unpaired;
}

-- ---- seats

fresh_holds : (script : List PlayLine) (who : Device) (signer : Option (SignerModel MemoryDiskModel)) (client : Option (ClientModel MemoryDiskModel)) → client ≡ None → HasBlank (tree_of script) who signer
    → Holds (setup_of script) (scene_opened script 0) who signer client
unfolding setup_of
fresh_holds script who None client closed blank = absurd blank
fresh_holds script who (Some signer) client closed blank =
    subst (Holds (setup_of script) (scene_opened script 0) who (Some signer)) (sym closed) (record { key = blank.key; leaves = blank.leaves })

fresh_seat : (script : List PlayLine) (seat : Seat) → IsFresh (tree_of script) seat → IsSeatOf (setup_of script) (scene_opened script 0) seat
fresh_seat script seat is = record {
  asked = is.asked;
  last = is.last;
  client = sym (ap (option_map state_of) is.closed);
  holds = fresh_holds script seat.device seat.signer seat.client is.closed is.signer;
}

fresh_rogue : (script : List PlayLine) (rogue : Rogue) → IsFreshRogue (tree_of script) rogue → IsRogueOf (setup_of script) (scene_opened script 0) rogue
unfolding setup_of
fresh_rogue script rogue is = record { asked = is.asked; signer = record { key = is.signer.key; leaves = is.signer.leaves } }

-- ---- the state

genesis_is : (script : List PlayLine) → (setup_of script).genesis ≡ genesis_by (founders_of script)
unfolding setup_of
genesis_is script = refl

seated_are : (script : List PlayLine) (cast : Cast) (seats : List Seat) (rogues : List Rogue) → HaveDeclared (tree_of script) script cast seats rogues → map (λ (x : Seat). x.device) seats ≡ (setup_of script).devices
unfolding setup_of
seated_are script cast seats rogues known = known.seats_are.seated_are

pub stands_first : (script : List PlayLine) (state : PlayState) → AreDeclared script → HaveDeclared (tree_of script) script state.cast state.seats.items state.rogues.items
    → state.genesis ≡ genesis_by state.cast.founders.items → state.made.items ≡ [] → StandsFor script (scene_opened script 0) state
stands_first script state declared known genesis none = record {
  genesis = genesis ∙ ap genesis_by known.cast_is.founders ∙ sym (genesis_is script);
  cast = cast_is script state.cast state.seats.items state.rogues.items known;
  seats = all_each (IsFresh (tree_of script)) (IsSeatOf (setup_of script) (scene_opened script 0)) state.seats.items (fresh_seat script) known.seats_are.fresh;
  rogues = all_each (IsFreshRogue (tree_of script)) (IsRogueOf (setup_of script) (scene_opened script 0)) state.rogues.items (fresh_rogue script) known.rogues_are.fresh;
  seated = seated_are script state.cast state.seats.items state.rogues.items known;
  rogue_devices = known.rogues_are.devices_are;
  declared = declared;
  made = ap (map (λ bytes. bytes.items)) none;
}

-- whether a founder is an admin, by the founders that a state keeps
pub admin_among : (script : List PlayLine) (scene : Scene) (state : PlayState) → StandsFor script scene state → has_admin script ≡ has_admin_founder state.cast.founders.items
unfolding setup_of
admin_among script scene state stands = sym (ap has_admin_founder stands.cast.founders)

pub opened_all : (script : List PlayLine) (n : ℕ) (state : PlayState) → has_admin script ≡ true → length script ≤ n → StandsFor script (scene_opened script n) state → StandsFor script (opening script) state
opened_all script n state founded all stands =
    subst (λ (moves : List Move). StandsFor script (scene_moved script moves) state)
    (ap (openings (founders_of script)) (take_all n script all) ∙ sym (ap (λ (b : Bool). if b then openings (founders_of script) script else []) founded)) stands

pub opened_none : (script : List PlayLine) (state : PlayState) → has_admin script ≡ false → StandsFor script (scene_opened script 0) state → StandsFor script (opening script) state
opened_none script state unfounded stands =
    subst (λ (moves : List Move). StandsFor script (scene_moved script moves) state) (sym (ap (λ (b : Bool). if b then openings (founders_of script) script else []) unfounded)) stands
