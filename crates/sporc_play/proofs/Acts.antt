-- What single commands do may happen wherever a play has come to.
use Rattle.std.proofs.Common.{◌≡◌, ℕ, zero, suc, ◌+◌, ◌-◌, ◌<◌, ◌≤◌, Bool, true, false, cond, List, [], ◌∷◌, length, set, refl, sym, ap, ◌∙◌, subst, arith, Option, None, Some, ◌^◌}
use Rattle.sporc_play.proofs.Common.{May, Move, IsTypedMove, bit_xor, is_none, nat_le, nat_lt, slice_get, ⊤, IsSomeAnd, AllByRecursion, all_scalars, leb-true, take_all, xor_of_8, Mark, insertion}
use Rattle.sporc_play.proofs.Common.{removal, inserted, inserted-insertion, inserted-removal, typed_delta, MAX_COUNT, MAX_EVENTS, change_fault, discard_fault, edit_fault, Logged, Change, Discard}
use Rattle.sporc_play.proofs.Common.{Edit, PlainClient, shown_after, Setup, World, GoesBack, IsAt, after_all, start, IsTypedEvent, reached_at, sound_and_typed_at, MemberChange, Device, first_device}
use Rattle.sporc_play.proofs.Common.{RosterChangeInRange, TextEditInRange, TextEdit, PlayLine, member_change, public_of, tree_of, change_events, discard_events, edit_logged, logged_unless, Effect}
use Rattle.sporc_play.proofs.Common.{Scene, adds, cuts, delta_by, edit_events, entry_at, flip_byte, flips, if_open, marks_of, nothing, restarts, seen_by, IsSound, edit_passed, Insert}
use Rattle.sporc_play.proofs.Common.{Remove, Flip, RosterEdit, RosterChange, cond_some, ChangeWith, IsKey}
use Rattle.sporc_delta.specs.Typed.{IsTypedDelta}
use Rattle.sporc_client.specs.Allowed.{can_log}
use Rattle.sporc_client.specs.Reached.{IsReached}
use Rattle.sporc_script.specs.declared.command.Edit.{Edit as ScriptEdit}
use Rattle.sporc_script.specs.declared.command.Command.TheVariants as commands
use Rattle.sporc_script.specs.declared.command.Give.{Give}
use Rattle.sporc_script.specs.declared.command.Restart.{Restart}
use Rattle.sporc_script.specs.declared.roster_change.RosterChange.TheVariants as changes
use Rattle.sporc_play.specs.Cast.{setup_of}
use Rattle.sporc_play.specs.Scene.{gives}
use Rattle.sporc_play.proofs.ByteClients.{AreBytes, bytes_take, is_bytes, IsByteChange, IsByteEvent, IsByteMove}
use Rattle.sporc_play.proofs.MadeBytes.{key_bytes, own_key_len}
use Rattle.sporc_play.proofs.Places.{at_place}
use Rattle.sporc_client.proofs.ShownCounts.{shown_count}
use Rattle.sporc_play.proofs.ShortTexts.{short_texts_of}
use Rattle.sporc_play.proofs.Runs.{HasCome, MayAct, MayBe}
use Rattle.sporc_play.proofs.Seating.{if_open_has}

pub no_act : (s : Setup) (scene : Scene) → MayAct s scene nothing
no_act s scene = record { run = tt; typed = tt; bytes = tt; entries = tt }

-- one move, with no entry that is made
pub one_move : (s : Setup) (scene : Scene) (move : Move) → May s scene.world move → IsTypedMove move → IsByteMove move → MayAct s scene (record { moves = move ∷ []; entries = [] })
one_move s scene move may typed bytes = record { run = (may, tt); typed = (typed, tt); bytes = (bytes, tt); entries = tt }

pub open_acts : (s : Setup) (scene : Scene) (who : Device) (act : PlainClient → Effect) → ((c : PlainClient) → scene.world.clients who ≡ Some c → MayAct s scene (act c)) → MayAct s scene (if_open (scene.world.clients who) act)
open_acts s scene who act each = if_open_has (MayAct s scene) (scene.world.clients who) act (no_act s scene) each

-- the moment of a play's client
pub client_at : (s : Setup) (moves : List Move) (scene : Scene) (who : Device) (c : PlainClient) → HasCome s moves scene → scene.world.clients who ≡ Some c → IsAt s moves (length moves) who c
client_at s moves scene who c come at =
    ap (λ (ms : List Move). (after_all s start ms).clients who) (take_all (length moves) moves (omega arith)) ∙ ap (λ (w : World). w.clients who) (sym come.world) ∙ at

-- one event, unless there is a fault
pub event_acts : {F : Type 0} (s : Setup) (scene : Scene) (who : Device) (c : PlainClient) (fault : Option F) (event : Logged) → scene.world.clients who ≡ Some c → (fault ≡ None → can_log c event ≡ true) → (fault ≡ None → IsTypedEvent event) → IsByteEvent event → MayAct s scene (adds who (logged_unless fault event))
event_acts s scene who c None event at may typed bytes =
    one_move s scene _ (subst (λ (o : Option PlainClient). IsSomeAnd o (λ c. can_log c event ≡ true)) (sym at) (may refl)) (typed refl) bytes
event_acts s scene who c (Some fault) event at may typed bytes = no_act s scene

discard_may : (c : PlainClient) → discard_fault c ≡ None → can_log c (Discard 0) ≡ true
unfolding can_log
discard_may c none = ap is_none none

pub discard_acts : (s : Setup) (who : Device) → MayBe s (λ scene. commands.Discard who)
discard_acts s who moves scene come =
    open_acts s scene who (λ c. adds who (discard_events c)) (λ c at. event_acts s scene who c (discard_fault c) (Discard 0) at (discard_may c) (λ none. tt) tt)

change_may : (c : PlainClient) (change : MemberChange) → change_fault c ≡ None → can_log c (Change 0 change) ≡ true
unfolding can_log
change_may c change none = ap is_none none

-- a change that a script says is in range, and its key is such as each device's is
change_fits : (Key : List ℕ → Type 0) (script : List PlayLine) (change : RosterChange) → ((who : Device) → Key (public_of (tree_of script) who)) → RosterChangeInRange change
    → ChangeWith (λ member. member < 2 ^ 16) (λ device. device < 2 ^ 8) Key (member_change (setup_of script) change)
unfolding setup_of
change_fits Key script (changes.Add m) keys fits = (fits.1, keys (first_device m.member))
change_fits Key script (changes.AddDevice d) keys fits = (fits.0.1, fits.1, keys d)
change_fits Key script (changes.DropDevice d) keys fits = (fits.0.1, fits.1)
change_fits Key script changes.Upgrade keys fits = tt
change_fits Key script change keys fits = fits.1

pub byte_change : (script : List PlayLine) (change : RosterChange) → RosterChangeInRange change → IsByteChange (member_change (setup_of script) change)
byte_change script change fits = change_fits AreBytes script change (key_bytes (tree_of script)) fits

pub change_acts : (script : List PlayLine) (e : RosterEdit) → RosterChangeInRange e.change → MayBe (setup_of script) (λ scene. commands.Change e)
change_acts script e fits moves scene come =
    let s = setup_of script in
    let change = member_change s e.change in
    let who = e.device in
    open_acts s scene who (λ c. adds who (change_events change c))
    (λ c at. event_acts s scene who c (change_fault c) (Change 0 change) at (change_may c change) (λ none. change_fits IsKey script e.change (own_key_len (tree_of script)) fits)
    (byte_change script e.change fits))

-- ---- what is handed out, and going back

-- what holds of each entry that was made holds of the one by a number
pub made_has : (P : List ℕ → Type 0) (made : List (List ℕ)) (number : ℕ) (bytes : List ℕ) → AllByRecursion P made → entry_at made number ≡ Some bytes → P bytes
made_has P made zero bytes all at = absurd cc
made_has P made (suc n) bytes all at = at_place P made n bytes all at

pub give_acts : (s : Setup) (g : Give) → MayBe s (λ scene. commands.Give g)
give_acts s g moves scene come = open_acts s scene g.device (λ c. gives g.device g.position (entry_at scene.made g.entry)) (λ c at. go c at (entry_at scene.made g.entry) refl)
  where
    go : (c : PlainClient) → scene.world.clients g.device ≡ Some c → (o : Option (List ℕ)) → entry_at scene.made g.entry ≡ o → MayAct s scene (gives g.device g.position o)
    go c at None none = no_act s scene
    go c at (Some bytes) some =
        one_move s scene _ (subst (λ (o : Option PlainClient). IsSomeAnd o (λ c. ⊤)) (sym at) tt) (is_bytes bytes (made_has AreBytes scene.made g.entry bytes come.made some)) tt

pub restart_acts : (s : Setup) (r : Restart) → MayBe s (λ scene. commands.Restart r)
restart_acts s r moves scene come = open_acts s scene r.device (restarts r.device r.entries) (λ c at. go c at (nat_le r.entries (length c.entries)) refl)
  where
    go : (c : PlainClient) → scene.world.clients r.device ≡ Some c → (b : Bool) → nat_le r.entries (length c.entries) ≡ b → MayAct s scene (restarts r.device r.entries c)
    go c at false over = subst (λ (b : Bool). MayAct s scene (cond b (record { moves = GoesBack r.device r.entries ∷ []; entries = [] }) nothing)) (sym over) (no_act s scene)
    go c at true within = subst (λ (b : Bool). MayAct s scene (cond b (record { moves = GoesBack r.device r.entries ∷ []; entries = [] }) nothing)) (sym within)
        (one_move s scene _ (subst (λ (o : Option PlainClient). IsSomeAnd o (λ c. r.entries ≤ length c.entries)) (sym at) (leb-true r.entries (length c.entries) within)) tt tt)

-- ---- entries that are changed

flipped_byte : (bytes : List ℕ) (at b : ℕ) → AreBytes bytes → slice_get bytes at ≡ Some b → AreBytes (set bytes at (bit_xor b 1))
flipped_byte [] at b all is = absurd cc
flipped_byte (x ∷ xs) zero b all is = let same : x ≡ b = cc in (subst (λ (y : ℕ). bit_xor y 1 < 256) same (xor_of_8 x 1 all.0 (omega arith)), all.1)
flipped_byte (x ∷ xs) (suc at) b all is = (all.0, flipped_byte xs at b all.1 is)

pub flip_acts : (s : Setup) (f : Flip) → MayBe s (λ scene. commands.Flip f)
flip_acts s f moves scene come = go (entry_at scene.made f.entry) refl
  where
    byte : (bytes : List ℕ) → AreBytes bytes → (o : Option ℕ) → slice_get bytes f.at ≡ o → MayAct s scene (flip_byte bytes f.at o)
    byte bytes all None is = no_act s scene
    byte bytes all (Some b) is = record { run = tt; typed = tt; bytes = tt; entries = (flipped_byte bytes f.at b all is, tt) }

    go : (o : Option (List ℕ)) → entry_at scene.made f.entry ≡ o → MayAct s scene (flips f.at o)
    go None none = no_act s scene
    go (Some bytes) some = byte bytes (made_has AreBytes scene.made f.entry bytes come.made some) (slice_get bytes f.at) refl

pub cut_acts : (s : Setup) (number : ℕ) → MayBe s (λ scene. commands.Cut number)
cut_acts s number moves scene come = go (entry_at scene.made number) refl
  where
    go : (o : Option (List ℕ)) → entry_at scene.made number ≡ o → MayAct s scene (cuts o)
    go None none = no_act s scene
    go (Some bytes) some = record { run = tt; typed = tt; bytes = tt; entries = (bytes_take (length bytes - 1) bytes (made_has AreBytes scene.made number bytes come.made some), tt) }

-- ---- edits

scalars_of_marks : (edit : TextEdit) (len : ℕ) (marks : List Mark) → TextEditInRange edit → marks_of edit len ≡ Some marks → all_scalars (inserted marks) ≡ true
scalars_of_marks (Insert e) len marks fits is =
    ap (λ (ms : List Mark). all_scalars (inserted ms)) (sym (cond_some (nat_le e.at len) (insertion len e.at e.text) marks is).1) ∙ ap all_scalars (inserted-insertion len e.at e.text) ∙ fits.1
scalars_of_marks (Remove e) len marks fits is =
    ap (λ (ms : List Mark). all_scalars (inserted ms)) (sym (cond_some (nat_le (e.at + e.count) len) (removal len e.at e.count) marks is).1) ∙ ap all_scalars (inserted-removal len e.at e.count)

scalars_of_delta : (c : PlainClient) (seen : ℕ) (edit : TextEdit) (marks : List Mark) → TextEditInRange edit → delta_by c seen edit ≡ Some marks → all_scalars (inserted marks) ≡ true
scalars_of_delta c seen edit marks fits is = go (nat_lt (length c.shown) seen) is
  where
    go : (b : Bool) → cond b (Some []) (marks_of edit (length (shown_after seen c))) ≡ Some marks → all_scalars (inserted marks) ≡ true
    go true is = let same : marks ≡ [] = cc in ap (λ (ms : List Mark). all_scalars (inserted ms)) same
    go false is = scalars_of_marks edit (length (shown_after seen c)) marks fits is

short_text : (s : Setup) (who : Device) (c : PlainClient) (seen : ℕ) → IsReached s who c → IsSound c → seen ≤ length c.shown → length c.shown ≤ MAX_EVENTS → length (shown_after seen c) ≤ MAX_COUNT
short_text s who c seen reached sound low few =
    let same = reached.state in
    let count : length c.shown ≡ length reached.log = ap (λ (d : PlainClient). length d.shown) same ∙ shown_count c.opening reached.log in
    ap_le (sym (ap (λ (d : PlainClient). length (shown_after seen d)) same))
    (short_texts_of c.opening reached.log reached.allowed (subst IsSound same sound) (subst (λ (n : ℕ). n ≤ MAX_EVENTS) count few) seen (subst (λ (n : ℕ). seen ≤ n) count low))
  where
    ap_le : {a b : ℕ} → a ≡ b → a ≤ MAX_COUNT → b ≤ MAX_COUNT
    ap_le same low = omega (arith, same, low)

edit_may : (c : PlainClient) (seen : ℕ) (marks : List Mark) → edit_fault c seen marks ≡ None → can_log c (Edit 0 seen marks) ≡ true
unfolding can_log
edit_may c seen marks none = ap is_none none

pub edit_acts : (s : Setup) (e : ScriptEdit) → TextEditInRange e.change → MayBe s (λ scene. commands.Edit e)
edit_acts s e fits moves scene come = open_acts s scene e.device (λ c. adds e.device (edit_events e c)) (λ c at. go c at (delta_by c (seen_by c e.seen) e.change) refl)
  where
    typed : (c : PlainClient) → scene.world.clients e.device ≡ Some c → (marks : List Mark) → delta_by c (seen_by c e.seen) e.change ≡ Some marks → edit_fault c (seen_by c e.seen) marks ≡ None → IsTypedDelta marks
    typed c at marks is none =
        let seen = seen_by c e.seen in
        let there = client_at s moves scene e.device c come at in
        let passed = edit_passed c seen marks none in
        let known = sound_and_typed_at s moves (length moves) e.device c come.run there in
        let short = short_text s e.device c seen (reached_at s moves (length moves) e.device c come.run.run there) known.sound passed.within (omega (arith, passed.room.events)) in
        typed_delta marks (record {
          base = omega (arith, passed.base, short);
          size = omega (arith, passed.bytes);
          scalars = scalars_of_delta c seen e.change marks fits is;
        })

    go : (c : PlainClient) → scene.world.clients e.device ≡ Some c → (o : Option (List Mark)) → delta_by c (seen_by c e.seen) e.change ≡ o → MayAct s scene (adds e.device (edit_logged c (seen_by c e.seen) o))
    go c at None is = no_act s scene
    go c at (Some marks) is = event_acts s scene e.device c (edit_fault c (seen_by c e.seen) marks) (Edit 0 (seen_by c e.seen) marks) at (edit_may c (seen_by c e.seen) marks) (typed c at marks is) tt
