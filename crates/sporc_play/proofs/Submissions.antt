-- Submissions, on the state and on the scene that it stands for.
use Rattle.std.proofs.Common.{◌≡◌, ◌≢◌, ℕ, ◌+◌, Bool, cond, List, [], ◌∷◌, ◌++◌, length, map, refl, sym, ap, ap₂, ◌∙◌, subst, add-zero, Option, None, Some, option_map, Result}
use Rattle.sporc_play.proofs.Common.{option_to_list, LeafFault, SignerModel, LmsPrivate, MemoryDiskModel, SubmitFault, Submitted, ClientModel, state_of, Logged, PlainClient, Setup, Happen, after_all}
use Rattle.sporc_play.proofs.Common.{replay, submission, submission_added, replay_append, Device, one_same, PlayLine, Seat, PlayState, setup_of, random_of, line_by, next_number, submit_line}
use Rattle.sporc_play.proofs.Common.{logs_after, Effect, Scene, after, entries_made, if_open, leaf_after, submission_in, with_more, AreDrawn, ClientSubmitted, HasSubmitted, IsReady, IsSeatAt}
use Rattle.sporc_play.proofs.Common.{IsSubmitted, answer_of, last_with, submission_line, Holds, IsSeatOf, StandsFor, first_device, Forgery, Rogue, forged_entry, sign_line, signs_by, IsRogueAt}
use Rattle.sporc_play.proofs.Common.{HasSigned, forged_by, signing_line, IsRogueOf}
use Rattle.sporc_play.specs.Scene.{performed, last_made, submits}
use Rattle.sporc_play.proofs.Commands.{no_client, seat_there}
use Rattle.sporc_play.proofs.Places.{same_or_not, at_place}
use Rattle.sporc_play.proofs.Seating.{AreOf, client_happens, clients_other, happens_of, log_happens, logs_other, ChangesSeat, IsSameAt, stands_seat, with_client, ChangesRogue, stands_rogue}
use Rattle.sporc_script.specs.declared.command.Command.TheVariants as commands

-- ---- counts

pub more_own : (counts : Device → ℕ) (who : Device) (more : ℕ) → with_more counts (Some who) more who ≡ counts who + more
more_own counts who more = ap (λ (same : Bool). cond same (counts who + more) (counts who)) (one_same who)

pub more_other : (counts : Device → ℕ) (who : Device) (more : ℕ) (other : Device) → other ≢ who → with_more counts (Some who) more other ≡ counts other
more_other counts who more other differs = ap (λ (same : Bool). cond same (counts other + more) (counts other)) (same_or_not other who differs)

last_other : (last : Device → ℕ) (who : Device) (next : ℕ) (entries : List (List ℕ)) (other : Device) → other ≢ who → last_made last who next entries other ≡ last other
last_other last who next [] other differs = refl
last_other last who next (e ∷ es) other differs = ap (λ (same : Bool). cond same next (last other)) (same_or_not other who differs)

last_is : (last : Device → ℕ) (who : Device) (next old : ℕ) (made : Option (List ℕ)) → old ≡ last who → last_with next old made ≡ last_made last who next (option_to_list made) who
last_is last who next old None is = is
last_is last who next old (Some e) is = sym (ap (λ (same : Bool). cond same next (last who)) (one_same who))

-- ---- the seat

-- a scene after a submission of a device that did this
abbrev submitted_by : Setup → Scene → Device → Effect → Scene
submitted_by s scene who act = record {
  world = after_all s scene.world act.moves;
  logs = logs_after s scene.world scene.logs act.moves;
  made = scene.made ++ act.entries;
  last = last_made scene.last who (length scene.made + 1) act.entries;
  asked = with_more scene.asked (Some who) 1;
  leaves = with_more scene.leaves (Some who) (length act.entries);
}

-- what a submission by this answer does
abbrev done : Setup → Scene → Device → Result Submitted SubmitFault → Scene
done s scene who answer = submitted_by s scene who (submits who answer)

holds_more : {D : Type 0} (s : Setup) (scene : Scene) (answer : Result Submitted SubmitFault) (who : Device) (c c' : ClientModel D) → IsReady (s.private who) (scene.leaves who) c → c.opening.key ≡ s.private who
    → IsReady c.opening.key (c.leaves.next + length (entries_made answer)) c' → IsReady (s.private who) (with_more scene.leaves (Some who) (length (entries_made answer)) who) c'
holds_more s scene answer who c c' was key is =
    subst (λ (n : ℕ). IsReady (s.private who) n c') (ap (λ (n : ℕ). n + length (entries_made answer)) was.leaves.next ∙ sym (more_own scene.leaves who (length (entries_made answer))))
    (subst (λ (k : LmsPrivate). IsReady k (c.leaves.next + length (entries_made answer)) c') key is)

-- what it does in the words of the scene
answer_is : (s : Setup) (scene : Scene) (seat : Seat) (c : ClientModel MemoryDiskModel) → IsSeatOf s scene (with_client seat (Some c)) → answer_of seat c ≡ submission_in s scene seat.device (state_of c)
answer_is s scene seat c is =
    ap₂ (λ (n : ℕ) (leaf : Result ℕ LeafFault). submission (state_of c) (random_of seat.device (n + 1)) leaf) is.asked
    (ap₂ leaf_after is.holds.ready.key is.holds.ready.leaves.next)

record IsDone (s : Setup) (scene' : Scene) (entries : List (List ℕ)) (made : Option (List ℕ)) (new : Seat) : Type 0 where
  seat : IsSeatOf s scene' new
  entries_are : option_to_list made ≡ entries

seat_done : (s : Setup) (scene : Scene) (seat : Seat) (made : Option (List ℕ)) (new : Seat) → IsSeatOf s scene seat → HasSubmitted (length scene.made + 1) seat made new
    → let act = if_open (scene.world.clients seat.device) (λ c. submits seat.device (submission_in s scene seat.device c)) in IsDone s (submitted_by s scene seat.device act) act.entries made new
seat_done s scene seat made new is did = go seat.client is did.client
  where
    F : PlainClient → Effect
    F c = submits seat.device (submission_in s scene seat.device c)

    P : Option PlainClient → Type 0
    P o = IsDone s (submitted_by s scene seat.device (if_open o F)) (if_open o F).entries made new

    asked : new.asked ≡ with_more scene.asked (Some seat.device) 1 new.device
    asked = did.asked ∙ ap (λ (n : ℕ). n + 1) is.asked ∙ sym (more_own scene.asked seat.device 1) ∙ ap (with_more scene.asked (Some seat.device) 1) (sym did.device)

    last : (entries : List (List ℕ)) → option_to_list made ≡ entries → new.last ≡ last_made scene.last seat.device (length scene.made + 1) entries new.device
    last entries are =
        did.last ∙ last_is scene.last seat.device (length scene.made + 1) seat.last made is.last
        ∙ ap (λ (es : List (List ℕ)). last_made scene.last seat.device (length scene.made + 1) es seat.device) are
        ∙ ap (last_made scene.last seat.device (length scene.made + 1) entries) (sym did.device)

    open_case : (c c' : ClientModel MemoryDiskModel) → IsSeatOf s scene (with_client seat (Some c)) → new.client ≡ Some c' → IsSubmitted c (answer_of seat c) c' → option_to_list made ≡ entries_made (answer_of seat c)
        → IsDone s (done s scene seat.device (answer_of seat c)) (entries_made (answer_of seat c)) made new
    open_case c c' is now by are =
        let answer = answer_of seat c in
        let added = submission_added 0 answer in
        let state : replay c.opening (c.log ++ added) ≡ state_of c' = ap₂ replay (sym by.opening) (sym by.log) in
        record {
          seat = record {
            asked = asked;
            last = last (entries_made answer) are;
            client = ap (after_all s scene.world (map (Happen seat.device) added)).clients did.device
                ∙ client_happens s scene.world seat.device (state_of c) added is.client
                ∙ ap Some (replay_append c.opening c.log added ∙ state) ∙ sym (ap (option_map state_of) now);
            holds = subst (λ (d : Device). Holds s (done s scene seat.device answer) d new.signer new.client) (sym did.device)
                (subst (Holds s (done s scene seat.device answer) seat.device new.signer) (sym now) (record {
                  ring = is.holds.ring;
                  opening = by.opening ∙ is.holds.opening;
                  log = log_happens s scene.world scene.logs seat.device added ∙ ap (λ (l : List Logged). l ++ added) is.holds.log ∙ sym by.log;
                  ready = holds_more s scene answer seat.device c c' is.holds.ready is.holds.ready.key by.ready;
                }));
          };
          entries_are = are;
        }

    none_case : (signer : Option (SignerModel MemoryDiskModel)) → seat.signer ≡ signer → Holds s scene seat.device signer no_client → scene.world.clients seat.device ≡ None → new.client ≡ None → made ≡ None → P None
    none_case None signed held closed now unmade = absurd held
    none_case (Some signer) signed held closed now unmade = record {
      seat = record {
        asked = asked;
        last = last [] (ap option_to_list unmade);
        client = ap scene.world.clients did.device ∙ closed ∙ sym (ap (option_map state_of) now);
        holds = subst (λ (d : Device). Holds s (submitted_by s scene seat.device (if_open None F)) d new.signer new.client) (sym did.device)
            (subst (Holds s (submitted_by s scene seat.device (if_open None F)) seat.device new.signer) (sym now)
            (subst (λ (o : Option (SignerModel MemoryDiskModel)). Holds s (submitted_by s scene seat.device (if_open None F)) seat.device o no_client) (sym (did.signer ∙ signed))
            (record {
              key = held.key;
              leaves = subst (λ (n : ℕ). AreDrawn (s.private seat.device) n signer.leaves) (sym (more_own scene.leaves seat.device 0 ∙ add-zero (scene.leaves seat.device))) held.leaves;
            })));
      };
      entries_are = ap option_to_list unmade;
    }

    go : (o : Option (ClientModel MemoryDiskModel)) → IsSeatOf s scene (with_client seat o) → ClientSubmitted seat o made new.client → P (scene.world.clients seat.device)
    go None is by = subst P (sym is.client) (none_case seat.signer refl is.holds is.client by.0 by.1)
    go (Some c) is by =
        subst P (sym is.client)
        (subst (λ (a : Result Submitted SubmitFault). IsDone s (done s scene seat.device a) (entries_made a) made new) (answer_is s scene seat c is) (open_case c by.0 is by.1 by.2 by.3))

-- ---- the state

of_device : (s : Setup) (scene : Scene) (who : Device) (o : Option PlainClient) → AreOf who (if_open o (λ c. submits who (submission_in s scene who c))).moves
of_device s scene who None = tt
of_device s scene who (Some c) = happens_of who (submission_added 0 (submission_in s scene who c))

same_for_others : (s : Setup) (scene : Scene) (who other : Device) (act : Effect) → AreOf who act.moves → other ≢ who → IsSameAt other scene (submitted_by s scene who act)
same_for_others s scene who other act are differs = record {
  client = clients_other s scene.world act.moves who other are differs;
  log = logs_other s scene.world scene.logs act.moves who other are differs;
  last = last_other scene.last who (length scene.made + 1) act.entries other differs;
  asked = more_other scene.asked who 1 other differs;
  leaves = more_other scene.leaves who (length act.entries) other differs;
}

pub submit_stands : (script : List PlayLine) (scene : Scene) (state state' : PlayState) (i : ℕ) (who : Device) (seat new : Seat) (made : Option (List ℕ)) → StandsFor script scene state → IsSeatAt state.seats.items i who seat
    → HasSubmitted (length scene.made + 1) seat made new → ChangesSeat i new state state'
    → map (λ bytes. bytes.items) state'.made.items ≡ map (λ bytes. bytes.items) state.made.items ++ option_to_list made → StandsFor script (after (setup_of script) scene (commands.Submit who)) state'
submit_stands script scene state state' i who seat new made stands at did changed grown =
    let s = setup_of script in
    let act = if_open (scene.world.clients who) (λ c. submits who (submission_in s scene who c)) in
    let is_done : IsDone s (after s scene (commands.Submit who)) act.entries made new =
    subst (λ (d : Device). let a = if_open (scene.world.clients d) (λ c. submits d (submission_in s scene d c)) in IsDone s (submitted_by s scene d a) a.entries made new) at.own
    (seat_done s scene seat made new (seat_there script scene state i who seat stands at) did) in
    stands_seat script scene (after s scene (commands.Submit who)) state state' i who seat new stands at
    (λ other differs. same_for_others s scene who other act (of_device s scene who (scene.world.clients who)) differs)
    is_done.seat did.device changed
    (grown ∙ ap₂ (λ (xs ys : List (List ℕ)). xs ++ ys) stands.made is_done.entries_are)

-- the line that it tells
pub submission_told : (script : List PlayLine) (scene : Scene) (state : PlayState) (i : ℕ) (who : Device) (next : ℕ) (seat : Seat) (old new : List ℕ) → StandsFor script scene state → IsSeatAt state.seats.items i who seat → next ≡ next_number scene
    → new ≡ old ++ submission_line next seat seat.client
    → (l : List ℕ) × (l ≡ line_by who (scene.world.clients who) (λ c. submit_line who (next_number scene) (scene.last who) (submission_in (setup_of script) scene who c))) × (new ≡ old ++ l)
submission_told script scene state i who next seat old new stands at number is =
    (submission_line next seat seat.client, subst T at.own (go seat.client (seat_there script scene state i who seat stands at)), is)
  where
    s : Setup
    s = setup_of script

    T : Device → Type 0
    T d = submission_line next seat seat.client ≡ line_by d (scene.world.clients d) (λ c. submit_line d (next_number scene) (scene.last d) (submission_in (setup_of script) scene d c))

    L : Option PlainClient → List ℕ
    L o = line_by seat.device o (λ c. submit_line seat.device (next_number scene) (scene.last seat.device) (submission_in (setup_of script) scene seat.device c))

    go : (o : Option (ClientModel MemoryDiskModel)) → IsSeatOf (setup_of script) scene (with_client seat o) → submission_line next seat o ≡ L (scene.world.clients seat.device)
    go None is = sym (ap L is.client)
    go (Some c) is =
        ap₂ (λ (n l : ℕ). submit_line seat.device n l (answer_of seat c)) number is.last
        ∙ ap (submit_line seat.device (next_number scene) (scene.last seat.device)) (answer_is (setup_of script) scene seat c is)
        ∙ sym (ap L is.client)

-- ---- commands that make entries without a client: of another entry, or for a rogue

-- ---- for a rogue

pub rogue_there : (script : List PlayLine) (scene : Scene) (state : PlayState) (i : ℕ) (who : Device) (rogue : Rogue) → StandsFor script scene state → IsRogueAt state.rogues.items i who rogue → IsRogueOf (setup_of script) scene rogue
rogue_there script scene state i who rogue stands at = at_place (IsRogueOf (setup_of script) scene) state.rogues.items i rogue stands.rogues at.there

-- entries alone
abbrev pub makes : List (List ℕ) → Effect
makes entries = record { moves = []; entries = entries }

signs_is : (o : Option (List ℕ)) → signs_by o ≡ makes (option_to_list o)
signs_is None = refl
signs_is (Some bytes) = refl

forged_is : (s : Setup) (scene : Scene) (f : Forgery) (rogue : Rogue) (client : Option (ClientModel MemoryDiskModel)) → IsRogueOf s scene rogue → rogue.device ≡ first_device f.member
    → if_open (option_map state_of client) (λ c. signs_by (forged_entry s c f (scene.asked (first_device f.member) + 1) (leaf_after (s.private (first_device f.member)) (scene.leaves (first_device f.member))))) ≡ makes (option_to_list (forged_by s f rogue client))
forged_is s scene f rogue None is own = refl
forged_is s scene f rogue (Some c) is own =
    signs_is (forged_entry s (state_of c) f (scene.asked (first_device f.member) + 1) (leaf_after (s.private (first_device f.member)) (scene.leaves (first_device f.member))))
    ∙ ap₂ (λ (n : ℕ) (leaf : Result ℕ LeafFault). makes (option_to_list (forged_entry s (state_of c) f (n + 1) leaf)))
    (ap scene.asked (sym own) ∙ sym is.asked)
    (ap₂ leaf_after (ap s.private (sym own) ∙ sym is.signer.key) (ap scene.leaves (sym own) ∙ sym is.signer.leaves.next))

pub sign_stands : (script : List PlayLine) (scene : Scene) (state state' : PlayState) (i : ℕ) (f : Forgery) (rogue new : Rogue) (client : Option (ClientModel MemoryDiskModel)) (made : Option (List ℕ)) → StandsFor script scene state
    → IsRogueAt state.rogues.items i (first_device f.member) rogue → scene.world.clients f.from ≡ option_map state_of client → HasSigned rogue made new → made ≡ forged_by (setup_of script) f rogue client
    → ChangesRogue i new state state' → map (λ bytes. bytes.items) state'.made.items ≡ map (λ bytes. bytes.items) state.made.items ++ option_to_list made
    → StandsFor script (after (setup_of script) scene (commands.Sign f)) state'
sign_stands script scene state state' i f rogue new client made stands at client_is did forged changed grown =
    let s = setup_of script in
    let is = rogue_there script scene state i (first_device f.member) rogue stands at in
    let act : if_open (scene.world.clients f.from) (λ c. signs_by (forged_entry s c f (scene.asked (first_device f.member) + 1) (leaf_after (s.private (first_device f.member)) (scene.leaves (first_device f.member))))) ≡ makes (option_to_list made) =
    ap (λ (o : Option PlainClient). if_open o (λ c. signs_by (forged_entry s c f (scene.asked (first_device f.member) + 1) (leaf_after (s.private (first_device f.member)) (scene.leaves (first_device f.member)))))) client_is
    ∙ forged_is s scene f rogue client is at.own ∙ ap (λ (o : Option (List ℕ)). makes (option_to_list o)) (sym forged) in
    let own : new.device ≡ first_device f.member = did.device ∙ at.own in
    let count = length (option_to_list made) in
    subst (λ (a : Effect). StandsFor script (performed s scene (commands.Sign f) a) state') (sym act)
    (stands_rogue script scene (performed s scene (commands.Sign f) (makes (option_to_list made))) state state' i (first_device f.member) rogue new stands at
    (λ other differs. record {
      client = refl;
      log = refl;
      last = refl;
      asked = more_other scene.asked (first_device f.member) 1 other differs;
      leaves = more_other scene.leaves (first_device f.member) count other differs;
    })
    (record {
      asked = did.asked ∙ ap (λ (n : ℕ). n + 1) (is.asked ∙ ap scene.asked at.own) ∙ sym (more_own scene.asked (first_device f.member) 1) ∙ ap (with_more scene.asked (Some (first_device f.member)) 1) (sym own);
      signer = record {
        key = did.key ∙ is.signer.key ∙ ap s.private (sym did.device);
        leaves = subst (λ (n : ℕ). AreDrawn (s.private new.device) n new.signer.leaves)
            (ap (λ (n : ℕ). n + count) (is.signer.leaves.next ∙ ap scene.leaves at.own) ∙ sym (more_own scene.leaves (first_device f.member) count) ∙ ap (with_more scene.leaves (Some (first_device f.member)) count) (sym own))
            (subst (λ (k : LmsPrivate). AreDrawn k (rogue.signer.leaves.next + count) new.signer.leaves) (is.signer.key ∙ ap s.private (sym did.device)) did.leaves);
      };
    })
    did.device changed
    (grown ∙ ap (λ (es : List (List ℕ)). es ++ option_to_list made) stands.made))

pub signing_told : (script : List PlayLine) (scene : Scene) (state : PlayState) (i next : ℕ) (f : Forgery) (rogue : Rogue) (client : Option (ClientModel MemoryDiskModel)) (old new : List ℕ) → StandsFor script scene state
    → IsRogueAt state.rogues.items i (first_device f.member) rogue → scene.world.clients f.from ≡ option_map state_of client → next ≡ next_number scene → new ≡ old ++ signing_line f next rogue client
    → (l : List ℕ) × (l ≡ line_by f.from (scene.world.clients f.from) (λ c. sign_line (first_device f.member) (next_number scene) (leaf_after ((setup_of script).private (first_device f.member)) (scene.leaves (first_device f.member))))) × (new ≡ old ++ l)
signing_told script scene state i next f rogue client old new stands at client_is number told =
    let s = setup_of script in
    let is = rogue_there script scene state i (first_device f.member) rogue stands at in
    let leaf : leaf_after rogue.signer.key rogue.signer.leaves.next ≡ leaf_after (s.private (first_device f.member)) (scene.leaves (first_device f.member)) =
    ap₂ leaf_after (is.signer.key ∙ ap s.private at.own) (is.signer.leaves.next ∙ ap scene.leaves at.own) in (
      signing_line f next rogue client,
      ap₂ (λ (n : ℕ) (r : Result ℕ LeafFault). line_by f.from (option_map state_of client) (λ c. sign_line (first_device f.member) n r)) number leaf
          ∙ ap (λ (o : Option PlainClient). line_by f.from o (λ c. sign_line (first_device f.member) (next_number scene) (leaf_after (s.private (first_device f.member)) (scene.leaves (first_device f.member))))) (sym client_is),
      told,
    )
