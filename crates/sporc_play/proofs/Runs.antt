-- Plays as runs of their clients: the moves of commands, one command after another.
use Rattle.std.proofs.Common.{◌≡◌, ℕ, Bool, true, false, cond, Option, Some, IfSome, List, [], ◌∷◌, ◌++◌, length, map, take, drop, refl, sym, ap, ◌∙◌, subst, append_assoc, append-nil}
use Rattle.std.proofs.Common.{take-append-drop}
use Rattle.sporc_play.proofs.Common.{if◌then◌else◌, nat_cmp_total, empty, get, get-empty, get-insert, AllByRecursion, nat_cmp, eq_by_cmp, all_append, Keys, Setup, Move, Open, World, IsRun, after_all}
use Rattle.sporc_play.proofs.Common.{start, IsTypedMove, IsTypedRun, after_append, run_append, Device, Command, PlayLine, first_ring, founders_of, has_admin, openers_by, setup_of, first_key, IsOneRun}
use Rattle.sporc_play.proofs.Common.{moves_from, moves_of, Effect, Scene, effect_of, after, after_each, opening, opening_moves, openings}
use Rattle.sporc_client.proofs.Agreed.{agree}
use Rattle.sporc_play.proofs.ByteClients.{AreByteClients, IsByteMove, moves_bytes, AreBytes, bytes_sha}
use Rattle.std.proofs.Math.Seq.{take-append_seam}
use Rattle.sporc_play.proofs.Places.{all_mapped}

-- ---- the clients of a play are those of its moves

moves_world : (s : Setup) (scene : Scene) (commands : List (Scene → Command)) → (after_each s scene commands).world ≡ after_all s scene.world (moves_from s scene commands)
moves_world s scene [] = refl
moves_world s scene (c ∷ cs) =
    moves_world s (after s scene (c scene)) cs ∙ sym (after_append s scene.world (effect_of s scene (c scene)).moves (moves_from s (after s scene (c scene)) cs))

moves_append : (s : Setup) (scene : Scene) (xs ys : List (Scene → Command)) → moves_from s scene (xs ++ ys) ≡ moves_from s scene xs ++ moves_from s (after_each s scene xs) ys
moves_append s scene [] ys = refl
moves_append s scene (c ∷ cs) ys =
    let scene' = after s scene (c scene) in
    ap (λ (moves : List Move). (effect_of s scene (c scene)).moves ++ moves) (moves_append s scene' cs ys)
    ∙ sym (append_assoc (effect_of s scene (c scene)).moves (moves_from s scene' cs) (moves_from s (after_each s scene' cs) ys))

moves_front : (cast : List PlayLine) (commands : List (Scene → Command)) (n : ℕ) → take (length (moves_of cast (take n commands))) (moves_of cast commands) ≡ moves_of cast (take n commands)
moves_front cast commands n =
    let s = setup_of cast in
    let scene = opening cast in
    let first = take n commands in
    let rest = moves_from s (after_each s scene first) (drop n commands) in
    let split : moves_of cast commands ≡ moves_of cast first ++ rest =
    ap (λ (cs : List (Scene → Command)). opening_moves cast ++ moves_from s scene cs) (sym (take-append-drop n commands))
    ∙ ap (λ (moves : List Move). opening_moves cast ++ moves) (moves_append s scene first (drop n commands))
    ∙ sym (append_assoc (opening_moves cast) (moves_from s scene first) rest) in
    ap (take (length (moves_of cast (take n commands)))) split ∙ take-append_seam (moves_of cast first) rest

pub one_run_of : (cast : List PlayLine) (commands : List (Scene → Command)) → IsTypedRun (setup_of cast) (moves_of cast commands) → IsOneRun cast commands
one_run_of cast commands run =
    let s = setup_of cast in
    record {
      run = run.run;
      world = λ n.
          moves_world s (opening cast) (take n commands)
          ∙ sym (after_append s start (opening_moves cast) (moves_from s (opening cast) (take n commands)))
          ∙ ap (after_all s start) (sym (moves_front cast commands n));
      agree = agree s (moves_of cast commands) run.setup run.run;
    }

-- ---- commands that may be performed wherever a play has come to

-- a play has come to a scene by these moves
pub record HasCome (s : Setup) (moves : List Move) (scene : Scene) : Type 0 where
  pub run : IsTypedRun s moves
  pub world : scene.world ≡ after_all s start moves
  pub made : AllByRecursion AreBytes scene.made
  pub clients : AreByteClients scene.world

-- what a command does there may happen, and makes bytes
pub record MayAct (s : Setup) (scene : Scene) (act : Effect) : Type 0 where
  pub run : IsRun s scene.world act.moves
  pub typed : AllByRecursion IsTypedMove act.moves
  pub bytes : AllByRecursion IsByteMove act.moves
  pub entries : AllByRecursion AreBytes act.entries

abbrev pub MayBe : Setup → (Scene → Command) → Type 0
MayBe s command = (moves : List Move) (scene : Scene) → HasCome s moves scene → MayAct s scene (effect_of s scene (command scene))

come_further : (s : Setup) (moves : List Move) (scene : Scene) (command : Command) → HasCome s moves scene → MayAct s scene (effect_of s scene command) → HasCome s (moves ++ (effect_of s scene command).moves) (after s scene command)
come_further s moves scene command come may =
    let more = (effect_of s scene command).moves in
    record {
      run = record {
        setup = come.run.setup;
        typed = all_append IsTypedMove moves more come.run.typed may.typed;
        run = run_append s start moves more come.run.run (subst (λ (w : World). IsRun s w more) come.world may.run);
      };
      world = ap (λ (w : World). after_all s w more) come.world ∙ sym (after_append s start moves more);
      made = all_append AreBytes scene.made (effect_of s scene command).entries come.made may.entries;
      clients = moves_bytes s scene.world more may.bytes come.clients;
    }

pub runs_on : (s : Setup) (moves : List Move) (scene : Scene) (commands : List (Scene → Command)) → HasCome s moves scene → AllByRecursion (MayBe s) commands → IsTypedRun s (moves ++ moves_from s scene commands)
runs_on s moves scene [] come all = subst (IsTypedRun s) (sym (append-nil moves)) come.run
runs_on s moves scene (c ∷ cs) come all =
    let more = (effect_of s scene (c scene)).moves in
    subst (IsTypedRun s) (append_assoc moves more (moves_from s (after s scene (c scene)) cs))
    (runs_on s (moves ++ more) (after s scene (c scene)) cs (come_further s moves scene (c scene) come (all.0 moves scene come)) all.1)

abbrev pub no_keys : Keys
no_keys = empty

-- what holds of the first key holds of the ring's
pub first_ring_has : (P : List ℕ → Type 0) → P first_key → (epoch : ℕ) → IfSome (get first_ring epoch) P
first_ring_has P is epoch = subst (λ (o : Option (List ℕ)). IfSome o P) (sym (get-insert nat_cmp_total no_keys 0 first_key epoch)) (go (eq_by_cmp nat_cmp epoch 0))
  where
    go : (b : Bool) → IfSome (cond b (Some first_key) (get no_keys epoch)) P
    go true = is
    go false = subst (λ (o : Option (List ℕ)). IfSome o P) (sym (get-empty nat_cmp epoch)) tt

openings_bytes : (ds : List Device) → AllByRecursion IsByteMove (map (λ (who : Device). Open who first_ring) ds)
openings_bytes ds = all_mapped IsByteMove (λ (who : Device). Open who first_ring) ds (λ who. first_ring_has AreBytes (bytes_sha _))

first_bytes : (cast : List PlayLine) → AllByRecursion IsByteMove (opening_moves cast)
first_bytes cast = go (has_admin cast)
  where
    go : (b : Bool) → AllByRecursion IsByteMove (if b then openings (founders_of cast) cast else [])
    go true = openings_bytes (openers_by (founders_of cast) cast)
    go false = tt

-- a play whose founders' moves are a run, and whose commands may be
pub typed_play : (cast : List PlayLine) (commands : List (Scene → Command)) → IsTypedRun (setup_of cast) (opening_moves cast) → AllByRecursion (MayBe (setup_of cast)) commands → IsTypedRun (setup_of cast) (moves_of cast commands)
typed_play cast commands first all =
    runs_on (setup_of cast) (opening_moves cast) (opening cast) commands
    (record { run = first; world = refl; made = tt; clients = moves_bytes (setup_of cast) start (opening_moves cast) (first_bytes cast) (λ who c at. absurd cc) }) all
