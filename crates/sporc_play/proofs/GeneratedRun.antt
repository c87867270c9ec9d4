-- The generated run is a run of its three members' clients.
use Rattle.std.proofs.Common.{◌≡◌, ℕ, zero, suc, ◌+◌, ◌*◌, ◌/◌, ◌%◌, ◌^◌, ◌<◌, ◌≤◌, ◌==◌, ◌&&◌, Bool, true, false, List, [], ◌∷◌, ◌++◌, map, ap, arith, None, refl, Option, cond, Result, Ok, Err}
use Rattle.std.proofs.Common.{append_assoc}
use Rattle.sporc_play.proofs.Common.{all_map, flat_map, if◌then◌else◌, AllByRecursion, all_scalars, mod_below, all_append, first_device, IsTypedRun, TextEditInRange, up_to, batch, batches, edits}
use Rattle.sporc_play.proofs.Common.{generated_cast, generated_commands, generated_edit, gives, inserts, removes, seen_len, submits, IsOneRun, moves_of, Scene, Command, IsSome, PlayState, AreOpen}
use Rattle.sporc_play.proofs.Common.{IsAsked, generated_scene, opening, AreDeclared, StandsFor, PlainClient, Setup, World, Move, after_move, after_all, Device, effect_of, after, after_each, Genuine}
use Rattle.sporc_play.proofs.Common.{with_client, OnOk, is_ok}
use Rattle.std.proofs.Math.Nat.{mod-le}
use Rattle.std.proofs.Math.Utf8.{low_scalar}
use Rattle.sporc_script.specs.declared.limits.TheConstants.{MAX_GENERATED}
use Rattle.sporc_play.specs.Cast.{setup_of}
use Rattle.sporc_play.proofs.Acts.{edit_acts, give_acts}
use Rattle.sporc_play.proofs.FirstMoves.{first_run}
use Rattle.sporc_play.proofs.Runs.{MayBe, one_run_of, typed_play}
use Rattle.sporc_play.proofs.SubmitActs.{submit_acts}
use Rattle.sporc_play.proofs.ClosedPlays.{AlwaysByClients, own_commands}
use Rattle.sporc_play.proofs.Places.{all_mapped}
use Rattle.sporc_play.proofs.Scripts.{Follows}
use Rattle.sporc_play.proofs.Founders.{lines_declared}
use Rattle.sporc_play.proofs.Batched.{by_member}

-- ---- a client that is open stays open

put_open : (clients : Device → Option PlainClient) (who m : Device) (c : PlainClient) → IsSome (clients m) → IsSome (with_client clients who c m)
put_open clients who m c is = grind arith

open_after : (s : Setup) (w : World) (move : Move) (device : Device) → IsSome (w.clients device) → IsSome ((after_move s w move).clients device)
open_after s w move device is = grind (arith, put_open)

pub open_moves : (s : Setup) (w : World) (moves : List Move) (who : Device) → IsSome (w.clients who) → IsSome ((after_all s w moves).clients who)
open_moves s w [] who is = is
open_moves s w (move ∷ moves) who is = open_moves s (after_move s w move) moves who (open_after s w move who is)

pub open_each : (s : Setup) (scene : Scene) (commands : List (Scene → Command)) (who : Device) → IsSome (scene.world.clients who) → IsSome ((after_each s scene commands).world.clients who)
open_each s scene [] who is = is
open_each s scene (c ∷ cs) who is = open_each s (after s scene (c scene)) cs who (open_moves s scene.world (effect_of s scene (c scene)).moves who is)

-- ---- what the generated run declares, and whose clients are open in it

pub generated_follows : Follows [] generated_cast
generated_follows = (refl, tt, (refl, (omega arith, omega arith), (refl, (omega arith, omega arith), (refl, (omega arith, omega arith), tt))))

pub generated_declared : AreDeclared generated_cast
generated_declared = lines_declared generated_cast generated_follows

-- all three open their clients, and keep them
opened_there : (m : ℕ) → IsAsked m → IsSome ((opening generated_cast).world.clients (first_device m))
unfolding setup_of
opened_there m is = by_member (λ (n : ℕ). IsSome ((opening generated_cast).world.clients (first_device n))) refl refl refl m is

pub generated_open : (n : ℕ) (state : PlayState) → StandsFor generated_cast (generated_scene n) state → AreOpen state
generated_open n state stands = record {
  scene = generated_scene n;
  stands = stands;
  open_clients = λ m is. open_each (setup_of generated_cast) (opening generated_cast) (generated_commands n) (first_device m) (opened_there m is);
}

-- ---- its edits are typed

letter_scalar : (n : ℕ) → all_scalars ((97 + n % 26) ∷ []) ≡ true
letter_scalar n = ap (λ (b : Bool). b && true) (low_scalar (97 + n % 26) (omega (arith, mod_below n 26 (omega arith))))

inserts_fit : (j author len : ℕ) → j * author < 2 ^ 64 → TextEditInRange (inserts j author len)
inserts_fit j author len small = (omega (arith, small, mod-le (j * author) (len + 1)), letter_scalar (3 * j + author))

removes_fit : (author : ℕ) → author ≤ 3 → TextEditInRange (removes author)
removes_fit author small = (omega (arith, small), omega arith)

edit_fits : (j author : ℕ) (scene : Scene) → j * author < 2 ^ 64 → author ≤ 3 → TextEditInRange (generated_edit j author scene)
edit_fits j author scene room small = go (j % 5 == 0)
  where
    go : (b : Bool) → TextEditInRange (if b then removes author else inserts j author (seen_len (scene.world.clients (first_device author))))
    go true = removes_fit author small
    go false = inserts_fit j author (seen_len (scene.world.clients (first_device author))) room

-- ---- its commands

flat : {X Y : Type 0} (P : Y → Type 0) (f : X → List Y) (xs : List X) → ((x : X) → AllByRecursion P (f x)) → AllByRecursion P (flat_map f xs)
flat P f [] each = tt
flat P f (x ∷ xs) each = all_append P (f x) (flat_map f xs) (each x) (flat P f xs each)

to : (P : ℕ → Type 0) (n : ℕ) → ((k : ℕ) → k ≤ n → P k) → AllByRecursion P (up_to n)
to P zero each = tt
to P (suc n) each = all_append P (up_to n) (suc n ∷ []) (to P n (λ k low. each k (omega (arith, low)))) (each (suc n) (omega arith), tt)

-- what holds of each of its commands
module _ (P : (Scene → Command) → Type 0) (edit : (j a : ℕ) → j ≤ 3001 → a ≤ 3 → P (edits j a)) (submit : (a : ℕ) → P (submits a)) (give : (n m : ℕ) → P (gives n m)) where
  batch_all : (done authors : ℕ) → done ≤ MAX_GENERATED → authors ≤ 3 → AllByRecursion P (batch done authors)
  batch_all done authors low few =
      let j = done / 3 + 1 in
      let third : done / 3 ≤ done = mul_div done in
      all_append P (map (edits j) (up_to authors) ++ map submits (up_to authors)) _
      (all_append P (map (edits j) (up_to authors)) _
      (all_map (λ (a : ℕ). P (edits j a)) P (edits j) (λ a is. is) (up_to authors) (to (λ a. P (edits j a)) authors (λ a at. edit j a (omega (arith, low, third)) (omega (arith, at, few)))))
      (all_mapped P submits (up_to authors) submit))
      (flat P (λ a. map (gives (done + a)) (up_to 3)) (up_to authors) (λ a. all_mapped P (gives (done + a)) (up_to 3) (give (done + a))))
    where
      mul_div : (n : ℕ) → n / 3 ≤ n
      mul_div n = omega arith

  batches_all : (n : ℕ) → 3 * n ≤ MAX_GENERATED → AllByRecursion P (batches n)
  batches_all zero low = tt
  batches_all (suc n) low = all_append P (batches n) (batch (3 * n) 3) (batches_all n (omega (arith, low))) (batch_all (3 * n) 3 (omega (arith, low)) (omega arith))

  commands_all : (n : ℕ) → n ≤ MAX_GENERATED → AllByRecursion P (generated_commands n)
  commands_all n low =
      all_append P (batches (n / 3)) (batch (3 * (n / 3)) (n % 3)) (batches_all (n / 3) (omega (arith, low)))
      (batch_all (3 * (n / 3)) (n % 3) (omega (arith, low)) (omega (arith, mod_below n 3 (omega arith))))

edit_may : (j author : ℕ) → j ≤ 3001 → author ≤ 3 → MayBe (setup_of generated_cast) (edits j author)
edit_may j author low small moves scene come =
    edit_acts (setup_of generated_cast) (record { device = first_device author; seen = None; change = generated_edit j author scene }) (edit_fits j author scene (room j author low small) small) moves scene come
  where
    room : (j a : ℕ) → j ≤ 3001 → a ≤ 3 → j * a < 2 ^ 64
    room j zero small few = omega arith
    room j (suc zero) small few = omega (arith, small)
    room j (suc (suc zero)) small few = omega (arith, small)
    room j (suc (suc (suc zero))) small few = omega (arith, small)
    room j (suc (suc (suc (suc a)))) small few = absurd (omega (arith, few))

pub generated_typed : (n : ℕ) → n ≤ MAX_GENERATED → IsTypedRun (setup_of generated_cast) (moves_of generated_cast (generated_commands n))
generated_typed n low =
    let s = setup_of generated_cast in
    typed_play generated_cast (generated_commands n) (first_run generated_cast generated_follows refl)
    (commands_all (MayBe s) edit_may (λ a. submit_acts generated_cast (first_device a)) (λ k m. give_acts s (record { device = first_device m; position = k; entry = k })) n low)

pub generated_one : (n : ℕ) → n ≤ MAX_GENERATED → IsOneRun generated_cast (generated_commands n)
generated_one n low = one_run_of generated_cast (generated_commands n) (generated_typed n low)

-- all entries are made by clients, and so no one forges
pub generated_genuine : (n : ℕ) → n ≤ MAX_GENERATED → Genuine (setup_of generated_cast) (moves_of generated_cast (generated_commands n))
generated_genuine n low =
    own_commands generated_cast (generated_commands n) (generated_typed n low) (commands_all AlwaysByClients (λ j a early few scene. tt) (λ a scene. tt) (λ k m scene. tt) n low)

-- ---- the summary of the generated run

regrouped : (old a b c d e w f h n : List ℕ) → ((old ++ (a ++ (b ++ (c ++ (d ++ (e ++ (w ++ f))))))) ++ h) ++ n ≡ old ++ (a ++ (b ++ (c ++ (d ++ (e ++ (w ++ (f ++ (h ++ n))))))))
regrouped old a b c d e w f h n = simp append_assoc

pub summary_told : {T E : Type 0} (r : Result T E) (old first second new a b c d e w f h n : List ℕ) → first ≡ old ++ (a ++ (b ++ (c ++ (d ++ (e ++ (w ++ f)))))) → second ≡ first ++ h
    → new ≡ cond (is_ok r) (second ++ n) second → OnOk r (new ≡ old ++ (a ++ (b ++ (c ++ (d ++ (e ++ (w ++ (f ++ (h ++ n)))))))))
summary_told (Ok x) old first second new a b c d e w f h n start hash end = rw (end, hash, start) (regrouped old a b c d e w f h n)
summary_told (Err x) old first second new a b c d e w f h n start hash end = tt
