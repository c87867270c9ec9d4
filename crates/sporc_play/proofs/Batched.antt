-- Commands of the generated run, performed one after another.
use Rattle.std.proofs.Common.{◌≡◌, ℕ, zero, suc, ◌+◌, ◌*◌, ◌/◌, ◌%◌, ◌<◌, ◌≤◌, Bool, true, false, cond, eqb, List, [], ◌∷◌, ◌++◌, length, map, flat_map, refl, sym, ap, subst, ◌∙◌, arith}
use Rattle.std.proofs.Common.{length-append, append-nil}
use Rattle.sporc_play.proofs.Common.{Contains, encode_utf8, encode_utf8_all, encode_ascii, length-map, map-append, fold-append, Device, first_device, Command, MAX_SCRIPT, PlayState, HasRoom, IsAsked}
use Rattle.sporc_play.proofs.Common.{Performs, up_to, batch, batches, edits, generated_cast, gives, inserts, removes, seen_len, submits, Scene, after, after_each, edit_size, opening, text_size}
use Rattle.sporc_play.proofs.Common.{seated, TakePart, Becomes, CanPerform, StandsFor}
use Rattle.std.proofs.lemmas.Grind.{flat_map-append}
use Rattle.sporc_script.specs.declared.command.Command.TheVariants as commands
use Rattle.sporc_script.specs.declared.command.Give.{Give}
use Rattle.sporc_play.specs.Cast.{setup_of}
use Rattle.sporc_play.proofs.Ready.{asked_grows, can_perform}
use Rattle.sporc_play.proofs.Reported.{after_push}

-- ---- one after another

pub performs_more : (old mid new : PlayState) (commands : List (Scene → Command)) (command : Scene → Command) → Performs old commands mid
    → ((scene : Scene) → StandsFor generated_cast scene mid → StandsFor generated_cast (after (setup_of generated_cast) scene (command scene)) new) → Performs old (commands ++ command ∷ []) new
performs_more old mid new commands command first then scene stands =
    let IsStood : Scene → Type 0 = λ later. StandsFor generated_cast later new in
    subst IsStood (sym (after_push (setup_of generated_cast) scene commands command)) (then (after_each (setup_of generated_cast) scene commands) (first scene stands))

pub performs_both : (old mid new : PlayState) (first second : List (Scene → Command)) → Performs old first mid → Performs mid second new → Performs old (first ++ second) new
performs_both old mid new first second does then scene stands =
    let s = setup_of generated_cast in
    let IsStood : Scene → Type 0 = λ later. StandsFor generated_cast later new in
    subst IsStood (sym (fold-append (λ (now : Scene) (command : Scene → Command). after s now (command now)) scene first second))
    (then (after_each s scene first) (does scene stands))

-- ---- room

pub has_room : (n k : ℕ) (old new : PlayState) (commands : List (Scene → Command)) → HasRoom n old → Performs old commands new → length commands + k ≤ n → HasRoom k new
has_room n k old new commands room does few = record {
  scene = after_each (setup_of generated_cast) room.scene commands;
  stands = does room.scene room.stands;
  room = λ m. omega (arith, room.room m, asked_grows (setup_of generated_cast) room.scene commands m, few);
}

-- ---- the members

pub by_member : (P : ℕ → Type 0) → P 1 → P 2 → P 3 → (m : ℕ) → IsAsked m → P m
by_member P one two three (suc zero) is = one
by_member P one two three (suc (suc zero)) is = two
by_member P one two three (suc (suc (suc zero))) is = three
by_member P one two three m is = absurd (omega (arith, is))

all_seated : (setup_of generated_cast).devices ≡ first_device 1 ∷ first_device 2 ∷ first_device 3 ∷ []
unfolding setup_of
all_seated = refl

pub seated_by : (scene : Scene) (state : PlayState) (m : ℕ) → StandsFor generated_cast scene state → IsAsked m → Contains (seated state.seats.items) (first_device m)
seated_by scene state m stands is = subst (λ (ds : List Device). Contains ds (first_device m)) (sym (stands.seated ∙ all_seated))
    (by_member (λ (n : ℕ). Contains (first_device 1 ∷ first_device 2 ∷ first_device 3 ∷ []) (first_device n)) (0, omega arith, refl) (1, omega arith, refl) (2, omega arith, refl) m is)

pub seated_there : (n : ℕ) (state : PlayState) (m : ℕ) → HasRoom n state → IsAsked m → Contains (seated state.seats.items) (first_device m)
seated_there n state m room is = seated_by room.scene state m room.stands is

pub can_ask : (state : PlayState) (command : Command) → HasRoom 1 state → TakePart state command → text_size command ≤ MAX_SCRIPT → CanPerform state command
can_ask state command room named short = can_perform generated_cast room.scene state command room.stands room.room named short

-- ---- lists of commands

pub length-up_to : (n : ℕ) → length (up_to n) ≡ n
length-up_to zero = refl
length-up_to (suc n) = omega (arith, length-append (up_to n) (suc n ∷ []), length-up_to n)

pub one_more : {X : Type 0} → (f : ℕ → X) (n : ℕ) → map f (up_to (n + 1)) ≡ map f (up_to n) ++ f (n + 1) ∷ []
one_more {X} f n =
    let e : n + 1 ≡ suc n = omega arith in
    ap (λ (k : ℕ). map f (up_to k)) e ∙ map-append f (up_to n) (suc n ∷ []) ∙ ap (λ (k : ℕ). map f (up_to n) ++ f k ∷ []) (sym e)

pub all_done : (old new : PlayState) (f : ℕ → Scene → Command) (a n : ℕ) → a ≡ n → Performs old (map f (up_to a)) new → Performs old (map f (up_to n)) new
all_done old new f a n same does = subst (λ (k : ℕ). Performs old (map f (up_to k)) new) same does

-- one more command of a list by numbers
pub maps_more : (old mid new : PlayState) (f : ℕ → Scene → Command) (n : ℕ) (command : Command) → Performs old (map f (up_to n)) mid
    → ((scene : Scene) → StandsFor generated_cast scene mid → command ≡ f (n + 1) scene) → Becomes mid command new → Performs old (map f (up_to (n + 1))) new
maps_more old mid new f n command first is then =
    let IsDone : List (Scene → Command) → Type 0 = λ commands. Performs old commands new in
    subst IsDone (sym (one_more f n)) (performs_more old mid new (map f (up_to n)) (f (n + 1)) first (λ scene stands.
    let IsStood : Command → Type 0 = λ c. StandsFor generated_cast (after (setup_of generated_cast) scene c) new in
    subst IsStood (is scene stands) (then generated_cast scene stands)))

pub flat_more : (g : ℕ → List (Scene → Command)) (n : ℕ) → flat_map g (up_to (n + 1)) ≡ flat_map g (up_to n) ++ g (n + 1)
flat_more g n =
    let e : n + 1 ≡ suc n = omega arith in
    ap (λ (k : ℕ). flat_map g (up_to k)) e ∙ flat_map-append g (up_to n) (suc n ∷ [])
    ∙ ap (λ (more : List (Scene → Command)). flat_map g (up_to n) ++ more) (append-nil (g (suc n)))
    ∙ ap (λ (k : ℕ). flat_map g (up_to n) ++ g k) (sym e)

pub flats_more : (old mid new : PlayState) (g : ℕ → List (Scene → Command)) (n : ℕ) (last : List (Scene → Command)) → last ≡ g (n + 1) → Performs old (flat_map g (up_to n)) mid → Performs mid last new
    → Performs old (flat_map g (up_to (n + 1))) new
flats_more old mid new g n last is first then =
    let IsDone : List (Scene → Command) → Type 0 = λ commands. Performs old commands new in
    subst IsDone (ap (λ (more : List (Scene → Command)). flat_map g (up_to n) ++ more) is ∙ sym (flat_more g n)) (performs_both old mid new (flat_map g (up_to n)) last first then)

pub mapped_room : (n k : ℕ) (old new : PlayState) (f : ℕ → Scene → Command) (a : ℕ) → HasRoom n old → Performs old (map f (up_to a)) new → a + k ≤ n → HasRoom k new
mapped_room n k old new f a room does few = has_room n k old new (map f (up_to a)) room does (omega (arith, length-map (up_to a) f, length-up_to a, few))

pub length-gives : (done n : ℕ) → length (flat_map (λ a. map (gives (done + a)) (up_to 3)) (up_to n)) ≡ 3 * n
length-gives done zero = refl
length-gives done (suc n) =
    let all = flat_map (λ a. map (gives (done + a)) (up_to 3)) (up_to n) in
    let e : suc n ≡ n + 1 = omega arith in
    omega (
      arith,
      ap (λ (k : ℕ). length (flat_map (λ a. map (gives (done + a)) (up_to 3)) (up_to k))) e,
      ap (λ (xs : List (Scene → Command)). length xs) (flat_more (λ a. map (gives (done + a)) (up_to 3)) n),
      length-append all (map (gives (done + (n + 1))) (up_to 3)),
      length-map (up_to 3) (gives (done + (n + 1))),
      length-up_to 3,
      length-gives done n,
    )

-- ---- the commands of a batch can be performed

pub can_edit : (state : PlayState) (command : Command) (j a : ℕ) → HasRoom 1 state → IsAsked a → ((scene : Scene) → StandsFor generated_cast scene state → command ≡ edits j a scene) → CanPerform state command
can_edit state command j a room asked is =
    let CanDo : Command → Type 0 = λ c. CanPerform state c in
    subst CanDo (sym (is room.scene room.stands)) (can_ask state (edits j a room.scene) room (seated_there 1 state a room asked) (short_edit j a room.scene))
  where
    short_letter : (c : ℕ) → c < 128 → length (encode_utf8_all (c ∷ [])) ≤ MAX_SCRIPT
    short_letter c low = omega (arith, length-append (encode_utf8 c) [], ap length (encode_ascii c low))

    short_edit : (j a : ℕ) (scene : Scene) → text_size (edits j a scene) ≤ MAX_SCRIPT
    short_edit j a scene = go (eqb (j % 5) 0)
      where
        go : (b : Bool) → edit_size (cond b (removes a) (inserts j a (seen_len (scene.world.clients (first_device a))))) ≤ MAX_SCRIPT
        go true = omega arith
        go false = short_letter (97 + (3 * j + a) % 26) (omega arith)

device_there : (state : PlayState) (who : Device) (a : ℕ) → who ≡ first_device a → HasRoom 1 state → IsAsked a → Contains (seated state.seats.items) who
device_there state who a is room asked = subst (Contains (seated state.seats.items)) (sym is) (seated_there 1 state a room asked)

pub can_submit : (state : PlayState) (who : Device) (a : ℕ) → who ≡ first_device a → HasRoom 1 state → IsAsked a → CanPerform state (commands.Submit who)
can_submit state who a is room asked = can_ask state (commands.Submit who) room (device_there state who a is room asked) (omega arith)

pub can_give : (state : PlayState) (g : Give) (a : ℕ) → g.device ≡ first_device a → HasRoom 1 state → IsAsked a → CanPerform state (commands.Give g)
can_give state g a is room asked = can_ask state (commands.Give g) room (device_there state g.device a is room asked) (omega arith)

-- ---- whole batches

pub length-batch : (done authors : ℕ) → length (batch done authors) ≡ 5 * authors
length-batch done authors =
    let editing = map (edits (done / 3 + 1)) (up_to authors) in
    let submitting = map submits (up_to authors) in
    omega (
      arith,
      length-append (editing ++ submitting) (flat_map (λ a. map (gives (done + a)) (up_to 3)) (up_to authors)),
      length-append editing submitting,
      length-map (up_to authors) (edits (done / 3 + 1)),
      length-map (up_to authors) submits,
      length-up_to authors,
      length-gives done authors,
    )

pub length-batches : (n : ℕ) → length (batches n) ≡ 15 * n
length-batches zero = refl
length-batches (suc n) = omega (arith, length-append (batches n) (batch (3 * n) 3), length-batch (3 * n) 3, length-batches n)

pub run_room : (n : ℕ) (state : PlayState) → n ≤ 1000 → StandsFor generated_cast (after_each (setup_of generated_cast) (opening generated_cast) (batches n)) state → HasRoom 20 state
run_room n state few stands = record {
  scene = after_each (setup_of generated_cast) (opening generated_cast) (batches n);
  stands = stands;
  room = λ m. omega (arith, asked_grows (setup_of generated_cast) (opening generated_cast) (batches n) m, length-batches n, few);
}

after_both : (first second : List (Scene → Command)) → after_each (setup_of generated_cast) (opening generated_cast) (first ++ second)
    ≡ after_each (setup_of generated_cast) (after_each (setup_of generated_cast) (opening generated_cast) first) second
after_both first second = fold-append (λ (now : Scene) (command : Scene → Command). after (setup_of generated_cast) now (command now)) (opening generated_cast) first second

pub stands_both : (mid new : PlayState) (first second : List (Scene → Command)) → StandsFor generated_cast (after_each (setup_of generated_cast) (opening generated_cast) first) mid → Performs mid second new
    → StandsFor generated_cast (after_each (setup_of generated_cast) (opening generated_cast) (first ++ second)) new
stands_both mid new first second stands does =
    let IsStood : Scene → Type 0 = λ later. StandsFor generated_cast later new in
    subst IsStood (sym (after_both first second)) (does (after_each (setup_of generated_cast) (opening generated_cast) first) stands)

pub batches_more : (mid new : PlayState) (n : ℕ) → StandsFor generated_cast (after_each (setup_of generated_cast) (opening generated_cast) (batches n)) mid → Performs mid (batch (3 * n) 3) new
    → StandsFor generated_cast (after_each (setup_of generated_cast) (opening generated_cast) (batches (n + 1))) new
batches_more mid new n stands does =
    let e : n + 1 ≡ suc n = omega arith in
    let IsStood : ℕ → Type 0 = λ k. StandsFor generated_cast (after_each (setup_of generated_cast) (opening generated_cast) (batches k)) new in
    subst IsStood (sym e) (stands_both mid new (batches n) (batch (3 * n) 3) stands does)
