-- What a submission does may happen wherever a play has come to, and its entry is a string of bytes.
use Rattle.std.proofs.Common.{◌≡◌, ℕ, ◌+◌, ◌*◌, ◌^◌, ◌<◌, true, eq-eqb, List, ◌++◌, drop, length, length-append, take, refl, sym, ap, ◌∙◌, subst, arith, Option, Some, Result, Ok, Err, Bool}
use Rattle.std.proofs.Common.{[], ◌∷◌}
use Rattle.sporc_play.proofs.Common.{IsSomeAnd, AllByRecursion, length-sha256, LeafFault, LmsPrivate, height_of, Device, SubmitFault, Pending, Submitted, bytes_made, Dropped, Submit, Opening}
use Rattle.sporc_play.proofs.Common.{PlainClient, me_of, Due, Drop, Sign, answered, due, signed, reached_at, sound_and_typed_at, PlayLine, derived, random_of, leaf_after, submission_in, min}
use Rattle.sporc_play.proofs.Common.{replicate, all_scalars, xor_of_8, IsBytes, delta_bytes, insertion, inserted-insertion, signed_string, genesis_bytes}
use Rattle.sporc_play.proofs.Common.{stream_of, IsMember, first_device, roster_of, committed_of, DeviceInRange, Forgery, Suffix, What, member_change, device_in}
use Rattle.sporc_play.proofs.Common.{derived_pairs, first_flipped, forged_body, forged_change, forged_header, forged_sealing, key_there, kind_of, spoiled, unsigned_by, value_at, version_by}
use Rattle.sporc_play.proofs.Common.{signs_by, ChangeFault, change_fault_code_of, AreTypedItems, nat_tests, ForgeryInRange, MaySuffixInRange, SignedInRange, WhatInRange}
use Rattle.sporc_client.specs.Allowed.{can_log, is_drop}
use Rattle.sporc_client.specs.Submissions.{submission}
use Rattle.sporc_client.proofs.SubmitEntries.{chosen_by, made_allowed}
use Rattle.sporc_client.proofs.Submitting.{is_due, Signs, signs}
use Rattle.sporc_play.specs.Cast.{setup_of}
use Rattle.sporc_play.specs.Scene.{submits}
use Rattle.sporc_play.proofs.Acts.{client_at, no_act, one_move, open_acts, byte_change}
use Rattle.sporc_play.proofs.ByteClients.{IsByteChange, IsByteItem, AreBytes, bytes_append, bytes_drop, bytes_sha, bytes_take, is_bytes, AreByteKeys, are_bytes, bytes_mask, bytes_zeros, delta_are}
use Rattle.sporc_play.proofs.HistoryKeys.{current_bytes, key_or}
use Rattle.sporc_play.proofs.MadeBytes.{first_written, made_are, bytes_body, hash_are, IsByteHeader, bytes_entry, bytes_signature}
use Rattle.sporc_play.proofs.Forgeries.{sealed_parts, spoiled_parts, spoiled_same}
use Rattle.sporc_play.proofs.Runs.{MayAct, MayBe}
use Rattle.sporc_epoch.specs.Sealing.{body_sealed}
use Rattle.sporc_play.specs.Forged.{forged_entry, signature_by, signed_by}
use Rattle.sporc_client.specs.declared.submitted.Submitted.TheVariants as submitted
use Rattle.sporc_script.specs.declared.command.Command.TheVariants as commands
use Rattle.sporc_script.specs.declared.sign.What.TheVariants as whats

-- ---- what a submission answers

-- an entry is that of the first pending item, by a leaf that was drawn
signs_item : (c : PlainClient) (random : List ℕ) (leaf : Result ℕ LeafFault) (bytes : List ℕ) → submission c random leaf ≡ Ok (submitted.Entry bytes) → (q : ℕ) × (leaf ≡ Ok q) × Signs c random q bytes
unfolding submission
signs_item c random (Ok q) bytes is = (q, refl, signs c random q bytes is)
signs_item c random (Err fault) bytes is = go (due c) is
  where
    go : (d : Due) → answered c random (Err fault) d ≡ Ok (submitted.Entry bytes) → (q : ℕ) × (Err fault ≡ Ok q) × Signs c random q bytes
    go (Sign item) is = absurd cc
    go d is = absurd cc

drop_due : (c : PlainClient) (random : List ℕ) (leaf : Result ℕ LeafFault) (fault : ChangeFault) → submission c random leaf ≡ Ok (submitted.Dropped fault) → due c ≡ Drop fault
unfolding submission
drop_due c random leaf fault is = go (due c) refl is
  where
    by_leaf : (item : Pending) → (r : Result ℕ LeafFault) → signed c random item r ≡ Ok (submitted.Dropped fault) → due c ≡ Drop fault
    by_leaf item (Ok q) is = absurd cc
    by_leaf item (Err f) is = absurd cc

    go : (d : Due) → due c ≡ d → answered c random leaf d ≡ Ok (submitted.Dropped fault) → due c ≡ Drop fault
    go (Drop found) at is = let same : found ≡ fault = cc in at ∙ ap Drop same
    go (Sign item) at is = by_leaf item leaf is
    go d at is = absurd cc

drop_may : (c : PlainClient) (fault : ChangeFault) → due c ≡ Drop fault → can_log c (Dropped 0 fault) ≡ true
unfolding can_log
drop_may c fault is = ap (is_drop fault) is ∙ eq-eqb (change_fault_code_of fault) (change_fault_code_of fault) refl

leaf_is : (key : LmsPrivate) (n q : ℕ) → leaf_after key n ≡ Ok q → q < 2 ^ height_of key.lms
leaf_is key n q is = grind (arith, nat_tests)

-- ---- random bytes, and the document's number

pub random_are : (who : Device) (t : ℕ) → AreBytes (random_of who t)
random_are who t =
    let number = who.number * 2 ^ 24 + t in bytes_append (derived 6 who.member number) (derived 7 who.member number) (bytes_sha _) (bytes_sha _)

random_len : (who : Device) (t : ℕ) → length (random_of who t) ≡ 64
random_len who t = both who.member (who.number * 2 ^ 24 + t)
  where
    both : (member number : ℕ) → length (derived 6 member number ++ derived 7 member number) ≡ 64
    both member number =
        let first : length (derived 6 member number) ≡ 32 = length-sha256 _ in
        let second : length (derived 7 member number) ≡ 32 = length-sha256 _ in
        omega (arith, length-append (derived 6 member number) (derived 7 member number), first, second)

pub document_are : (script : List PlayLine) → AreBytes (setup_of script).genesis.document
unfolding setup_of
document_are script = bytes_take 16 (derived 5 0 0) (bytes_sha _)

-- ---- submissions

pub submit_acts : (script : List PlayLine) (who : Device) → MayBe (setup_of script) (λ scene. commands.Submit who)
submit_acts script who moves scene come =
    open_acts (setup_of script) scene who (λ c. submits who (submission_in (setup_of script) scene who c)) (λ c at. go c at (submission_in (setup_of script) scene who c) refl)
  where
    entry : (c : PlainClient) → scene.world.clients who ≡ Some c → (bytes : List ℕ) → submission_in (setup_of script) scene who c ≡ Ok (submitted.Entry bytes) → MayAct (setup_of script) scene (submits who (Ok (submitted.Entry bytes)))
    entry c at bytes is =
        let s = setup_of script in
        let random = random_of who (scene.asked who + 1) in
        let leaf = leaf_after (s.private who) (scene.leaves who) in
        let there = client_at s moves scene who c come at in
        let known = sound_and_typed_at s moves (length moves) who c come.run there in
        let reached = reached_at s moves (length moves) who c come.run.run there in
        let small = come.run.setup.devices who reached.is_device in
        let number : (me_of c).number < 256 = subst (λ (o : Opening). o.kit.me.number < 256) (sym reached.opening) small.1 in
        let (leaf_drawn, drawn, sign) = signs_item c random leaf bytes is in
        let first = (is_due c sign.item sign.is_due).head in
        let written = first_written sign.item first.others (subst AreTypedItems first.first known.typed) (subst (AllByRecursion IsByteItem) first.first (come.clients who c at).pending) in
        let document : AreBytes c.opening.genesis.document = subst (λ (o : Opening). AreBytes o.genesis.document) (sym reached.opening) (document_are script) in
        let made : AreBytes (bytes_made c (chosen_by random leaf_drawn) sign.item) =
        made_are c (chosen_by random leaf_drawn) sign.item written number document (bytes_take 32 random (random_are who (scene.asked who + 1))) (bytes_drop 32 random (random_are who (scene.asked who + 1)))
        (current_bytes c (come.clients who c at).ring known.bytes) in
        let all : AreBytes bytes = subst AreBytes sign.made made in
        let may : can_log c (Submit 0 bytes) ≡ true = made_allowed s moves (length moves) 0 who c bytes come.run there (record {
          leaf = leaf_drawn;
          within = subst (λ (k : LmsPrivate). leaf_drawn < 2 ^ height_of k.lms) (sym (ap (λ (o : Opening). o.key) reached.opening)) (leaf_is (s.private who) (scene.leaves who) leaf_drawn drawn);
          random = random;
          size = random_len who (scene.asked who + 1);
          answer = sym (ap (submission c random) drawn) ∙ is;
        }) in
        record {
          run = (subst (λ (o : Option PlainClient). IsSomeAnd o (λ c. can_log c (Submit 0 bytes) ≡ true)) (sym at) may, tt);
          typed = (is_bytes bytes all, tt);
          bytes = (tt, tt);
          entries = (all, tt);
        }

    dropped : (c : PlainClient) → scene.world.clients who ≡ Some c → (fault : ChangeFault) → submission_in (setup_of script) scene who c ≡ Ok (submitted.Dropped fault) → MayAct (setup_of script) scene (submits who (Ok (submitted.Dropped fault)))
    dropped c at fault is = one_move (setup_of script) scene _ (subst (λ (o : Option PlainClient). IsSomeAnd o (λ c. can_log c (Dropped 0 fault) ≡ true)) (sym at) (drop_may c fault (drop_due c _ _ fault is))) tt tt

    go : (c : PlainClient) → scene.world.clients who ≡ Some c → (r : Result Submitted SubmitFault) → submission_in (setup_of script) scene who c ≡ r → MayAct (setup_of script) scene (submits who r)
    go c at (Ok (submitted.Entry bytes)) is = entry c at bytes is
    go c at (Ok (submitted.Dropped fault)) is = dropped c at fault is
    go c at answer is = no_act (setup_of script) scene

-- ---- the entries that a script signs for rogues are strings of bytes

-- ---- the header

there_are : (c : PlainClient) → AreByteKeys c.opening.kit.ring → AllByRecursion IsBytes c.entries → AreBytes (key_there c)
there_are c ring all = key_or c (replicate 32 0) ring all (bytes_zeros 32)

value_are : (c : PlainClient) (base : ℕ) → AreBytes (value_at c base)
value_are c base = grind (arith, hash_are (genesis_bytes c.opening.genesis) (take base c.entries), bytes_zeros 32)

kind_fits : (what : What) → kind_of what < 256
kind_fits what = grind arith

version_fits : (suffix : Option Suffix) (upgraded : Bool) → version_by suffix upgraded < 256
version_fits suffix upgraded = grind arith

device_fits : (suffix : Option Suffix) (version : ℕ) → MaySuffixInRange suffix → device_in suffix version < 256
device_fits suffix version fits = grind arith

header_are : (c : PlainClient) (f : Forgery) (leaf : ℕ) → MaySuffixInRange f.signed.suffix → AreBytes c.opening.genesis.document → IsByteHeader (forged_header c f leaf)
header_are c f leaf fits document =
    let suffix = f.signed.suffix in
    let upgraded = (roster_of c.opening.genesis c.entries).upgraded in
    record {
      version = version_fits suffix upgraded;
      document = document;
      device = device_fits suffix (version_by suffix upgraded) fits;
      base_hash = value_are c _;
      kind = kind_fits f.signed.what;
    }

-- ---- the body

flip_are : (bytes : List ℕ) → AreBytes bytes → AreBytes (first_flipped bytes)
flip_are [] all = tt
flip_are (b ∷ bytes) all = (xor_of_8 b 1 all.0 (omega arith), all.1)

body_are : (script : List PlayLine) (c : PlainClient) (f : Forgery) (leaf : ℕ) (new : List ℕ) (what : What) → WhatInRange what → AreBytes new → AreBytes (key_there c)
    → AreBytes (forged_body (setup_of script) c f.signed.suffix (forged_header c f leaf) new what)
unfolding body_sealed
body_are script c f leaf new (whats.Insert e) fits are old =
    let h = forged_header c f leaf in
    let len = length (committed_of c) in
    bytes_mask (key_there c) (stream_of h) (delta_bytes (insertion len (min e.at len) e.text)) (delta_are (insertion len (min e.at len) e.text) (ap all_scalars (inserted-insertion len (min e.at len) e.text) ∙ fits.1))
body_are script c f leaf new (whats.Raw payload) fits are old =
    let h = forged_header c f leaf in
    bytes_mask (key_there c) (stream_of h) payload (are_bytes payload fits.0)
body_are script c f leaf new (whats.Change change) fits are old =
    let s = setup_of script in
    let h = forged_header c f leaf in
    let sealing = forged_sealing c h (member_change s change) new in
    let body = forged_change c h (member_change s change) new in
    bytes_body (spoiled f.signed.suffix body) (subst IsByteChange (sym (spoiled_same f.signed.suffix body).0) (byte_change script change fits))
    (spoiled_parts AreBytes flip_are f.signed.suffix body (sealed_parts AreBytes bytes_mask bytes_sha sealing (derived_pairs h.author sealing.members) old are))

-- ---- the entry

pub forged_are : (script : List PlayLine) (c : PlainClient) (f : Forgery) (random : List ℕ) (leaf : ℕ) → SignedInRange f.signed → AreBytes random → AreBytes c.opening.genesis.document → AreBytes (key_there c)
    → AreBytes (signed_by (setup_of script) c f random leaf)
unfolding signed_by
forged_are script c f random leaf fits are document old =
    let s = setup_of script in
    let e = unsigned_by s c f random leaf in
    bytes_entry (record e { signature = signature_by s c f random leaf }) (header_are c f leaf fits.1 document)
    (body_are script c f leaf (drop 32 random) f.signed.what fits.0 (bytes_drop 32 random are) old)
    (bytes_signature (s.private (first_device f.member)) leaf (take 32 random) (signed_string e) (bytes_take 32 random are))

last_of : (A B C : Type 0) → A × B × C → C
last_of A B C p = p.2

signed_fits : (f : Forgery) → ForgeryInRange f → SignedInRange f.signed
signed_fits f fits = last_of (IsMember f.member) (DeviceInRange f.from) (SignedInRange f.signed) fits

pub sign_acts : (script : List PlayLine) (f : Forgery) → ForgeryInRange f → MayBe (setup_of script) (λ scene. commands.Sign f)
unfolding forged_entry
sign_acts script f fits moves scene come =
    let rogue = first_device f.member in
    open_acts (setup_of script) scene f.from (λ c. signs_by (forged_entry (setup_of script) c f (scene.asked rogue + 1) (leaf_after ((setup_of script).private rogue) (scene.leaves rogue))))
    (λ c at. go c at (leaf_after ((setup_of script).private rogue) (scene.leaves rogue)))
  where
    go : (c : PlainClient) → scene.world.clients f.from ≡ Some c → (leaf : Result ℕ LeafFault) → MayAct (setup_of script) scene (signs_by (forged_entry (setup_of script) c f (scene.asked (first_device f.member) + 1) leaf))
    go c at (Err fault) = no_act (setup_of script) scene
    go c at (Ok leaf) =
        let s = setup_of script in
        let rogue = first_device f.member in
        let t = scene.asked rogue + 1 in
        let there = client_at s moves scene f.from c come at in
        let known = sound_and_typed_at s moves (length moves) f.from c come.run there in
        let reached = reached_at s moves (length moves) f.from c come.run.run there in
        let document : AreBytes c.opening.genesis.document = subst (λ (o : Opening). AreBytes o.genesis.document) (sym reached.opening) (document_are script) in
        let all : AreBytes (signed_by s c f (random_of rogue t) leaf) =
        forged_are script c f (random_of rogue t) leaf (signed_fits f fits) (random_are rogue t) document (there_are c (come.clients f.from c at).ring known.bytes) in
        record { run = tt; typed = tt; bytes = tt; entries = (all, tt) }
