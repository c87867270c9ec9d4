-- A state that stands for a scene of a script can perform the script's next command.
use Rattle.std.proofs.Common.{◌≡◌, ℕ, zero, suc, ◌+◌, ◌-◌, ◌^◌, ◌<◌, ◌≤◌, true, List, [], ◌∷◌, length, take, get_or, refl, sym, ap, ◌∙◌, subst, arith, length-take, Option, None, Some, IfSome, IsSome}
use Rattle.std.proofs.Common.{Bool, false, cond, ◌++◌, codes, length-append, inl, inr}
use Rattle.sporc_play.proofs.Common.{Contains, filter_map, and_parts, length-map, LmsPrivate, SignerModel, Genesis, IsGenesis, Opening, ClientModel, Setup, Device, first_device}
use Rattle.sporc_play.proofs.Common.{declarations, is_client, is_rogue, may_follow, names_performers, none_declared, IsPlayScript, Command, PlayLine, MAX_SCRIPT, Rogue, Seat, PlayState, device_by}
use Rattle.sporc_play.proofs.Common.{has_admin, IsShortScript, Scene, after, after_each, commands_of, opening, signer_of, text_size, with_more, AreDrawn, IsReady, seated, TakePart, CanPerform}
use Rattle.sporc_play.proofs.Common.{Holds, IsReadyRogue, IsReadySeat, IsRogueOf, IsSeatOf, StandsFor, ◌==◌, encode_utf8_all, spelling, IsNext}
use Rattle.sporc_play.proofs.Common.{play_line, device_text, stated_spelling, text_edit_spelling, Suffix, What, TextEdit, edit_size, what_size, decimal, encode_lower, ReadsAs, lines_of, with_byte}
use Rattle.sporc_play.proofs.Common.{signed_spelling_of, suffix_spelling, with_suffix, Insert, Remove}
use Rattle.sporc_play.specs.Cast.{setup_of}
use Rattle.sporc_play.proofs.Scripts.{client_named, joiner_named, line_at, rogue_named}
use Rattle.sporc_play.proofs.Places.{all_each}
use Rattle.sporc_play.proofs.Reported.{scene_at}
use Rattle.hex.specs.Hex.{encode_with}
use Rattle.sporc_script.specs.Quoted.{quoted}
use Rattle.sporc_script.proofs.Sizes.{all_at, behind_size, quoted_size, script_sizes}
use Rattle.sporc_script.specs.declared.command.Command.TheVariants as commands
use Rattle.sporc_script.specs.declared.sign.What.TheVariants as whats

-- ---- the texts of a script are no longer than the script

front_size : (xs ys : List ℕ) (n : ℕ) → n ≤ length xs → n ≤ length (xs ++ ys)
front_size xs ys n low = omega (arith, length-append xs ys, low)

suffix_size : (word : List ℕ) (suffix : Option Suffix) (n : ℕ) → n ≤ length word → n ≤ length (with_suffix word suffix)
suffix_size word None n low = low
suffix_size word (Some suffix) n low = front_size word (codes " " ++ suffix_spelling suffix) n low

-- ---- commands

edit_within : (edit : TextEdit) → edit_size edit ≤ length (text_edit_spelling edit)
edit_within (Insert e) =
    behind_size (codes "insert ") _ (length (encode_utf8_all e.text)) (behind_size (decimal e.at) _ (length (encode_utf8_all e.text)) (behind_size (codes " ") (quoted e.text) (length (encode_utf8_all e.text)) (quoted_size e.text)))
edit_within (Remove e) = omega arith

stated_within : (seen : Option ℕ) (edit : TextEdit) → edit_size edit ≤ length (stated_spelling seen edit)
stated_within None edit = edit_within edit
stated_within (Some seen) edit =
    behind_size (codes "seen ") _ (edit_size edit) (behind_size (decimal seen) _ (edit_size edit) (behind_size (codes " ") (text_edit_spelling edit) (edit_size edit) (edit_within edit)))

hex_size : (bytes : List ℕ) → length bytes ≤ length (encode_lower bytes)
unfolding encode_with
hex_size [] = omega arith
hex_size (b ∷ bytes) = omega (arith, hex_size bytes)

what_within : (what : What) (suffix : Option Suffix) → what_size what ≤ length (signed_spelling_of what suffix)
what_within (whats.Insert e) suffix =
    let n = length (encode_utf8_all e.text) in
    behind_size (codes "insert ") _ n (behind_size (decimal e.at) _ n (behind_size (codes " ") (with_suffix (quoted e.text) suffix) n (suffix_size (quoted e.text) suffix n (quoted_size e.text))))
what_within (whats.Raw bytes) suffix = behind_size (codes "raw ") (with_suffix (encode_lower bytes) suffix) (length bytes) (suffix_size (encode_lower bytes) suffix (length bytes) (hex_size bytes))
what_within (whats.Change change) suffix = omega arith

command_within : (c : Command) → text_size c ≤ length (spelling c)
command_within (commands.Edit e) =
    let n = edit_size e.change in
    behind_size (codes "edit ") _ n (behind_size (device_text e.device) _ n (behind_size (codes " ") (stated_spelling e.seen e.change) n (stated_within e.seen e.change)))
command_within (commands.Sign f) =
    let n = what_size f.signed.what in
    behind_size (codes "sign ") _ n (behind_size (decimal f.member) _ n (behind_size (codes " from ") _ n (behind_size (device_text f.from) _ n (behind_size (codes " ") (signed_spelling_of f.signed.what f.signed.suffix) n (what_within f.signed.what f.signed.suffix)))))
command_within c = omega arith

-- ---- scripts

line_count : (before : List PlayLine) (n : ℕ) (lines : List (List ℕ)) (script : List PlayLine) → ReadsAs play_line IsNext before n lines script → length script ≤ length lines
line_count before n [] script reads = omega (arith, ap length reads)
line_count before n (line ∷ lines) script reads = elim reads [
  | inl skipped ↦ omega (arith, line_count before (n + 1) lines script skipped.1)
  | inr next ↦ omega (arith, ap length next.3, line_count (before ++ play_line n next.0 ∷ []) (n + 1) lines next.1 next.4)
]

lines_count : (bytes : List ℕ) → length (lines_of bytes) ≤ length bytes
lines_count [] = omega arith
lines_count (b ∷ bs) = go (b == 10) (lines_count bs)
  where
    more : (lines : List (List ℕ)) → length (with_byte b lines) ≤ suc (length lines)
    more [] = omega arith
    more (l ∷ ls) = omega arith

    go : (end : Bool) → length (lines_of bs) ≤ length bs → length (cond end ([] ∷ lines_of bs) (with_byte b (lines_of bs))) ≤ suc (length bs)
    go true few = omega (arith, few)
    go false few = omega (arith, more (lines_of bs), few)

pub script_count : (text : List ℕ) (script : List PlayLine) → IsPlayScript text script → length script ≤ length text
script_count text script is = omega (arith, line_count [] 1 (lines_of text) script is, lines_count text)

-- ---- counts

more_at_most : (counts : Device → ℕ) (who : Option Device) (device : Device) → with_more counts who 1 device ≤ counts device + 1
more_at_most counts who device = grind arith

pub asked_grows : (s : Setup) (scene : Scene) (commands : List (Scene → Command)) (who : Device) → (after_each s scene commands).asked who ≤ scene.asked who + length commands
asked_grows s scene [] who = omega arith
asked_grows s scene (c ∷ cs) who =
    omega (arith, asked_grows s (after s scene (c scene)) cs who, more_at_most scene.asked (signer_of (c scene)) who)

-- the first line asks nobody
first_asks : (c : Command) → may_follow none_declared c ≡ true → signer_of c ≡ None
first_asks c may = grind arith

asked_from : (s : Setup) (scene : Scene) (lines : List PlayLine) (i : ℕ) (who : Device) → ((l : PlayLine) → l ≡ get_or lines 0 l → 0 < length lines → signer_of l.command ≡ None) → scene.asked who ≡ 0
    → (after_each s scene (commands_of (take i lines))).asked who ≤ i - 1
asked_from s scene lines zero who first none = omega (arith, none)
asked_from s scene (l ∷ ls) (suc i) who first none =
    let now = after s scene l.command in
    let still : now.asked who ≡ 0 = ap (λ (o : Option Device). with_more scene.asked o 1 who) (first l refl (omega arith)) ∙ none in
    omega (arith, asked_grows s now (commands_of (take i ls)) who, still, length-map {B = Scene → Command} (take i ls) (λ (line : PlayLine) (scene : Scene). line.command), length-take i ls)
asked_from s scene [] (suc i) who first none = omega (arith, none)

pub asked_at : (text : List ℕ) (script : List PlayLine) (i : ℕ) (who : Device) → IsPlayScript text script → (scene_at script i).asked who ≤ i - 1
asked_at text script i who is =
    asked_from (setup_of script) (opening script) script i who
    (λ l at low. first_asks l.command (line_at text script 0 l is low at).may) refl

-- ---- seats and rogues

ready_client : {D : Type 0} (s : Setup) (scene : Scene) (who : Device) (signer : Option (SignerModel D)) (client : Option (ClientModel D)) → Holds s scene who signer client → IfSome client (λ c. IsReady c.opening.key c.leaves.next c)
ready_client s scene who signer None holds = tt
ready_client s scene who signer (Some c) holds = record {
  key = refl;
  leaves = subst (λ (k : LmsPrivate). AreDrawn k c.leaves.next c.leaves) (sym holds.ready.key)
      (subst (λ (n : ℕ). AreDrawn (s.private who) n c.leaves) (sym holds.ready.leaves.next) holds.ready.leaves);
  no_ticket = holds.ready.no_ticket;
}

some_signer : {D : Type 0} (s : Setup) (scene : Scene) (who : Device) (signer : Option (SignerModel D)) (client : Option (ClientModel D)) → Holds s scene who signer client → client ≡ None → IsSome signer
some_signer s scene who signer (Some c) holds none = absurd cc
some_signer s scene who (Some signer) None holds none = refl
some_signer s scene who None None holds none = absurd holds

ready_seat : (s : Setup) (scene : Scene) (x : Seat) → scene.asked x.device + 1 < 2 ^ 24 → IsSeatOf s scene x → IsReadySeat x
ready_seat s scene x few is = record {
  asked = subst (λ (n : ℕ). n + 1 < 2 ^ 24) (sym is.asked) few;
  signer = some_signer s scene x.device x.signer x.client is.holds;
  ready = ready_client s scene x.device x.signer x.client is.holds;
}

ready_rogue : (s : Setup) (scene : Scene) (x : Rogue) → scene.asked x.device + 1 < 2 ^ 24 → IsRogueOf s scene x → IsReadyRogue x
ready_rogue s scene x few is = record {
  asked = subst (λ (n : ℕ). n + 1 < 2 ^ 24) (sym is.asked) few;
  leaves = subst (λ (k : LmsPrivate). AreDrawn k x.signer.leaves.next x.signer.leaves) (sym is.signer.key)
      (subst (λ (n : ℕ). AreDrawn (s.private x.device) n x.signer.leaves) (sym is.signer.leaves.next) is.signer.leaves);
}

one_document : {D : Type 0} (s : Setup) (scene : Scene) (who : Device) (genesis : Genesis) → genesis ≡ s.genesis → (signer : Option (SignerModel D)) (client : Option (ClientModel D)) → Holds s scene who signer client → IfSome client (λ c. c.opening.genesis ≡ genesis)
one_document s scene who genesis same signer None holds = tt
one_document s scene who genesis same signer (Some c) holds = ap (λ (o : Opening). o.genesis) holds.opening ∙ sym same

-- from whom a command names
pub can_perform : (script : List PlayLine) (scene : Scene) (state : PlayState) (c : Command) → StandsFor script scene state → ((who : Device) → scene.asked who + 1 < 2 ^ 24) → TakePart state c → text_size c ≤ MAX_SCRIPT → CanPerform state c
can_perform script scene state c stands few named short =
    let s = setup_of script in
    record {
      named = named;
      seats = all_each (IsSeatOf s scene) IsReadySeat state.seats.items (λ x. ready_seat s scene x (few x.device)) stands.seats;
      rogues = all_each (IsRogueOf s scene) IsReadyRogue state.rogues.items (λ x. ready_rogue s scene x (few x.device)) stands.rogues;
      one_document = all_each (IsSeatOf s scene) (λ seat. IfSome seat.client (λ c. c.opening.genesis ≡ state.genesis)) state.seats.items
          (λ x is. one_document s scene x.device state.genesis stands.genesis x.signer x.client is.holds) stands.seats;
      short = short;
    }

-- ---- those whom a command names

devices_there : (script : List PlayLine) (scene : Scene) (state : PlayState) → StandsFor script scene state → filter_map (λ (l : PlayLine). device_by l.command) script ≡ seated state.seats.items
unfolding setup_of
devices_there script scene state stands = sym stands.seated

seated_there : (script : List PlayLine) (scene : Scene) (state : PlayState) (i : ℕ) (who : Device) → StandsFor script scene state → is_client (declarations (take i script)) who ≡ true → Contains (seated state.seats.items) who
seated_there script scene state i who stands is = subst (λ (ds : List Device). Contains ds who) (devices_there script scene state stands) (client_named script i who is)

pub are_named : (script : List PlayLine) (scene : Scene) (state : PlayState) (i : ℕ) (c : Command) → StandsFor script scene state → may_follow (declarations (take i script)) c ≡ true
    → ((declarations (take i script)).has_admin ≡ true → has_admin script ≡ true) → TakePart state c
are_named script scene state i (commands.Edit e) stands may founded = seated_there script scene state i e.device stands (and_parts (declarations (take i script)).has_admin (is_client (declarations (take i script)) e.device) may).1
are_named script scene state i (commands.Change e) stands may founded =
    let d = declarations (take i script) in
    let p = and_parts d.has_admin (names_performers d (commands.Change e)) may in
    seated_there script scene state i e.device stands (and_parts (is_client d e.device) _ p.1).0
are_named script scene state i (commands.Discard who) stands may founded = seated_there script scene state i who stands (and_parts (declarations (take i script)).has_admin (is_client (declarations (take i script)) who) may).1
are_named script scene state i (commands.Submit who) stands may founded = seated_there script scene state i who stands (and_parts (declarations (take i script)).has_admin (is_client (declarations (take i script)) who) may).1
are_named script scene state i (commands.Give g) stands may founded = seated_there script scene state i g.device stands (and_parts (declarations (take i script)).has_admin (is_client (declarations (take i script)) g.device) may).1
are_named script scene state i (commands.Restart r) stands may founded = seated_there script scene state i r.device stands (and_parts (declarations (take i script)).has_admin (is_client (declarations (take i script)) r.device) may).1
are_named script scene state i (commands.Join j) stands may founded =
    let d = declarations (take i script) in
    let p = and_parts d.has_admin (names_performers d (commands.Join j)) may in (
      subst (λ (ds : List Device). Contains ds j.device) (devices_there script scene state stands) (joiner_named script i j.device p.1),
      subst IsGenesis (sym stands.genesis) (stands.declared.genesis (founded p.0)),
    )
are_named script scene state i (commands.Show who) stands may founded = seated_there script scene state i who stands (and_parts (declarations (take i script)).has_admin (is_client (declarations (take i script)) who) may).1
are_named script scene state i (commands.Members who) stands may founded = seated_there script scene state i who stands (and_parts (declarations (take i script)).has_admin (is_client (declarations (take i script)) who) may).1
are_named script scene state i (commands.Hash who) stands may founded = seated_there script scene state i who stands (and_parts (declarations (take i script)).has_admin (is_client (declarations (take i script)) who) may).1
are_named script scene state i (commands.Journal who) stands may founded = seated_there script scene state i who stands (and_parts (declarations (take i script)).has_admin (is_client (declarations (take i script)) who) may).1
are_named script scene state i (commands.Compare p) stands may founded =
    let d = declarations (take i script) in
    let q = and_parts d.has_admin (names_performers d (commands.Compare p)) may in
    let both = and_parts (is_client d p.first) (is_client d p.second) q.1 in
    (seated_there script scene state i p.first stands both.0, seated_there script scene state i p.second stands both.1)
are_named script scene state i (commands.Sign f) stands may founded =
    let d = declarations (take i script) in
    let p = and_parts d.has_admin (names_performers d (commands.Sign f)) may in
    let q = and_parts (is_rogue d f.member) _ p.1 in
    let r = and_parts (is_client d f.from) _ q.1 in (
      subst (λ (ds : List Device). Contains ds (first_device f.member)) (sym stands.rogue_devices) (rogue_named script i f.member q.0),
      seated_there script scene state i f.from stands r.0,
    )
are_named script scene state i c stands may founded = tt

-- ---- the next line of a script

pub next_can : (script : List PlayLine) (state : PlayState) (i : ℕ) (l : PlayLine) → IsShortScript script → i < length script → l ≡ get_or script i l
    → ((declarations (take i script)).has_admin ≡ true → has_admin script ≡ true) → StandsFor script (scene_at script i) state → CanPerform state l.command
next_can script state i l short low is founded stands =
    let (text, within, reads) = short in
    let line = line_at text script i l reads low is in
    let count = script_count text script reads in
    can_perform script (scene_at script i) state l.command stands
    (λ who. omega (arith, asked_at text script i who reads, low, count, within))
    (are_named script (scene_at script i) state i l.command stands line.may founded)
    (all_at (λ (l : PlayLine). text_size l.command ≤ MAX_SCRIPT) script i l
    (script_sizes play_line IsNext (λ (l : PlayLine). text_size l.command) (λ before line n c is. omega (arith, command_within c, ap length is.0.1)) text script MAX_SCRIPT reads within) low is)
