-- What a state becomes by a command, and what it tells, from what the calls on its parts did.
use Rattle.std.proofs.Common.{◌≡◌, ℕ, ◌+◌, List, ◌++◌, length, map, get_or, refl, sym, ap, ◌∙◌, subst, Option, Some, Result, Ok, Err, Vec, Global}
use Rattle.sporc_play.proofs.Common.{slice_get, option_to_list, OnOk, MemberChange, Device, first_device, PlainClient, Setup, Join, Forgery, Rogue, Seat, PlayState, member_change, setup_of}
use Rattle.sporc_play.proofs.Common.{seat_joined, seat_joining, change_events, given_by, give_line, join_line, joining_in, joining_of, line_by, entries_at, entry_at, HasSubmitted, IsRogueAt, IsSeatAt, plain_in, seat_logged}
use Rattle.sporc_play.proofs.Common.{submission_line, HasSigned, forged_by, signing_line, Becomes, IsCastOf, AppendsLineOf, same_Some, slice_get_within, RosterEdit}
use Rattle.sporc_script.specs.declared.command.Command.TheVariants as commands
use Rattle.sporc_script.specs.declared.command.Give.{Give}
use Rattle.sporc_play.proofs.Commands.{adds_stand, client_there, give_stands, told, join_stands}
use Rattle.sporc_play.proofs.Submissions.{rogue_there, sign_stands, signing_told, submission_told, submit_stands}
use Rattle.sporc_play.proofs.Places.{element}
use Rattle.sporc_play.proofs.Seating.{ChangesRogue, ChangesSeat}

-- the bytes of the entries that a state has made
abbrev pub entries_of : PlayState → List (List ℕ)
entries_of state = map (λ bytes. bytes.items) state.made.items

pub ok_then : {X F : Type 0} (r : Result X F) (A B : Type 0) → OnOk r A → (A → B) → OnOk r B
ok_then (Ok x) A B h f = f h
ok_then (Err e) A B h f = tt

pub ok_any : {X F : Type 0} (r : Result X F) (A : Type 0) → A → OnOk r A
ok_any (Ok x) A a = a
ok_any (Err e) A a = tt

pub ok_both : {X F : Type 0} (r : Result X F) (A B C : Type 0) → OnOk r A → OnOk r B → (A → B → C) → OnOk r C
ok_both (Ok x) A B C a b f = f a b
ok_both (Err e) A B C a b f = tt

pub entry_found : (slice made : List (Vec ℕ Global)) (number : ℕ) (entry : Option (List ℕ)) → slice ≡ made → entry ≡ entry_at (map (λ b. b.items) slice) number → entry ≡ entry_at (map (λ b. b.items) made) number
entry_found slice made number entry same is = is ∙ ap (λ (xs : List (Vec ℕ Global)). entry_at (map (λ b. b.items) xs) number) same

-- ---- the seat at hand

pub seat_read : (slice items : List Seat) (i : ℕ) (who : Device) (x : Seat) → slice ≡ items → (seat : Seat) × IsSeatAt slice i who seat → x ≡ get_or items i x → IsSeatAt items i who x
seat_read slice items i who x same found read =
    let there : slice_get items i ≡ Some found.0 = subst (λ (xs : List Seat). slice_get xs i ≡ Some found.0) same found.1.there in
    let here : slice_get items i ≡ Some x = element items i x (slice_get_within items i found.0 there) read in
    record { there = here; own = ap (λ (s : Seat). s.device) (same_Some x found.0 (sym here ∙ there)) ∙ found.1.own }

pub rogue_read : (slice items : List Rogue) (i : ℕ) (who named : Device) (x : Rogue) → slice ≡ items → named ≡ who → (rogue : Rogue) × IsRogueAt slice i named rogue → x ≡ get_or items i x → IsRogueAt items i who x
rogue_read slice items i who named x same is found read =
    let there : slice_get items i ≡ Some found.0 = subst (λ (xs : List Rogue). slice_get xs i ≡ Some found.0) same found.1.there in
    let here : slice_get items i ≡ Some x = element items i x (slice_get_within items i found.0 there) read in
    record { there = here; own = ap (λ (r : Rogue). r.device) (same_Some x found.0 (sym here ∙ there)) ∙ found.1.own ∙ is }

-- ---- edits, changes and discards

pub change_becomes : (old new : PlayState) (e : RosterEdit) (i : ℕ) (x x' : Seat) (change : MemberChange) → IsSeatAt old.seats.items i e.device x → ChangesSeat i x' old new → entries_of new ≡ entries_of old
    → ((s : Setup) → IsCastOf s old.cast → change ≡ member_change s e.change) → x' ≡ seat_logged (change_events change) x → Becomes old (commands.Change e) new
change_becomes old new e i x x' change at changed same asked is script scene stands =
    let s = setup_of script in
    adds_stand script scene old new i e.device x x' (change_events (member_change s e.change)) stands at (is ∙ ap (λ (c : MemberChange). seat_logged (change_events c) x) (asked s stands.cast)) changed same

-- ---- submissions

pub submit_becomes : (old new : PlayState) (i : ℕ) (who : Device) (next : ℕ) (x x' : Seat) (made : Option (List ℕ)) → IsSeatAt old.seats.items i who x → ChangesSeat i x' old new → next ≡ length (entries_of old) + 1
    → entries_of new ≡ entries_of old ++ option_to_list made → HasSubmitted next x made x' → Becomes old (commands.Submit who) new
submit_becomes old new i who next x x' made at changed number grown did script scene stands =
    let count : next ≡ length scene.made + 1 = number ∙ ap (λ (es : List (List ℕ)). length es + 1) stands.made in
    submit_stands script scene old new i who x x' made stands at (subst (λ (n : ℕ). HasSubmitted n x made x') count did) changed grown

pub submit_tells : (old : PlayState) (i : ℕ) (who : Device) (next : ℕ) (x : Seat) (out out' : List ℕ) → IsSeatAt old.seats.items i who x → next ≡ length (entries_of old) + 1
    → out' ≡ out ++ submission_line next x x.client → AppendsLineOf old (commands.Submit who) out out'
submit_tells old i who next x out out' at number is script scene stands =
    submission_told script scene old i who next x out out' stands at (number ∙ ap (λ (es : List (List ℕ)). length es + 1) stands.made) is

-- ---- what is handed out, and going back

pub give_becomes : (old new : PlayState) (g : Give) (i : ℕ) (x x' : Seat) (entry : Option (List ℕ)) → IsSeatAt old.seats.items i g.device x → ChangesSeat i x' old new → entries_of new ≡ entries_of old
    → entry ≡ entry_at (entries_of old) g.entry → x' ≡ seat_logged (given_by g.position entry) x → Becomes old (commands.Give g) new
give_becomes old new g i x x' entry at changed same found is script scene stands =
    let entry_is : entry ≡ entry_at scene.made g.entry = found ∙ ap (λ (es : List (List ℕ)). entry_at es g.entry) stands.made in
    give_stands script scene old new i g.device g.position (entry_at scene.made g.entry) x x' stands at (is ∙ ap (λ (o : Option (List ℕ)). seat_logged (given_by g.position o) x) entry_is) changed same

pub give_tells : (old : PlayState) (g : Give) (i : ℕ) (x : Seat) (entry : Option (List ℕ)) (out out' : List ℕ) → IsSeatAt old.seats.items i g.device x → entry ≡ entry_at (entries_of old) g.entry
    → out' ≡ out ++ line_by g.device (plain_in x) (λ c. give_line g.device g.position c entry) → AppendsLineOf old (commands.Give g) out out'
give_tells old g i x entry out out' at found is script scene stands =
    let entry_is : entry ≡ entry_at scene.made g.entry = found ∙ ap (λ (es : List (List ℕ)). entry_at es g.entry) stands.made in
    told script scene old i g.device x (λ c. give_line g.device g.position c (entry_at scene.made g.entry)) out out' stands at
    (is ∙ ap (λ (o : Option (List ℕ)). out ++ line_by g.device (plain_in x) (λ c. give_line g.device g.position c o)) entry_is)

-- ---- joiners

pub join_becomes : (old new : PlayState) (j : Join) (i : ℕ) (x x' : Seat) → IsSeatAt old.seats.items i j.device x → ChangesSeat i x' old new → entries_of new ≡ entries_of old
    → ((s : Setup) → IsCastOf s old.cast → old.genesis ≡ s.genesis → x' ≡ seat_joined s x (seat_joining s (entries_of old) j x)) → Becomes old (commands.Join j) new
join_becomes old new j i x x' at changed same is script scene stands =
    let s = setup_of script in
    join_stands script scene old new i j.device x x' (entries_at scene.made j.entries) stands at
    (is s stands.cast stands.genesis ∙ ap (λ (es : List (List ℕ)). seat_joined s x (seat_joining s es j x)) stands.made) changed same

pub join_tells : (old : PlayState) (j : Join) (i : ℕ) (x : Seat) (out out' : List ℕ) → IsSeatAt old.seats.items i j.device x
    → ((s : Setup) → IsCastOf s old.cast → old.genesis ≡ s.genesis → out' ≡ out ++ join_line x.device (seat_joining s (entries_of old) j x)) → AppendsLineOf old (commands.Join j) out out'
join_tells old j i x out out' at is script scene stands =
    let s = setup_of script in (
      join_line j.device (joining_in s scene j),
      refl,
      is s stands.cast stands.genesis ∙ ap (λ (who : Device). out ++ join_line who (joining_of s who (entries_at (entries_of old) j.entries) (plain_in x))) at.own
          ∙ ap (λ (es : List (List ℕ)). out ++ join_line j.device (joining_of s j.device (entries_at es j.entries) (plain_in x))) stands.made
          ∙ ap (λ (o : Option PlainClient). out ++ join_line j.device (joining_of s j.device (entries_at scene.made j.entries) o)) (sym (client_there script scene old i j.device x stands at)),
    )

-- ---- rogues

pub sign_becomes : (old new : PlayState) (f : Forgery) (i k : ℕ) (x x' : Rogue) (seat : Seat) (made : Option (List ℕ)) → IsRogueAt old.rogues.items i (first_device f.member) x → IsSeatAt old.seats.items k f.from seat → ChangesRogue i x' old new
    → entries_of new ≡ entries_of old ++ option_to_list made → ((s : Setup) → x.signer.key ≡ s.private (first_device f.member) → IsCastOf s old.cast → made ≡ forged_by s f x seat.client) → HasSigned x made x' → Becomes old (commands.Sign f) new
sign_becomes old new f i k x x' seat made at from changed grown forged did script scene stands =
    let s = setup_of script in
    let is = rogue_there script scene old i (first_device f.member) x stands at in
    sign_stands script scene old new i f x x' seat.client made stands at (client_there script scene old k f.from seat stands from) did (forged s (is.signer.key ∙ ap s.private at.own) stands.cast) changed grown

pub sign_tells : (old : PlayState) (f : Forgery) (i k next : ℕ) (x : Rogue) (seat : Seat) (out out' : List ℕ) → IsRogueAt old.rogues.items i (first_device f.member) x → IsSeatAt old.seats.items k f.from seat → next ≡ length (entries_of old) + 1
    → ((s : Setup) → x.signer.key ≡ s.private (first_device f.member) → IsCastOf s old.cast → out' ≡ out ++ signing_line f next x seat.client) → AppendsLineOf old (commands.Sign f) out out'
sign_tells old f i k next x seat out out' at from number is script scene stands =
    let s = setup_of script in
    let there = rogue_there script scene old i (first_device f.member) x stands at in
    signing_told script scene old i next f x seat.client out out' stands at (client_there script scene old k f.from seat stands from) (number ∙ ap (λ (es : List (List ℕ)). length es + 1) stands.made)
    (is s (there.signer.key ∙ ap s.private at.own) stands.cast)
