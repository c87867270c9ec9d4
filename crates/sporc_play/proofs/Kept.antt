-- Entries that are made of others, and comparisons: what a state becomes, and what is told.
use Rattle.std.proofs.Common.{◌≡◌, ℕ, ◌+◌, ◌-◌, ◌<◌, ◌≤◌, List, [], ◌∷◌, ◌++◌, length, take, set, refl, sym, ap, ◌∙◌, subst, arith, Option, None, Some, option_map}
use Rattle.sporc_play.proofs.Common.{◌↔◌, IfSome, slice_get, MemoryDiskModel, ClientModel, state_of, Logged, journal_of, Opening, PlainClient, replay_opening, Genesis, genesis_bytes, chain}
use Rattle.sporc_play.proofs.Common.{last_value, Device, PlayLine, Seat, PlayState, setup_of, Stands, compare_line, Compares, hashes_of, flip_line, flipped_line, line_by, not_open_line, Effect, Scene}
use Rattle.sporc_play.proofs.Common.{cuts, entry_at, flip_byte, flipped, flips, IsSeatAt, AreOfOneDocument, HasSameMembers, Holds, IsClientOf, StandsFor, AppendsLineOf, Flip, journal_lines}
use Rattle.sporc_play.proofs.Common.{slice_get_past}
use Rattle.sporc_hash.specs.Verdict.{DivergesAfter, IfForked, SameTip, TipIsIn}
use Rattle.sporc_hash.specs.declared.verdict.Verdict.{Verdict}
use Rattle.sporc_hash.specs.declared.verdict.Verdict.TheVariants.{ForkedAfter, Longer, Prefix, Same}
use Rattle.sporc_hash.proofs.Prefixes.{slice_get-chain}
use Rattle.sporc_script.specs.declared.command.Command.TheVariants as commands
use Rattle.sporc_script.specs.declared.command.DevicePair.{DevicePair}
use Rattle.sporc_play.proofs.Becoming.{entries_of}
use Rattle.sporc_play.proofs.Commands.{client_there, seat_there}
use Rattle.sporc_play.proofs.Submissions.{makes}
use Rattle.sporc_play.proofs.Places.{at_place}
use Rattle.sporc_play.proofs.Seating.{acted, same_for_all, stands_made}

-- ---- entries that are made of others

pub made_becomes : (old new : PlayState) (entries : List (List ℕ)) (act : List (List ℕ) → Effect) → HasSameMembers old new → entries_of new ≡ entries_of old ++ entries → act (entries_of old) ≡ makes entries
    → (script : List PlayLine) (scene : Scene) → StandsFor script scene old → StandsFor script (acted (setup_of script) scene (act scene.made)) new
made_becomes old new entries act same grown does script scene stands =
    let s = setup_of script in
    subst (λ (a : Effect). StandsFor script (acted s scene a) new) (sym (ap act (sym stands.made) ∙ does))
    (stands_made script scene (acted s scene (makes entries)) old new stands (same_for_all s scene entries) same (grown ∙ ap (λ (es : List (List ℕ)). es ++ entries) stands.made))

pub flip_tells : (old : PlayState) (f : Flip) (out out' : List ℕ) → out' ≡ out ++ flip_line (length (entries_of old) + 1) f.entry f.at (entry_at (entries_of old) f.entry) → AppendsLineOf old (commands.Flip f) out out'
flip_tells old f out out' is script scene stands =
    (flip_line (length scene.made + 1) f.entry f.at (entry_at scene.made f.entry), refl, is ∙ ap (λ (es : List (List ℕ)). out ++ flip_line (length es + 1) f.entry f.at (entry_at es f.entry)) stands.made)

-- nothing is made
pub unchanged : (state : PlayState) → HasSameMembers state state
unchanged state = record { genesis = refl; cast = refl; seats = refl; rogues = refl }

-- a byte is flipped, or an entry is cut
pub flip_act : (made : List (List ℕ)) (f : Flip) (bytes : List ℕ) (byte : ℕ) (new : List ℕ) → entry_at made f.entry ≡ Some bytes → slice_get bytes f.at ≡ Some byte → new ≡ set bytes f.at (flipped byte)
    → flips f.at (entry_at made f.entry) ≡ makes (new ∷ [])
flip_act made f bytes byte new found at is = ap (flips f.at) found ∙ ap (flip_byte bytes f.at) at ∙ ap (λ (b : List ℕ). makes (b ∷ [])) (sym is)

pub flip_tale : (made : List (List ℕ)) (f : Flip) (next : ℕ) (bytes : List ℕ) (byte : ℕ) → entry_at made f.entry ≡ Some bytes → slice_get bytes f.at ≡ Some byte → flip_line next f.entry f.at (entry_at made f.entry) ≡ flipped_line next f.at (Some byte)
flip_tale made f next bytes byte found at = ap (flip_line next f.entry f.at) found ∙ ap (flipped_line next f.at) at

pub no_byte_act : (made : List (List ℕ)) (f : Flip) (bytes : List ℕ) → entry_at made f.entry ≡ Some bytes → length bytes ≤ f.at → flips f.at (entry_at made f.entry) ≡ makes []
no_byte_act made f bytes found over = ap (flips f.at) found ∙ ap (flip_byte bytes f.at) (slice_get_past bytes f.at over)

pub no_byte_line : (made : List (List ℕ)) (f : Flip) (next : ℕ) (bytes : List ℕ) → entry_at made f.entry ≡ Some bytes → length bytes ≤ f.at → flip_line next f.entry f.at (entry_at made f.entry) ≡ flipped_line next f.at None
no_byte_line made f next bytes found over = ap (flip_line next f.entry f.at) found ∙ ap (flipped_line next f.at) (slice_get_past bytes f.at over)

pub cut_act : (made : List (List ℕ)) (number : ℕ) (bytes new : List ℕ) → entry_at made number ≡ Some bytes → new ≡ take (length bytes - 1) bytes → cuts (entry_at made number) ≡ makes (new ∷ [])
cut_act made number bytes new found is = ap cuts found ∙ ap (λ (b : List ℕ). makes (b ∷ [])) (sym is)

-- ---- clients that are compared

-- the client of a device, as it was found
abbrev pub IsFound : PlayState → Device → Option (ClientModel MemoryDiskModel) → Type 0
IsFound state who found = (i : ℕ) × (seat : Seat) × IsSeatAt state.seats.items i who seat × (found ≡ seat.client)

pub found_there : (script : List PlayLine) (scene : Scene) (state : PlayState) (who : Device) (found : Option (ClientModel MemoryDiskModel)) → StandsFor script scene state → IsFound state who found → scene.world.clients who ≡ option_map state_of found
found_there script scene state who found stands (i, seat, at, is) = client_there script scene state i who seat stands at ∙ ap (option_map state_of) (sym is)

-- what is known of a client that was found
client_is : (script : List PlayLine) (scene : Scene) (state : PlayState) (who : Device) (c : ClientModel MemoryDiskModel) → StandsFor script scene state → IsFound state who (Some c) → IsClientOf (setup_of script) scene who c
client_is script scene state who c stands (i, seat, at, is) =
    let s = setup_of script in
    subst (λ (other : Device). IsClientOf s scene other c) at.own
    (subst (λ (o : Option (ClientModel MemoryDiskModel)). Holds s scene seat.device seat.signer o) (sym is) (seat_there script scene state i who seat stands at).holds)

-- the line of a client by its own device
pub line_there : (script : List PlayLine) (scene : Scene) (state : PlayState) (who : Device) (c : ClientModel MemoryDiskModel) (line : Device → PlainClient → List ℕ) (out out' : List ℕ) → StandsFor script scene state → IsFound state who (Some c)
    → out' ≡ out ++ line c.opening.kit.me (state_of c) → (l : List ℕ) × (l ≡ line_by who (scene.world.clients who) (line who)) × (out' ≡ out ++ l)
line_there script scene state who c line out out' stands f is = (
  line who (state_of c),
  ap (λ (o : Option PlainClient). line_by who o (line who)) (sym (found_there script scene state who (Some c) stands f)),
  is ∙ ap (λ (o : Opening). out ++ line o.kit.me (state_of c)) (client_is script scene state who c stands f).opening,
)

-- that it is not open
pub none_there : (script : List PlayLine) (scene : Scene) (state : PlayState) (who : Device) (line : PlainClient → List ℕ) (out out' : List ℕ) → StandsFor script scene state → IsFound state who None
    → out' ≡ out ++ not_open_line who → (l : List ℕ) × (l ≡ line_by who (scene.world.clients who) line) × (out' ≡ out ++ l)
none_there script scene state who line out out' stands f is =
    (not_open_line who, ap (λ (o : Option PlainClient). line_by who o line) (sym (found_there script scene state who None stands f)), is)

-- the lines of its journal
pub journal_there : (script : List PlayLine) (scene : Scene) (state : PlayState) (who : Device) (c : ClientModel MemoryDiskModel) (out out' : List ℕ) → StandsFor script scene state → IsFound state who (Some c)
    → out' ≡ out ++ journal_lines (journal_of c.log) → (l : List ℕ) × (l ≡ line_by who (scene.world.clients who) (λ c. journal_lines (journal_of (scene.logs who)))) × (out' ≡ out ++ l)
journal_there script scene state who c out out' stands f is = (
  journal_lines (journal_of (scene.logs who)),
  ap (λ (o : Option PlainClient). line_by who o (λ c. journal_lines (journal_of (scene.logs who)))) (sym (found_there script scene state who (Some c) stands f)),
  is ∙ ap (λ (l : List Logged). out ++ journal_lines (journal_of l)) (sym (client_is script scene state who c stands f).log),
)

-- ---- their chains

pub chain_is : (c : ClientModel MemoryDiskModel) → chain (genesis_bytes c.opening.genesis) (state_of c).entries ≡ hashes_of (state_of c)
chain_is c = ap (λ (o : Opening). chain (genesis_bytes o.genesis) (state_of c).entries) (sym (replay_opening c.opening c.log))

first_value : (genesis : List ℕ) (entries : List (List ℕ)) → slice_get (chain genesis entries) 0 ≡ Some (last_value genesis [])
first_value genesis entries = slice_get-chain genesis entries 0 (omega arith)

begun : (xs : List (List ℕ)) (x : List ℕ) → slice_get xs 0 ≡ Some x → 0 < length xs
begun [] x at = absurd cc
begun (y ∷ ys) x at = omega arith

pub begun_chain : (genesis : List ℕ) (entries : List (List ℕ)) → 0 < length (chain genesis entries)
begun_chain genesis entries = begun (chain genesis entries) (last_value genesis []) (first_value genesis entries)

document_of : (state : PlayState) (who : Device) (c : ClientModel MemoryDiskModel) → AreOfOneDocument state → IsFound state who (Some c) → c.opening.genesis ≡ state.genesis
document_of state who c one (i, seat, at, is) =
    subst (λ (o : Option (ClientModel MemoryDiskModel)). IfSome o (λ c. c.opening.genesis ≡ state.genesis)) (sym is)
    (at_place (λ (seat : Seat). IfSome seat.client (λ c. c.opening.genesis ≡ state.genesis)) state.seats.items i seat one at.there)

pub one_beginning : (state : PlayState) (who n : Device) (a b : ClientModel MemoryDiskModel) → AreOfOneDocument state → IsFound state who (Some a) → IsFound state n (Some b)
    → slice_get (chain (genesis_bytes a.opening.genesis) (state_of a).entries) 0 ≡ slice_get (chain (genesis_bytes b.opening.genesis) (state_of b).entries) 0
one_beginning state who n a b one first second =
    first_value (genesis_bytes a.opening.genesis) (state_of a).entries
    ∙ ap (λ (g : Genesis). Some (last_value (genesis_bytes g) [])) (document_of state who a one first ∙ sym (document_of state n b one second))
    ∙ sym (first_value (genesis_bytes b.opening.genesis) (state_of b).entries)

-- ---- what is told of them

pub stands : (a b : List (List ℕ)) (v : Verdict) → ((v ≡ Same) ↔ SameTip a b) → ((v ≡ Prefix) ↔ TipIsIn a b) → ((v ≡ Longer) ↔ TipIsIn b a) → IfForked v (DivergesAfter a b) → Stands a b v
stands a b Same same prefix longer forked = same.0 refl
stands a b Prefix same prefix longer forked = prefix.0 refl
stands a b Longer same prefix longer forked = longer.0 refl
stands a b (ForkedAfter k) same prefix longer forked = forked

pub compare_tells : (state : PlayState) (p : DevicePair) (a b : ClientModel MemoryDiskModel) (v : Verdict) (out out' : List ℕ) → IsFound state p.first (Some a) → IsFound state p.second (Some b)
    → Stands (hashes_of (state_of a)) (hashes_of (state_of b)) v → out' ≡ out ++ compare_line p v → AppendsLineOf state (commands.Compare p) out out'
compare_tells state p a b v out out' first second stand is script scene stands =
    (compare_line p v, written, is)
  where
    written : Compares p (scene.world.clients p.first) (scene.world.clients p.second) (compare_line p v)
    written = subst (λ (o : Option PlainClient). Compares p o (scene.world.clients p.second) (compare_line p v)) (sym (found_there script scene state p.first (Some a) stands first))
        (subst (λ (o : Option PlainClient). Compares p (Some (state_of a)) o (compare_line p v)) (sym (found_there script scene state p.second (Some b) stands second)) (v, stand, refl))

pub first_missing : (state : PlayState) (p : DevicePair) (out out' : List ℕ) → IsFound state p.first None → out' ≡ out ++ not_open_line p.first → AppendsLineOf state (commands.Compare p) out out'
first_missing state p out out' f is script scene stands = (
  not_open_line p.first,
  subst (λ (o : Option PlainClient). Compares p o (scene.world.clients p.second) (not_open_line p.first)) (sym (found_there script scene state p.first None stands f)) refl,
  is,
)

pub second_missing : (state : PlayState) (p : DevicePair) (a : ClientModel MemoryDiskModel) (out out' : List ℕ) → IsFound state p.first (Some a) → IsFound state p.second None → out' ≡ out ++ not_open_line p.second
    → AppendsLineOf state (commands.Compare p) out out'
second_missing state p a out out' first second is script scene stands = (
  not_open_line p.second,
  subst (λ (o : Option PlainClient). Compares p o (scene.world.clients p.second) (not_open_line p.second)) (sym (found_there script scene state p.first (Some a) stands first))
      (subst (λ (o : Option PlainClient). Compares p (Some (state_of a)) o (not_open_line p.second)) (sym (found_there script scene state p.second None stands second)) refl),
  is,
)
