-- The keys that the clients of a play hold, and those of the members whom they are to add, are strings of bytes.
use Rattle.std.proofs.Common.{◌≡◌, ℕ, ◌<◌, Bool, true, false, cond, List, [], ◌∷◌, drop, take, refl, subst, Option, None, Some, IfSome, zero, suc, ◌+◌, ◌%◌, ◌++◌, replicate, arith, ◌/◌, ltb, length}
use Rattle.std.proofs.Common.{sym, ap, ◌∙◌, inl, inr, ◌^◌}
use Rattle.sporc_play.proofs.Common.{all_take, is_some, get, AllByRecursion, Mark, MemberChange, Device, same_device, Keys, change_in, Refusal, Pending, journal_has_room, refusal_of, Logged, Edit}
use Rattle.sporc_play.proofs.Common.{Change, Submit, Dropped, Accept, Discard, PlainClient, opened, Setup, World, Move, Open, Happen, Give, Restart, after_all, given, opening_of, accepted}
use Rattle.sporc_play.proofs.Common.{change_comes, edit_comes, form_coming, is_flight, log_of_entries, own_comes, replay_from, restated, step, gives_to, happens_to, all_append, slice_index, w16, w32}
use Rattle.sporc_play.proofs.Common.{w64, to_be_bytes, to_le_bytes, xor_of_8, IsBytes, mask_of, rebased, encode_utf8, all_scalars, encode_utf8_all, and_parts, ltb-true, delta_bytes, part_bytes}
use Rattle.sporc_play.proofs.Common.{parts_bytes, inserted, inserted-append, inserted-insert_marks, scalars_append, Part, runs, ChangeWith}
use Rattle.sporc_delta.specs.Transforms.{earlier}
use Rattle.sporc_client.specs.Run.{after, put}
use Rattle.sporc_client.specs.Step.{replay}
use Rattle.sporc_client.proofs.Reached.{restarts}
use Rattle.sha2.specs.Sha256.{digest_bytes, sha256}
use Rattle.lms_ots.specs.Chains.{chain_of, concatenated}
use Rattle.sporc_base.proofs.ByteLemmas.{IsBytes-rest}
use Rattle.sporc_cipher.specs.Mask.{mask_from, stream_byte}
use lib.Utf8.{encode, next, scalar, scalar_cases}
use Rattle.sporc_delta.specs.declared.part.Part.TheVariants.{Insert, Keep, Remove}
use Rattle.sporc_delta.specs.Parts.{marks_of, part_marks}
use Rattle.sporc_delta.proofs.Runs.{marks_of-runs}
use Rattle.sporc_client.specs.declared.pending.Pending.TheVariants as items

-- ---- strings of bytes: digests, masks, signatures, deltas and the entries that are made of them

abbrev pub AreBytes : List ℕ → Type 0
AreBytes bytes = AllByRecursion (λ b. b < 256) bytes

pub is_bytes : (xs : List ℕ) → AreBytes xs → IsBytes xs
is_bytes [] all i = omega arith
is_bytes (x ∷ xs) all zero = all.0
is_bytes (x ∷ xs) all (suc i) = is_bytes xs all.1 i

pub are_bytes : (xs : List ℕ) → IsBytes xs → AreBytes xs
are_bytes [] is = tt
are_bytes (x ∷ xs) is = (is 0, are_bytes xs (IsBytes-rest x xs is))

-- ---- parts

pub bytes_append : (xs ys : List ℕ) → AreBytes xs → AreBytes ys → AreBytes (xs ++ ys)
bytes_append xs ys x y = all_append (λ (b : ℕ). b < 256) xs ys x y

pub bytes_take : (n : ℕ) (xs : List ℕ) → AreBytes xs → AreBytes (take n xs)
bytes_take n xs all = all_take (λ (b : ℕ). b < 256) n xs all

pub bytes_drop : (n : ℕ) (xs : List ℕ) → AreBytes xs → AreBytes (drop n xs)
bytes_drop zero xs all = all
bytes_drop (suc n) [] all = tt
bytes_drop (suc n) (x ∷ xs) all = bytes_drop n xs all.1

pub bytes_zeros : (n : ℕ) → AreBytes (replicate n 0)
bytes_zeros zero = tt
bytes_zeros (suc n) = (omega arith, bytes_zeros n)

-- ---- numbers

pub bytes_16 : (n : ℕ) → AreBytes (to_be_bytes w16 n)
bytes_16 n = (omega arith, (omega arith, tt))

pub bytes_32 : (n : ℕ) → AreBytes (to_be_bytes w32 n)
bytes_32 n = (omega arith, (omega arith, (omega arith, (omega arith, tt))))

pub bytes_64 : (n : ℕ) → AreBytes (to_be_bytes w64 n)
bytes_64 n = (omega arith, (omega arith, (omega arith, (omega arith, (omega arith, (omega arith, (omega arith, (omega arith, tt))))))))

low_bytes_32 : (n : ℕ) → AreBytes (to_le_bytes w32 n)
low_bytes_32 n = (omega arith, (omega arith, (omega arith, (omega arith, tt))))

-- ---- digests and masks

digest_are : (h : List ℕ) (n : ℕ) → AreBytes (digest_bytes h n)
unfolding digest_bytes
digest_are h zero = tt
digest_are h (suc n) = bytes_append (digest_bytes h n) (to_be_bytes w32 (slice_index h n)) (digest_are h n) (bytes_32 (slice_index h n))

pub bytes_sha : (m : List ℕ) → AreBytes (sha256 m)
unfolding sha256
bytes_sha m = digest_are _ 8

stream_fits : (key : List ℕ) (stream place : ℕ) → stream_byte key stream place < 256
unfolding stream_byte
stream_fits key stream place = is_bytes (to_le_bytes w32 _) (low_bytes_32 _) (place % 4)

pub bytes_mask_from : (key : List ℕ) (stream place : ℕ) (xs : List ℕ) → AreBytes xs → AreBytes (mask_from key stream place xs)
unfolding mask_from
bytes_mask_from key stream place [] all = tt
bytes_mask_from key stream place (x ∷ xs) all = (xor_of_8 x (stream_byte key stream place) all.0 (stream_fits key stream place), bytes_mask_from key stream (place + 1) xs all.1)

pub bytes_mask : (key : List ℕ) (stream : ℕ) (xs : List ℕ) → AreBytes xs → AreBytes (mask_of key stream xs)
bytes_mask key stream xs all = bytes_mask_from key stream 0 xs all

-- ---- rows of parts

pub bytes_concatenated : (part : ℕ → List ℕ) (n : ℕ) → ((i : ℕ) → AreBytes (part i)) → AreBytes (concatenated part n)
unfolding concatenated
bytes_concatenated part zero each = tt
bytes_concatenated part (suc n) each = bytes_append (concatenated part n) (part n) (bytes_concatenated part n each) (each n)

pub bytes_chain : (id : List ℕ) (q i a n : ℕ) (x : List ℕ) → AreBytes x → AreBytes (chain_of id q i a n x)
unfolding chain_of
bytes_chain id q i a zero x are = are
bytes_chain id q i a (suc n) x are = bytes_sha _

abbrev pub AreByteKeys : Keys → Type 0
AreByteKeys ring = (epoch : ℕ) → IfSome (get ring epoch) AreBytes

abbrev pub IsByteChange : MemberChange → Type 0
IsByteChange change = ChangeWith (λ member. member < 2 ^ 16) (λ device. device < 2 ^ 8) AreBytes change

abbrev pub IsByteItem : Pending → Type 0
IsByteItem (items.Change change) = IsByteChange change
IsByteItem item = Unit {0}

pub record IsByteClient (c : PlainClient) : Type 0 where
  pub ring : AreByteKeys c.opening.kit.ring
  pub pending : AllByRecursion IsByteItem c.pending

abbrev pub IsByteEvent : Logged → Type 0
IsByteEvent (Change by change) = IsByteChange change
IsByteEvent event = Unit {0}

abbrev pub IsByteMove : Move → Type 0
IsByteMove (Open who ring) = AreByteKeys ring
IsByteMove (Happen who event) = IsByteEvent event
IsByteMove move = Unit {0}

-- ---- events

dropped : (pending : List Pending) → AllByRecursion IsByteItem pending → AllByRecursion IsByteItem (drop 1 pending)
dropped [] all = tt
dropped (x ∷ xs) all = all.1

over : (form : List Mark) (pending : List Pending) → AllByRecursion IsByteItem pending → AllByRecursion IsByteItem (rebased form pending)
over form [] all = tt
over form (items.Edit m ∷ xs) all = (tt, over (earlier form m) xs all.1)
over form (items.Change c ∷ xs) all = (all.0, over form xs all.1)

accepted_bytes : (c : PlainClient) (bytes : List ℕ) → IsByteClient c → IsByteClient (accepted c bytes)
accepted_bytes c bytes is = go (is_flight c bytes) (is_some (change_in bytes))
  where
    go : (own change : Bool) → IsByteClient (cond own (own_comes c bytes) (cond change (change_comes c bytes) (edit_comes c bytes)))
    go true change = record { ring = is.ring; pending = dropped c.pending is.pending }
    go false true = record { ring = is.ring; pending = is.pending }
    go false false = record { ring = is.ring; pending = over (form_coming c bytes) c.pending is.pending }

step_bytes : (c : PlainClient) (event : Logged) → IsByteEvent event → IsByteClient c → IsByteClient (step c event)
step_bytes c (Edit by seen marks) may is = record { ring = is.ring; pending = all_append IsByteItem c.pending (items.Edit (restated c seen marks) ∷ []) is.pending (tt, tt) }
step_bytes c (Change by change) may is = record { ring = is.ring; pending = all_append IsByteItem c.pending (items.Change change ∷ []) is.pending (may, tt) }
step_bytes c (Submit by bytes) may is = record { ring = is.ring; pending = is.pending }
step_bytes c (Dropped by fault) may is = record { ring = is.ring; pending = dropped c.pending is.pending }
step_bytes c (Accept by bytes) may is = accepted_bytes c bytes is
step_bytes c (Discard by) may is = record { ring = is.ring; pending = tt }

replay_bytes : (c : PlainClient) (entries : List (List ℕ)) → IsByteClient c → IsByteClient (replay_from c (log_of_entries entries))
replay_bytes c [] is = is
replay_bytes c (bytes ∷ entries) is = replay_bytes (accepted c bytes) entries (accepted_bytes c bytes is)

-- ---- moves

abbrev pub AreByteClients : World → Type 0
AreByteClients w = (who : Device) (c : PlainClient) → w.clients who ≡ Some c → IsByteClient c

put_bytes : (w : World) (who : Device) (d : PlainClient) → AreByteClients w → IsByteClient d → AreByteClients (put w who d)
put_bytes w who d all is other c at = go (same_device other who) at
  where
    go : (b : Bool) → cond b (Some d) (w.clients other) ≡ Some c → IsByteClient c
    go true at = let same : d ≡ c = cc in subst IsByteClient same is
    go false at = all other c at

given_bytes : (c : PlainClient) (bytes : List ℕ) (r : Option Refusal) → IsByteClient c → IsByteClient (given c bytes r)
given_bytes c bytes (Some refusal) is = is
given_bytes c bytes None is = go (journal_has_room c)
  where
    go : (room : Bool) → IsByteClient (cond room (accepted c bytes) c)
    go true = accepted_bytes c bytes is
    go false = is

move_bytes : (s : Setup) (w : World) (move : Move) → IsByteMove move → AreByteClients w → AreByteClients (after s w move)
unfolding replay
move_bytes s w (Open who ring) is all = put_bytes w who (opened (opening_of s who ring)) all (record { ring = is; pending = tt })
move_bytes s w (Happen who event) is all = go (w.clients who) refl
  where
    go : (o : Option PlainClient) → w.clients who ≡ o → AreByteClients (happens_to w who event o)
    go None at = all
    go (Some c) at = put_bytes w who (step c event) all (step_bytes c event is (all who c at))
move_bytes s w (Give who position bytes) is all = go (w.clients who) refl
  where
    go : (o : Option PlainClient) → w.clients who ≡ o → AreByteClients (gives_to w who position bytes o)
    go None at = all
    go (Some c) at = put_bytes w who (given c bytes (refusal_of c position bytes)) all (given_bytes c bytes (refusal_of c position bytes) (all who c at))
move_bytes s w (Restart who k) is all = go (w.clients who) refl
  where
    go : (o : Option PlainClient) → w.clients who ≡ o → AreByteClients (restarts w who k o)
    go None at = all
    go (Some c) at =
        put_bytes w who (replay_from (opened c.opening) (log_of_entries (take k c.entries))) all
        (replay_bytes (opened c.opening) (take k c.entries) (record { ring = (all who c at).ring; pending = tt }))

pub moves_bytes : (s : Setup) (w : World) (moves : List Move) → AllByRecursion IsByteMove moves → AreByteClients w → AreByteClients (after_all s w moves)
moves_bytes s w [] is all = all
moves_bytes s w (move ∷ moves) is all = moves_bytes s (after s w move) moves is.1 (move_bytes s w move is.0 all)

-- ---- the bytes of texts and of deltas

char_are : (c : ℕ) → c < 1114112 → AreBytes (encode_utf8 c)
unfolding encode
char_are c low = go (ltb c 128) refl (ltb c 2048) refl (ltb c 65536) refl
  where
    go : (a : Bool) → ltb c 128 ≡ a → (b : Bool) → ltb c 2048 ≡ b → (d : Bool) → ltb c 65536 ≡ d
        → AreBytes (cond a (c ∷ []) (cond b ((192 + c / 64) ∷ next c ∷ []) (cond d ((224 + c / 4096) ∷ next (c / 64) ∷ next c ∷ []) ((240 + c / 262144) ∷ next (c / 4096) ∷ next (c / 64) ∷ next c ∷ []))))
    go true is b at d on = (omega (arith, ltb-true c 128 is), tt)
    go false is true at d on = (omega (arith, ltb-true c 2048 at), (omega arith, tt))
    go false is false at true on = (omega (arith, ltb-true c 65536 on), (omega arith, (omega arith, tt)))
    go false is false at false on = (omega (arith, low), (omega arith, (omega arith, (omega arith, tt))))

below_limit : (c : ℕ) → scalar c ≡ true → c < 1114112
below_limit c is = elim (scalar_cases c is) [
  | inl low ↦ omega (arith, low)
  | inr p ↦ p.1
]

pub text_are : (text : List ℕ) → all_scalars text ≡ true → AreBytes (encode_utf8_all text)
text_are [] is = tt
text_are (c ∷ text) is =
    let p = and_parts (scalar c) (all_scalars text) is in
    bytes_append (encode_utf8 c) (encode_utf8_all text) (char_are c (below_limit c p.0)) (text_are text p.1)

-- ---- deltas

part_are : (p : Part) → all_scalars (inserted (part_marks p)) ≡ true → AreBytes (part_bytes p)
part_are (Keep n) is = (omega arith, bytes_64 n)
part_are (Remove n) is = (omega arith, bytes_64 n)
part_are (Insert text) is = (
  omega arith,
  bytes_append (to_be_bytes w64 (length (encode_utf8_all text))) (encode_utf8_all text) (bytes_64 (length (encode_utf8_all text)))
      (text_are text (ap all_scalars (sym (inserted-insert_marks text)) ∙ is)),
)

parts_are : (ps : List Part) → all_scalars (inserted (marks_of ps)) ≡ true → AreBytes (parts_bytes ps)
parts_are [] is = tt
parts_are (p ∷ ps) is =
    let scalars = and_parts (all_scalars (inserted (part_marks p))) (all_scalars (inserted (marks_of ps)))
    (sym (scalars_append (inserted (part_marks p)) (inserted (marks_of ps))) ∙ ap all_scalars (sym (inserted-append (part_marks p) (marks_of ps))) ∙ is) in
    bytes_append (part_bytes p) (parts_bytes ps) (part_are p scalars.0) (parts_are ps scalars.1)

pub delta_are : (marks : List Mark) → all_scalars (inserted marks) ≡ true → AreBytes (delta_bytes marks)
delta_are marks is = parts_are (runs marks) (ap (λ (ms : List Mark). all_scalars (inserted ms)) (marks_of-runs marks) ∙ is)
