-- What an order answers is within the limits of a message, and what a stream gives fits an order's frame.
use Rattle.std.proofs.Common.{⊎_elim, ◌≡◌, ◌≢◌, ℕ, zero, suc, ◌+◌, ◌<◌, ◌≤◌, ◌^◌, ◌==◌, Bool, true, false, ltb, nat_lt, nat_le, List, [], ◌∷◌, ◌++◌, length, take, drop, Option, Some, None, Result, Ok, Err, is_some, refl, ap, sym, subst, ◌∙◌, arith, if◌then◌else◌, bytes_eq, flat_map, length-append}
use Rattle.sporc_serve.proofs.Common.{drop_all, Genesis, ToServer, Hello, Submit, Pull, Answer, Send, Silent, Close, Reply, Says, OrderModel, step_of, submitted, only, entries_after, IsSendable}
use Rattle.sporc_serve.proofs.Common.{IsFramed, CanBeSent, ltb-true, counted, Refusal, MAX_BODY}
use Rattle.std.proofs.lemmas.Bool.{cases_lt}
use Rattle.sporc_base.specs.FirstFault.{unless, first_of}
use Rattle.sporc_member.specs.declared.device.Device.{Device}
use Rattle.sporc_member.specs.declared.member.Member.{Member}
use Rattle.sporc_member.specs.declared.change.ChangeFault.{ChangeFault}
use Rattle.sporc_member.specs.declared.change.ChangeFault.TheVariants.{NumberUsed}
use Rattle.sporc_member.specs.Roster.{Roster, member_at, key_of, change_fault_of, numbers_of, after_change}
use Rattle.sporc_entry.specs.declared.change.ChangeBody.{ChangeBody}
use Rattle.sporc_entry.specs.declared.entry.Entry.{Entry}
use Rattle.sporc_entry.specs.declared.header.Header.{Header}
use Rattle.sporc_entry.specs.Entry.{author_device, entry_of, change_of, signed_string}
use Rattle.sporc_entry.specs.Version.{version_of}
use Rattle.sporc_entry.proofs.Places.{entry_place}
use Rattle.sporc_head.specs.declared.limits.TheConstants.{MAX_ENTRIES}
use Rattle.sporc_head.specs.declared.refusal.Refusal.TheVariants.{Malformed, WrongDocument, WrongPosition, Removed, HistoryFull, WrongVersion, UnknownAuthor, UnknownDevice, BaseAhead, BeforeBarrier, WrongHistory, WrongNumber, BehindOwn, WrongEpoch, NoRight, LeafMismatch, BadSignature, BadChange, WrongWraps, Memory}
use Rattle.sporc_head.specs.History.{epoch_of, roster_of, barrier_of, last_of, count_of, hash_of}
use Rattle.sporc_head.specs.HeadChecks.{bad_change, is_not_removed, allows_member, names_leaf, verifies_device, names, roster_checks, place_checks, history_checks, author_checks, head_checks, fault_read, head_fault}
use Rattle.sporc_wire.specs.Refusals.{refusal_detail_of}
use Rattle.sporc_wire.specs.declared.to_client.TheConstants.{MAX_PULLED}
use Rattle.sporc_wire.specs.declared.to_client.ToClient.{ToClient}
use Rattle.sporc_order.specs.declared.order.TheConstants.{MAX_PULLED_BYTES}
use Rattle.sporc_order.specs.declared.reply.Reply.TheVariants.{Message}
use Rattle.sporc_order.specs.Batches.{longest_batch, batch_after}
use Rattle.sporc_order.proofs.Sizes.{batch_len, batch_bytes, entries_fit}

-- ---- refusals

-- a refusal that two numbers can tell
abbrev is_told : Refusal → Bool
is_told Memory = false
is_told r = nat_lt (refusal_detail_of r) (2 ^ 32)

told_not_memory : (r : Refusal) → is_told r ≡ true → r ≢ Memory
told_not_memory r told is = let clash : is_told Memory ≡ true = subst (λ (x : Refusal). is_told x ≡ true) is told in absurd cc

told_detail : (r : Refusal) → is_told r ≡ true → refusal_detail_of r < 2 ^ 32
told_detail Memory told = absurd cc
told_detail r told = ltb-true (refusal_detail_of r) (2 ^ 32) told

change_is_told : (f : ChangeFault) → is_told (BadChange f) ≡ true
change_is_told NumberUsed = refl
change_is_told f = refl

abbrev AllTold : List (Option Refusal) → Type 0
AllTold [] = Unit {0}
AllTold (Some r ∷ checks) = (is_told r ≡ true) × AllTold checks
AllTold (None ∷ checks) = AllTold checks

first_told : (checks : List (Option Refusal)) (r : Refusal) → AllTold checks → first_of checks ≡ Some r → is_told r ≡ true
first_told [] r all is = absurd cc
first_told (Some f ∷ checks) r all is = let same : f ≡ r = cc in subst (λ (x : Refusal). is_told x ≡ true) same all.0
first_told (None ∷ checks) r all is = first_told checks r all is

unless_told : (b : Bool) (r : Refusal) (checks : List (Option Refusal)) → is_told r ≡ true → AllTold checks → AllTold (unless b r ∷ checks)
unless_told true r checks told all = all
unless_told false r checks told all = (told, all)

change_told : (f : Option ChangeFault) (checks : List (Option Refusal)) → AllTold checks → AllTold (bad_change f ∷ checks)
change_told None checks all = all
change_told (Some f) checks all = (change_is_told f, all)

append_told : (a b : List (Option Refusal)) → AllTold a → AllTold b → AllTold (a ++ b)
append_told [] b all more = more
append_told (Some r ∷ a) b all more = (all.0, append_told a b all.1 more)
append_told (None ∷ a) b all more = append_told a b all more

-- checks of plain refusals
abbrev plain : List (Bool × Refusal) → List (Option Refusal)
plain [] = []
plain (c ∷ cs) = unless c.0 c.1 ∷ plain cs

abbrev AllPlain : List (Bool × Refusal) → Type 0
AllPlain [] = Unit {0}
AllPlain (c ∷ cs) = (is_told c.1 ≡ true) × AllPlain cs

plain_told : (cs : List (Bool × Refusal)) → AllPlain cs → AllTold (plain cs)
plain_told [] all = tt
plain_told (c ∷ cs) all = unless_told c.0 c.1 (plain cs) all.0 (plain_told cs all.1)

place_told : (g : Genesis) (me : Option Device) (entries : List (List ℕ)) (pos : ℕ) (h : Header) → AllTold (place_checks g me entries pos h)
place_told g me entries pos h =
    plain_told ((bytes_eq h.document g.document, WrongDocument) ∷ (pos == length entries + 1, WrongPosition) ∷ (is_not_removed me entries, Removed) ∷ [])
    (refl, (refl, (refl, tt)))

history_told : (g : Genesis) (entries : List (List ℕ)) (h : Header) → AllTold (history_checks g entries h)
history_told g entries h =
    plain_told ((nat_lt (length entries) MAX_ENTRIES, HistoryFull) ∷ (h.version == version_of (roster_of g entries).upgraded, WrongVersion)
    ∷ (is_some (member_at (roster_of g entries) h.author), UnknownAuthor) ∷ (is_some (key_of (roster_of g entries) (author_device h)), UnknownDevice)
    ∷ (nat_le h.base (length entries), BaseAhead) ∷ (nat_le (barrier_of entries) h.base, BeforeBarrier)
    ∷ (bytes_eq h.base_hash (hash_of g (take h.base entries)), WrongHistory) ∷ (h.number == count_of (author_device h) entries + 1, WrongNumber)
    ∷ (nat_le (last_of (author_device h) entries) h.base, BehindOwn) ∷ (h.epoch == epoch_of entries, WrongEpoch) ∷ [])
    (refl, (refl, (refl, (refl, (refl, (refl, (refl, (refl, (refl, (refl, tt))))))))))

author_told : (author : Option Member) (key : Option (List ℕ)) (e : Entry) → AllTold (author_checks author key e)
author_told author key e =
    plain_told ((allows_member e.header.kind author, NoRight) ∷ (names_leaf e.header.leaf e.signature, LeafMismatch)
    ∷ (verifies_device (signed_string e) e.signature key, BadSignature) ∷ [])
    (refl, (refl, (refl, tt)))

roster_told : (r : Roster) (c : Option ChangeBody) → AllTold (roster_checks r c)
roster_told r None = tt
roster_told r (Some c) =
    let wraps = plain ((names c.wraps (numbers_of (after_change r c.change).members), WrongWraps) ∷ []) in
    change_told (change_fault_of r c.change) wraps
    (plain_told ((names c.wraps (numbers_of (after_change r c.change).members), WrongWraps) ∷ []) (refl, tt))

head_told : (g : Genesis) (me : Option Device) (entries : List (List ℕ)) (pos : ℕ) (e : Entry) → AllTold (head_checks g me entries pos e)
unfolding head_checks
head_told g me entries pos e =
    let roster = roster_of g entries in
    let author = member_at roster e.header.author in
    let key = key_of roster (author_device e.header) in
    append_told (place_checks g me entries pos e.header)
    (history_checks g entries e.header ++ (author_checks author key e ++ roster_checks roster (change_of e))) (place_told g me entries pos e.header)
    (append_told (history_checks g entries e.header) (author_checks author key e ++ roster_checks roster (change_of e)) (history_told g entries e.header)
    (append_told (author_checks author key e) (roster_checks roster (change_of e)) (author_told author key e) (roster_told roster (change_of e))))

below-is : (a b : ℕ) → a < b → ltb a b ≡ true
below-is a b h = grind arith

small : (n : ℕ) → n ≤ MAX_BODY → n < 2 ^ 32
small n le = omega (arith, le)

pub refusal_told : (g : Genesis) (me : Option Device) (entries : List (List ℕ)) (pos : ℕ) (bytes : List ℕ) (r : Refusal) → length bytes ≤ MAX_BODY
    → head_fault g me entries pos bytes ≡ Some r → is_told r ≡ true
unfolding head_fault
refusal_told g me entries pos bytes r fits is = go (entry_of bytes) refl is
  where
    go : (read : Result Entry ℕ) → entry_of bytes ≡ read → fault_read (head_checks g me entries pos) read ≡ Some r → is_told r ≡ true
    go (Ok e) at h = first_told (head_checks g me entries pos e) r (head_told g me entries pos e) h
    go (Err at) e h =
        let same : Malformed at ≡ r = cc in
        let low : at ≤ MAX_BODY = omega (arith, entry_place bytes at e, fits) in
        subst (λ (x : Refusal). is_told x ≡ true) same (below-is at (2 ^ 32) (small at low))

-- ---- entries that are handed out

batch_none : (n room : ℕ) → longest_batch n room [] ≡ []
batch_none zero room = refl
batch_none (suc n) room = refl

batch_some : (es : List (List ℕ)) (from : ℕ) → batch_after es from ≢ [] → from < length es
batch_some es from some =
    ⊎_elim (λ (below : from < length es). below)
    (λ past. absurd (some (ap (longest_batch MAX_PULLED MAX_PULLED_BYTES) (drop_all from es past) ∙ batch_none MAX_PULLED MAX_PULLED_BYTES)))
    (cases_lt from (length es))

entries_sendable : (from : ℕ) (es : List (List ℕ)) → (es ≢ [] → from + 1 < 2 ^ 32) → length es ≤ MAX_PULLED → length (flat_map counted es) ≤ MAX_PULLED_BYTES
    → IsSendable (Send (entries_after from es))
entries_sendable from [] low few fits = (tt, omega arith)
entries_sendable from (e ∷ es) low few fits = ((low (λ is. absurd cc), omega arith, few), entries_fit (from + 1) (e ∷ es) fits)

-- ---- answers

pub answer_sendable : (o : OrderModel) (s : Bool) (m : ToServer) → length (step_of o s m).order.entries < 2 ^ 32 → IsFramed m
    → IsSendable (step_of o s m).answer
answer_sendable o true (Submit entry) room framed = go (head_fault o.genesis None o.entries (length o.entries + 1) entry) refl room
  where
    go : (f : Option Refusal) → head_fault o.genesis None o.entries (length o.entries + 1) entry ≡ f → length (submitted o entry f).order.entries < 2 ^ 32
        → IsSendable (submitted o entry f).answer
    go (Some r) is low =
        let told = refusal_told o.genesis None o.entries (length o.entries + 1) entry r framed is in
        ((told_not_memory r told, told_detail r told), omega arith)
    go None is low = (omega (arith, length-append o.entries (entry ∷ []), low), omega arith)
answer_sendable o true (Pull from) room framed =
    let es = batch_after o.entries from in
    let low : es ≢ [] → from + 1 < 2 ^ 32 = λ some. let below = batch_some o.entries from some in omega (arith, room, below) in
    entries_sendable from es low (batch_len MAX_PULLED MAX_PULLED_BYTES (drop from o.entries)) (batch_bytes MAX_PULLED MAX_PULLED_BYTES (drop from o.entries))
answer_sendable o false (Hello document member) room framed =
    elim (bytes_eq document o.genesis.document) as (λ b. IsSendable (if b then only o true Silent else only o false Close).answer) [ true ↦ tt | false ↦ tt ]
answer_sendable o s m room framed = tt

-- and so can a reply that says one
pub reply_sendable : (answer : Answer) (reply : Reply) → Says answer reply → IsSendable answer → CanBeSent reply
reply_sendable (Send m) (Message sent) says can = subst (λ (x : ToClient). IsSendable (Send x)) (sym says) can
reply_sendable answer (Message sent) says can = absurd says
reply_sendable answer reply says can = tt
