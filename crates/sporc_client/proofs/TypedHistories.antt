-- The members and the keys that a history of bytes can have.
use Rattle.std.proofs.Common.{◌≡◌, ℕ, zero, suc, ◌^◌, ◌<◌, Bool, true, false, cond, List, [], ◌∷◌, length, map, take, refl, sym, ◌∙◌, subst, Option, None, Some, Result, Ok, Err, IfSome, ◌+◌, ◌++◌}
use Rattle.sporc_client.proofs.Common.{find, fold, is_some, not, option_and_then, ◌==◌, get, AllByRecursion, slice_get, eqb-true, IsBytes, length-mask_from, MemberChange, Add, Remove, SetRole, Member}
use Rattle.sporc_client.proofs.Common.{Roster, after_change, founded, member_at, member_by, removes, roster_after, with_role, ChangeBody, Entry, Genesis, Wrap, IsChange, IsChangeBody, IsWrap, IsEntry}
use Rattle.sporc_client.proofs.Common.{entry_of, IsFounder, entry_takes, Keys, stream_of, opened_under, wrap_for, CommittedChange, change_read, changes, committed_by, roster_of, Kit, AreEpochKeys}
use Rattle.sporc_client.proofs.Common.{drop_at, take_at, w32, to_be_bytes, Header, change_body_bytes, change_body_from, IsHeader, counted_bytes, header_bytes, header_len, entry_size, header_again}
use Rattle.sporc_client.proofs.Common.{length-counted_bytes, length-header_bytes, Reading, number_at, ok_is, u32_again, change_body_again}
use Rattle.std.proofs.Common.{drop, ap, arith}
use Rattle.sporc_entry.specs.Entry.{change_of, entry_bytes, header_at}
use Rattle.sporc_epoch.specs.Wraps.{wrap_opened}
use Rattle.sporc_head.specs.History.{change_in}
use Rattle.sporc_line.specs.Keys.{key_after, key_started}
use Rattle.sporc_client.proofs.AllItems.{all_added, all_filter, all_filter_map, all_map}

-- ---- entries with one spelling and one header are one entry, and the body of one that is a change

-- ---- fields

-- what one reading answers of two lists that are one
abbrev left : {A : Type 0} → A × Reading → A
left x = x.0

abbrev rest_of : {A : Type 0} → A × Reading → List ℕ
rest_of x = x.1.rest

numbers_same : (a b : ℕ) (r t : List ℕ) → a < 2 ^ 32 → b < 2 ^ 32 → to_be_bytes w32 a ++ r ≡ to_be_bytes w32 b ++ t → (a ≡ b) × (r ≡ t)
numbers_same a b r t p q same =
    let one : ℕ × Reading = (a, record { rest = r; at = 4 }) in
    let two : ℕ × Reading = (b, record { rest = t; at = 4 }) in
    let read = ap (λ (rest : List ℕ). number_at w32 (record { rest = rest; at = 0 })) same in
    let is : one ≡ two = ok_is one two (sym (u32_again a 0 r p) ∙ read ∙ u32_again b 0 t q) in
    (ap left is, ap rest_of is)

pieces_same : (xs ys r t : List ℕ) → length xs ≡ length ys → xs ++ r ≡ ys ++ t → (xs ≡ ys) × (r ≡ t)
pieces_same xs ys r t len same = (
  sym (take_at xs r (length ys) len) ∙ ap (take (length ys)) same ∙ take_at ys t (length ys) refl,
  sym (drop_at xs r (length ys) len) ∙ ap (drop (length ys)) same ∙ drop_at ys t (length ys) refl,
)

counted_same : (xs ys r t : List ℕ) → length xs < 2 ^ 32 → length ys < 2 ^ 32 → counted_bytes xs r ≡ counted_bytes ys t → (xs ≡ ys) × (r ≡ t)
counted_same xs ys r t p q same =
    let counts = numbers_same (length xs) (length ys) (xs ++ r) (ys ++ t) p q same in
    pieces_same xs ys r t counts.0 counts.1

headers_same : (h : Header) (r t : List ℕ) → IsHeader h → header_bytes h r ≡ header_bytes h t → r ≡ t
headers_same h r t is same =
    let one : Header × Reading = (h, record { rest = r; at = header_len h.version }) in
    let two : Header × Reading = (h, record { rest = t; at = header_len h.version }) in
    let read = ap (λ (rest : List ℕ). header_at (record { rest = rest; at = 0 })) same in
    ap rest_of (ok_is one two (sym (header_again h r is) ∙ read ∙ header_again h t is))

-- ---- entries

-- with one header
pub entry_same : (e m : Entry) → IsEntry e → m.header ≡ e.header → entry_bytes e ≡ entry_bytes m → e ≡ m
unfolding entry_bytes
entry_same e m is header same =
    let h = e.header in
    let rest_e = counted_bytes e.body (counted_bytes e.signature []) in
    let rest_m = counted_bytes m.body (counted_bytes m.signature []) in
    let same_header : header_bytes h rest_e ≡ header_bytes h rest_m = same ∙ ap (λ (h : Header). header_bytes h rest_m) header in
    let rests : rest_e ≡ rest_m = headers_same h rest_e rest_m is.header same_header in
    let size = entry_size e is in
    let long : length (header_bytes h rest_e) ≡ header_len h.version + length rest_e = length-header_bytes h rest_e is.header in
    let body_e = length-counted_bytes e.body (counted_bytes e.signature []) in
    let body_m = length-counted_bytes m.body (counted_bytes m.signature []) in
    let sig_m = length-counted_bytes m.signature [] in
    let sig_e = length-counted_bytes e.signature [] in
    let lens : length rest_e ≡ length rest_m = ap length rests in
    let bodies = counted_same e.body m.body (counted_bytes e.signature []) (counted_bytes m.signature []) (omega (arith, size, long, body_e)) (omega (arith, size, long, lens, body_m)) rests in
    let signatures = counted_same e.signature m.signature [] [] (omega (arith, is.signature)) (omega (arith, size, long, lens, body_m, sig_m)) bodies.1 in
    ap (λ (h : Header). let x : Entry = record { header = h; body = e.body; signature = e.signature } in x) (sym header)
    ∙ ap (λ (body : List ℕ). let x : Entry = record { header = m.header; body = body; signature = e.signature } in x) bodies.0
    ∙ ap (λ (signature : List ℕ). let x : Entry = record { header = m.header; body = m.body; signature = signature } in x) signatures.0

-- ---- changes

-- the body of an entry that is a change
pub record ChangeRead (e : Entry) : Type 0 where
  pub body : ChangeBody
  pub is : IsChangeBody e.header.version body
  pub read : change_of e ≡ Some body
  pub bytes : e.body ≡ change_body_bytes body

pub change_read_of : (e : Entry) → IsEntry e → e.header.kind ≡ 2 → ChangeRead e
unfolding change_of
change_read_of e is two =
    let c = is.change two in
    let read : change_body_from e.header.version 0 e.body ≡ Ok c.0 = ap (change_body_from e.header.version 0) c.2 ∙ change_body_again e.header.version 0 c.0 c.1 in
    record { body = c.0; is = c.1; read = rw (two, read) refl; bytes = c.2 }

-- ---- changes

abbrev pub IsTypedCommitted : CommittedChange → Type 0
IsTypedCommitted c = IsChangeBody c.header.version c.body

pub body_typed : (e : Entry) → IsEntry e → IfSome (change_of e) (IsChangeBody e.header.version)
unfolding change_of
body_typed e is = go (e.header.kind == 2) refl
  where
    go : (two : Bool) → (e.header.kind == 2) ≡ two → IfSome (change_of e) (IsChangeBody e.header.version)
    go true k =
        let read = change_read_of e is (eqb-true e.header.kind 2 k) in
        subst (λ (o : Option ChangeBody). IfSome o (IsChangeBody e.header.version)) (sym read.read) read.is
    go false k = rw k tt

change_typed : (bytes : List ℕ) → IsBytes bytes → IfSome (change_in bytes) IsTypedCommitted
unfolding change_in
change_typed bytes typed = go (entry_of bytes) refl
  where
    of_body : (e : Entry) (o : Option ChangeBody) → IfSome o (IsChangeBody e.header.version) → IfSome (committed_by e o) IsTypedCommitted
    of_body e None h = tt
    of_body e (Some body) h = h

    go : (read : Result Entry ℕ) → entry_of bytes ≡ read → IfSome (change_read read) IsTypedCommitted
    go (Err at) is = tt
    go (Ok e) is = of_body e (change_of e) (body_typed e (entry_takes bytes e typed is).0)

pub changes_typed : (entries : List (List ℕ)) → AllByRecursion IsBytes entries → AllByRecursion IsTypedCommitted (changes entries)
changes_typed = all_filter_map IsBytes IsTypedCommitted change_in change_typed

-- ---- members have numbers of two bytes

abbrev pub IsSmallMember : Member → Type 0
IsSmallMember m = m.member < 2 ^ 16

pub small_change : (roster : Roster) (change : MemberChange) → IsChange change → AllByRecursion IsSmallMember roster.members → AllByRecursion IsSmallMember (after_change roster change).members
small_change roster (Add member role key) is all = all_added IsSmallMember (λ (m : Member). m.member) (record { member = member; role = role }) roster.members is.0.1 all
small_change roster (Remove member) is all = all_filter IsSmallMember (λ m. not (m.member == member)) roster.members all
small_change roster (SetRole member role) is all = all_map IsSmallMember IsSmallMember (with_role member role) (λ m small. small) roster.members all
small_change roster change is all = all

small_changes : (roster : Roster) (cs : List CommittedChange) → AllByRecursion IsTypedCommitted cs → AllByRecursion IsSmallMember roster.members
    → AllByRecursion IsSmallMember (fold after_change roster (map (λ (c : CommittedChange). c.body.change) cs)).members
small_changes roster [] typed all = all
small_changes roster (c ∷ cs) typed all = small_changes (after_change roster c.body.change) cs typed.1 (small_change roster c.body.change typed.0.change all)

pub small_roster : (g : Genesis) (entries : List (List ℕ)) → AllByRecursion IsFounder g.founders → AllByRecursion IsBytes entries → AllByRecursion IsSmallMember (roster_of g entries).members
small_roster g entries founders typed = small_changes (founded g.founders) (changes entries) (changes_typed entries typed) (all_map IsFounder IsSmallMember member_by (λ f is. is.member.1) g.founders founders)

-- ---- keys have 32 bytes

abbrev Is32 : List ℕ → Type 0
Is32 key = length key ≡ 32

pub found_typed : {X : Type 0} (P : X → Type 0) (test : X → Bool) (xs : List X) → AllByRecursion P xs → IfSome (find test xs) P
found_typed P test [] all = tt
found_typed P test (x ∷ xs) all = go (test x) (found_typed P test xs all.1)
  where
    go : (here : Bool) → IfSome (find test xs) P → IfSome (cond here (Some x) (find test xs)) P
    go true rest = all.0
    go false rest = rest

pub typed_at : {X : Type 0} (P : X → Type 0) (xs : List X) (i : ℕ) → AllByRecursion P xs → IfSome (slice_get xs i) P
typed_at P [] i all = tt
typed_at P (x ∷ xs) zero all = all.0
typed_at P (x ∷ xs) (suc i) all = typed_at P xs i all.1

wrap_size : (version : ℕ) (body : ChangeBody) (author stream me : ℕ) (pairs : Keys) → IsChangeBody version body → IfSome (wrap_opened body author stream me pairs) Is32
unfolding wrap_opened
wrap_size version body author stream me pairs is = go (wrap_for me body.wraps) (found_typed IsWrap (λ (w : Wrap). w.member == me) body.wraps is.wraps)
  where
    under : (pair : Option (List ℕ)) (w : Wrap) → IsWrap w → IfSome (opened_under stream pair w) Is32
    under None w wrap = tt
    under (Some pair) w wrap = length-mask_from pair stream 0 w.sealed ∙ wrap.sealed

    go : (o : Option Wrap) → IfSome o IsWrap → IfSome (option_and_then (opened_under stream (get pairs author)) o) Is32
    go None wrap = tt
    go (Some w) wrap = under (get pairs author) w wrap

pub key_size : (g : Genesis) (kit : Kit) (cs : List CommittedChange) (epoch : ℕ) → AreEpochKeys kit.ring → AllByRecursion IsTypedCommitted cs → IfSome (key_after g kit cs epoch) Is32
unfolding key_after key_started
key_size g kit cs zero ring typed = ring 0
key_size g kit cs (suc e) ring typed = go (slice_get cs e) (typed_at IsTypedCommitted cs e typed)
  where
    tests : (c : CommittedChange) (removed member : Bool) → IsTypedCommitted c → IfSome (cond removed None (cond member (wrap_opened c.body c.header.author (stream_of c.header) kit.me.member kit.pairs) (get kit.ring (suc e)))) Is32
    tests c true member typed = tt
    tests c false true typed = wrap_size c.header.version c.body c.header.author (stream_of c.header) kit.me.member kit.pairs typed
    tests c false false typed = ring (suc e)

    go : (o : Option CommittedChange) → IfSome o IsTypedCommitted → IfSome (key_started g kit (take (suc e) cs) (suc e) o) Is32
    go None typed = tt
    go (Some c) typed = tests c (removes kit.me c.body.change) (is_some (member_at (roster_after g.founders (map (λ c. c.body.change) (take (suc e) cs))) kit.me.member)) typed
