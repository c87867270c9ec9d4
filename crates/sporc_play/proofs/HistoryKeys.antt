-- The keys of epochs that are read off a history of bytes are bytes.
use Rattle.std.proofs.Common.{◌≡◌, ℕ, zero, suc, Bool, true, false, cond, List, [], ◌∷◌, ◌++◌, length, map, take, refl, sym, subst, Option, None, Some, Result, Ok, Err, IfSome}
use Rattle.sporc_play.proofs.Common.{◌==◌, flat_map, is_some, option_and_then, slice_get, unwrap_or, get, w16, w32, to_be_bytes, AllByRecursion, eqb-true, IsBytes, MemberChange, Add, SetRole}
use Rattle.sporc_play.proofs.Common.{AddDevice, DropDevice, Upgrade, role_code_of, ChangeBody, Entry, Genesis, Header, Wrap, change_bytes, wrap_bytes, Keys, stream_of, CommittedChange, all_filter_map}
use Rattle.sporc_play.proofs.Common.{change_read, changes, committed_by, epoch_of, Kit, current_key, PlainClient, mask_of, line_of, change_read_of, found_typed, typed_at, BodyWith}
use Rattle.sporc_member.specs.declared.change.Change.TheVariants.{Remove}
use Rattle.sporc_member.specs.Roster.{member_at, removes, roster_after}
use Rattle.sporc_entry.specs.ChangeBody.{change_body_bytes}
use Rattle.sporc_entry.specs.Entry.{IsEntry, change_of, entry_bytes, entry_of, header_bytes}
use Rattle.sporc_entry.proofs.EntryLaws.{entry_takes}
use Rattle.sporc_epoch.specs.Wraps.{opened_under, wrap_for, wrap_opened}
use Rattle.sporc_head.specs.History.{change_in}
use Rattle.sporc_line.specs.Keys.{key_after, key_started}
use Rattle.sporc_play.proofs.ByteClients.{AreByteKeys, AreBytes, are_bytes, bytes_mask}
use Rattle.sporc_entry.proofs.Written.{header_bytes-append}

-- ---- parts of strings of bytes

behind : (xs ys : List ℕ) → AreBytes (xs ++ ys) → AreBytes ys
behind [] ys all = all
behind (x ∷ xs) ys all = behind xs ys all.1

front : (xs ys : List ℕ) → AreBytes (xs ++ ys) → AreBytes xs
front [] ys all = tt
front (x ∷ xs) ys all = (all.0, front xs ys all.1)

after_header : (h : Header) (rest : List ℕ) → AreBytes (header_bytes h rest) → AreBytes rest
after_header h rest all = behind (header_bytes h []) rest (subst AreBytes (sym (header_bytes-append h rest)) all)

body_in : (e : Entry) → AreBytes (entry_bytes e) → AreBytes e.body
unfolding entry_bytes
body_in e all =
    let signature = to_be_bytes w32 (length e.signature) ++ (e.signature ++ []) in
    let body = e.body ++ signature in
    front e.body signature (behind (to_be_bytes w32 (length e.body)) body (after_header e.header (to_be_bytes w32 (length e.body) ++ body) all))

after_change : (change : MemberChange) (rest : List ℕ) → AreBytes (change_bytes change rest) → AreBytes rest
after_change (Add member role key) rest all =
    let end : AreBytes ((role_code_of role ∷ key) ++ rest) = behind (to_be_bytes w16 member) ((role_code_of role ∷ key) ++ rest) all.1 in
    behind key rest end.1
after_change (Remove member) rest all = behind (to_be_bytes w16 member) rest all.1
after_change (SetRole member role) rest all =
    let end : AreBytes (role_code_of role ∷ rest) = behind (to_be_bytes w16 member) (role_code_of role ∷ rest) all.1 in
    end.1
after_change (AddDevice member device key) rest all =
    let end : AreBytes ((device ∷ key) ++ rest) = behind (to_be_bytes w16 member) ((device ∷ key) ++ rest) all.1 in
    behind key rest end.1
after_change (DropDevice member device) rest all =
    let end : AreBytes (device ∷ rest) = behind (to_be_bytes w16 member) (device ∷ rest) all.1 in
    end.1
after_change Upgrade rest all = all.1

sealed_in : (wraps : List Wrap) → AreBytes (flat_map wrap_bytes wraps) → AllByRecursion (λ w. AreBytes w.sealed) wraps
sealed_in [] all = tt
sealed_in (w ∷ ws) all =
    (behind (to_be_bytes w16 w.member) w.sealed (front (wrap_bytes w) (flat_map wrap_bytes ws) all), sealed_in ws (behind (wrap_bytes w) (flat_map wrap_bytes ws) all))

-- ---- changes

body_parts : (body : ChangeBody) → AreBytes (change_body_bytes body) → BodyWith AreBytes body
unfolding change_body_bytes
body_parts body all =
    let wraps = flat_map wrap_bytes body.wraps in
    let counted = to_be_bytes w16 (length body.wraps) ++ wraps in
    let previous = body.previous ++ counted in
    let sealed : AreBytes (body.commitment ++ previous) = after_change body.change (body.commitment ++ previous) all in
    let rest : AreBytes previous = behind body.commitment previous sealed in
    record {
      commitment = front body.commitment previous sealed;
      previous = front body.previous counted rest;
      wraps = sealed_in body.wraps (behind (to_be_bytes w16 (length body.wraps)) wraps (behind body.previous counted rest));
    }

abbrev pub IsByteCommitted : CommittedChange → Type 0
IsByteCommitted c = BodyWith AreBytes c.body

body_bytes : (e : Entry) → IsEntry e → AreBytes e.body → IfSome (change_of e) (BodyWith AreBytes)
unfolding change_of
body_bytes e is all = go (e.header.kind == 2) refl
  where
    go : (two : Bool) → (e.header.kind == 2) ≡ two → IfSome (change_of e) (BodyWith AreBytes)
    go true k =
        let read = change_read_of e is (eqb-true e.header.kind 2 k) in
        subst (λ (o : Option ChangeBody). IfSome o (BodyWith AreBytes)) (sym read.read) (body_parts read.body (subst AreBytes read.bytes all))
    go false k = rw k tt

change_bytes_in : (bytes : List ℕ) → IsBytes bytes → AreBytes bytes → IfSome (change_in bytes) IsByteCommitted
unfolding change_in
change_bytes_in bytes typed all = go (entry_of bytes) refl
  where
    of_body : (e : Entry) (o : Option ChangeBody) → IfSome o (BodyWith AreBytes) → IfSome (committed_by e o) IsByteCommitted
    of_body e None h = tt
    of_body e (Some body) h = h

    go : (read : Result Entry ℕ) → entry_of bytes ≡ read → IfSome (change_read read) IsByteCommitted
    go (Err at) is = tt
    go (Ok e) is =
        let takes = entry_takes bytes e typed is in
        of_body e (change_of e) (body_bytes e takes.0 (body_in e (subst AreBytes takes.1 all)))

pub changes_bytes : (entries : List (List ℕ)) → AllByRecursion IsBytes entries → AllByRecursion IsByteCommitted (changes entries)
changes_bytes entries all = all_filter_map IsBytes IsByteCommitted change_in (λ bytes typed. change_bytes_in bytes typed (are_bytes bytes typed)) entries all

-- ---- keys

-- what holds of what is sealed, and of what it is under any mask, holds of what is opened
pub opened_has : (P : List ℕ → Type 0) → ((key : List ℕ) (stream : ℕ) (sealed : List ℕ) → P sealed → P (mask_of key stream sealed)) → (body : ChangeBody) (author stream me : ℕ) (pairs : Keys) → AllByRecursion (λ w. P w.sealed) body.wraps
    → IfSome (wrap_opened body author stream me pairs) P
unfolding wrap_opened
opened_has P masks body author stream me pairs all = go (wrap_for me body.wraps) (found_typed (λ (w : Wrap). P w.sealed) (λ (w : Wrap). w.member == me) body.wraps all)
  where
    under : (pair : Option (List ℕ)) (w : Wrap) → P w.sealed → IfSome (opened_under stream pair w) P
    under None w is = tt
    under (Some pair) w is = masks pair stream w.sealed is

    go : (o : Option Wrap) → IfSome o (λ w. P w.sealed) → IfSome (option_and_then (opened_under stream (get pairs author)) o) P
    go None is = tt
    go (Some w) is = under (get pairs author) w is

key_bytes : (g : Genesis) (kit : Kit) (cs : List CommittedChange) (epoch : ℕ) → AreByteKeys kit.ring → AllByRecursion IsByteCommitted cs → IfSome (key_after g kit cs epoch) AreBytes
unfolding key_after key_started
key_bytes g kit cs zero ring all = ring 0
key_bytes g kit cs (suc e) ring all = go (slice_get cs e) (typed_at IsByteCommitted cs e all)
  where
    tests : (c : CommittedChange) (removed member : Bool) → IsByteCommitted c → IfSome (cond removed None (cond member (wrap_opened c.body c.header.author (stream_of c.header) kit.me.member kit.pairs) (get kit.ring (suc e)))) AreBytes
    tests c true member is = tt
    tests c false true is = opened_has AreBytes bytes_mask c.body c.header.author (stream_of c.header) kit.me.member kit.pairs is.wraps
    tests c false false is = ring (suc e)

    go : (o : Option CommittedChange) → IfSome o IsByteCommitted → IfSome (key_started g kit (take (suc e) cs) (suc e) o) AreBytes
    go None is = tt
    go (Some c) is = tests c (removes kit.me c.body.change) (is_some (member_at (roster_after g.founders (map (λ c. c.body.change) (take (suc e) cs))) kit.me.member)) is

-- the key of a client's epoch, or these bytes
pub key_or : (c : PlainClient) (other : List ℕ) → AreByteKeys c.opening.kit.ring → AllByRecursion IsBytes c.entries → AreBytes other
    → AreBytes (unwrap_or (key_after c.opening.genesis c.opening.kit (changes c.entries) (epoch_of c.entries)) other)
key_or c other ring all is = go (key_after c.opening.genesis c.opening.kit (changes c.entries) (epoch_of c.entries))
    (key_bytes c.opening.genesis c.opening.kit (changes c.entries) (epoch_of c.entries) ring (changes_bytes c.entries all))
  where
    go : (o : Option (List ℕ)) → IfSome o AreBytes → AreBytes (unwrap_or o other)
    go None none = is
    go (Some key) there = there

pub current_bytes : (c : PlainClient) → AreByteKeys c.opening.kit.ring → AllByRecursion IsBytes c.entries → AreBytes (current_key (line_of c))
current_bytes c ring all = key_or c [] ring all tt
