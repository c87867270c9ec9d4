-- Every run keeps the headline.
use Rattle.std.proofs.Common.{◌≡◌, ℕ, ◌+◌, ◌≤◌, Bool, true, false, cond, List, ◌++◌, length, take, refl, ap, sym, ◌∙◌, subst, arith, Option, None, Some}
use Rattle.sporc_client.proofs.Common.{fold, IsSomeAnd, Ok, public_key_in, verifies, same_device, same_one, take_all, CollisionFree, Device, Member, key_of_device, member_at, Entry, Genesis}
use Rattle.sporc_client.proofs.Common.{author_device, entry_of, signed_string, Refusal, allows, allows_member, verifies_device, verifies_under, changes, epoch_of, hash_of, roster_of, epoch_key}
use Rattle.sporc_client.proofs.Common.{first_fault, line_strings, operations, text_of, Good, Meets, Passes, good_entry, has_left, keys_meet, PlainClient, after_pending, committed_of, is_out}
use Rattle.sporc_client.proofs.Common.{journal_has_room, or_full, refusal_of, Setup, World, Signing, Move, start, IsRun, given, world_at, HasSigned, IsReached, accepted, IsWellFormed, LmsPublic}
use Rattle.std.specs.Prelude.{◌↔◌, slice_get, IsSome}
use Rattle.sporc_line.specs.Commitments.{commitment_after}
use Rattle.sporc_line.proofs.SameKeys.{has_right, one_reading, one_text, same_key}
use Rattle.sporc_client.specs.declared.fault.AcceptFault.TheVariants.{Refused}
use Rattle.sporc_client.specs.Answers.{accept_fault}
use Rattle.sporc_client.specs.Agree.{Agree, NoCollision, IsClient, IsRightful, SameHistoryAndText, StandsBehind}
use Rattle.sporc_client.proofs.Reached.{gives_to, with_client, reached_at, genuine_at}
use Rattle.sporc_client.proofs.InHistories.{named_prefix, one_hash, one_place, one_prefix, same_base}
use Rattle.sporc_client.proofs.SignedEntries.{AllSignings, IsSigning, signing_at, signing_in}

-- ---- what a client of a run knows, over the genesis of the run

genesis_of : (s : Setup) (who : Device) (c : PlainClient) → IsReached s who c → c.opening.genesis ≡ s.genesis
genesis_of s who c reached = rw (reached.opening) refl

good_of : (s : Setup) (who : Device) (c : PlainClient) → IsReached s who c → Good s.genesis c.opening.kit c.entries
good_of s who c reached = subst (λ (g : Genesis). Good g c.opening.kit c.entries) (genesis_of s who c reached) reached.good

abbrev Free : Genesis → PlainClient → PlainClient → Type 0
Free g c d = CollisionFree (line_strings g c.opening.kit c.entries ++ line_strings g d.opening.kit d.entries)

free_of : (s : Setup) (i j : Device) (c d : PlainClient) → IsReached s i c → IsReached s j d → NoCollision c d → Free s.genesis c d
free_of s i j c d one two free =
    let P : Genesis → Type 0 = λ g. CollisionFree (line_strings g c.opening.kit c.entries ++ line_strings d.opening.genesis d.opening.kit d.entries) in
    let Q : Genesis → Type 0 = λ g. CollisionFree (line_strings s.genesis c.opening.kit c.entries ++ line_strings g d.opening.kit d.entries) in
    subst Q (genesis_of s j d two) (subst P (genesis_of s i c one) free)

-- ---- one history

-- over one genesis
record Alike (g : Genesis) (c d : PlainClient) : Type 0 where
  entries : c.entries ≡ d.entries
  operations : operations g c.opening.kit c.entries ≡ operations g d.opening.kit d.entries
  text : text_of g c.opening.kit c.entries ≡ text_of g d.opening.kit d.entries

alike : (g : Genesis) (c d : PlainClient) → Good g c.opening.kit c.entries → Good g d.opening.kit d.entries → Free g c d → hash_of g c.entries ≡ hash_of g d.entries → Alike g c d
alike g c d good good' free h =
    let entries : c.entries ≡ d.entries = one_hash g c.opening.kit d.opening.kit c.entries d.entries free h in
    let good'' : Good g d.opening.kit c.entries = subst (Good g d.opening.kit) (sym entries) good' in
    let F : List (List ℕ) → Type 0 = λ es. CollisionFree (line_strings g c.opening.kit c.entries ++ line_strings g d.opening.kit es) in
    let free' = subst F (sym entries) free in
    record {
      entries = entries;
      operations = one_reading g c.opening.kit d.opening.kit c.entries good good'' free' ∙ ap (operations g d.opening.kit) entries;
      text = one_text g c.opening.kit d.opening.kit c.entries good good'' free' ∙ ap (text_of g d.opening.kit) entries;
    }

same_history : (s : Setup) (i j : Device) (c d : PlainClient) → IsReached s i c → IsReached s j d → NoCollision c d → hash_of s.genesis c.entries ≡ hash_of s.genesis d.entries → SameHistoryAndText c d
same_history s i j c d one two free h =
    let g = s.genesis in
    let gc = genesis_of s i c one in
    let gd = genesis_of s j d two in
    let same = alike g c d (good_of s i c one) (good_of s j d two) (free_of s i j c d one two free) h in
    let text : committed_of c ≡ committed_of d = rw (gc, gd) same.text in
    record {
      entries = same.entries;
      operations = rw (gc, gd) same.operations;
      members = rw (gc, gd) (ap (roster_of g) same.entries);
      text = text;
      shown = λ p q. ap (fold after_pending (committed_of c)) p ∙ text ∙ sym (ap (fold after_pending (committed_of d)) q);
    }

-- ---- one key

is_held : (P : List ℕ → Type 0) (o p there : Option (List ℕ)) → there ≡ o → IsSomeAnd there P → o ≡ p → IsSomeAnd o (λ key. p ≡ Some key)
is_held P None p there is met same = absurd (subst (λ (k : Option (List ℕ)). IsSomeAnd k P) is met)
is_held P (Some key) p there is met same = sym same

one_key : (s : Setup) (i j : Device) (c d : PlainClient) (epoch : ℕ) → IsReached s i c → IsReached s j d → NoCollision c d → is_out c ≡ false → is_out d ≡ false
    → epoch ≤ epoch_of c.entries → epoch ≤ epoch_of d.entries → commitment_after s.genesis (changes c.entries) epoch ≡ commitment_after s.genesis (changes d.entries) epoch
    → IsSomeAnd (epoch_key c.opening.genesis c.opening.kit c.entries epoch) (λ key. epoch_key d.opening.genesis d.opening.kit d.entries epoch ≡ Some key)
one_key s i j c d epoch one two free there there' le le' same =
    let g = s.genesis in
    let mine = line_strings g c.opening.kit c.entries in
    let yours = line_strings g d.opening.kit d.entries in
    let its = keys_meet g c.opening.kit c.entries (good_of s i c one) there epoch le in
    let theirs = keys_meet g d.opening.kit d.entries (good_of s j d two) there' epoch le' in
    let key : Genesis → Option (List ℕ) = λ g. epoch_key g c.opening.kit c.entries epoch in
    is_held _ _ _ (key g) (sym (ap key (genesis_of s i c one))) its (ap key (genesis_of s i c one)
    ∙ same_key g epoch (mine ++ yours) (epoch_key g c.opening.kit c.entries epoch) (epoch_key g d.opening.kit d.entries epoch) (commitment_after g (changes c.entries) epoch) (free_of s i j c d one two free)
    (λ x h. has_left g c.opening.kit c.entries yours epoch x le h)
    (λ x h. has_right g d.opening.kit d.entries mine epoch x le' h)
    its
    (subst (Meets g epoch (epoch_key g d.opening.kit d.entries epoch)) (sym same) theirs)
    ∙ sym (ap (λ (g : Genesis). epoch_key g d.opening.kit d.entries epoch) (genesis_of s j d two)))

-- ---- one base

-- an entry that a client of the run signed
authors_base : (s : Setup) (i : Device) (x : ℕ) (c : PlainClient) (signing : Signing) (e : Entry) → IsReached s i c → IsSigning s signing → NoCollision c signing.client
    → StandsBehind x c.entries signing.entry e → signing.client.entries ≡ take e.header.base c.entries
authors_base s i x c signing e one told free stands =
    let g = s.genesis in
    let d = signing.client in
    let read = told.reads in
    let is = stands.reads in
    let entry : told.entry ≡ e = cc in
    let base : e.header.base ≡ length d.entries = ap (λ (e : Entry). e.header.base) (sym entry) ∙ told.base in
    let history : e.header.base_hash ≡ hash_of g d.entries = ap (λ (e : Entry). e.header.base_hash) (sym entry) ∙ told.history in
    let named = named_prefix g c.opening.kit c.entries x signing.entry e (good_of s i c one) stands.at is in
    let l : length d.entries ≤ e.header.base = omega (arith, base) in
    let whole : take e.header.base d.entries ≡ d.entries = take_all e.header.base d.entries l in
    sym whole
    ∙ sym (one_prefix g c.opening.kit d.opening.kit c.entries d.entries e.header.base e.header.base (free_of s i signing.who c d one told.signer free) (sym named.1 ∙ history ∙ sym (ap (hash_of g) whole)))

-- ---- in order

right_of : (kind : ℕ) (o : Option Member) → allows_member kind o ≡ true → IsSomeAnd o (λ m. allows m.role kind ≡ true)
right_of kind None right = absurd cc
right_of kind (Some m) right = right

verified_by : (message signature : List ℕ) (o : Option (List ℕ)) → verifies_device message signature o ≡ true
    → IsSomeAnd o (λ bytes. IsSomeAnd (public_key_in bytes) (λ key. verifies key message signature ≡ true))
verified_by message signature None verified = absurd cc
verified_by message signature (Some bytes) verified = go (public_key_in bytes) verified
  where
    go : (o : Option LmsPublic) → verifies_under message signature o ≡ true → IsSomeAnd o (λ key. verifies key message signature ≡ true)
    go None verified = absurd cc
    go (Some key) verified = verified

in_order : (s : Setup) (i : Device) (x : ℕ) (c : PlainClient) (bytes : List ℕ) → IsReached s i c → slice_get c.entries x ≡ Some bytes
    → (e : Entry) × StandsBehind x c.entries bytes e × IsRightful s (take x c.entries) e
in_order s i x c bytes reached at =
    let g = s.genesis in
    let roster = roster_of g (take x c.entries) in
    let p = good_entry g c.opening.kit c.entries x bytes (good_of s i c reached) at in
    let q : Passes g c.opening.kit (take x c.entries) (x + 1) p.0 = p.2 in (
      p.0,
      record { at = at; reads = p.1 },
      record {
        version = q.version;
        role = right_of p.0.header.kind (member_at roster p.0.header.author) q.right;
        signature = verified_by (signed_string p.0) p.0.signature (key_of_device roster (author_device p.0.header)) q.signature;
        number = q.number;
      },
    )

-- ---- by its author

-- who signed an entry of clients of the run is its author
by_author : (s : Setup) (w : World) (owner : Device) (bytes : List ℕ) (e : Entry) → AllSignings s w → entry_of bytes ≡ Ok e → (signer : Device) × HasSigned s w owner signer bytes
    → HasSigned s w owner (author_device e.header) bytes
by_author s w owner bytes e all is (signer, by) =
    let told = all by.signing by.signed in
    let read = told.reads in
    let same = by.entry in
    let entry : told.entry ≡ e = cc in
    let author : author_device e.header ≡ signer = ap (λ (e : Entry). author_device e.header) (sym entry) ∙ told.author ∙ by.by in
    subst (λ (who : Device). HasSigned s w owner who bytes) (sym author) by

-- ---- refusals

refused_only : (room : Bool) (o : Option Refusal) (refusal : Refusal) → or_full room o ≡ Some (Refused refusal) → o ≡ Some refusal
refused_only room (Some other) refusal h = cc
refused_only true None refusal h = absurd cc
refused_only false None refusal h = absurd cc

refuses_at : (s : Setup) (i : Device) (position : ℕ) (c : PlainClient) (bytes : List ℕ) (refusal : Refusal) → IsReached s i c
    → (accept_fault c position bytes ≡ Some (Refused refusal)) ↔ (first_fault s.genesis c.opening.kit c.entries position bytes ≡ Some refusal)
unfolding accept_fault
refuses_at s i position c bytes refusal reached = (
  λ answer. sym here ∙ refused_only (journal_has_room c) (refusal_of c position bytes) refusal answer,
  λ fails. ap (or_full (journal_has_room c)) (here ∙ fails),
)
  where
    here : refusal_of c position bytes ≡ first_fault s.genesis c.opening.kit c.entries position bytes
    here = ap (λ (g : Genesis). first_fault g c.opening.kit c.entries position bytes) (genesis_of s i c reached)

-- the clients with one in the place that it has
put_back : (clients : Device → Option PlainClient) (i : Device) (c : PlainClient) (other : Device) → clients i ≡ Some c → with_client clients i c other ≡ clients other
put_back clients i c other at = go (same_device other i) refl
  where
    go : (same : Bool) → same_device other i ≡ same → cond same (Some c) (clients other) ≡ clients other
    go true is = sym (ap clients (same_one other i is) ∙ at)
    go false is = refl

not_given : (c : PlainClient) (bytes : List ℕ) (o : Option Refusal) → IsSome (or_full (journal_has_room c) o) → given c bytes o ≡ c
not_given c bytes (Some refusal) fails = refl
not_given c bytes None fails = go (journal_has_room c) fails
  where
    go : (room : Bool) → IsSome (or_full room None) → cond room (accepted c bytes) c ≡ c
    go true fails = absurd cc
    go false fails = refl

unchanged_at : (w : World) (i : Device) (position : ℕ) (c : PlainClient) (bytes : List ℕ) → w.clients i ≡ Some c → IsSome (accept_fault c position bytes)
    → (other : Device) → (gives_to w i position bytes (w.clients i)).clients other ≡ w.clients other
unfolding accept_fault
unchanged_at w i position c bytes at fails other =
    ap (λ (o : Option PlainClient). (gives_to w i position bytes o).clients other) at
    ∙ ap (λ (d : PlainClient). with_client w.clients i d other) (not_given c bytes (refusal_of c position bytes) fails)
    ∙ put_back w.clients i c other at

-- ---- the headline

pub agree : (s : Setup) (moves : List Move) → IsWellFormed s → IsRun s start moves → Agree s moves
agree s moves well run = record {
  one_history = λ c d mine yours free h. same_history s mine.1 yours.1 c d (reached c mine) (reached d yours) free h;
  one_key = λ c d epoch mine yours. one_key s mine.1 yours.1 c d epoch (reached c mine) (reached d yours);
  one_base = λ c d x y bytes e mine yours free here there.
      let one = reached c mine in
      let two = reached d yours in
      same_base s.genesis c.opening.kit d.opening.kit c.entries d.entries x y bytes e (good_of s mine.1 c one) (good_of s yours.1 d two) (free_of s mine.1 yours.1 c d one two free) here.at there.at here.reads;
  authors_base = λ c x signing e mine signed. authors_base s mine.1 x c signing e (reached c mine) (signing_in s moves signing well run signed);
  in_order = λ c x bytes mine. in_order s mine.1 x c bytes (reached c mine);
  once_each = λ c x y b b' e e' mine here there.
      one_place s.genesis c.opening.kit c.entries x y b b' e e' (good_of s mine.1 c (reached c mine)) here.at there.at here.reads there.reads;
  by_signer = λ genuine n x who owner c bytes e at stands under.
      by_author s (world_at s moves n) owner bytes e (λ signing. signing_at s moves n signing well run) stands.reads
      (genuine_at s moves n run genuine who c at x bytes stands.at owner e stands.reads under);
  refuses = λ c position bytes refusal mine. refuses_at s mine.1 position c bytes refusal (reached c mine);
  unchanged = λ n position who c bytes at. unchanged_at (world_at s moves n) who position c bytes at;
}
  where
    reached : (c : PlainClient) → (mine : IsClient s moves c) → IsReached s mine.1 c
    reached c mine = reached_at s moves mine.0 mine.1 c run mine.2
