-- What holds of an entry that fails no check.
use Rattle.std.proofs.Common.{◌≡◌, ℕ, zero, suc, ◌+◌, ◌<◌, ◌≤◌, true, false, List, [], ◌∷◌, ◌++◌, length, take, drop, refl, ap, ◌∙◌, Option, None, Some, Result, Ok, Err}
use Rattle.sporc_line.proofs.Common.{is_some, ltb-true, leb-true, eqb-true, not-true, lt-ltb, le-leb, eq-eqb, not_from_false, bytes_eq-Decides, first_of, member_at, key_of, passes, holds, Entry}
use Rattle.sporc_line.proofs.Common.{Genesis, author_device, entry_of, change_of, signed_string, WrongDocument, WrongPosition, Removed, HistoryFull, WrongVersion, UnknownAuthor, UnknownDevice}
use Rattle.sporc_line.proofs.Common.{BaseAhead, BeforeBarrier, WrongHistory, WrongNumber, BehindOwn, WrongEpoch, NoRight, LeafMismatch, BadSignature, epoch_of, roster_of, is_removed, barrier_of}
use Rattle.sporc_line.proofs.Common.{last_of, count_of, hash_of, place_checks, history_checks, author_checks, roster_checks, fault_read, Kit, key_checks, line_checks, version_of, MAX_ENTRIES}
use Rattle.sporc_line.proofs.Common.{first_of-none}
use Rattle.sporc_base.proofs.ListLemmas.{both_pass}
use Rattle.sporc_head.specs.HeadChecks.{head_checks, allows_member, names_leaf, verifies_device}
use Rattle.sporc_line.specs.LineChecks.{first_fault}

-- of checks that all hold, those from a place on
pub pass_from : {F : Type 0} (xs : List (Option F)) (i : ℕ) → first_of xs ≡ None → first_of (drop i xs) ≡ None
pass_from xs zero h = h
pass_from [] (suc i) h = refl
pass_from (None ∷ xs) (suc i) h = pass_from xs i h
pass_from (Some f ∷ xs) (suc i) h = absurd cc

pub pass_both : {F : Type 0} (xs ys : List (Option F)) → first_of xs ≡ None → first_of ys ≡ None → first_of (xs ++ ys) ≡ None
pass_both xs ys h k = first_of-none xs ys h ∙ k

-- an entry that passes all checks at a position
pub record Passes (g : Genesis) (kit : Kit) (entries : List (List ℕ)) (pos : ℕ) (e : Entry) : Type 0 where
  pub document : e.header.document ≡ g.document
  pub position : pos ≡ length entries + 1
  pub not_removed : is_removed kit.me entries ≡ false
  pub room : length entries < MAX_ENTRIES
  pub version : e.header.version ≡ version_of (roster_of g entries).upgraded
  pub member : is_some (member_at (roster_of g entries) e.header.author) ≡ true
  pub device : is_some (key_of (roster_of g entries) (author_device e.header)) ≡ true
  pub base : e.header.base ≤ length entries
  pub barrier : barrier_of entries ≤ e.header.base
  pub history : e.header.base_hash ≡ hash_of g (take e.header.base entries)
  pub number : e.header.number ≡ count_of (author_device e.header) entries + 1
  pub own : last_of (author_device e.header) entries ≤ e.header.base
  pub epoch : e.header.epoch ≡ epoch_of entries
  pub right : allows_member e.header.kind (member_at (roster_of g entries) e.header.author) ≡ true
  pub leaf : names_leaf e.header.leaf e.signature ≡ true
  pub signature : verifies_device (signed_string e) e.signature (key_of (roster_of g entries) (author_device e.header)) ≡ true
  pub roster : first_of (roster_checks (roster_of g entries) (change_of e)) ≡ None
  pub keys : first_of (key_checks g kit entries e) ≡ None

all_passed : (g : Genesis) (kit : Kit) (entries : List (List ℕ)) (position : ℕ) (e : Entry) → first_of (line_checks g kit entries position e) ≡ None → Passes g kit entries position e
unfolding head_checks
all_passed g kit A pos e h =
    let at : (i : ℕ) → first_of (drop i (line_checks g kit A pos e)) ≡ None = λ i. pass_from (line_checks g kit A pos e) i h in
    let last = both_pass (roster_checks (roster_of g A) (change_of e)) (key_checks g kit A e) (at 16) in
    record {
      document = (bytes_eq-Decides _ _).0 (passes _ _ _ (at 0)).0;
      position = eqb-true _ _ (passes _ _ _ (at 1)).0;
      not_removed = not-true _ (passes _ _ _ (at 2)).0;
      room = ltb-true _ _ (passes _ _ _ (at 3)).0;
      version = eqb-true _ _ (passes _ _ _ (at 4)).0;
      member = (passes _ _ _ (at 5)).0;
      device = (passes _ _ _ (at 6)).0;
      base = leb-true _ _ (passes _ _ _ (at 7)).0;
      barrier = leb-true _ _ (passes _ _ _ (at 8)).0;
      history = (bytes_eq-Decides _ _).0 (passes _ _ _ (at 9)).0;
      number = eqb-true _ _ (passes _ _ _ (at 10)).0;
      own = leb-true _ _ (passes _ _ _ (at 11)).0;
      epoch = eqb-true _ _ (passes _ _ _ (at 12)).0;
      right = (passes _ _ _ (at 13)).0;
      leaf = (passes _ _ _ (at 14)).0;
      signature = (passes _ _ _ (at 15)).0;
      roster = last.0;
      keys = last.1;
    }

-- an entry with no first fault passes
pub passed : (g : Genesis) (kit : Kit) (entries : List (List ℕ)) (position : ℕ) (bytes : List ℕ)
    → first_fault g kit entries position bytes ≡ None → (e : Entry) × (entry_of bytes ≡ Ok e) × Passes g kit entries position e
unfolding first_fault
passed g kit entries position bytes h = go (entry_of bytes) refl h
  where
    go : (r : Result Entry ℕ) → entry_of bytes ≡ r → fault_read (line_checks g kit entries position) r ≡ None → (e : Entry) × (entry_of bytes ≡ Ok e) × Passes g kit entries position e
    go (Ok e) is h = (e, is, all_passed g kit entries position e h)
    go (Err at) is h = absurd cc

all_hold : (g : Genesis) (kit : Kit) (entries : List (List ℕ)) (position : ℕ) (e : Entry) → Passes g kit entries position e → first_of (line_checks g kit entries position e) ≡ None
unfolding head_checks
all_hold g kit A pos e p =
    let rosters = roster_checks (roster_of g A) (change_of e) in
    let authors = author_checks (member_at (roster_of g A) e.header.author) (key_of (roster_of g A) (author_device e.header)) e in
    let histories = history_checks g A e.header in
    let author : first_of authors ≡ None = holds _ NoRight _ p.right (holds _ LeafMismatch _ p.leaf (holds _ BadSignature _ p.signature refl)) in
    let history : first_of histories ≡ None =
    holds _ HistoryFull _ (lt-ltb _ _ p.room)
    (holds _ WrongVersion _ (eq-eqb _ _ p.version)
    (holds _ UnknownAuthor _ p.member
    (holds _ UnknownDevice _ p.device
    (holds _ BaseAhead _ (le-leb _ _ p.base)
    (holds _ BeforeBarrier _ (le-leb _ _ p.barrier)
    (holds _ WrongHistory _ ((bytes_eq-Decides _ _).1 p.history)
    (holds _ WrongNumber _ (eq-eqb _ _ p.number)
    (holds _ BehindOwn _ (le-leb _ _ p.own)
    (holds _ WrongEpoch _ (eq-eqb _ _ p.epoch) refl))))))))) in
    let place : first_of (place_checks g (Some kit.me) A pos e.header) ≡ None =
    holds _ WrongDocument _ ((bytes_eq-Decides _ _).1 p.document)
    (holds _ WrongPosition _ (eq-eqb _ _ p.position)
    (holds _ Removed _ (not_from_false _ p.not_removed) refl)) in
    pass_both (head_checks g (Some kit.me) A pos e) (key_checks g kit A e)
    (pass_both (place_checks g (Some kit.me) A pos e.header) (histories ++ (authors ++ rosters)) place
    (pass_both histories (authors ++ rosters) history (pass_both authors rosters author p.roster))) p.keys

-- an entry that passes has no first fault
pub no_fault : (g : Genesis) (kit : Kit) (entries : List (List ℕ)) (position : ℕ) (bytes : List ℕ) (e : Entry) → entry_of bytes ≡ Ok e → Passes g kit entries position e → first_fault g kit entries position bytes ≡ None
unfolding first_fault
no_fault g kit entries position bytes e is p = ap (fault_read (line_checks g kit entries position)) is ∙ all_hold g kit entries position e p
