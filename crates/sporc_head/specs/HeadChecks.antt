-- The checks of an entry that need no key of an epoch, over the whole history before it.
use Rattle.std.specs.Prelude.{Result, Ok, Err, ℕ, ◌+◌, ◌==◌, nat_le, nat_lt, Bool, true, false, not}
use Rattle.std.specs.Prelude.{◌&&◌, List, [], ◌∷◌, ◌++◌, length, take, map, Option, None, Some}
use Rattle.std.specs.Prelude.{is_some}
use Rattle.std.specs.Str.{bytes_eq}
use Rattle.lms_tree.specs.declared.public_key.LmsPublic.{LmsPublic}
use Rattle.lms_tree.specs.LmsPublic.{public_key_in}
use Rattle.lms_tree.specs.Verification.{verifies, leaf_in}
use Rattle.sporc_base.specs.FirstFault.{unless, first_of}
use Rattle.sporc_member.specs.declared.role.Role.{Role}
use Rattle.sporc_member.specs.declared.role.Role.TheVariants.{Reader, Editor, Admin}
use Rattle.sporc_member.specs.declared.device.Device.{Device}
use Rattle.sporc_member.specs.declared.member.Member.{Member}
use Rattle.sporc_member.specs.declared.change.ChangeFault.{ChangeFault}
use Rattle.sporc_member.specs.Roster.{Roster, numbers_of, member_at, key_of, change_fault_of}
use Rattle.sporc_member.specs.Roster.{after_change}
use Rattle.sporc_entry.specs.declared.header.Header.{Header}
use Rattle.sporc_entry.specs.declared.entry.Entry.{Entry}
use Rattle.sporc_entry.specs.declared.wrap.Wrap.{Wrap}
use Rattle.sporc_entry.specs.declared.change.ChangeBody.{ChangeBody}
use Rattle.sporc_entry.specs.declared.genesis.Genesis.{Genesis}
use Rattle.sporc_entry.specs.Entry.{author_device, entry_of, change_of, signed_string}
use Rattle.sporc_entry.specs.Version.{version_of}
use Rattle.sporc_head.specs.declared.limits.TheConstants.{MAX_ENTRIES}
use Rattle.sporc_head.specs.declared.refusal.Refusal.{Refusal}
use Rattle.sporc_head.specs.declared.refusal.Refusal.TheVariants.{Malformed, WrongDocument}
use Rattle.sporc_head.specs.declared.refusal.Refusal.TheVariants.{WrongPosition, Removed}
use Rattle.sporc_head.specs.declared.refusal.Refusal.TheVariants.{HistoryFull, WrongVersion}
use Rattle.sporc_head.specs.declared.refusal.Refusal.TheVariants.{UnknownAuthor, UnknownDevice}
use Rattle.sporc_head.specs.declared.refusal.Refusal.TheVariants.{BaseAhead, BeforeBarrier}
use Rattle.sporc_head.specs.declared.refusal.Refusal.TheVariants.{WrongHistory, WrongNumber}
use Rattle.sporc_head.specs.declared.refusal.Refusal.TheVariants.{BehindOwn, WrongEpoch, NoRight}
use Rattle.sporc_head.specs.declared.refusal.Refusal.TheVariants.{LeafMismatch, BadSignature}
use Rattle.sporc_head.specs.declared.refusal.Refusal.TheVariants.{BadChange, WrongWraps}
use Rattle.sporc_head.specs.History.{epoch_of, roster_of, is_removed, barrier_of, last_of, count_of}
use Rattle.sporc_head.specs.History.{hash_of}

-- a device by its member's number and its own
abbrev pub device_of_pair : ℕ × ℕ → Device
device_of_pair (member, number) = record { member = member; number = number }

-- whether a role allows an entry of this kind, 1 for an edit and 2 for a change
abbrev pub allows : Role → ℕ → Bool
allows Reader kind = false
allows Editor kind = kind == 1
allows Admin kind = true

-- whether the author's role allows an entry of this kind
abbrev pub allows_member : ℕ → Option Member → Bool
allows_member kind None = false
allows_member kind (Some m) = allows m.role kind

-- whether a signature verifies under a key, where there is one (RFC 8554, section 5.4.2)
abbrev pub verifies_under : List ℕ → List ℕ → Option LmsPublic → Bool
verifies_under message signature None = false
verifies_under message signature (Some key) = verifies key message signature

-- whether a signature verifies under the key of the author's device
abbrev pub verifies_device : List ℕ → List ℕ → Option (List ℕ) → Bool
verifies_device message signature None = false
verifies_device message signature (Some key) = verifies_under message signature (public_key_in key)

-- whether a signature begins with this leaf number
abbrev pub names_leaf : ℕ → List ℕ → Bool
names_leaf leaf signature = nat_le 4 (length signature) && (leaf_in signature == leaf)

-- whether no device is given, or a history removes neither it nor its member
abbrev pub is_not_removed : Option Device → List (List ℕ) → Bool
is_not_removed None entries = true
is_not_removed (Some me) entries = not (is_removed me entries)

-- whether wraps name exactly these numbers, in order
abbrev pub names : List Wrap → List ℕ → Bool
names wraps numbers = bytes_eq (map (λ w. w.member) wraps) numbers

abbrev pub bad_change : Option ChangeFault → Option Refusal
bad_change None = None
bad_change (Some fault) = Some (BadChange fault)

-- the checks of a change at a roster
abbrev pub roster_checks : Roster → Option ChangeBody → List (Option Refusal)
roster_checks roster None = []
roster_checks roster (Some c) =
    bad_change (change_fault_of roster c.change)
    ∷ unless (names c.wraps (numbers_of (after_change roster c.change).members)) WrongWraps
    ∷ []

-- the checks of where an entry is to stand; `me` may be nobody
abbrev pub place_checks : Genesis → Option Device → List (List ℕ) → ℕ → Header
    → List (Option Refusal)
place_checks g me entries pos h =
    unless (bytes_eq h.document g.document) WrongDocument
    ∷ unless (pos == length entries + 1) WrongPosition
    ∷ unless (is_not_removed me entries) Removed
    ∷ []

-- the checks of what an entry says of the history before it
abbrev pub history_checks : Genesis → List (List ℕ) → Header → List (Option Refusal)
history_checks g entries h =
    unless (nat_lt (length entries) MAX_ENTRIES) HistoryFull
    ∷ unless (h.version == version_of (roster_of g entries).upgraded) WrongVersion
    ∷ unless (is_some (member_at (roster_of g entries) h.author)) UnknownAuthor
    ∷ unless (is_some (key_of (roster_of g entries) (author_device h))) UnknownDevice
    ∷ unless (nat_le h.base (length entries)) BaseAhead
    ∷ unless (nat_le (barrier_of entries) h.base) BeforeBarrier
    ∷ unless (bytes_eq h.base_hash (hash_of g (take h.base entries))) WrongHistory
    ∷ unless (h.number == count_of (author_device h) entries + 1) WrongNumber
    ∷ unless (nat_le (last_of (author_device h) entries) h.base) BehindOwn
    ∷ unless (h.epoch == epoch_of entries) WrongEpoch
    ∷ []

-- the checks of an entry against its author and the key of its author's device
abbrev pub author_checks : Option Member → Option (List ℕ) → Entry → List (Option Refusal)
author_checks author key e =
    unless (allows_member e.header.kind author) NoRight
    ∷ unless (names_leaf e.header.leaf e.signature) LeafMismatch
    ∷ unless (verifies_device (signed_string e) e.signature key) BadSignature
    ∷ []

-- all of them, in their order
unfoldable pub head_checks : Genesis → Option Device → List (List ℕ) → ℕ → Entry
    → List (Option Refusal)
head_checks g me entries pos e = place_checks g me entries pos e.header
    ++ (history_checks g entries e.header
    ++ (author_checks (member_at (roster_of g entries) e.header.author)
    (key_of (roster_of g entries) (author_device e.header)) e
    ++ roster_checks (roster_of g entries) (change_of e)))

-- the first check that fails of an entry, or what reading it met
abbrev pub fault_read : (Entry → List (Option Refusal)) → Result Entry ℕ → Option Refusal
fault_read checks (Ok e) = first_of (checks e)
fault_read checks (Err at) = Some (Malformed at)

-- the first check that fails
unfoldable pub head_fault : Genesis → Option Device → List (List ℕ) → ℕ → List ℕ → Option Refusal
head_fault g me entries pos bytes = fault_read (head_checks g me entries pos) (entry_of bytes)
