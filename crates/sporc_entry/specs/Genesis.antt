-- The genesis of a document: its bytes, what bytes say, and the founders that a document can begin
-- with.
--
-- | Field | Bytes | Rule |
-- | version | 1 | 1 |
-- | document | 16 | |
-- | commitment | 32 | |
-- | count | 2 | 1 to MAX_MEMBERS |
-- | founders, each | 2 number, 1 role, 56 key | number not 0, strictly ascending; role 1, 2 or 3 |
use Rattle.std.specs.Prelude.{◌≡◌, ℕ, ◌+◌, ◌≤◌, List, [], ◌∷◌, ◌++◌, Bool, length, Option, None}
use Rattle.std.specs.Prelude.{Some, is_none, find, option_map, Result, Ok, Err}
use Rattle.std.specs.List.{AllByRecursion, flat_map, list_any}
use Rattle.std.specs.List.Sorted.{IsStrictlyIncreasing}
use Rattle.std.specs.Int.{w8, w16, to_be_bytes}
use Rattle.lms_tree.specs.LmsPublic.{public_key_in}
use Rattle.sporc_bytes.specs.Fields.{Reading, ◌>>=◌, fault_as, bytes_at, end_at, number_within}
use Rattle.sporc_bytes.specs.Fields.{ascending_at}
use Rattle.sporc_member.specs.declared.limits.TheConstants.{MAX_MEMBERS}
use Rattle.sporc_entry.specs.declared.limits.TheConstants.{HIGHEST_MEMBER}
use Rattle.sporc_member.specs.declared.founder.Founder.{Founder}
use Rattle.sporc_base.specs.FirstFault.{unless, first_of}
use Rattle.sporc_member.specs.Role.{role_code_of, is_admin}
use Rattle.sporc_member.specs.Roster.{founder_numbers}
use Rattle.sporc_entry.specs.declared.fault.GenesisFault.{GenesisFault}
use Rattle.sporc_entry.specs.declared.fault.GenesisFault.TheVariants.{Malformed, NoAdmin, BadKey}
use Rattle.sporc_entry.specs.declared.genesis.Genesis.{Genesis}
use Rattle.sporc_entry.specs.Fields.{role_at}
use Rattle.sporc_member.specs.Device.{IsMember}

-- ---- reading

-- a founder whose number is at least this
unfoldable pub founder_at : ℕ → Reading → Result (Founder × Reading) ℕ
founder_at least r = do
  member ← number_within least HIGHEST_MEMBER w16 r
  role ← role_at member.1
  key ← bytes_at 56 role.1
  Ok (record { member = member.0; role = role.0; key = key.0 }, key.1)

-- so many founders in ascending order of their numbers
unfoldable pub founders_at : ℕ → Reading → Result (List Founder × Reading) ℕ
founders_at n r = ascending_at founder_at (λ m. m.member) 1 n r

-- the fields of a genesis
unfoldable pub genesis_at : Reading → Result (Genesis × Reading) ℕ
genesis_at r = do
  version ← number_within 1 1 w8 r
  document ← bytes_at 16 version.1
  commitment ← bytes_at 32 document.1
  count ← number_within 1 MAX_MEMBERS w16 commitment.1
  founders ← founders_at count.0 count.1
  Ok (
    record { document = document.0; commitment = commitment.0; founders = founders.0 },
    founders.1,
  )

-- what bytes spell, all of the bytes
unfoldable pub genesis_in : List ℕ → Result Genesis ℕ
genesis_in bytes = do
  genesis ← genesis_at (record { rest = bytes; at = 0 })
  end ← end_at genesis.1
  Ok genesis.0

-- whether a founder is an admin
abbrev pub has_admin_founder : List Founder → Bool
has_admin_founder founders = list_any (λ m. is_admin m.role) founders

-- the first founder whose key is of no known type
abbrev pub bad_key : List Founder → Option Founder
bad_key founders = find (λ m. is_none (public_key_in m.key)) founders

-- why no document can begin with these founders, if it can't
abbrev pub founders_fault : List Founder → Option GenesisFault
founders_fault founders = first_of (unless (has_admin_founder founders) NoAdmin
    ∷ option_map (λ m. BadKey m.member) (bad_key founders) ∷ [])

-- a genesis, where a document can begin with its founders
abbrev pub accepted : Genesis → Option GenesisFault → Result Genesis GenesisFault
accepted genesis None = Ok genesis
accepted genesis (Some fault) = Err fault

-- a genesis that was read, where a document can begin with its founders
abbrev pub tested : Result Genesis GenesisFault → Result Genesis GenesisFault
tested (Ok genesis) = accepted genesis (founders_fault genesis.founders)
tested (Err fault) = Err fault

-- the genesis that bytes spell
unfoldable pub genesis_of : List ℕ → Result Genesis GenesisFault
genesis_of bytes = tested (fault_as Malformed (genesis_in bytes))

-- ---- writing

-- the bytes of a founder
abbrev pub founder_bytes : Founder → List ℕ
founder_bytes m = to_be_bytes w16 m.member ++ role_code_of m.role ∷ m.key

-- the bytes of a genesis
unfoldable pub genesis_bytes : Genesis → List ℕ
genesis_bytes g = 1 ∷ g.document
    ++ (g.commitment ++ (to_be_bytes w16 (length g.founders) ++ flat_map founder_bytes g.founders))

-- ---- what has a spelling

pub record IsFounder (m : Founder) : Type 0 where
  pub member : IsMember m.member
  pub key : length m.key ≡ 56

-- a genesis that a document can begin with: one that reading gives
pub record IsGenesis (g : Genesis) : Type 0 where
  pub document : length g.document ≡ 16
  pub commitment : length g.commitment ≡ 32
  pub count : (1 ≤ length g.founders) × (length g.founders ≤ MAX_MEMBERS)
  pub founders : AllByRecursion IsFounder g.founders
  pub ascending : IsStrictlyIncreasing (founder_numbers g.founders)
  pub accepted : founders_fault g.founders ≡ None
