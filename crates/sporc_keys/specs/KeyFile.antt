-- The file of a device's key.
--
-- | Field | Bytes | Rule |
-- | format | 4 | `SPK1` of a member's first device, `SPK2` of a further one |
-- | member | 2 | |
-- | device | 1 | of a further one alone |
-- | LMS type | 4 | 5, 6 or 7 |
-- | LM-OTS type | 4 | 3 or 4 |
-- | I | 16 | |
-- | SEED | 32 | |
--
-- Nothing follows.
use Rattle.std.specs.Prelude.{◌≡◌, ◌⊎◌, ℕ, ◌^◌, ◌<◌, ◌==◌, List, [], ◌∷◌, ◌++◌, length, codes}
use Rattle.std.specs.Prelude.{bytes_eq, find, Result, Ok, if◌then◌else◌}
use Rattle.std.specs.Int.{w8, w16, w32, to_be_bytes}
use Rattle.lms_ots.specs.declared.ots_type.OtsType.{OtsType}
use Rattle.lms_ots.specs.declared.ots_type.OtsType.TheVariants.{W4, W8}
use Rattle.lms_ots.specs.OtsType.{ots_code_of}
use Rattle.lms_tree.specs.declared.lms_type.LmsType.{LmsType}
use Rattle.lms_tree.specs.declared.lms_type.LmsType.TheVariants.{H5, H10, H15}
use Rattle.lms_tree.specs.LmsPrivate.{LmsPrivate}
use Rattle.lms_tree.specs.LmsType.{height_of, lms_code_of}
use Rattle.lms_leaf.specs.LeafFile.{IsLeafHeight}
use Rattle.sporc_bytes.specs.Fields.{Reading, ◌>>=◌, number_at, bytes_at, present, number_within}
use Rattle.sporc_member.specs.declared.device.Device.{Device}
use Rattle.sporc_member.specs.declared.device.TheConstants.{FIRST_DEVICE}
use Rattle.sporc_keys.specs.declared.key_file.KeyFile.{KeyFile}
use Rattle.sporc_keys.specs.Fields.{format_at, whole}

-- the four bytes that name the format, by the device's number
abbrev pub format_of : ℕ → List ℕ
format_of number = if number == FIRST_DEVICE then codes "SPK1" else codes "SPK2"

-- ---- reading

-- the device's number, which must be this one; that of a first device stands in no field
unfoldable pub device_number_at : ℕ → Reading → Result (ℕ × Reading) ℕ
device_number_at number r =
    if number == FIRST_DEVICE then Ok (number, r) else number_within number number w8 r

-- the type of a tree
unfoldable pub lms_type_at : Reading → Result (LmsType × Reading) ℕ
lms_type_at r = do
  code ← number_at w32 r
  lms ← present r.at (find (λ t. lms_code_of t == code.0) (H5 ∷ H10 ∷ H15 ∷ []))
  Ok (lms, code.1)

-- the type of its one-time keys
unfoldable pub ots_type_at : Reading → Result (OtsType × Reading) ℕ
ots_type_at r = do
  code ← number_at w32 r
  ots ← present r.at (find (λ t. ots_code_of t == code.0) (W4 ∷ W8 ∷ []))
  Ok (ots, code.1)

-- the fields of the key file of a device
unfoldable pub key_file_at : Device → Reading → Result (KeyFile × Reading) ℕ
key_file_at device r = do
  start ← format_at (format_of device.number) r
  member ← number_within device.member device.member w16 start
  number ← device_number_at device.number member.1
  lms ← lms_type_at number.1
  ots ← ots_type_at lms.1
  id ← bytes_at 16 ots.1
  seed ← bytes_at 32 id.1
  Ok (
    record {
      device = record { member = member.0; number = number.0 };
      lms = lms.0;
      ots = ots.0;
      id = id.0;
      seed = seed.0;
    },
    seed.1,
  )

-- the key file of a device that bytes spell, or the place of the first field that is cut short or
-- forbidden, as the number of another member or device is
abbrev pub key_file_of : Device → List ℕ → Result KeyFile ℕ
key_file_of device bytes = whole (key_file_at device) bytes

-- ---- writing

-- the byte of a further device's number
abbrev pub device_number_bytes : ℕ → List ℕ
device_number_bytes number = if number == FIRST_DEVICE then [] else number ∷ []

-- the bytes of a key file
unfoldable pub key_file_bytes : KeyFile → List ℕ
key_file_bytes k = format_of k.device.number
    ++ (to_be_bytes w16 k.device.member ++ (device_number_bytes k.device.number ++ (to_be_bytes w32
    (lms_code_of k.lms) ++ (to_be_bytes w32 (ots_code_of k.ots) ++ (k.id ++ k.seed)))))

-- the widths of one-time keys that a key file may name
abbrev pub IsKeyWidth : OtsType → Type 0
IsKeyWidth ots = (ots ≡ W4) ⊎ (ots ≡ W8)

-- a key file in range
pub record IsKeyFile (k : KeyFile) : Type 0 where
  pub member : k.device.member < 2 ^ 16
  pub number : k.device.number < 2 ^ 8
  pub lms : IsLeafHeight (height_of k.lms)
  pub ots : IsKeyWidth k.ots
  pub id : length k.id ≡ 16
  pub seed : length k.seed ≡ 32

-- ---- the file of another device

-- where the file of one device is malformed as that of another: at the format if one of them is a
-- member's first device, or at the first number that differs
abbrev pub place_of_other : Device → Device → ℕ
place_of_other wanted found =
    if bytes_eq (format_of found.number) (format_of wanted.number)
    then if wanted.member == found.member then 6 else 4
    else 0

-- ---- the key

-- the private key
abbrev pub private_in : KeyFile → LmsPrivate
private_in k = record { lms = k.lms; ots = k.ots; id = k.id; seed = k.seed }
