-- The bytes of a public key (RFC 8554, section 5.3): u32 LMS type, u32 LM-OTS type, I, T[1].
use Rattle.std.specs.Prelude.{ℕ, ◌==◌, List, ◌++◌, length, take, drop, Option, None, option_map}
use Rattle.std.specs.Prelude.{option_and_then, if◌then◌else◌}
use Rattle.std.specs.Int.{w32, to_be_bytes}
use Rattle.lms_ots.specs.OtsType.{ots_code_of, ots_type_with_code}
use Rattle.lms_tree.specs.declared.public_key.LmsPublic.{LmsPublic}
use Rattle.lms_tree.specs.LmsType.{lms_code_of, lms_type_with_code}
use Rattle.lms_tree.specs.Fields.{u32_at}

-- the bytes of a key
abbrev pub public_key_bytes : LmsPublic → List ℕ
public_key_bytes key = to_be_bytes w32 (lms_code_of key.lms)
    ++ to_be_bytes w32 (ots_code_of key.ots) ++ key.id ++ key.root

-- the key that these bytes spell: there are 56 of them, with two known type codes
abbrev pub public_key_in : List ℕ → Option LmsPublic
public_key_in bytes =
    if length bytes == 56 then option_and_then (λ lms. option_map (λ ots.
    record { lms = lms; ots = ots; id = take 16 (drop 8 bytes); root = take 32 (drop 24 bytes) })
    (ots_type_with_code (u32_at bytes 4))) (lms_type_with_code (u32_at bytes 0))
    else None
