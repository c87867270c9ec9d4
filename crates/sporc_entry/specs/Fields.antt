-- A field of a role. Reading gives its value and what is left, or the place of the field's first
-- byte.
use Rattle.std.specs.Prelude.{ℕ, Result, Ok}
use Rattle.std.specs.Int.{w8}
use Rattle.sporc_bytes.specs.Fields.{Reading, ◌>>=◌, number_within, present}
use Rattle.sporc_member.specs.declared.role.Role.{Role}
use Rattle.sporc_member.specs.Role.{role_with_code}

-- a role, by its number
unfoldable pub role_at : Reading → Result (Role × Reading) ℕ
role_at r = do
  code ← number_within 1 3 w8 r
  role ← present r.at (role_with_code code.0)
  Ok (role, code.1)
