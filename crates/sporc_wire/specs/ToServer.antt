-- Messages to the server: what the body of a frame says, and the body of each.
--
-- | Message | Body |
-- | Hello | the byte 1, the document's 16 bytes, the member's number as u16 |
-- | Submit | the byte 2, the entry's bytes to the end |
-- | Pull | the byte 3, the position as u32 |
use Rattle.std.specs.Prelude.{◌≡◌, ℕ, ◌<◌, ◌^◌, ◌==◌, List, ◌∷◌, ◌++◌, length, Result, Ok, Err}
use Rattle.std.specs.Prelude.{if◌then◌else◌}
use Rattle.std.specs.Int.{w8, w16, w32, to_be_bytes}
use Rattle.sporc_bytes.specs.Fields.{Reading, ◌>>=◌, bytes_at, number_at, end_at}
use Rattle.sporc_wire.specs.declared.to_server.ToServer.{ToServer}
use Rattle.sporc_wire.specs.declared.to_server.ToServer.TheVariants.{Hello, Submit, Pull}
use Rattle.sporc_wire.specs.declared.to_server.TheConstants.{HELLO, SUBMIT, PULL}

-- ---- reading

unfoldable pub hello_at : Reading → Result ToServer ℕ
hello_at r = do
  document ← bytes_at 16 r
  member ← number_at w16 document.1
  end ← end_at member.1
  Ok (Hello document.0 member.0)

unfoldable pub pull_at : Reading → Result ToServer ℕ
pull_at r = do
  from ← number_at w32 r
  end ← end_at from.1
  Ok (Pull from.0)

-- a message of this kind, whose byte stands at the place of the body's start
abbrev pub to_server_of_kind : ℕ → Reading → Result ToServer ℕ
to_server_of_kind kind r =
    if kind == HELLO then hello_at r
    else if kind == SUBMIT then Ok (Submit r.rest)
    else if kind == PULL then pull_at r
    else Err 0

-- the message that a body is, or the place in it of the first field that is cut short or forbidden
unfoldable pub to_server_of : List ℕ → Result ToServer ℕ
to_server_of body = do
  kind ← number_at w8 (record { rest = body; at = 0 })
  to_server_of_kind kind.0 kind.1

-- ---- writing

-- the body of a message
abbrev pub to_server_bytes : ToServer → List ℕ
to_server_bytes (Hello document member) = HELLO ∷ document ++ to_be_bytes w16 member
to_server_bytes (Submit entry) = SUBMIT ∷ entry
to_server_bytes (Pull from) = PULL ∷ to_be_bytes w32 from

-- the fields are in range
abbrev pub IsToServer : ToServer → Type 0
IsToServer (Hello document member) = (length document ≡ 16) × (member < 2 ^ 16)
IsToServer (Submit entry) = Unit {0}
IsToServer (Pull from) = from < 2 ^ 32
