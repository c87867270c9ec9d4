use Rattle.std.proofs.Common.{◌≡◌, ℕ, ◌+◌, List, length, ap, arith, length-append}
use Rattle.sporc_wire.proofs.Common.{w16, to_be_bytes, to_server_bytes, Hello}
use Rattle.sporc_wire.proofs.to_server.body_len.Goals as goal

hello_len : (document : List ℕ) (member : ℕ) → length (to_server_bytes (Hello document member)) ≡ length document + 3
hello_len document member = omega (arith, length-append document (to_be_bytes w16 member))

pub returns-in-Hello : goal.returns-in-Hello
returns-in-Hello c =
    let len = hello_len c.in-Hello.document c.in-Hello.member in
    let slice = ap length c.as_slice.ensures in
    rw c.in-Hello.is (omega (arith, len, slice, c.saturating_add.ensures))
