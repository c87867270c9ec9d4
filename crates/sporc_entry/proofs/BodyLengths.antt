-- How long the body of a change is.
use Rattle.std.proofs.Common.{◌≡◌, ℕ, ◌+◌, ◌*◌, ◌≤◌, List, [], ◌∷◌, ◌++◌, length, refl, ap, arith, length-append}
use Rattle.sporc_entry.proofs.Common.{w16, to_be_bytes, flat_map, MAX_MEMBERS, Add, Remove, SetRole, AddDevice, DropDevice, Upgrade, role_code_of, ChangeBody, wrap_bytes}
use Rattle.std.specs.List.{AllByRecursion}
use Rattle.std.proofs.lemmas.List.Concat.{flat_map-cons}
use Rattle.sporc_member.specs.declared.change.Change.{Change}
use Rattle.sporc_entry.specs.declared.wrap.Wrap.{Wrap}
use Rattle.sporc_entry.specs.ChangeBody.{change_bytes, change_body_bytes, ChangeWith, IsKey}

length-change : (Member Device : ℕ → Type 0) (c : Change) (rest : List ℕ) → ChangeWith Member Device IsKey c → length (change_bytes c rest) ≤ 60 + length rest
length-change Member Device (Add member role key) rest is = omega (arith, is.1, length-append (to_be_bytes w16 member) (role_code_of role ∷ key ++ rest), length-append key rest)
length-change Member Device (Remove member) rest is = omega (arith, length-append (to_be_bytes w16 member) rest)
length-change Member Device (SetRole member role) rest is = omega (arith, length-append (to_be_bytes w16 member) (role_code_of role ∷ rest))
length-change Member Device (AddDevice member device key) rest is = omega (arith, is.2, length-append (to_be_bytes w16 member) (device ∷ key ++ rest), length-append key rest)
length-change Member Device (DropDevice member device) rest is = omega (arith, length-append (to_be_bytes w16 member) (device ∷ rest))
length-change Member Device Upgrade rest is = omega arith

-- of wraps whose sealed keys have 32 bytes
length-wraps : (P : Wrap → Type 0) → ((w : Wrap) → P w → length w.sealed ≡ 32) → (ws : List Wrap) → AllByRecursion P ws → length (flat_map wrap_bytes ws) ≡ 34 * length ws
length-wraps P sealed [] all = refl
length-wraps P sealed (w ∷ ws) all =
    omega (
      arith,
      ap length (flat_map-cons wrap_bytes w ws),
      length-append (wrap_bytes w) (flat_map wrap_bytes ws),
      length-append (to_be_bytes w16 w.member) w.sealed,
      sealed w all.0,
      length-wraps P sealed ws all.1,
    )

-- of a body whose parts have the sizes of their fields
pub length-body : (Member Device : ℕ → Type 0) (P : Wrap → Type 0) (b : ChangeBody) → ChangeWith Member Device IsKey b.change → length b.commitment ≡ 32 → length b.previous ≡ 32
    → ((w : Wrap) → P w → length w.sealed ≡ 32) → AllByRecursion P b.wraps → length b.wraps ≤ MAX_MEMBERS → length (change_body_bytes b) ≤ 2302
unfolding change_body_bytes
length-body Member Device P b change commitment previous sealed wraps few =
    let counted = to_be_bytes w16 (length b.wraps) ++ flat_map wrap_bytes b.wraps in
    omega (
      arith,
      length-change Member Device b.change (b.commitment ++ (b.previous ++ counted)) change,
      length-append b.commitment (b.previous ++ counted),
      length-append b.previous counted,
      length-append (to_be_bytes w16 (length b.wraps)) (flat_map wrap_bytes b.wraps),
      length-wraps P sealed b.wraps wraps,
      commitment,
      previous,
      few,
    )
