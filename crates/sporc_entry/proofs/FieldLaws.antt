-- A role that is read is spelled by the byte that it took, and a spelled role is read again.
use Rattle.std.proofs.Common.{◌≡◌, ℕ, ◌+◌, ◌≤◌, List, [], ◌∷◌, Ok, refl, sym, ap, subst, arith}
use Rattle.sporc_entry.proofs.Common.{◌==◌, w8, eqb-true, IsBytes, Reading, ◌>>=◌, number_within, present, bind_ok, ok_is, present_ok, Takes, byte_takes, byte_again, role_code_of}
use Rattle.sporc_entry.proofs.Common.{role_with_code}
use Rattle.sporc_base.proofs.ListLemmas.{found_passes}
pub use Rattle.sporc_bytes.proofs.Fields.{fault_as_ok}
use Rattle.sporc_member.specs.declared.role.Role.{Role}
use Rattle.sporc_member.specs.declared.role.Role.TheVariants.{Reader, Editor, Admin}
use Rattle.sporc_entry.specs.Fields.{role_at}

-- reading took the bytes that are spelled so, what is left among them
pub record Leaves (old : Reading) (spelled : List ℕ → List ℕ) (new : Reading) : Type 0 where
  pub parts : old.rest ≡ spelled new.rest
  pub bytes : IsBytes new.rest

pub is_one : (n : ℕ) → 1 ≤ n → n ≤ 1 → n ≡ 1
is_one n low high = omega (arith, low, high)

-- ---- roles

pub role_takes : (r : Reading) (x : Role × Reading) → IsBytes r.rest → role_at r ≡ Ok x → Takes r (role_code_of x.0 ∷ []) x.1
unfolding role_at
role_takes r x h e =
    let a = bind_ok (number_within 1 3 w8 r) (λ code. present r.at (role_with_code code.0) >>= λ role. Ok (role, code.1)) x e in
    let b = bind_ok (present r.at (role_with_code a.0.0)) (λ role. Ok (role, a.0.1)) x a.2 in
    let t = byte_takes 1 3 r a.0 (omega arith) h a.1 in
    let code : role_code_of b.0 ≡ a.0.0 = eqb-true _ _ (found_passes (λ role. role_code_of role == a.0.0) (Reader ∷ Editor ∷ Admin ∷ []) b.0 (present_ok r.at (role_with_code a.0.0) b.0 b.1)) in
    let one : a.0.0 ∷ [] ≡ role_code_of b.0 ∷ [] = ap (λ (n : ℕ). n ∷ []) (sym code) in
    let Q : Role × Reading → Type 0 = λ y. Takes r (role_code_of y.0 ∷ []) y.1 in
    subst Q (ok_is (b.0, a.0.1) x b.2) (subst (λ (text : List ℕ). Takes r text a.0.1) one t.0)

pub role_again : (role : Role) (at : ℕ) (rest : List ℕ) → role_at (record { rest = role_code_of role ∷ rest; at = at }) ≡ Ok (role, record { rest = rest; at = at + 1 })
unfolding role_at
role_again Reader at rest = rw (byte_again 1 3 1 at rest (omega arith) (omega arith) (omega arith)) refl
role_again Editor at rest = rw (byte_again 1 3 2 at rest (omega arith) (omega arith) (omega arith)) refl
role_again Admin at rest = rw (byte_again 1 3 3 at rest (omega arith) (omega arith) (omega arith)) refl
