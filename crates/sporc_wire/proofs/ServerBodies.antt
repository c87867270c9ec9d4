-- A message to a server that is read is spelled so, and one that is spelled so is read again.
use Rattle.std.proofs.Common.{◌≡◌, ℕ, ◌^◌, Bool, true, false, cond, eqb, List, [], ◌∷◌, ◌++◌, Ok, Err, refl, sym, ap, ◌∙◌, subst, arith}
use Rattle.sporc_wire.proofs.Common.{eqb-true, append-nil, w8, w16, w32, to_be_bytes, IsBytes, Reading, number_at, to_server_bytes, bind_ok, ok_is, wide8, wide16, wide32, number_takes, bytes_takes}
use Rattle.sporc_wire.proofs.Common.{bytes_again, u8_again, u16_again, u32_again, end_takes, Hello, Submit, Pull}
use Rattle.sporc_bytes.proofs.Fields.{byte_is}
use Rattle.sporc_wire.specs.declared.to_server.ToServer.{ToServer}
use Rattle.sporc_wire.specs.declared.to_server.TheConstants.{HELLO, SUBMIT, PULL}
use Rattle.sporc_wire.specs.ToServer.{hello_at, pull_at, to_server_of_kind, to_server_of, IsToServer}

-- the message was read from bytes that are these
abbrev IsSpelled : ℕ → List ℕ → ToServer → Type 0
IsSpelled kind rest m = IsToServer m × (kind ∷ rest ≡ to_server_bytes m)

hello_takes : (r : Reading) (m : ToServer) → IsBytes r.rest → hello_at r ≡ Ok m → IsSpelled HELLO r.rest m
unfolding hello_at
hello_takes r m h e =
    let d = bind_ok _ _ m e in
    let n = bind_ok _ _ m d.2 in
    let z = bind_ok _ _ m n.2 in
    let td = bytes_takes 16 r d.0 h d.1 in
    let tn = number_takes w16 (2 ^ 16) wide16 d.0.1 n.0 td.0.bytes n.1 in
    let nothing = end_takes n.0.1 z.1 in
    let tail : d.0.1.rest ≡ to_be_bytes w16 n.0.0 = tn.0.parts ∙ ap (λ (t : List ℕ). to_be_bytes w16 n.0.0 ++ t) nothing ∙ append-nil (to_be_bytes w16 n.0.0) in
    subst (IsSpelled HELLO r.rest) (ok_is (Hello d.0.0 n.0.0) m z.2)
    ((td.1, tn.1), ap (λ (t : List ℕ). HELLO ∷ t) (td.0.parts ∙ ap (λ (t : List ℕ). d.0.0 ++ t) tail))

pull_takes : (r : Reading) (m : ToServer) → IsBytes r.rest → pull_at r ≡ Ok m → IsSpelled PULL r.rest m
unfolding pull_at
pull_takes r m h e =
    let n = bind_ok _ _ m e in
    let z = bind_ok _ _ m n.2 in
    let tn = number_takes w32 (2 ^ 32) wide32 r n.0 h n.1 in
    let nothing = end_takes n.0.1 z.1 in
    let tail : r.rest ≡ to_be_bytes w32 n.0.0 = tn.0.parts ∙ ap (λ (t : List ℕ). to_be_bytes w32 n.0.0 ++ t) nothing ∙ append-nil (to_be_bytes w32 n.0.0) in
    subst (IsSpelled PULL r.rest) (ok_is (Pull n.0.0) m z.2) (tn.1, ap (λ (t : List ℕ). PULL ∷ t) tail)

kind_takes : (kind : ℕ) (r : Reading) (m : ToServer) → IsBytes r.rest → to_server_of_kind kind r ≡ Ok m → IsSpelled kind r.rest m
kind_takes kind r m h e = go (eqb kind HELLO) (eqb kind SUBMIT) (eqb kind PULL) refl refl refl e
  where
    at_kind : (n : ℕ) → eqb kind n ≡ true → IsSpelled n r.rest m → IsSpelled kind r.rest m
    at_kind n k is = let P : ℕ → Type 0 = λ j. IsSpelled j r.rest m in subst P (sym (eqb-true kind n k)) is

    go : (a b c : Bool) → eqb kind HELLO ≡ a → eqb kind SUBMIT ≡ b → eqb kind PULL ≡ c
        → cond a (hello_at r) (cond b (Ok (Submit r.rest)) (cond c (pull_at r) (Err 0))) ≡ Ok m → IsSpelled kind r.rest m
    go true b c p q s e = at_kind HELLO p (hello_takes r m h e)
    go false true c p q s e = at_kind SUBMIT q (subst (IsSpelled SUBMIT r.rest) (ok_is (Submit r.rest) m e) (tt, refl))
    go false false true p q s e = at_kind PULL s (pull_takes r m h e)
    go false false false p q s e = absurd cc

pub to_server_takes : (body : List ℕ) (m : ToServer) → IsBytes body → to_server_of body ≡ Ok m → IsToServer m × (body ≡ to_server_bytes m)
unfolding to_server_of
to_server_takes body m h e =
    let r : Reading = record { rest = body; at = 0 } in
    let k = bind_ok (number_at w8 r) (λ kind. to_server_of_kind kind.0 kind.1) m e in
    let t = number_takes w8 (2 ^ 8) wide8 r k.0 h k.1 in
    let is = kind_takes k.0.0 k.0.1 m t.0.bytes k.2 in
    let whole : body ≡ k.0.0 ∷ k.0.1.rest = t.0.parts ∙ ap (λ (x : List ℕ). x ++ k.0.1.rest) (byte_is k.0.0 t.1) in
    (is.0, whole ∙ is.1)

pub to_server_again : (m : ToServer) → IsToServer m → to_server_of (to_server_bytes m) ≡ Ok m
unfolding to_server_of hello_at pull_at
to_server_again (Hello document member) is =
    let tail = append-nil (to_be_bytes w16 member) in
    rw (
      u8_again HELLO 0 (document ++ to_be_bytes w16 member) (omega arith),
      bytes_again 16 1 document (to_be_bytes w16 member) is.0,
      ap (λ (bs : List ℕ). number_at w16 (record { rest = bs; at = 17 })) (sym tail) ∙ u16_again member 17 [] is.1,
    ) refl
to_server_again (Submit entry) is = rw (u8_again SUBMIT 0 entry (omega arith)) refl
to_server_again (Pull from) is =
    let tail = append-nil (to_be_bytes w32 from) in
    rw (
      u8_again PULL 0 (to_be_bytes w32 from) (omega arith),
      ap (λ (bs : List ℕ). number_at w32 (record { rest = bs; at = 1 })) (sym tail) ∙ u32_again from 1 [] is,
    ) refl
