-- The body of a change that is read is spelled so, and one that is spelled so is read again.
use Rattle.std.proofs.Common.{◌≡◌, ℕ, ◌+◌, ◌^◌, ◌<◌, ◌≤◌, Bool, true, false, cond, eqb, List, [], ◌∷◌, ◌++◌, length, Result, Ok, Err, refl, sym, ap, subst, ◌∙◌, append_assoc, arith}
use Rattle.sporc_entry.proofs.Common.{IfOk, flat_map, w8, w16, to_be_bytes, eqb-true, eqb-false, append-nil, Reading, ◌>>=◌, fault_as, bytes_at, number_at, end_at, number_within, values_at, IsBytes}
use Rattle.sporc_entry.proofs.Common.{bind_ok, ok_is, Takes, Takes-then, wide16, wide8, number_takes, bytes_takes, bytes_again, u8_again, u16_again, end_takes, within_takes, u16_within_again}
use Rattle.sporc_entry.proofs.Common.{fault_as_ok, MAX_MEMBERS, HIGHEST_MEMBER, Add, Remove, SetRole, AddDevice, DropDevice, Upgrade, role_code_of, ChangeBody, Malformed, Memory, GivesUnless, ADD}
use Rattle.sporc_entry.proofs.Common.{REMOVE, SET_ROLE, ADD_DEVICE, DROP_DEVICE, UPGRADE, wrap_bytes, IsChangeBody, has_kind}
use Rattle.sporc_bytes.proofs.Fields.{byte_is}
use Rattle.sporc_bytes.proofs.ListLaws.{values_take, values_again}
use Rattle.sporc_member.specs.declared.change.Change.{Change}
use Rattle.sporc_entry.specs.declared.fault.EntryFault.{EntryFault}
use Rattle.sporc_entry.specs.declared.wrap.Wrap.{Wrap}
use Rattle.sporc_entry.specs.Fields.{role_at}
use Rattle.sporc_member.specs.Device.{IsMember}
use Rattle.sporc_entry.specs.ChangeBody.{kind_at, change_of_device, change_of_member, change_of_kind, change_at, wrap_at, change_body_at, change_body_from, kind_of, change_fields, change_bytes}
use Rattle.sporc_entry.specs.ChangeBody.{change_body_bytes, IsChange, IsWrap}
use Rattle.sporc_entry.proofs.FieldLaws.{Leaves, role_takes, role_again}
use Rattle.sporc_entry.proofs.VersionLaws.{kind_known, kind_takes, kind_again}

-- ---- changes

-- what is read behind a kind is spelled so, and of that kind
abbrev IsBehind : ℕ → Reading → Change × Reading → Type 0
IsBehind kind r x = Leaves r (change_fields x.0) x.1 × IsChange x.0 × (kind_of x.0 ≡ kind)

-- what was read
abbrev done : Change → Reading → Result (Change × Reading) ℕ
done c r = Ok (c, r)

module _ (kind : ℕ) (r1 r2 : Reading) (member : ℕ) (x : Change × Reading) (second : Takes r1 (to_be_bytes w16 member) r2) (is : IsMember member) where
  -- behind the member
  after_member : (t rest : List ℕ) → r2.rest ≡ t ++ rest → r1.rest ≡ to_be_bytes w16 member ++ (t ++ rest)
  after_member t rest e = second.parts ∙ ap (λ (bs : List ℕ). to_be_bytes w16 member ++ bs) e

  add_takes : ADD ≡ kind → (role_at r2 >>= λ role. bytes_at 56 role.1 >>= λ key. done (Add member role.0 key.0) key.1) ≡ Ok x → IsBehind kind r1 x
  add_takes k e =
      let a = bind_ok (role_at r2) (λ role. bytes_at 56 role.1 >>= λ key. done (Add member role.0 key.0) key.1) x e in
      let b = bind_ok (bytes_at 56 a.0.1) (λ key. done (Add member a.0.0 key.0) key.1) x a.2 in
      let ta = role_takes r2 a.0 second.bytes a.1 in
      let tb = bytes_takes 56 a.0.1 b.0 ta.bytes b.1 in
      let parts = after_member (role_code_of a.0.0 ∷ b.0.0) b.0.1.rest (ta.parts ∙ ap (λ (t : List ℕ). role_code_of a.0.0 ∷ t) tb.0.parts) in
      subst (IsBehind kind r1) (ok_is (Add member a.0.0 b.0.0, b.0.1) x b.2) (record { parts = parts; bytes = tb.0.bytes }, (is, tb.1), k)

  remove_takes : REMOVE ≡ kind → done (Remove member) r2 ≡ Ok x → IsBehind kind r1 x
  remove_takes k e = subst (IsBehind kind r1) (ok_is (Remove member, r2) x e) (record { parts = second.parts; bytes = second.bytes }, is, k)

  set_role_takes : SET_ROLE ≡ kind → (role_at r2 >>= λ role. done (SetRole member role.0) role.1) ≡ Ok x → IsBehind kind r1 x
  set_role_takes k e =
      let a = bind_ok (role_at r2) (λ role. done (SetRole member role.0) role.1) x e in
      let ta = role_takes r2 a.0 second.bytes a.1 in
      subst (IsBehind kind r1) (ok_is (SetRole member a.0.0, a.0.1) x a.2) (record { parts = after_member (role_code_of a.0.0 ∷ []) a.0.1.rest ta.parts; bytes = ta.bytes }, is, k)

  device_takes : 4 ≤ kind → kind ≤ 5 → (number_at w8 r2 >>= λ device. change_of_device kind member device.0 device.1) ≡ Ok x → IsBehind kind r1 x
  unfolding change_of_device
  device_takes low high e =
      let d = bind_ok (number_at w8 r2) (λ device. change_of_device kind member device.0 device.1) x e in
      let td = number_takes w8 (2 ^ 8) wide8 r2 d.0 second.bytes d.1 in
      let one : r2.rest ≡ d.0.0 ∷ d.0.1.rest = td.0.parts ∙ ap (λ (t : List ℕ). t ++ d.0.1.rest) (byte_is d.0.0 td.1) in
      go d.0.0 d.0.1 one td.0.bytes td.1 (eqb kind ADD_DEVICE) refl d.2
    where
      go : (device : ℕ) (r3 : Reading) → r2.rest ≡ device ∷ r3.rest → IsBytes r3.rest → device < 2 ^ 8 → (b : Bool) → eqb kind ADD_DEVICE ≡ b
          → cond b (bytes_at 56 r3 >>= λ key. done (AddDevice member device key.0) key.1) (done (DropDevice member device) r3) ≡ Ok x → IsBehind kind r1 x
      go device r3 one bytes small true p e =
          let k = bind_ok (bytes_at 56 r3) (λ key. done (AddDevice member device key.0) key.1) x e in
          let tk = bytes_takes 56 r3 k.0 bytes k.1 in
          let parts = after_member (device ∷ k.0.0) k.0.1.rest (one ∙ ap (λ (t : List ℕ). device ∷ t) tk.0.parts) in
          subst (IsBehind kind r1) (ok_is (AddDevice member device k.0.0, k.0.1) x k.2) (record { parts = parts; bytes = tk.0.bytes }, (is, small, tk.1), sym (eqb-true kind ADD_DEVICE p))
      go device r3 one bytes small false p e =
          let other = eqb-false kind ADD_DEVICE p in
          subst (IsBehind kind r1) (ok_is (DropDevice member device, r3) x e) (record { parts = after_member (device ∷ []) r3.rest one; bytes = bytes }, (is, small), omega (arith, low, high, other))

  member_takes : 1 ≤ kind → kind ≤ 5 → change_of_member kind member r2 ≡ Ok x → IsBehind kind r1 x
  unfolding change_of_member
  member_takes low high e = go (eqb kind ADD) (eqb kind REMOVE) (eqb kind SET_ROLE) refl refl refl e
    where
      go : (a b c : Bool) → eqb kind ADD ≡ a → eqb kind REMOVE ≡ b → eqb kind SET_ROLE ≡ c
          → cond a (role_at r2 >>= λ role. bytes_at 56 role.1 >>= λ key. done (Add member role.0 key.0) key.1)
          (cond b (done (Remove member) r2) (cond c (role_at r2 >>= λ role. done (SetRole member role.0) role.1) (number_at w8 r2 >>= λ device. change_of_device kind member device.0 device.1))) ≡ Ok x
          → IsBehind kind r1 x
      go true b c p q s e = add_takes (sym (eqb-true kind ADD p)) e
      go false true c p q s e = remove_takes (sym (eqb-true kind REMOVE q)) e
      go false false true p q s e = set_role_takes (sym (eqb-true kind SET_ROLE s)) e
      go false false false p q s e =
          let not_one = eqb-false kind ADD p in
          let not_two = eqb-false kind REMOVE q in
          let not_three = eqb-false kind SET_ROLE s in
          device_takes (omega (arith, low, not_one, not_two, not_three)) high e

of_kind_takes : (kind : ℕ) (r : Reading) (x : Change × Reading) → 1 ≤ kind → kind ≤ 6 → IsBytes r.rest → change_of_kind kind r ≡ Ok x → IsBehind kind r x
unfolding change_of_kind
of_kind_takes kind r x low high h e = go (eqb kind UPGRADE) refl e
  where
    go : (b : Bool) → eqb kind UPGRADE ≡ b
        → cond b (done Upgrade r) (number_within 1 HIGHEST_MEMBER w16 r >>= λ member. change_of_member kind member.0 member.1) ≡ Ok x → IsBehind kind r x
    go true p e = subst (IsBehind kind r) (ok_is (Upgrade, r) x e) (record { parts = refl; bytes = h }, tt, sym (eqb-true kind UPGRADE p))
    go false p e =
        let other = eqb-false kind UPGRADE p in
        let m = bind_ok (number_within 1 HIGHEST_MEMBER w16 r) (λ member. change_of_member kind member.0 member.1) x e in
        let tm = within_takes 1 HIGHEST_MEMBER w16 (2 ^ 16) wide16 r m.0 h m.1 in
        member_takes kind r m.0.1 m.0.0 x tm.0 (omega (arith, tm.1), omega (arith, tm.2)) low (omega (arith, high, other)) m.2

-- a change that is read is spelled so, and of a kind that the version has
pub record IsTaken (version : ℕ) (r : Reading) (x : Change × Reading) : Type 0 where
  pub text : Leaves r (change_bytes x.0) x.1
  pub change : IsChange x.0
  pub kind : has_kind version (kind_of x.0) ≡ true

change_takes : (version : ℕ) (r : Reading) (x : Change × Reading) → IsBytes r.rest → change_at version r ≡ Ok x → IsTaken version r x
unfolding change_at
change_takes version r x h e =
    let k = bind_ok (kind_at version r) (λ kind. change_of_kind kind.0 kind.1) x e in
    let tk = kind_takes version r k.0 h k.1 in
    let known = kind_known version k.0.0 tk.1 in
    let t = of_kind_takes k.0.0 k.0.1 x known.0 known.1 tk.0.bytes k.2 in
    record {
      text = record {
        parts = tk.0.parts ∙ ap (λ (bs : List ℕ). k.0.0 ∷ bs) t.0.parts ∙ ap (λ (n : ℕ). n ∷ change_fields x.0 x.1.rest) (sym t.2);
        bytes = t.0.bytes;
      };
      change = t.1;
      kind = ap (has_kind version) t.2 ∙ tk.1;
    }

-- the place after what was read is some place
abbrev ReadsTo : {A : Type 0} → Result (A × Reading) ℕ → A → List ℕ → Type 0
ReadsTo r x rest = (at : ℕ) × (r ≡ Ok (x, record { rest = rest; at = at }))

member_again : (member at : ℕ) (rest : List ℕ) → IsMember member → number_within 1 HIGHEST_MEMBER w16 (record { rest = to_be_bytes w16 member ++ rest; at = at }) ≡ Ok (member, record { rest = rest; at = at + 2 })
member_again member at rest is = u16_within_again 1 HIGHEST_MEMBER member at rest (omega (arith, is.0)) (omega (arith, is.1)) is.1

change_again : (version : ℕ) (c : Change) (at : ℕ) (rest : List ℕ) → has_kind version (kind_of c) ≡ true → IsChange c
    → ReadsTo (change_at version (record { rest = change_bytes c rest; at = at })) c rest
unfolding change_at change_of_kind change_of_member change_of_device
change_again version (Add member role key) at rest had is = (
  at + 1 + 2 + 1 + 56,
  rw (
    kind_again version ADD at (to_be_bytes w16 member ++ (role_code_of role ∷ key ++ rest)) had,
    member_again member (at + 1) (role_code_of role ∷ key ++ rest) is.0,
    role_again role (at + 1 + 2) (key ++ rest),
    bytes_again 56 (at + 1 + 2 + 1) key rest is.1,
  ) refl,
)
change_again version (Remove member) at rest had is = (
  at + 1 + 2,
  rw (
    kind_again version REMOVE at (to_be_bytes w16 member ++ rest) had,
    member_again member (at + 1) rest is,
  ) refl,
)
change_again version (SetRole member role) at rest had is = (
  at + 1 + 2 + 1,
  rw (
    kind_again version SET_ROLE at (to_be_bytes w16 member ++ (role_code_of role ∷ rest)) had,
    member_again member (at + 1) (role_code_of role ∷ rest) is,
    role_again role (at + 1 + 2) rest,
  ) refl,
)
change_again version (AddDevice member device key) at rest had is = (
  at + 1 + 2 + 1 + 56,
  rw (
    kind_again version ADD_DEVICE at (to_be_bytes w16 member ++ (device ∷ key ++ rest)) had,
    member_again member (at + 1) (device ∷ key ++ rest) is.0,
    u8_again device (at + 1 + 2) (key ++ rest) is.1,
    bytes_again 56 (at + 1 + 2 + 1) key rest is.2,
  ) refl,
)
change_again version (DropDevice member device) at rest had is = (
  at + 1 + 2 + 1,
  rw (
    kind_again version DROP_DEVICE at (to_be_bytes w16 member ++ (device ∷ rest)) had,
    member_again member (at + 1) (device ∷ rest) is.0,
    u8_again device (at + 1 + 2) rest is.1,
  ) refl,
)
change_again version Upgrade at rest had is = (at + 1, rw (kind_again version UPGRADE at rest had) refl)

-- ---- sealed keys

wrap_takes : (r : Reading) (x : Wrap × Reading) → IsBytes r.rest → wrap_at r ≡ Ok x → Takes r (wrap_bytes x.0) x.1 × IsWrap x.0
unfolding wrap_at
wrap_takes r x h e =
    let a = bind_ok _ _ x e in
    let b = bind_ok _ _ x a.2 in
    let ta = number_takes w16 (2 ^ 16) wide16 r a.0 h a.1 in
    let tb = bytes_takes 32 a.0.1 b.0 ta.0.bytes b.1 in
    let made : Wrap × Reading = (record { member = a.0.0; sealed = b.0.0 }, b.0.1) in
    let P : Wrap × Reading → Type 0 = λ y. Takes r (wrap_bytes y.0) y.1 × IsWrap y.0 in
    subst P (ok_is made x b.2) (Takes-then r (to_be_bytes w16 a.0.0) a.0.1 b.0.0 b.0.1 ta.0 tb.0, record { member = ta.1; sealed = tb.1 })

wrap_again : (w : Wrap) (at : ℕ) (rest : List ℕ) → IsWrap w → wrap_at (record { rest = wrap_bytes w ++ rest; at = at }) ≡ Ok (w, record { rest = rest; at = at + 2 + 32 })
unfolding wrap_at
wrap_again w at rest is =
    let regrouped : wrap_bytes w ++ rest ≡ to_be_bytes w16 w.member ++ (w.sealed ++ rest) = append_assoc (to_be_bytes w16 w.member) w.sealed rest in
    ap (λ (bs : List ℕ). wrap_at (record { rest = bs; at = at })) regrouped ∙ rw (u16_again w.member at (w.sealed ++ rest) is.member, bytes_again 32 (at + 2) w.sealed rest is.sealed) refl

-- ---- bodies of changes

-- the bytes of a body, and those after them
abbrev body_bytes : ChangeBody → List ℕ → List ℕ
body_bytes c rest = change_bytes c.change (c.commitment ++ (c.previous ++ (to_be_bytes w16 (length c.wraps) ++ (flat_map wrap_bytes c.wraps ++ rest))))

body_parts : (c : ChangeBody) (r0 r1 r2 r3 r4 r5 : List ℕ) → r0 ≡ change_bytes c.change r1 → r1 ≡ c.commitment ++ r2 → r2 ≡ c.previous ++ r3 → r3 ≡ to_be_bytes w16 (length c.wraps) ++ r4
    → r4 ≡ flat_map wrap_bytes c.wraps ++ r5 → r0 ≡ body_bytes c r5
body_parts c r0 r1 r2 r3 r4 r5 e0 e1 e2 e3 e4 = rw (e0, e1, e2, e3, e4) refl

fields_take : (version : ℕ) (r : Reading) (x : ChangeBody × Reading) → IsBytes r.rest → change_body_at version r ≡ Ok x → Leaves r (body_bytes x.0) x.1 × IsChangeBody version x.0
unfolding change_body_at
fields_take version r x h e =
    let a = bind_ok _ _ x e in
    let b = bind_ok _ _ x a.2 in
    let c = bind_ok _ _ x b.2 in
    let n = bind_ok _ _ x c.2 in
    let w = bind_ok _ _ x n.2 in
    let ta = change_takes version r a.0 h a.1 in
    let tb = bytes_takes 32 a.0.1 b.0 ta.text.bytes b.1 in
    let tc = bytes_takes 32 b.0.1 c.0 tb.0.bytes c.1 in
    let tn = within_takes 0 MAX_MEMBERS w16 (2 ^ 16) wide16 c.0.1 n.0 tc.0.bytes n.1 in
    let tw = values_take wrap_at wrap_bytes IsWrap wrap_takes n.0.0 n.0.1 w.0 tn.0.bytes w.1 in
    let body : ChangeBody = record { change = a.0.0; commitment = b.0.0; previous = c.0.0; wraps = w.0.0 } in
    let made : ChangeBody × Reading = (body, w.0.1) in
    let counted : c.0.1.rest ≡ to_be_bytes w16 (length w.0.0) ++ n.0.1.rest = tn.0.parts ∙ ap (λ (k : ℕ). to_be_bytes w16 k ++ n.0.1.rest) (sym tw.count) in
    subst (λ (y : ChangeBody × Reading). Leaves r (body_bytes y.0) y.1 × IsChangeBody version y.0) {x = made} {y = x} (ok_is made x w.2) (
      record { parts = body_parts body r.rest a.0.1.rest b.0.1.rest c.0.1.rest n.0.1.rest w.0.1.rest ta.text.parts tb.0.parts tc.0.parts counted tw.text.parts; bytes = tw.text.bytes },
      record { kind = ta.kind; change = ta.change; commitment = tb.1; previous = tc.1; count = omega (arith, tw.count, tn.2); wraps = tw.each },
    )

pub change_body_takes : (version at : ℕ) (bytes : List ℕ) (c : ChangeBody) → IsBytes bytes → change_body_from version at bytes ≡ Ok c → IsChangeBody version c × (bytes ≡ change_body_bytes c)
unfolding change_body_from change_body_bytes
change_body_takes version at bytes c h e =
    let r : Reading = record { rest = bytes; at = at } in
    let a = bind_ok (change_body_at version r) (λ body. end_at body.1 >>= λ end. Ok body.0) c e in
    let b = bind_ok (end_at a.0.1) (λ end. Ok a.0.0) c a.2 in
    let t = fields_take version r a.0 h a.1 in
    let nothing : a.0.1.rest ≡ [] = end_takes a.0.1 b.1 in
    let tail : flat_map wrap_bytes a.0.0.wraps ++ a.0.1.rest ≡ flat_map wrap_bytes a.0.0.wraps = ap (λ (rest : List ℕ). flat_map wrap_bytes a.0.0.wraps ++ rest) nothing ∙ append-nil (flat_map wrap_bytes a.0.0.wraps) in
    let whole : bytes ≡ change_body_bytes a.0.0 =
    t.0.parts ∙ ap (λ (bs : List ℕ). change_bytes a.0.0.change (a.0.0.commitment ++ (a.0.0.previous ++ (to_be_bytes w16 (length a.0.0.wraps) ++ bs)))) tail in
    subst (λ (y : ChangeBody). IsChangeBody version y × (bytes ≡ change_body_bytes y)) (ok_is a.0.0 c b.2) (t.1, whole)

pub change_body_again : (version at : ℕ) (c : ChangeBody) → IsChangeBody version c → change_body_from version at (change_body_bytes c) ≡ Ok c
unfolding change_body_from change_body_at change_body_bytes
change_body_again version at c is =
    let tail : List ℕ = to_be_bytes w16 (length c.wraps) ++ flat_map wrap_bytes c.wraps in
    let first = change_again version c.change at (c.commitment ++ (c.previous ++ tail)) is.kind is.change in
    let wraps = values_again wrap_at wrap_bytes IsWrap (λ w at rest is. (at + 2 + 32, wrap_again w at rest is)) c.wraps (first.0 + 32 + 32 + 2) [] is.wraps in
    let regrouped : flat_map wrap_bytes c.wraps ++ [] ≡ flat_map wrap_bytes c.wraps = append-nil (flat_map wrap_bytes c.wraps) in
    let last : values_at wrap_at (length c.wraps) (record { rest = flat_map wrap_bytes c.wraps; at = first.0 + 32 + 32 + 2 }) ≡ Ok (c.wraps, record { rest = []; at = wraps.0 }) =
    ap (λ (bs : List ℕ). values_at wrap_at (length c.wraps) (record { rest = bs; at = first.0 + 32 + 32 + 2 })) (sym regrouped) ∙ wraps.1 in
    rw (
      first.1,
      bytes_again 32 first.0 c.commitment (c.previous ++ tail) is.commitment,
      bytes_again 32 (first.0 + 32) c.previous tail is.previous,
      u16_within_again 0 MAX_MEMBERS (length c.wraps) (first.0 + 32 + 32) (flat_map wrap_bytes c.wraps) (omega arith) is.count (omega (arith, is.count)),
      last,
    ) refl

-- what a call that read so found
pub change_found : (version : ℕ) (bytes : List ℕ) (r : Result ChangeBody EntryFault) → IsBytes bytes → GivesUnless Memory (λ c. c) r (fault_as Malformed (change_body_from version 0 bytes))
    → IfOk r (λ c. IsChangeBody version c × (bytes ≡ change_body_bytes c))
change_found version bytes (Ok c) h read = change_body_takes version 0 bytes c h (fault_as_ok Malformed (change_body_from version 0 bytes) c read)
change_found version bytes (Err fault) h read = tt

pub change_only : (version : ℕ) (bytes : List ℕ) (r : Result ChangeBody EntryFault) → GivesUnless Memory (λ c. c) r (fault_as Malformed (change_body_from version 0 bytes))
    → (c : ChangeBody) → IsChangeBody version c → bytes ≡ change_body_bytes c → GivesUnless Memory (λ c. c) r (Ok c)
change_only version bytes r read c is e =
    let P : Result ChangeBody EntryFault → Type 0 = λ given. GivesUnless Memory (λ c. c) r given in
    subst P (ap (λ (bs : List ℕ). fault_as Malformed (change_body_from version 0 bs)) e ∙ ap (fault_as Malformed) (change_body_again version 0 c is)) read
