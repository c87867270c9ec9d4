-- A message to a client that is read is spelled so, and one that is spelled so is read again.
use Rattle.std.proofs.Common.{◌≡◌, ℕ, zero, suc, ◌+◌, ◌-◌, ◌^◌, ◌<◌, ◌≤◌, Bool, true, false, cond, eqb, List, [], ◌∷◌, ◌++◌, length, Result, Ok, Err, refl, sym, ap, ◌∙◌, subst, arith, append_assoc, length-append}
use Rattle.sporc_wire.proofs.Common.{present_ok, eqb-true, append-nil, flat_map, w8, w32, to_be_bytes, IsBytes, Reading, ◌>>=◌, number_at, counted_at, counted, end_at, MAX_BODY, Ordered, Rejected}
use Rattle.sporc_wire.proofs.Common.{Entries, Empty, to_client_bytes, bind_ok, ok_is, Takes, Takes-then, Takes-nothing, wide8, wide32, number_takes, u8_again, u32_again, counted_takes, counted_again}
use Rattle.sporc_wire.proofs.Common.{end_takes, byte_takes, byte_again, refusal_code_of, ORDERED, REJECTED, ENTRIES, EMPTY, MAX_PULLED, MAX_CODE, refusal_detail_of, refusal_with}
use Rattle.std.proofs.lemmas.List.Concat.{flat_map-cons}
use Rattle.sporc_bytes.proofs.Fields.{byte_is}
use Rattle.sporc_bytes.specs.Fields.{values_at}
use Rattle.sporc_wire.specs.declared.to_client.ToClient.{ToClient}
use Rattle.sporc_wire.specs.ToClient.{ordered_at, rejected_at, entries_at, empty_at, to_client_of_kind, to_client_of, IsToClient}
use Rattle.sporc_wire.proofs.RefusalNumbers.{refusal_takes, refusal_again, code_within}

-- the message was read from bytes that are these
abbrev IsSpelled : ℕ → List ℕ → ToClient → Type 0
IsSpelled kind rest m = IsToClient m × (kind ∷ rest ≡ to_client_bytes m)

-- a last number, and nothing after it
last_number : (r : Reading) (n : ℕ × Reading) → IsBytes r.rest → number_at w32 r ≡ Ok n → end_at n.1 ≡ Ok tt → (n.0 < 2 ^ 32) × (r.rest ≡ to_be_bytes w32 n.0)
last_number r n h e z =
    let t = number_takes w32 (2 ^ 32) wide32 r n h e in
    (t.1, t.0.parts ∙ ap (λ (x : List ℕ). to_be_bytes w32 n.0 ++ x) (end_takes n.1 z) ∙ append-nil (to_be_bytes w32 n.0))

ordered_takes : (r : Reading) (m : ToClient) → IsBytes r.rest → ordered_at r ≡ Ok m → IsSpelled ORDERED r.rest m
unfolding ordered_at
ordered_takes r m h e =
    let n = bind_ok _ _ m e in
    let z = bind_ok _ _ m n.2 in
    let is = last_number r n.0 h n.1 z.1 in
    subst (IsSpelled ORDERED r.rest) (ok_is (Ordered n.0.0) m z.2) (is.0, ap (λ (t : List ℕ). ORDERED ∷ t) is.1)

empty_takes : (r : Reading) (m : ToClient) → empty_at r ≡ Ok m → IsSpelled EMPTY r.rest m
unfolding empty_at
empty_takes r m e =
    let z = bind_ok _ _ m e in
    subst (IsSpelled EMPTY r.rest) (ok_is Empty m z.2) (tt, ap (λ (t : List ℕ). EMPTY ∷ t) (end_takes r z.1))

rejected_takes : (r : Reading) (m : ToClient) → IsBytes r.rest → rejected_at r ≡ Ok m → IsSpelled REJECTED r.rest m
unfolding rejected_at
rejected_takes r m h e =
    let code = bind_ok _ _ m e in
    let detail = bind_ok _ _ m code.2 in
    let refusal = bind_ok _ _ m detail.2 in
    let z = bind_ok _ _ m refusal.2 in
    let tc = byte_takes 1 MAX_CODE r code.0 (omega arith) h code.1 in
    let td = last_number code.0.1 detail.0 tc.0.bytes detail.1 z.1 in
    let is = refusal_takes code.0.0 detail.0.0 refusal.0 tc.1 (present_ok code.0.1.at (refusal_with code.0.0 detail.0.0) refusal.0 refusal.1) in
    let spelled : r.rest ≡ refusal_code_of refusal.0 ∷ to_be_bytes w32 (refusal_detail_of refusal.0) =
    tc.0.parts ∙ ap (λ (t : List ℕ). code.0.0 ∷ t) td.1
    ∙ ap (λ (n : ℕ). n ∷ to_be_bytes w32 detail.0.0) (sym is.code)
    ∙ ap (λ (n : ℕ). refusal_code_of refusal.0 ∷ to_be_bytes w32 n) (sym is.detail) in
    subst (IsSpelled REJECTED r.rest) (ok_is (Rejected refusal.0) m z.2)
    ((is.kind, omega (arith, td.0, is.detail)), ap (λ (t : List ℕ). REJECTED ∷ t) spelled)

-- ---- counted entries

list_takes : (n : ℕ) (r : Reading) (x : List (List ℕ) × Reading) → IsBytes r.rest → values_at (counted_at (2 ^ 32 - 1)) n r ≡ Ok x → Takes r (flat_map counted x.0) x.1 × (length x.0 ≡ n)
unfolding values_at
list_takes zero r x h e =
    let P : List (List ℕ) × Reading → Type 0 = λ y. Takes r (flat_map counted y.0) y.1 × (length y.0 ≡ 0) in
    subst P (ok_is ([], r) x e) (Takes-nothing r h, refl)
list_takes (suc n) r x h e =
    let a = bind_ok (counted_at (2 ^ 32 - 1) r) (λ first. values_at (counted_at (2 ^ 32 - 1)) n first.1 >>= λ others. Ok (first.0 ∷ others.0, others.1)) x e in
    let b = bind_ok (values_at (counted_at (2 ^ 32 - 1)) n a.0.1) (λ others. Ok (a.0.0 ∷ others.0, others.1)) x a.2 in
    let first = counted_takes (2 ^ 32 - 1) r a.0 h a.1 in
    let second = list_takes n a.0.1 b.0 first.0.bytes b.1 in
    let both : Takes r (counted a.0.0 ++ flat_map counted b.0.0) b.0.1 = Takes-then r (counted a.0.0) a.0.1 (flat_map counted b.0.0) b.0.1 first.0 second.0 in
    let made : List (List ℕ) × Reading = (a.0.0 ∷ b.0.0, b.0.1) in
    let P : List (List ℕ) × Reading → Type 0 = λ y. Takes r (flat_map counted y.0) y.1 × (length y.0 ≡ suc n) in
    subst P (ok_is made x b.2) (rw flat_map-cons both, ap suc second.1)

-- the place after what was read is some place
abbrev ReadsTo : {A : Type 0} → Result (A × Reading) ℕ → A → List ℕ → Type 0
ReadsTo r x rest = (at : ℕ) × (r ≡ Ok (x, record { rest = rest; at = at }))

list_again : (es : List (List ℕ)) (at : ℕ) (rest : List ℕ) → length (flat_map counted es) ≤ MAX_BODY
    → ReadsTo (values_at (counted_at (2 ^ 32 - 1)) (length es) (record { rest = flat_map counted es ++ rest; at = at })) es rest
unfolding values_at
list_again [] at rest small = (at, refl)
list_again (e ∷ es) at rest small =
    let parts : flat_map counted (e ∷ es) ≡ counted e ++ flat_map counted es = flat_map-cons counted e es in
    let len = ap length parts in
    let sum = length-append (counted e) (flat_map counted es) in
    let one = length-append (to_be_bytes w32 (length e)) e in
    let others = list_again es (at + 4 + length e) rest (omega (arith, small, len, sum)) in
    let regrouped : flat_map counted (e ∷ es) ++ rest ≡ counted e ++ (flat_map counted es ++ rest) =
    ap (λ (bs : List ℕ). bs ++ rest) parts ∙ append_assoc (counted e) (flat_map counted es) rest in
    let fits : length e ≤ 2 ^ 32 - 1 = omega (arith, small, len, sum, one) in (
      others.0,
      ap (λ (bs : List ℕ). values_at (counted_at (2 ^ 32 - 1)) (suc (length es)) (record { rest = bs; at = at })) regrouped
          ∙ rw (counted_again (2 ^ 32 - 1) at e (flat_map counted es ++ rest) (omega (arith, fits)) fits, others.1) refl,
    )

entries_takes : (r : Reading) (m : ToClient) → IsBytes r.rest → entries_at r ≡ Ok m → IsSpelled ENTRIES r.rest m
unfolding entries_at
entries_takes r m h e =
    let first = bind_ok _ _ m e in
    let count = bind_ok _ _ m first.2 in
    let list = bind_ok _ _ m count.2 in
    let z = bind_ok _ _ m list.2 in
    let tf = number_takes w32 (2 ^ 32) wide32 r first.0 h first.1 in
    let tc = byte_takes 1 MAX_PULLED first.0.1 count.0 (omega arith) tf.0.bytes count.1 in
    let tl = list_takes count.0.0 count.0.1 list.0 tc.0.bytes list.1 in
    let tail : count.0.1.rest ≡ flat_map counted list.0.0 =
    tl.0.parts ∙ ap (λ (t : List ℕ). flat_map counted list.0.0 ++ t) (end_takes list.0.1 z.1) ∙ append-nil (flat_map counted list.0.0) in
    let spelled : r.rest ≡ to_be_bytes w32 first.0.0 ++ (length list.0.0 ∷ flat_map counted list.0.0) =
    tf.0.parts ∙ ap (λ (t : List ℕ). to_be_bytes w32 first.0.0 ++ t) (tc.0.parts ∙ ap (λ (t : List ℕ). count.0.0 ∷ t) tail ∙ ap (λ (n : ℕ). n ∷ flat_map counted list.0.0) (sym tl.1)) in
    subst (IsSpelled ENTRIES r.rest) (ok_is (Entries first.0.0 list.0.0) m z.2)
    ((tf.1, omega (arith, tc.1, tl.1), omega (arith, tc.2, tl.1)), ap (λ (t : List ℕ). ENTRIES ∷ t) spelled)

kind_takes : (kind : ℕ) (r : Reading) (m : ToClient) → IsBytes r.rest → to_client_of_kind kind r ≡ Ok m → IsSpelled kind r.rest m
kind_takes kind r m h e = go (eqb kind ORDERED) (eqb kind REJECTED) (eqb kind ENTRIES) (eqb kind EMPTY) refl refl refl refl e
  where
    at_kind : (n : ℕ) → eqb kind n ≡ true → IsSpelled n r.rest m → IsSpelled kind r.rest m
    at_kind n k is = let P : ℕ → Type 0 = λ j. IsSpelled j r.rest m in subst P (sym (eqb-true kind n k)) is

    go : (a b c d : Bool) → eqb kind ORDERED ≡ a → eqb kind REJECTED ≡ b → eqb kind ENTRIES ≡ c → eqb kind EMPTY ≡ d
        → cond a (ordered_at r) (cond b (rejected_at r) (cond c (entries_at r) (cond d (empty_at r) (Err 0)))) ≡ Ok m → IsSpelled kind r.rest m
    go true b c d p q s t e = at_kind ORDERED p (ordered_takes r m h e)
    go false true c d p q s t e = at_kind REJECTED q (rejected_takes r m h e)
    go false false true d p q s t e = at_kind ENTRIES s (entries_takes r m h e)
    go false false false true p q s t e = at_kind EMPTY t (empty_takes r m e)
    go false false false false p q s t e = absurd cc

pub to_client_takes : (body : List ℕ) (m : ToClient) → IsBytes body → to_client_of body ≡ Ok m → IsToClient m × (body ≡ to_client_bytes m)
unfolding to_client_of
to_client_takes body m h e =
    let r : Reading = record { rest = body; at = 0 } in
    let k = bind_ok (number_at w8 r) (λ kind. to_client_of_kind kind.0 kind.1) m e in
    let t = number_takes w8 (2 ^ 8) wide8 r k.0 h k.1 in
    let is = kind_takes k.0.0 k.0.1 m t.0.bytes k.2 in
    let whole : body ≡ k.0.0 ∷ k.0.1.rest = t.0.parts ∙ ap (λ (x : List ℕ). x ++ k.0.1.rest) (byte_is k.0.0 t.1) in
    (is.0, whole ∙ is.1)

-- a last number is read again
last_again : (n at : ℕ) → n < 2 ^ 32 → number_at w32 (record { rest = to_be_bytes w32 n; at = at }) ≡ Ok (n, record { rest = []; at = at + 4 })
last_again n at lt = ap (λ (bs : List ℕ). number_at w32 (record { rest = bs; at = at })) (sym (append-nil (to_be_bytes w32 n))) ∙ u32_again n at [] lt

pub to_client_again : (m : ToClient) → IsToClient m → length (to_client_bytes m) ≤ MAX_BODY → to_client_of (to_client_bytes m) ≡ Ok m
unfolding to_client_of ordered_at rejected_at entries_at empty_at
to_client_again (Ordered position) is small = rw (u8_again ORDERED 0 (to_be_bytes w32 position) (omega arith), last_again position 1 is) refl
to_client_again (Rejected refusal) is small =
    let within = code_within refusal is.0 in
    rw (
      u8_again REJECTED 0 (refusal_code_of refusal ∷ to_be_bytes w32 (refusal_detail_of refusal)) (omega arith),
      byte_again 1 MAX_CODE (refusal_code_of refusal) 1 (to_be_bytes w32 (refusal_detail_of refusal)) within.0 within.1 (omega (arith, within.1)),
      last_again (refusal_detail_of refusal) 2 is.1,
      refusal_again refusal is.0,
    ) refl
to_client_again (Entries first entries) is small =
    let list : List ℕ = flat_map counted entries in
    let len = length-append (to_be_bytes w32 first) (length entries ∷ flat_map counted entries) in
    let again = list_again entries 6 [] (omega (arith, small, len)) in
    let last : values_at (counted_at (2 ^ 32 - 1)) (length entries) (record { rest = flat_map counted entries; at = 6 }) ≡ Ok (entries, record { rest = []; at = again.0 }) =
    ap (λ (bs : List ℕ). values_at (counted_at (2 ^ 32 - 1)) (length entries) (record { rest = bs; at = 6 })) (sym (append-nil (flat_map counted entries))) ∙ again.1 in
    rw (
      u8_again ENTRIES 0 (to_be_bytes w32 first ++ (length entries ∷ flat_map counted entries)) (omega arith),
      u32_again first 1 (length entries ∷ flat_map counted entries) is.0,
      byte_again 1 MAX_PULLED (length entries) 5 (flat_map counted entries) is.1 is.2 (omega (arith, is.2)),
      last,
    ) refl
to_client_again Empty is small = rw (u8_again EMPTY 0 [] (omega arith)) refl
