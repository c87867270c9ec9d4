-- A field that is read is spelled by the bytes that it took, and a spelled field is read again.
use Rattle.std.proofs.Common.{◌≡◌, ℕ, ◌+◌, ◌^◌, ◌<◌, ◌≤◌, Bool, true, false, cond, ltb, leb, List, [], ◌∷◌, ◌++◌, length, take, drop, Option, Some, None, Result, Ok, Err, refl, sym, ap, subst, ◌∙◌}
use Rattle.std.proofs.Common.{append_assoc, arith}
use Rattle.std.specs.Int.{Width, w8, w16, w32, byte_len, from_be_bytes, to_be_bytes}
use Rattle.std.specs.Prelude.{◌&&◌}
use Rattle.std.proofs.lemmas.Bool.{ltb-false, le-ltb, leb-true, le-leb, and_parts}
use Rattle.std.proofs.lemmas.List.{take_at, drop_at, take-append-drop, length-append, length-take, length-drop}
use Rattle.std.proofs.lemmas.Nat.{be_bytes_2, be_bytes_4, from_be_bytes-to_be_bytes_2, from_be_bytes-to_be_bytes_4}
use Rattle.sporc_base.specs.Bytes.{IsBytes}
use Rattle.sporc_base.proofs.ByteLemmas.{IsBytes-drop, IsBytes-take}
use Rattle.sporc_bytes.specs.Fields.{Reading, past, ◌>>=◌, fault_as, bytes_at, number_at, number_within, only_if, present, counted_at, counted, end_at}

-- ---- steps

-- the value of a step that did not fail
pub bind_ok : {A B F : Type 0} (r : Result A F) (f : A → Result B F) (y : B) → (r >>= f) ≡ Ok y → (x : A) × (r ≡ Ok x) × (f x ≡ Ok y)
bind_ok (Ok x) f y e = (x, refl, e)
bind_ok (Err d) f y e = absurd cc

-- a value whose fault is told in other words
pub fault_as_ok : {A D F : Type 0} (f : D → F) (r : Result A D) (x : A) → fault_as f r ≡ Ok x → r ≡ Ok x
fault_as_ok f (Ok y) x e = cc
fault_as_ok f (Err d) x e = absurd cc

abbrev done : {A : Type 0} → (F : Type 0) → A → Result A F
done F x = Ok x

pub ok_is : {A : Type 0} {F : Type 0} (x y : A) → done F x ≡ done F y → x ≡ y
ok_is x y e = cc

-- a value that is allowed
pub only_if_ok : {A F : Type 0} (b : Bool) (at : F) (x y : A) → only_if b at x ≡ Ok y → (b ≡ true) × (x ≡ y)
only_if_ok true at x y e = (refl, cc)
only_if_ok false at x y e = absurd cc

-- a value that there is
pub present_ok : {A : Type 0} (at : ℕ) (o : Option A) (x : A) → present at o ≡ Ok x → o ≡ Some x
present_ok at None x e = absurd cc
present_ok at (Some y) x e = ap (λ z. Some z) (ok_is y x e)

-- what reading took
pub record Takes (old : Reading) (text : List ℕ) (new : Reading) : Type 0 where
  pub parts : old.rest ≡ text ++ new.rest
  pub at : new.at ≡ old.at + length text
  pub bytes : IsBytes new.rest

pub Takes-then : (a : Reading) (x : List ℕ) (b : Reading) (y : List ℕ) (c : Reading) → Takes a x b → Takes b y c → Takes a (x ++ y) c
Takes-then a x b y c p q = record {
  parts = p.parts ∙ ap (λ (t : List ℕ). x ++ t) q.parts ∙ sym (append_assoc x y c.rest);
  at = q.at ∙ omega (arith, p.at, length-append x y);
  bytes = q.bytes;
}

pub Takes-nothing : (r : Reading) → IsBytes r.rest → Takes r [] r
Takes-nothing r h = record { parts = refl; at = omega arith; bytes = h }

-- ---- so many bytes

taken : (n : ℕ) (r : Reading) (x : List ℕ × Reading) (b : Bool) → cond b (Err r.at) (Ok (take n r.rest, past n r)) ≡ Ok x → (b ≡ false) × ((take n r.rest, past n r) ≡ x)
taken n r x true e = absurd cc
taken n r x false e = (refl, cc)

pub bytes_takes : (n : ℕ) (r : Reading) (x : List ℕ × Reading) → IsBytes r.rest → bytes_at n r ≡ Ok x → Takes r x.0 x.1 × (length x.0 ≡ n) × IsBytes x.0
unfolding bytes_at
bytes_takes n r x h e =
    let g = taken n r x (ltb (length r.rest) n) e in
    let long : n ≤ length r.rest = ltb-false _ _ g.0 in
    let len : length (take n r.rest) ≡ n = omega (arith, length-take n r.rest) in
    subst (λ (y : List ℕ × Reading). Takes r y.0 y.1 × (length y.0 ≡ n) × IsBytes y.0) g.1
    (record { parts = sym (take-append-drop n r.rest); at = omega (arith, len); bytes = IsBytes-drop n r.rest h }, len, IsBytes-take n r.rest h)

-- what is left after so many bytes
pub bytes_len : (n : ℕ) (r : Reading) (x : List ℕ × Reading) → bytes_at n r ≡ Ok x → n + length x.1.rest ≡ length r.rest
unfolding bytes_at
bytes_len n r x e =
    let g = taken n r x (ltb (length r.rest) n) e in
    let len : length (drop n r.rest) ≡ length x.1.rest = ap (λ (y : List ℕ × Reading). length y.1.rest) g.1 in
    omega (arith, ltb-false _ _ g.0, length-drop n r.rest, len)

pub bytes_again : (n at : ℕ) (xs rest : List ℕ) → length xs ≡ n → bytes_at n (record { rest = xs ++ rest; at = at }) ≡ Ok (xs, record { rest = rest; at = at + n })
unfolding bytes_at
bytes_again n at xs rest h =
    let long : ltb (length (xs ++ rest)) n ≡ false = le-ltb (length (xs ++ rest)) n (omega (arith, length-append xs rest, h)) in
    rw (long, take_at xs rest n h, drop_at xs rest n h) refl

-- ---- numbers

-- the numbers of a width, and the bytes that spell them
pub record IsWide (w : Width) (limit : ℕ) : Type 0 where
  pub len : (n : ℕ) → length (to_be_bytes w n) ≡ byte_len w
  pub back : (bytes : List ℕ) → length bytes ≡ byte_len w → IsBytes bytes → to_be_bytes w (from_be_bytes w bytes) ≡ bytes
  pub again : (n : ℕ) → n < limit → from_be_bytes w (to_be_bytes w n) ≡ n
  pub below : (bytes : List ℕ) → IsBytes bytes → from_be_bytes w bytes < limit

be_bytes_1 : (bytes : List ℕ) → length bytes ≡ 1 → IsBytes bytes → to_be_bytes w8 (from_be_bytes w8 bytes) ≡ bytes
be_bytes_1 (b ∷ []) len fits = ap (λ (x : ℕ). x ∷ []) (omega (arith, fits 0))
be_bytes_1 bytes len fits = absurd (omega arith)

pub wide8 : IsWide w8 (2 ^ 8)
wide8 = record {
  len = λ n. refl;
  back = be_bytes_1;
  again = λ n lt. omega (arith, lt);
  below = λ bytes fits. omega (arith, fits 0);
}

pub wide16 : IsWide w16 (2 ^ 16)
wide16 = record {
  len = λ n. refl;
  back = λ bytes len fits. be_bytes_2 bytes _ len fits refl;
  again = λ n lt. from_be_bytes-to_be_bytes_2 n lt;
  below = λ bytes fits. omega (arith, fits 0, fits 1);
}

pub wide32 : IsWide w32 (2 ^ 32)
wide32 = record {
  len = λ n. refl;
  back = λ bytes len fits. be_bytes_4 bytes _ len fits refl;
  again = λ n lt. from_be_bytes-to_be_bytes_4 n lt;
  below = λ bytes fits. omega (arith, fits 0, fits 1, fits 2, fits 3);
}

pub number_takes : (w : Width) (limit : ℕ) (wide : IsWide w limit) (r : Reading) (x : ℕ × Reading) → IsBytes r.rest → number_at w r ≡ Ok x → Takes r (to_be_bytes w x.0) x.1 × (x.0 < limit)
unfolding number_at
number_takes w limit wide r x h e =
    let b = bind_ok (bytes_at (byte_len w) r) (λ bytes. Ok (from_be_bytes w bytes.0, bytes.1)) x e in
    let t = bytes_takes (byte_len w) r b.0 h b.1 in
    let front : to_be_bytes w (from_be_bytes w b.0.0) ≡ b.0.0 = wide.back b.0.0 t.1 t.2 in
    subst (λ (y : ℕ × Reading). Takes r (to_be_bytes w y.0) y.1 × (y.0 < limit)) (ok_is (from_be_bytes w b.0.0, b.0.1) x b.2)
    (subst (λ (text : List ℕ). Takes r text b.0.1) (sym front) t.0, wide.below b.0.0 t.2)

pub number_again : (w : Width) (limit : ℕ) (wide : IsWide w limit) (n at : ℕ) (rest : List ℕ) → n < limit
    → number_at w (record { rest = to_be_bytes w n ++ rest; at = at }) ≡ Ok (n, record { rest = rest; at = at + byte_len w })
unfolding number_at
number_again w limit wide n at rest lt = rw (bytes_again (byte_len w) at (to_be_bytes w n) rest (wide.len n), wide.again n lt) refl

pub u8_again : (n at : ℕ) (rest : List ℕ) → n < 2 ^ 8 → number_at w8 (record { rest = n ∷ rest; at = at }) ≡ Ok (n, record { rest = rest; at = at + 1 })
unfolding number_at
u8_again n at rest lt = rw (bytes_again 1 at (n ∷ []) rest refl) (ap (λ (m : ℕ). Ok (m, record { rest = rest; at = at + 1 })) (omega (arith, lt)))

pub u16_again : (n at : ℕ) (rest : List ℕ) → n < 2 ^ 16 → number_at w16 (record { rest = to_be_bytes w16 n ++ rest; at = at }) ≡ Ok (n, record { rest = rest; at = at + 2 })
u16_again n at rest lt = number_again w16 (2 ^ 16) wide16 n at rest lt

pub u32_again : (n at : ℕ) (rest : List ℕ) → n < 2 ^ 32 → number_at w32 (record { rest = to_be_bytes w32 n ++ rest; at = at }) ≡ Ok (n, record { rest = rest; at = at + 4 })
u32_again n at rest lt = number_again w32 (2 ^ 32) wide32 n at rest lt

-- ---- numbers within limits

pub within_takes : (low high : ℕ) (w : Width) (limit : ℕ) (wide : IsWide w limit) (r : Reading) (x : ℕ × Reading) → IsBytes r.rest → number_within low high w r ≡ Ok x
    → Takes r (to_be_bytes w x.0) x.1 × (low ≤ x.0) × (x.0 ≤ high)
unfolding number_within
within_takes low high w limit wide r x h e =
    let a = bind_ok (number_at w r) (λ n. only_if (leb low n.0 && leb n.0 high) r.at n.0 >>= λ allowed. Ok (allowed, n.1)) x e in
    let b = bind_ok (only_if (leb low a.0.0 && leb a.0.0 high) r.at a.0.0) (λ allowed. Ok (allowed, a.0.1)) x a.2 in
    let g = only_if_ok (leb low a.0.0 && leb a.0.0 high) r.at a.0.0 b.0 b.1 in
    let both = and_parts (leb low a.0.0) (leb a.0.0 high) g.0 in
    let t = number_takes w limit wide r a.0 h a.1 in
    let P : ℕ × Reading → Type 0 = λ y. Takes r (to_be_bytes w y.0) y.1 × (low ≤ y.0) × (y.0 ≤ high) in
    let Q : ℕ → Type 0 = λ n. P (n, a.0.1) in
    subst P (ok_is (b.0, a.0.1) x b.2) (subst Q g.1 (t.0, leb-true low a.0.0 both.0, leb-true a.0.0 high both.1))

-- a number of one byte is that byte
pub byte_is : (n : ℕ) → n < 2 ^ 8 → to_be_bytes w8 n ≡ n ∷ []
byte_is n small = ap (λ (x : ℕ). x ∷ []) (omega (arith, small))

pub byte_takes : (low high : ℕ) (r : Reading) (x : ℕ × Reading) → high < 256 → IsBytes r.rest → number_within low high w8 r ≡ Ok x → Takes r (x.0 ∷ []) x.1 × (low ≤ x.0) × (x.0 ≤ high)
byte_takes low high r x small h e =
    let t = within_takes low high w8 (2 ^ 8) wide8 r x h e in
    let one : to_be_bytes w8 x.0 ≡ x.0 ∷ [] = ap (λ (n : ℕ). n ∷ []) (omega (arith, t.2, small)) in
    (subst (λ (text : List ℕ). Takes r text x.1) one t.0, t.1, t.2)

pub within_again : (low high : ℕ) (w : Width) (limit : ℕ) (wide : IsWide w limit) (n at : ℕ) (rest : List ℕ) → low ≤ n → n ≤ high → n < limit
    → number_within low high w (record { rest = to_be_bytes w n ++ rest; at = at }) ≡ Ok (n, record { rest = rest; at = at + byte_len w })
unfolding number_within
within_again low high w limit wide n at rest a b lt = rw (number_again w limit wide n at rest lt, le-leb low n a, le-leb n high b) refl

pub u16_within_again : (low high n at : ℕ) (rest : List ℕ) → low ≤ n → n ≤ high → n < 2 ^ 16
    → number_within low high w16 (record { rest = to_be_bytes w16 n ++ rest; at = at }) ≡ Ok (n, record { rest = rest; at = at + 2 })
u16_within_again low high n at rest a b lt = within_again low high w16 (2 ^ 16) wide16 n at rest a b lt

pub byte_again : (low high n at : ℕ) (rest : List ℕ) → low ≤ n → n ≤ high → n < 2 ^ 8
    → number_within low high w8 (record { rest = n ∷ rest; at = at }) ≡ Ok (n, record { rest = rest; at = at + 1 })
unfolding number_within
byte_again low high n at rest a b lt = rw (u8_again n at rest lt, le-leb low n a, le-leb n high b) refl

-- ---- counted strings

pub counted_takes : (limit : ℕ) (r : Reading) (x : List ℕ × Reading) → IsBytes r.rest → counted_at limit r ≡ Ok x → Takes r (counted x.0) x.1 × (length x.0 < 2 ^ 32) × (length x.0 ≤ limit)
unfolding counted_at
counted_takes limit r x h e =
    let a = bind_ok (number_at w32 r) (λ n. only_if (leb n.0 limit) r.at n.0 >>= λ len. bytes_at len n.1) x e in
    let b = bind_ok (only_if (leb a.0.0 limit) r.at a.0.0) (λ len. bytes_at len a.0.1) x a.2 in
    let g = only_if_ok (leb a.0.0 limit) r.at a.0.0 b.0 b.1 in
    let t = number_takes w32 (2 ^ 32) wide32 r a.0 h a.1 in
    let s = bytes_takes b.0 a.0.1 x t.0.bytes b.2 in
    let len : length x.0 ≡ a.0.0 = s.1 ∙ sym g.1 in
    (subst (λ (k : ℕ). Takes r (to_be_bytes w32 k ++ x.0) x.1) (sym len) (Takes-then r (to_be_bytes w32 a.0.0) a.0.1 x.0 x.1 t.0 s.0), omega (arith, len, t.1), omega (arith, len, leb-true _ _ g.0))

pub counted_again : (limit at : ℕ) (xs rest : List ℕ) → length xs < 2 ^ 32 → length xs ≤ limit
    → counted_at limit (record { rest = counted xs ++ rest; at = at }) ≡ Ok (xs, record { rest = rest; at = at + 4 + length xs })
unfolding counted_at
counted_again limit at xs rest lt le =
    let regrouped : counted xs ++ rest ≡ to_be_bytes w32 (length xs) ++ (xs ++ rest) = append_assoc (to_be_bytes w32 (length xs)) xs rest in
    ap (λ (bs : List ℕ). counted_at limit (record { rest = bs; at = at })) regrouped ∙ rw (u32_again (length xs) at (xs ++ rest) lt, le-leb _ _ le, bytes_again (length xs) (at + 4) xs rest refl) refl

-- ---- the end

pub end_takes : (r : Reading) → end_at r ≡ Ok tt → r.rest ≡ []
end_takes r = go r.rest
  where
    go : (bs : List ℕ) → end_at (record { rest = bs; at = r.at }) ≡ Ok tt → bs ≡ []
    go [] e = refl
    go (b ∷ bs) e = absurd cc
