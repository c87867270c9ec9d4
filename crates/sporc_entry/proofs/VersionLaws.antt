-- What holds of versions: which there are, where a device is named, and which kinds of change they have.
use Rattle.std.proofs.Common.{◌≡◌, ℕ, ◌+◌, ◌^◌, ◌<◌, ◌≤◌, Bool, true, false, cond, eqb, leb, List, [], ◌∷◌, ◌++◌, length, Result, Ok, refl, sym, ap, subst, ◌∙◌, arith}
use Rattle.sporc_entry.proofs.Common.{◌&&◌, ◌||◌, w8, eqb-true, eqb-false, leb-true, and_parts, IsBytes, Reading, ◌>>=◌, number_at, only_if, bind_ok, ok_is, only_if_ok, Takes, Takes-nothing, wide8}
use Rattle.sporc_entry.proofs.Common.{number_takes, u8_again, device_at, device_bytes, names_device, fits_version, has_kind, header_len}
use Rattle.sporc_bytes.proofs.Fields.{byte_is}
use Rattle.sporc_entry.specs.ChangeBody.{kind_at}

-- ---- versions

-- there are two, and in the first each entry is by its author's first device
pub version_known : (version device : ℕ) → fits_version version device ≡ true → (1 ≤ version) × (version ≤ 2)
version_known version device h = go (eqb version 2) (eqb version 1) refl refl h
  where
    go : (b c : Bool) → eqb version 2 ≡ b → eqb version 1 ≡ c → (b || (c && eqb device 0)) ≡ true → (1 ≤ version) × (version ≤ 2)
    go true c p q h = let is = eqb-true version 2 p in (omega (arith, is), omega (arith, is))
    go false true p q h = let is = eqb-true version 1 q in (omega (arith, is), omega (arith, is))
    go false false p q h = absurd cc

pub first_alone : (version device : ℕ) → fits_version version device ≡ true → names_device version ≡ false → device ≡ 0
first_alone version device h other = go (eqb version 1) (eqb device 0) refl (ap (λ (b : Bool). b || (eqb version 1 && eqb device 0)) (sym other) ∙ h)
  where
    go : (c d : Bool) → eqb device 0 ≡ d → (c && d) ≡ true → device ≡ 0
    go true true p h = eqb-true device 0 p
    go true false p h = absurd cc
    go false d p h = absurd cc

pub fits : (version device : ℕ) → 1 ≤ version → version ≤ 2 → (names_device version ≡ false → device ≡ 0) → fits_version version device ≡ true
fits version device low high first = go (eqb version 2) refl
  where
    go : (b : Bool) → eqb version 2 ≡ b → (b || (eqb version 1 && eqb device 0)) ≡ true
    go true p = refl
    go false p =
        let not_two = eqb-false version 2 p in
        let one : version ≡ 1 = omega (arith, low, high, not_two) in
        let zero : device ≡ 0 = first p in
        ap (λ (k : ℕ). eqb k 1 && eqb device 0) one ∙ ap (λ (k : ℕ). eqb k 0) zero

-- ---- the author's device

pub device_takes : (version : ℕ) (r : Reading) (x : ℕ × Reading) → IsBytes r.rest → device_at version r ≡ Ok x
    → Takes r (device_bytes version x.0) x.1 × (x.0 < 2 ^ 8) × (names_device version ≡ false → x.0 ≡ 0)
device_takes version r x h e = go (names_device version) e
  where
    go : (b : Bool) → cond b (number_at w8 r) (Ok (0, r)) ≡ Ok x → Takes r (cond b (x.0 ∷ []) []) x.1 × (x.0 < 2 ^ 8) × (b ≡ false → x.0 ≡ 0)
    go true e =
        let t = number_takes w8 (2 ^ 8) wide8 r x h e in
        (subst (λ (text : List ℕ). Takes r text x.1) (byte_is x.0 t.1) t.0, t.1, λ no. absurd cc)
    go false e =
        subst (λ (y : ℕ × Reading). Takes r [] y.1 × (y.0 < 2 ^ 8) × (false ≡ false → y.0 ≡ 0)) (ok_is (0, r) x e) (Takes-nothing r h, omega arith, λ _. refl)

-- a device that was read
abbrev device_left : List ℕ → ℕ → ℕ → Result (ℕ × Reading) ℕ
device_left rest device place = Ok (device, record { rest = rest; at = place })

pub device_again : (version device at : ℕ) (rest : List ℕ) → fits_version version device ≡ true → device < 2 ^ 8
    → device_at version (record { rest = device_bytes version device ++ rest; at = at }) ≡ Ok (device, record { rest = rest; at = at + length (device_bytes version device) })
device_again version device at rest fit small = go (names_device version) refl
  where
    go : (b : Bool) → names_device version ≡ b
        → cond b (number_at w8 (record { rest = cond b (device ∷ []) [] ++ rest; at = at })) (device_left (cond b (device ∷ []) [] ++ rest) 0 at)
        ≡ device_left rest device (at + length (cond b (device ∷ []) []))
    go true p = u8_again device at rest small
    go false p =
        let zero : 0 ≡ device = sym (first_alone version device fit p) in
        let same : at ≡ at + 0 = omega arith in
        ap (λ (d : ℕ). device_left rest d at) zero ∙ ap (device_left rest device) same

pub header_len_is : (version device : ℕ) → 68 + length (device_bytes version device) ≡ header_len version
header_len_is version device = go (names_device version)
  where
    go : (b : Bool) → 68 + length (cond b (device ∷ []) []) ≡ cond b 69 68
    go true = refl
    go false = refl

pub header_len-le : (version : ℕ) → header_len version ≤ 69
header_len-le version = go (names_device version)
  where
    go : (b : Bool) → cond b 69 68 ≤ 69
    go true = omega arith
    go false = omega arith

-- ---- kinds of change

pub kind_known : (version kind : ℕ) → has_kind version kind ≡ true → (1 ≤ kind) × (kind ≤ 6)
kind_known version kind h = go (names_device version) h
  where
    within : (high : ℕ) → high ≤ 6 → (leb 1 kind && leb kind high) ≡ true → (1 ≤ kind) × (kind ≤ 6)
    within high most h =
        let parts = and_parts (leb 1 kind) (leb kind high) h in
        let low : 1 ≤ kind = leb-true 1 kind parts.0 in
        let top : kind ≤ high = leb-true kind high parts.1 in
        (low, omega (arith, top, most))

    either : (b c : Bool) → ((leb 1 kind && leb kind 3) ≡ b) → eqb kind 6 ≡ c → (b || c) ≡ true → (1 ≤ kind) × (kind ≤ 6)
    either true c p q h = within 3 (omega arith) p
    either false true p q h = let is = eqb-true kind 6 q in (omega (arith, is), omega (arith, is))
    either false false p q h = absurd cc

    go : (b : Bool) → cond b (leb 1 kind && leb kind 5) ((leb 1 kind && leb kind 3) || eqb kind 6) ≡ true → (1 ≤ kind) × (kind ≤ 6)
    go true h = within 5 (omega arith) h
    go false h = either (leb 1 kind && leb kind 3) (eqb kind 6) refl refl h

pub kind_takes : (version : ℕ) (r : Reading) (x : ℕ × Reading) → IsBytes r.rest → kind_at version r ≡ Ok x → Takes r (x.0 ∷ []) x.1 × (has_kind version x.0 ≡ true)
unfolding kind_at
kind_takes version r x h e =
    let n = bind_ok (number_at w8 r) (λ kind. only_if (has_kind version kind.0) r.at kind.0 >>= λ had. Ok (had, kind.1)) x e in
    let o = bind_ok (only_if (has_kind version n.0.0) r.at n.0.0) (λ had. Ok (had, n.0.1)) x n.2 in
    let t = number_takes w8 (2 ^ 8) wide8 r n.0 h n.1 in
    let had = only_if_ok (has_kind version n.0.0) r.at n.0.0 o.0 o.1 in
    let P : ℕ × Reading → Type 0 = λ y. Takes r (y.0 ∷ []) y.1 × (has_kind version y.0 ≡ true) in
    let made : ℕ → ℕ × Reading = λ k. (k, n.0.1) in
    subst P (ap made had.1 ∙ ok_is (made o.0) x o.2) (subst (λ (text : List ℕ). Takes r text n.0.1) (byte_is n.0.0 t.1) t.0, had.0)

pub kind_again : (version kind at : ℕ) (rest : List ℕ) → has_kind version kind ≡ true → kind_at version (record { rest = kind ∷ rest; at = at }) ≡ Ok (kind, record { rest = rest; at = at + 1 })
unfolding kind_at
kind_again version kind at rest had =
    let known = kind_known version kind had in
    rw (u8_again kind at rest (omega (arith, known.1)), had) refl
