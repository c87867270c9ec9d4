-- The key file of another device is malformed where it first differs.
use Rattle.std.proofs.Common.{◌≡◌, ℕ, ◌+◌, ◌^◌, ◌<◌, Bool, true, false, cond, leb, List, ◌∷◌, ◌++◌, length, Ok, Err, refl, sym, ap, subst, ◌∙◌, arith}
use Rattle.sporc_keys.proofs.Common.{◌==◌, ◌&&◌, bytes_eq, codes, Width, w8, w16, w32, to_be_bytes, and_parts, eq-eqb, eqb-true, leb-true, true≢false, ots_code_of, lms_code_of, IsWide, wide8, wide16}
use Rattle.sporc_keys.proofs.Common.{bytes_again, number_again, u16_within_again, byte_is, Device, same_device, KeyFile, IsKeyFile, device_number_bytes, format_of, key_file_of, place_of_other}
use Rattle.sporc_keys.proofs.Common.{bytes_eq-Decides, FIRST_DEVICE}
use Rattle.sporc_bytes.specs.Fields.{number_within}
use Rattle.sporc_keys.specs.Fields.{format_at}
use Rattle.sporc_keys.specs.KeyFile.{device_number_at, key_file_at, key_file_bytes}
use Rattle.sporc_keys.proofs.FileFields.{format_again}
use Rattle.sporc_keys.proofs.KeyFileLaws.{byte_unless, format_len}

-- ---- one field

-- a number that is not the one that must stand there
number_other : (w : Width) (limit : ℕ) (wide : IsWide w limit) (wanted n at : ℕ) (rest : List ℕ) → n < limit → (wanted == n) ≡ false
    → number_within wanted wanted w (record { rest = to_be_bytes w n ++ rest; at = at }) ≡ Err at
unfolding number_within
number_other w limit wide wanted n at rest lt other = rw (number_again w limit wide n at rest lt, outside (leb wanted n && leb n wanted) refl) refl
  where
    outside : (b : Bool) → (leb wanted n && leb n wanted) ≡ b → (leb wanted n && leb n wanted) ≡ false
    outside true both =
        let parts = and_parts (leb wanted n) (leb n wanted) both in
        let same : wanted ≡ n = omega (arith, leb-true wanted n parts.0, leb-true n wanted parts.1) in
        absurd (true≢false (sym (eq-eqb wanted n same) ∙ other))
    outside false is = is

byte_other : (wanted n at : ℕ) (rest : List ℕ) → n < 2 ^ 8 → (wanted == n) ≡ false → number_within wanted wanted w8 (record { rest = n ∷ rest; at = at }) ≡ Err at
byte_other wanted n at rest small other =
    subst (λ (t : List ℕ). number_within wanted wanted w8 (record { rest = t ++ rest; at = at }) ≡ Err at) (byte_is n small)
    (number_other w8 (2 ^ 8) wide8 wanted n at rest small other)

format_other : (wanted found : List ℕ) (at : ℕ) (rest : List ℕ) → length found ≡ 4 → bytes_eq found wanted ≡ false → format_at wanted (record { rest = found ++ rest; at = at }) ≡ Err at
unfolding format_at
format_other wanted found at rest len other = rw (bytes_again 4 at found rest len, other) refl

format_same : (wanted found : List ℕ) (at : ℕ) (rest : List ℕ) → length found ≡ 4 → bytes_eq found wanted ≡ true
    → format_at wanted (record { rest = found ++ rest; at = at }) ≡ Ok (record { rest = rest; at = at + 4 })
format_same wanted found at rest len same =
    subst (λ (t : List ℕ). format_at t (record { rest = found ++ rest; at = at }) ≡ Ok (record { rest = rest; at = at + 4 })) ((bytes_eq-Decides found wanted).0 same)
    (format_again found at rest len)

-- another number, where both or neither are those of a first device
device_number_other : (wanted n at : ℕ) (rest : List ℕ) → n < 2 ^ 8 → (wanted == n) ≡ false → bytes_eq (format_of n) (format_of wanted) ≡ true
    → device_number_at wanted (record { rest = device_number_bytes n ++ rest; at = at }) ≡ Err at
unfolding device_number_at
device_number_other wanted n at rest small other = by (wanted == FIRST_DEVICE) (n == FIRST_DEVICE) refl refl
  where
    by : (a b : Bool) → (wanted == FIRST_DEVICE) ≡ a → (n == FIRST_DEVICE) ≡ b
        → bytes_eq (cond b (codes "SPK1") (codes "SPK2")) (cond a (codes "SPK1") (codes "SPK2")) ≡ true
        → cond a (Ok (wanted, record { rest = byte_unless b n ++ rest; at = at })) (number_within wanted wanted w8 (record { rest = byte_unless b n ++ rest; at = at }))
        ≡ Err at
    by true true wanted_first first same =
        absurd (true≢false (sym (eq-eqb wanted n (eqb-true wanted FIRST_DEVICE wanted_first ∙ sym (eqb-true n FIRST_DEVICE first))) ∙ other))
    by true false wanted_first further same = absurd (true≢false (sym same))
    by false true wanted_further first same = absurd (true≢false (sym same))
    by false false wanted_further further same = byte_other wanted n at rest small other

-- ---- the file

module _ (device : Device) (k : KeyFile) (is : IsKeyFile k) where
  abbrev wanted : List ℕ
  wanted = format_of device.number

  abbrev found : List ℕ
  found = format_of k.device.number

  abbrev behind_number : List ℕ
  behind_number = to_be_bytes w32 (lms_code_of k.lms) ++ (to_be_bytes w32 (ots_code_of k.ots) ++ (k.id ++ k.seed))

  abbrev behind_member : List ℕ
  behind_member = device_number_bytes k.device.number ++ behind_number

  abbrev behind_format : List ℕ
  behind_format = to_be_bytes w16 k.device.member ++ behind_member

  at_format : bytes_eq found wanted ≡ false → key_file_of device (key_file_bytes k) ≡ Err 0
  unfolding key_file_at key_file_bytes
  at_format other = rw (format_other wanted found 0 behind_format (format_len k.device.number) other) refl

  at_member : bytes_eq found wanted ≡ true → (device.member == k.device.member) ≡ false → key_file_of device (key_file_bytes k) ≡ Err 4
  unfolding key_file_at key_file_bytes
  at_member same other = rw (
    format_same wanted found 0 behind_format (format_len k.device.number) same,
    number_other w16 (2 ^ 16) wide16 device.member k.device.member 4 behind_member is.member other,
  ) refl

  at_number : bytes_eq found wanted ≡ true → (device.member == k.device.member) ≡ true → (device.number == k.device.number) ≡ false
      → key_file_of device (key_file_bytes k) ≡ Err 6
  unfolding key_file_at key_file_bytes
  at_number same member other =
      let one : device.member ≡ k.device.member = eqb-true device.member k.device.member member in
      rw (
        format_same wanted found 0 behind_format (format_len k.device.number) same,
        u16_within_again device.member device.member k.device.member 4 behind_member (omega (arith, one)) (omega (arith, one)) is.member,
        device_number_other device.number k.device.number 6 behind_number is.number other same,
      ) refl

  pub key_file_of_other : same_device device k.device ≡ false → key_file_of device (key_file_bytes k) ≡ Err (place_of_other device k.device)
  key_file_of_other differ = by (bytes_eq found wanted) (device.member == k.device.member) refl refl
    where
      by : (f m : Bool) → bytes_eq found wanted ≡ f → (device.member == k.device.member) ≡ m → key_file_of device (key_file_bytes k) ≡ Err (cond f (cond m 6 4) 0)
      by false m format member = at_format format
      by true false format member = at_member format member
      by true true format member =
          at_number format member (ap (λ (b : Bool). b && (device.number == k.device.number)) (sym member) ∙ differ)
