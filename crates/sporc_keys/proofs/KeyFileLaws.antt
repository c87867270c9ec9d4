-- A key file that is read is spelled so, and one that is spelled so is read again as that of its device.
use Rattle.std.proofs.Common.{◌≡◌, ℕ, ◌+◌, ◌^◌, ◌<◌, Bool, true, false, cond, leb, List, [], ◌∷◌, ◌++◌, length, Ok, refl, sym, ap, ap₂, subst, ◌∙◌, arith}
use Rattle.sporc_keys.proofs.Common.{◌==◌, ◌&&◌, codes, Width, w8, w16, w32, to_be_bytes, eqb-true, append-nil, ots_code_of, lms_code_of, IsBytes, Reading, ◌>>=◌, bytes_at, number_at, only_if, IsWide}
use Rattle.sporc_keys.proofs.Common.{bind_ok, ok_is, only_if_ok, wide8, wide16, bytes_takes, bytes_again, number_takes, within_takes, u16_within_again, byte_takes, byte_again, Leaves, Device, KeyFile}
use Rattle.sporc_keys.proofs.Common.{IsKeyFile, device_number_bytes, format_of, key_file_of, FIRST_DEVICE}
use Rattle.sporc_bytes.specs.Fields.{number_within}
use Rattle.sporc_keys.specs.KeyFile.{device_number_at, key_file_at, key_file_bytes}
use Rattle.sporc_keys.proofs.FileFields.{format_takes, format_again, lms_takes, lms_again, ots_takes, ots_again, whole_takes}

-- ---- the device's number

-- the byte of a number, if it is that of a further device
abbrev pub byte_unless : Bool → ℕ → List ℕ
byte_unless first number = cond first [] (number ∷ [])

-- a number that is read fits its bytes
within_limit : (low high : ℕ) (w : Width) (limit : ℕ) (wide : IsWide w limit) (r : Reading) (x : ℕ × Reading) → IsBytes r.rest → number_within low high w r ≡ Ok x → x.0 < limit
unfolding number_within
within_limit low high w limit wide r x h e =
    let a = bind_ok (number_at w r) (λ n. only_if (leb low n.0 && leb n.0 high) r.at n.0 >>= λ allowed. Ok (allowed, n.1)) x e in
    let b = bind_ok (only_if (leb low a.0.0 && leb a.0.0 high) r.at a.0.0) (λ allowed. Ok (allowed, a.0.1)) x a.2 in
    let g = only_if_ok (leb low a.0.0 && leb a.0.0 high) r.at a.0.0 b.0 b.1 in
    let t = number_takes w limit wide r a.0 h a.1 in
    let P : ℕ × Reading → Type 0 = λ y. y.0 < limit in
    subst P (ok_is (b.0, a.0.1) x b.2) (subst (λ (n : ℕ). n < limit) g.1 t.1)

-- a device's number that is read
record IsNumberTaken (number : ℕ) (r : Reading) (x : ℕ × Reading) : Type 0 where
  text : Leaves r (λ rest. device_number_bytes x.0 ++ rest) x.1
  same : x.0 ≡ number
  small : x.0 < 2 ^ 8

device_number_takes : (number : ℕ) (r : Reading) (x : ℕ × Reading) → IsBytes r.rest → device_number_at number r ≡ Ok x → IsNumberTaken number r x
unfolding device_number_at
device_number_takes number r x h e = by (number == FIRST_DEVICE) refl e
  where
    by : (b : Bool) → (number == FIRST_DEVICE) ≡ b → cond b (Ok (number, r)) (number_within number number w8 r) ≡ Ok x → IsNumberTaken number r x
    by true is read =
        subst (IsNumberTaken number r) (ok_is (number, r) x read) (record {
          text = record { parts = ap (λ (b : Bool). byte_unless b number ++ r.rest) (sym is); bytes = h };
          same = refl;
          small = omega (arith, eqb-true number FIRST_DEVICE is);
        })
    by false is read =
        let small = within_limit number number w8 (2 ^ 8) wide8 r x h read in
        let only = within_takes number number w8 (2 ^ 8) wide8 r x h read in
        let t = byte_takes number number r x (omega (arith, small, only.1, only.2)) h read in
        let same : x.0 ≡ number = omega (arith, t.1, t.2) in
        let further : (x.0 == FIRST_DEVICE) ≡ false = ap (λ (n : ℕ). n == FIRST_DEVICE) same ∙ is in
        record {
          text = record { parts = t.0.parts ∙ ap (λ (b : Bool). byte_unless b x.0 ++ x.1.rest) (sym further); bytes = t.0.bytes };
          same = same;
          small = small;
        }

-- how many bytes that takes
abbrev device_number_len : ℕ → ℕ
device_number_len number = length (device_number_bytes number)

device_number_again : (number at : ℕ) (rest : List ℕ) → number < 2 ^ 8
    → device_number_at number (record { rest = device_number_bytes number ++ rest; at = at }) ≡ Ok (number, record { rest = rest; at = at + device_number_len number })
unfolding device_number_at
device_number_again number at rest small = by (number == FIRST_DEVICE)
  where
    by : (b : Bool)
        → cond b (Ok (number, record { rest = byte_unless b number ++ rest; at = at })) (number_within number number w8 (record { rest = byte_unless b number ++ rest; at = at }))
        ≡ Ok (number, record { rest = rest; at = at + length (byte_unless b number) })
    by true = ap (λ (n : ℕ). Ok (number, record { rest = rest; at = n })) (omega arith)
    by false = byte_again number number number at rest (omega arith) (omega arith) small

-- ---- all fields

-- the bytes of a key file, and those after them
abbrev key_file_text : KeyFile → List ℕ → List ℕ
key_file_text k rest =
    format_of k.device.number ++ (to_be_bytes w16 k.device.member ++ (device_number_bytes k.device.number
    ++ (to_be_bytes w32 (lms_code_of k.lms) ++ (to_be_bytes w32 (ots_code_of k.ots) ++ (k.id ++ (k.seed ++ rest))))))

key_file_parts : (k : KeyFile) (r0 r1 r2 r3 r4 r5 r6 r7 : List ℕ) → r0 ≡ format_of k.device.number ++ r1 → r1 ≡ to_be_bytes w16 k.device.member ++ r2
    → r2 ≡ device_number_bytes k.device.number ++ r3 → r3 ≡ to_be_bytes w32 (lms_code_of k.lms) ++ r4 → r4 ≡ to_be_bytes w32 (ots_code_of k.ots) ++ r5 → r5 ≡ k.id ++ r6
    → r6 ≡ k.seed ++ r7 → r0 ≡ key_file_text k r7
key_file_parts k r0 r1 r2 r3 r4 r5 r6 r7 e0 e1 e2 e3 e4 e5 e6 =
    e0 ∙ ap (λ (t : List ℕ). format_of k.device.number ++ t) (e1 ∙ ap (λ (t : List ℕ). to_be_bytes w16 k.device.member ++ t)
    (e2 ∙ ap (λ (t : List ℕ). device_number_bytes k.device.number ++ t) (e3 ∙ ap (λ (t : List ℕ). to_be_bytes w32 (lms_code_of k.lms) ++ t)
    (e4 ∙ ap (λ (t : List ℕ). to_be_bytes w32 (ots_code_of k.ots) ++ t) (e5 ∙ ap (λ (t : List ℕ). k.id ++ t) e6)))))

abbrev device_by : ℕ → ℕ → Device
device_by member number = record { member = member; number = number }

-- a key file that is read, of this device
pub record IsTaken (device : Device) (r : Reading) (x : KeyFile × Reading) : Type 0 where
  pub text : Leaves r (key_file_text x.0) x.1
  pub file : IsKeyFile x.0
  pub same : x.0.device ≡ device

fields_take : (device : Device) (r : Reading) (x : KeyFile × Reading) → IsBytes r.rest → key_file_at device r ≡ Ok x → IsTaken device r x
unfolding key_file_at
fields_take device r x h e =
    let f = bind_ok _ _ x e in
    let m = bind_ok _ _ x f.2 in
    let n = bind_ok _ _ x m.2 in
    let l = bind_ok _ _ x n.2 in
    let o = bind_ok _ _ x l.2 in
    let i = bind_ok _ _ x o.2 in
    let s = bind_ok _ _ x i.2 in
    let tf = format_takes (format_of device.number) r f.0 h f.1 in
    let tm = within_takes device.member device.member w16 (2 ^ 16) wide16 f.0 m.0 tf.bytes m.1 in
    let tn = device_number_takes device.number m.0.1 n.0 tm.0.bytes n.1 in
    let tl = lms_takes n.0.1 l.0 tn.text.bytes l.1 in
    let tw = ots_takes l.0.1 o.0 tl.0.bytes o.1 in
    let ti = bytes_takes 16 o.0.1 i.0 tw.0.bytes i.1 in
    let ts = bytes_takes 32 i.0.1 s.0 ti.0.bytes s.1 in
    let member : m.0.0 ≡ device.member = omega (arith, tm.1, tm.2) in
    let same : device_by m.0.0 n.0.0 ≡ device = ap₂ device_by member tn.same in
    let format : r.rest ≡ format_of n.0.0 ++ f.0.rest = tf.parts ∙ ap (λ (number : ℕ). format_of number ++ f.0.rest) (sym tn.same) in
    let file : KeyFile = record { device = device_by m.0.0 n.0.0; lms = l.0.0; ots = o.0.0; id = i.0.0; seed = s.0.0 } in
    let made : KeyFile × Reading = (file, s.0.1) in
    let P : KeyFile × Reading → Type 0 = λ y. IsTaken device r y in
    subst P {x = made} {y = x} (ok_is made x s.2) (record {
      text = record {
        parts = key_file_parts file r.rest f.0.rest m.0.1.rest n.0.1.rest l.0.1.rest o.0.1.rest i.0.1.rest s.0.1.rest format tm.0.parts tn.text.parts tl.0.parts tw.0.parts ti.0.parts ts.0.parts;
        bytes = ts.0.bytes;
      };
      file = record { member = within_limit device.member device.member w16 (2 ^ 16) wide16 f.0 m.0 tf.bytes m.1; number = tn.small; lms = tl.1; ots = tw.1; id = ti.1; seed = ts.1 };
      same = same;
    })

-- the bytes of a key file with nothing after them
text_is : (k : KeyFile) (rest : List ℕ) → rest ≡ [] → key_file_text k rest ≡ key_file_bytes k
unfolding key_file_bytes
text_is k rest nothing =
    ap (λ (t : List ℕ). format_of k.device.number ++ (to_be_bytes w16 k.device.member ++ (device_number_bytes k.device.number
    ++ (to_be_bytes w32 (lms_code_of k.lms) ++ (to_be_bytes w32 (ots_code_of k.ots) ++ (k.id ++ t))))))
    (ap (λ (t : List ℕ). k.seed ++ t) nothing ∙ append-nil k.seed)

-- what is read from all of some bytes
pub key_file_takes : (device : Device) (bytes : List ℕ) (k : KeyFile) → IsBytes bytes → key_file_of device bytes ≡ Ok k
    → IsKeyFile k × (k.device ≡ device) × (bytes ≡ key_file_bytes k)
key_file_takes device bytes k h e =
    let w = whole_takes (key_file_at device) bytes k e in
    let t = fields_take device (record { rest = bytes; at = 0 }) (k, w.0) h w.1 in
    (t.file, t.same, t.text.parts ∙ text_is k w.0.rest w.2)

pub format_len : (number : ℕ) → length (format_of number) ≡ 4
format_len number = by (number == FIRST_DEVICE)
  where
    by : (b : Bool) → length (cond b (codes "SPK1") (codes "SPK2")) ≡ 4
    by true = refl
    by false = refl

pub key_file_again : (k : KeyFile) → IsKeyFile k → key_file_of k.device (key_file_bytes k) ≡ Ok k
unfolding key_file_at key_file_bytes
key_file_again k is =
    let seed : List ℕ = k.seed in
    let id : List ℕ = k.id ++ seed in
    let ots : List ℕ = to_be_bytes w32 (ots_code_of k.ots) ++ id in
    let lms : List ℕ = to_be_bytes w32 (lms_code_of k.lms) ++ ots in
    let number : List ℕ = device_number_bytes k.device.number ++ lms in
    let at : ℕ = 6 + device_number_len k.device.number in
    rw (
      format_again (format_of k.device.number) 0 (to_be_bytes w16 k.device.member ++ number) (format_len k.device.number),
      u16_within_again k.device.member k.device.member k.device.member 4 number (omega arith) (omega arith) is.member,
      device_number_again k.device.number 6 lms is.number,
      lms_again k.lms at ots is.lms,
      ots_again k.ots (at + 4) id is.ots,
      bytes_again 16 (at + 4 + 4) k.id seed is.id,
      seed_again (at + 4 + 4 + 16),
    ) refl
  where
    seed_again : (at : ℕ) → bytes_at 32 (record { rest = k.seed; at = at }) ≡ Ok (k.seed, record { rest = []; at = at + 32 })
    seed_again at = ap (λ (t : List ℕ). bytes_at 32 (record { rest = t; at = at })) (sym (append-nil k.seed)) ∙ bytes_again 32 at k.seed [] is.seed
