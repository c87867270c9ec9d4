-- A summary that is read is spelled so, and one that is spelled so is read again.
use Rattle.std.proofs.Common.{◌≡◌, ℕ, zero, suc, ◌+◌, ◌-◌, ◌^◌, ◌<◌, ◌≤◌, List, [], ◌∷◌, ◌++◌, length, take, Result, Ok, refl, sym, ap, subst, ◌∙◌, append_assoc, arith}
use Rattle.std.specs.Int.{w8, w16, w32, to_be_bytes}
use Rattle.std.specs.List.{flat_map}
use Rattle.std.proofs.lemmas.List.{append-nil, take_at, length-append}
use Rattle.sporc_base.specs.Bytes.{IsBytes}
use Rattle.sporc_bytes.specs.Fields.{Reading, ◌>>=◌, counted, counted_at, end_at, fault_as, values_at}
use Rattle.sporc_bytes.proofs.Fields.{Takes, Takes-then, bind_ok, byte_is, bytes_again, bytes_takes, counted_again, counted_takes, end_takes, fault_as_ok, number_takes, ok_is, u16_again, u8_again, wide16, wide32, wide8}
use Rattle.sporc_bytes.proofs.Fields.{within_again, within_takes}
use Rattle.sporc_bytes.proofs.ListLaws.{values_again, values_take}
use Rattle.sporc_head.specs.declared.limits.TheConstants.{MAX_ENTRIES}
use Rattle.sporc_evidence.specs.declared.fields.TheConstants.{FORMAT}
use Rattle.sporc_evidence.specs.declared.fault.EvidenceFault.TheVariants.{Malformed}
use Rattle.sporc_evidence.specs.Summary.{IsSummary, SummaryModel}
use Rattle.sporc_evidence.specs.SummaryBytes.{hash_at, summary_at, summary_bytes, summary_file, summary_in}

-- as many values as were asked for
pub values_count : {A S : Type 0} (read : S → Result (A × S) ℕ) (n : ℕ) (s : S) (x : List A × S) → values_at read n s ≡ Ok x → length x.0 ≡ n
unfolding values_at
values_count {A} {S} read zero s x e = let made : List A × S = ([], s) in subst (λ (y : List A × S). length y.0 ≡ 0) (ok_is made x e) refl
values_count {A} {S} read (suc n) s x e =
    let a = bind_ok (read s) (λ first. values_at read n first.1 >>= λ others. Ok (first.0 ∷ others.0, others.1)) x e in
    let b = bind_ok (values_at read n a.0.1) (λ others. Ok (a.0.0 ∷ others.0, others.1)) x a.2 in
    let made : List A × S = (a.0.0 ∷ b.0.0, b.0.1) in
    subst (λ (y : List A × S). length y.0 ≡ suc n) (ok_is made x b.2) (ap suc (values_count read n a.0.1 b.0 b.1))

-- ---- one value of a chain

abbrev same : List ℕ → List ℕ
same h = h

hash_takes : (r : Reading) (x : List ℕ × Reading) → IsBytes r.rest → hash_at r ≡ Ok x → Takes r (same x.0) x.1 × (length x.0 ≡ 32)
hash_takes r x h e = let t = bytes_takes 32 r x h e in (t.0, t.1)

hash_again : (h : List ℕ) (at : ℕ) (rest : List ℕ) → length h ≡ 32 → (after : ℕ) × (hash_at (record { rest = same h ++ rest; at = at }) ≡ Ok (h, record { rest = rest; at = after }))
hash_again h at rest is = (at + 32, bytes_again 32 at h rest is)

-- ---- the fields

-- what stands behind the count, in front of what follows
regrouped : (x : SummaryModel) (rest : List ℕ)
    → summary_bytes x ++ rest ≡ to_be_bytes w32 FORMAT ++ (x.document ++ (to_be_bytes w16 x.author ++ (x.device ∷ (to_be_bytes w32 (length x.hashes - 1) ++ (flat_map (λ h. h) x.hashes ++ rest)))))
unfolding summary_bytes
regrouped x rest = simp append_assoc

-- a summary that was read: its bytes were taken, and it is in range
record IsRead (r : Reading) (y : SummaryModel × Reading) : Type 0 where
  text : Takes r (summary_bytes y.0) y.1
  is : IsSummary y.0

fields_take : (r : Reading) (y : SummaryModel × Reading) → IsBytes r.rest → summary_at r ≡ Ok y → IsRead r y
unfolding summary_at summary_bytes
fields_take r y h e =
    let f = bind_ok _ _ y e in
    let d = bind_ok _ _ y f.2 in
    let a = bind_ok _ _ y d.2 in
    let v = bind_ok _ _ y a.2 in
    let n = bind_ok _ _ y v.2 in
    let s = bind_ok _ _ y n.2 in
    let tf = within_takes FORMAT FORMAT w32 (2 ^ 32) wide32 r f.0 h f.1 in
    let td = bytes_takes 16 f.0.1 d.0 tf.0.bytes d.1 in
    let ta = number_takes w16 (2 ^ 16) wide16 d.0.1 a.0 td.0.bytes a.1 in
    let tv = number_takes w8 (2 ^ 8) wide8 a.0.1 v.0 ta.0.bytes v.1 in
    let tn = within_takes 0 MAX_ENTRIES w32 (2 ^ 32) wide32 v.0.1 n.0 tv.0.bytes n.1 in
    let ts = values_take hash_at same (λ h. length h ≡ 32) hash_takes (n.0.0 + 1) n.0.1 s.0 tn.0.bytes s.1 in
    let x : SummaryModel = record { document = d.0.0; author = a.0.0; device = v.0.0; hashes = s.0.0 } in
    let made : SummaryModel × Reading = (x, s.0.1) in
    let format : f.0.0 ≡ FORMAT = omega (arith, tf.1, tf.2) in
    let count : n.0.0 ≡ length s.0.0 - 1 = omega (arith, ts.count) in
    let first : Takes r (to_be_bytes w32 FORMAT) f.0.1 = subst (λ (k : ℕ). Takes r (to_be_bytes w32 k) f.0.1) format tf.0 in
    let counted : Takes v.0.1 (to_be_bytes w32 (length s.0.0 - 1)) n.0.1 = subst (λ (k : ℕ). Takes v.0.1 (to_be_bytes w32 k) n.0.1) count tn.0 in
    let device : Takes a.0.1 (v.0.0 ∷ []) v.0.1 = subst (λ (text : List ℕ). Takes a.0.1 text v.0.1) (byte_is v.0.0 tv.1) tv.0 in
    let whole = Takes-then r _ f.0.1 _ s.0.1 first (Takes-then f.0.1 _ d.0.1 _ s.0.1 td.0 (Takes-then d.0.1 _ a.0.1 _ s.0.1 ta.0 (Takes-then a.0.1 _ v.0.1 _ s.0.1 device (Takes-then v.0.1 _ n.0.1 _ s.0.1 counted ts.text)))) in
    let is : IsSummary x = record {
      document = td.1;
      author = ta.1;
      device = tv.1;
      count = record { positive = omega (arith, ts.count); within = omega (arith, ts.count, tn.2) };
      hashes = ts.each;
    } in
    subst (IsRead r) (ok_is made y s.2) (record { text = whole; is = is })

fields_again : (x : SummaryModel) (rest : List ℕ) → IsSummary x → (after : ℕ) × (summary_at (record { rest = summary_bytes x ++ rest; at = 0 }) ≡ Ok (x, record { rest = rest; at = after }))
unfolding summary_at
fields_again x rest is =
    let hashes = values_again hash_at same (λ h. length h ≡ 32) hash_again x.hashes 27 rest is.hashes in
    let long : length x.hashes ≡ length x.hashes - 1 + 1 = omega (arith, is.count.positive) in
    let again : values_at hash_at (length x.hashes - 1 + 1) (record { rest = flat_map same x.hashes ++ rest; at = 27 }) ≡ Ok (x.hashes, record { rest = rest; at = hashes.0 }) =
    ap (λ (k : ℕ). values_at hash_at k (record { rest = flat_map same x.hashes ++ rest; at = 27 })) (sym long) ∙ hashes.1 in
    let more = flat_map same x.hashes ++ rest in
    let counted = to_be_bytes w32 (length x.hashes - 1) ++ more in (
      hashes.0,
      ap (λ (bs : List ℕ). summary_at (record { rest = bs; at = 0 })) (regrouped x rest) ∙ rw (
        within_again FORMAT FORMAT w32 (2 ^ 32) wide32 FORMAT 0 (x.document ++ (to_be_bytes w16 x.author ++ (x.device ∷ counted))) (omega arith) (omega arith) (omega arith),
        bytes_again 16 4 x.document (to_be_bytes w16 x.author ++ (x.device ∷ counted)) is.document,
        u16_again x.author 20 (x.device ∷ counted) is.author,
        u8_again x.device 22 counted is.device,
        within_again 0 MAX_ENTRIES w32 (2 ^ 32) wide32 (length x.hashes - 1) 23 more (omega arith) (omega (arith, is.count.within)) (omega (arith, is.count.within)),
        again,
      ) refl,
    )

-- ---- the file

-- the bytes that a summary took, from their first one on, are its own
pub taken_are : (bytes : List ℕ) (r : Reading) (y : SummaryModel × Reading) → IsBytes bytes → r.rest ≡ bytes → r.at ≡ 0 → fault_as Malformed (summary_at r) ≡ Ok y → (y.1.at ≤ length bytes) × (take y.1.at bytes ≡ summary_bytes y.0)
taken_are bytes r y h is begin e =
    let t = (fields_take r y (subst IsBytes (sym is) h) (fault_as_ok Malformed (summary_at r) y e)).text in
    let at : length (summary_bytes y.0) ≡ y.1.at = omega (arith, t.at, begin) in
    let parts : bytes ≡ summary_bytes y.0 ++ y.1.rest = sym is ∙ t.parts in
    (omega (arith, at, ap length parts, length-append (summary_bytes y.0) y.1.rest), ap (take y.1.at) parts ∙ take_at (summary_bytes y.0) y.1.rest y.1.at at)

pub file_takes : (bytes : List ℕ) (x : SummaryModel) (signature : List ℕ) → IsBytes bytes → summary_in bytes ≡ Ok (x, signature) → IsSummary x × (bytes ≡ summary_file x signature)
unfolding summary_in
file_takes bytes x signature h e =
    let r : Reading = record { rest = bytes; at = 0 } in
    let a = bind_ok _ _ (x, signature) e in
    let s = bind_ok _ _ (x, signature) a.2 in
    let n = bind_ok (end_at s.0.1) (λ end. Ok (a.0.0, s.0.0)) (x, signature) s.2 in
    let t = fields_take r a.0 h a.1 in
    let ts = counted_takes (2 ^ 32 - 1) a.0.1 s.0 t.text.bytes s.1 in
    let nothing : s.0.1.rest ≡ [] = end_takes s.0.1 n.1 in
    let tail : a.0.1.rest ≡ counted s.0.0 = ts.0.parts ∙ ap (λ (bs : List ℕ). counted s.0.0 ++ bs) nothing ∙ append-nil (counted s.0.0) in
    let whole : bytes ≡ summary_file a.0.0 s.0.0 = t.text.parts ∙ ap (λ (bs : List ℕ). summary_bytes a.0.0 ++ bs) tail in
    let made : SummaryModel × List ℕ = (a.0.0, s.0.0) in
    subst (λ (y : SummaryModel × List ℕ). IsSummary y.0 × (bytes ≡ summary_file y.0 y.1)) (ok_is made (x, signature) n.2) (t.is, whole)

pub file_again : (x : SummaryModel) (signature : List ℕ) → IsSummary x → length signature < 2 ^ 32 → summary_in (summary_file x signature) ≡ Ok (x, signature)
unfolding summary_in
file_again x signature is short =
    let fields = fields_again x (counted signature) is in
    let again = counted_again (2 ^ 32 - 1) fields.0 signature [] short (omega (arith, short)) in
    let alone : counted_at (2 ^ 32 - 1) (record { rest = counted signature; at = fields.0 }) ≡ Ok (signature, record { rest = []; at = fields.0 + 4 + length signature }) =
    ap (λ (bs : List ℕ). counted_at (2 ^ 32 - 1) (record { rest = bs; at = fields.0 })) (sym (append-nil (counted signature))) ∙ again in
    rw (fields.1, alone) refl
