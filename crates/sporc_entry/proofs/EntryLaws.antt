-- An entry that is read is spelled so, and one that is spelled so is read again.
use Rattle.std.proofs.Common.{◌≡◌, ℕ, ◌+◌, ◌^◌, ◌<◌, ◌≤◌, Bool, true, false, cond, eqb, List, [], ◌∷◌, ◌++◌, length, drop, Some, Result, Ok, Err, refl, sym, ap, subst, ◌∙◌, append_assoc, arith, lit<}
use Rattle.std.proofs.Common.{length-append}
use Rattle.sporc_entry.proofs.Common.{IfOk, w16, w32, to_be_bytes, eqb-false, take_at, drop_at, Reading, ◌>>=◌, fault_as, counted_at, counted, IsBytes, bind_ok, ok_is, wide16, wide32, number_takes}
use Rattle.sporc_entry.proofs.Common.{bytes_takes, bytes_again, u16_again, u32_again, counted_takes, counted_again, end_takes, byte_takes, byte_again, fault_as_ok, ChangeBody, Entry, Header}
use Rattle.sporc_entry.proofs.Common.{Malformed, Memory, GivesUnless, change_body_from, IsChangeBody, SpellsChange, FIRST_VERSION, DEVICES_VERSION, MAX_EDIT_BODY, MAX_CHANGE_BODY, MAX_SIGNATURE}
use Rattle.sporc_entry.proofs.Common.{MAX_ENTRY, body_limit, body_read, device_bytes, counted_bytes, IsEntry, header_len, body_place}
use Rattle.sporc_base.proofs.ByteLemmas.{IsBytes-drop, IsBytes-take}
use Rattle.sporc_entry.specs.declared.fault.EntryFault.{EntryFault}
use Rattle.sporc_entry.specs.Entry.{header_at, entry_of, change_of, header_bytes, entry_bytes, IsHeader}
use Rattle.sporc_entry.proofs.FieldLaws.{Leaves}
use Rattle.sporc_entry.proofs.VersionLaws.{version_known, fits, device_takes, device_again, header_len_is, header_len-le}
use Rattle.sporc_entry.proofs.ChangeLaws.{change_body_takes, change_body_again}

-- ---- headers

header_parts : (h : Header) (r0 r1 r2 r3 r4 r5 r6 r7 r8 r9 r10 : List ℕ) → r0 ≡ h.version ∷ r1 → r1 ≡ h.document ++ r2 → r2 ≡ to_be_bytes w16 h.author ++ r3 → r3 ≡ device_bytes h.version h.device ++ r4
    → r4 ≡ to_be_bytes w32 h.number ++ r5 → r5 ≡ to_be_bytes w32 h.base ++ r6 → r6 ≡ h.base_hash ++ r7 → r7 ≡ to_be_bytes w32 h.epoch ++ r8 → r8 ≡ to_be_bytes w32 h.leaf ++ r9 → r9 ≡ h.kind ∷ r10 → r0 ≡ header_bytes h r10
unfolding header_bytes
header_parts h r0 r1 r2 r3 r4 r5 r6 r7 r8 r9 r10 e0 e1 e2 e3 e4 e5 e6 e7 e8 e9 = rw (e0, e1, e2, e3, e4, e5, e6, e7, e8, e9) refl

header_takes : (r : Reading) (x : Header × Reading) → IsBytes r.rest → header_at r ≡ Ok x → Leaves r (header_bytes x.0) x.1 × IsHeader x.0
unfolding header_at
header_takes r x h e =
    let v = bind_ok _ _ x e in
    let d = bind_ok _ _ x v.2 in
    let a = bind_ok _ _ x d.2 in
    let dev = bind_ok _ _ x a.2 in
    let n = bind_ok _ _ x dev.2 in
    let b = bind_ok _ _ x n.2 in
    let s = bind_ok _ _ x b.2 in
    let p = bind_ok _ _ x s.2 in
    let l = bind_ok _ _ x p.2 in
    let k = bind_ok _ _ x l.2 in
    let tv = byte_takes FIRST_VERSION DEVICES_VERSION r v.0 (lit< tt) h v.1 in
    let td = bytes_takes 16 v.0.1 d.0 tv.0.bytes d.1 in
    let ta = number_takes w16 (2 ^ 16) wide16 d.0.1 a.0 td.0.bytes a.1 in
    let tdev = device_takes v.0.0 a.0.1 dev.0 ta.0.bytes dev.1 in
    let tn = number_takes w32 (2 ^ 32) wide32 dev.0.1 n.0 tdev.0.bytes n.1 in
    let tb = number_takes w32 (2 ^ 32) wide32 n.0.1 b.0 tn.0.bytes b.1 in
    let ts = bytes_takes 32 b.0.1 s.0 tb.0.bytes s.1 in
    let tp = number_takes w32 (2 ^ 32) wide32 s.0.1 p.0 ts.0.bytes p.1 in
    let tl = number_takes w32 (2 ^ 32) wide32 p.0.1 l.0 tp.0.bytes l.1 in
    let tk = byte_takes 1 2 l.0.1 k.0 (lit< tt) tl.0.bytes k.1 in
    let header : Header =
    record { version = v.0.0; document = d.0.0; author = a.0.0; device = dev.0.0; number = n.0.0; base = b.0.0; base_hash = s.0.0; epoch = p.0.0; leaf = l.0.0; kind = k.0.0 } in
    let made : Header × Reading = (header, k.0.1) in
    subst (λ (y : Header × Reading). Leaves r (header_bytes y.0) y.1 × IsHeader y.0) {x = made} {y = x} (ok_is made x k.2) (
      record {
        parts = header_parts header r.rest v.0.1.rest d.0.1.rest a.0.1.rest dev.0.1.rest n.0.1.rest b.0.1.rest s.0.1.rest p.0.1.rest l.0.1.rest k.0.1.rest
            tv.0.parts td.0.parts ta.0.parts tdev.0.parts tn.0.parts tb.0.parts ts.0.parts tp.0.parts tl.0.parts tk.0.parts;
        bytes = tk.0.bytes;
      },
      record {
        version = fits v.0.0 dev.0.0 tv.1 tv.2 tdev.2;
        device = tdev.1;
        document = td.1;
        author = ta.1;
        number = tn.1;
        base = tb.1;
        base_hash = ts.1;
        epoch = tp.1;
        leaf = tl.1;
        kind = (tk.1, tk.2);
      },
    )

pub header_again : (h : Header) (rest : List ℕ) → IsHeader h → header_at (record { rest = header_bytes h rest; at = 0 }) ≡ Ok (h, record { rest = rest; at = header_len h.version })
unfolding header_at header_bytes
header_again h rest is =
    let known = version_known h.version h.device is.version in
    let len = length (device_bytes h.version h.device) in
    let kind : List ℕ = h.kind ∷ rest in
    let leaf : List ℕ = to_be_bytes w32 h.leaf ++ kind in
    let epoch : List ℕ = to_be_bytes w32 h.epoch ++ leaf in
    let hash : List ℕ = h.base_hash ++ epoch in
    let base : List ℕ = to_be_bytes w32 h.base ++ hash in
    let number : List ℕ = to_be_bytes w32 h.number ++ base in
    let device : List ℕ = device_bytes h.version h.device ++ number in
    let author : List ℕ = to_be_bytes w16 h.author ++ device in
    let left : ℕ → Result (Header × Reading) ℕ = λ at. Ok (h, record { rest = rest; at = at }) in
    let end : 19 + len + 4 + 4 + 32 + 4 + 4 + 1 ≡ header_len h.version = omega (arith, header_len_is h.version h.device) in
    rw (
      byte_again FIRST_VERSION DEVICES_VERSION h.version 0 (h.document ++ author) known.0 known.1 (omega (arith, known.1)),
      bytes_again 16 1 h.document author is.document,
      u16_again h.author 17 device is.author,
      device_again h.version h.device 19 number is.version is.device,
      u32_again h.number (19 + len) base is.number,
      u32_again h.base (19 + len + 4) hash is.base,
      bytes_again 32 (19 + len + 4 + 4) h.base_hash epoch is.base_hash,
      u32_again h.epoch (19 + len + 4 + 4 + 32) leaf is.epoch,
      u32_again h.leaf (19 + len + 4 + 4 + 32 + 4) kind is.leaf,
      byte_again 1 2 h.kind (19 + len + 4 + 4 + 32 + 4 + 4) rest is.kind.0 is.kind.1 (omega (arith, is.kind.1)),
    ) (ap left end)

-- ---- bodies

-- the bytes of a counted string, and those after it
counted_text : (xs rest : List ℕ) → counted xs ++ rest ≡ counted_bytes xs rest
counted_text xs rest = append_assoc (to_be_bytes w32 (length xs)) xs rest

-- a counted string is of bytes
counted_is_bytes : (old xs rest : List ℕ) → IsBytes old → old ≡ counted xs ++ rest → IsBytes xs
counted_is_bytes old xs rest h e =
    let e' : old ≡ to_be_bytes w32 (length xs) ++ (xs ++ rest) = e ∙ counted_text xs rest in
    let tail : drop 4 old ≡ xs ++ rest = ap (λ (bs : List ℕ). drop 4 bs) e' ∙ drop_at (to_be_bytes w32 (length xs)) (xs ++ rest) 4 refl in
    let P : List ℕ → Type 0 = λ bs. IsBytes bs in
    let after : IsBytes (xs ++ rest) = subst P tail (IsBytes-drop 4 old h) in
    subst P (take_at xs rest (length xs) refl) (IsBytes-take (length xs) (xs ++ rest) after)

abbrev nothing_read : Unit {0} → Result (Unit {0}) ℕ
nothing_read u = Ok u

body_takes : (h : Header) (body : List ℕ) (u : Unit {0}) → IsBytes body → body_read h body ≡ Ok u → h.kind ≡ 2 → SpellsChange h.version body
body_takes h body u is e two =
    let at = body_place h.version in
    let P : ℕ → Type 0 = λ k. cond (eqb k 1) (nothing_read tt) (change_body_from h.version at body >>= λ change. nothing_read tt) ≡ Ok u in
    let e2 : (change_body_from h.version at body >>= λ change. nothing_read tt) ≡ Ok u = subst P two e in
    let c = bind_ok (change_body_from h.version at body) (λ change. nothing_read tt) u e2 in
    let t = change_body_takes h.version at body c.0 is c.1 in
    (c.0, t.0, t.1)

body_again : (h : Header) (body : List ℕ) → 1 ≤ h.kind → h.kind ≤ 2 → (h.kind ≡ 2 → SpellsChange h.version body) → body_read h body ≡ Ok tt
body_again h body low high change = go (eqb h.kind 1) refl
  where
    go : (b : Bool) → eqb h.kind 1 ≡ b → cond b (nothing_read tt) (change_body_from h.version (body_place h.version) body >>= λ change. nothing_read tt) ≡ Ok tt
    go true p = refl
    go false p =
        let not_one = eqb-false h.kind 1 p in
        let c = change (omega (arith, low, high, not_one)) in
        let read : change_body_from h.version (body_place h.version) body ≡ Ok c.0 =
        ap (change_body_from h.version (body_place h.version)) c.2 ∙ change_body_again h.version (body_place h.version) c.0 c.1 in
        rw read refl

-- ---- entries

limit_small : (kind : ℕ) → body_limit kind < 2 ^ 32
limit_small kind = go (eqb kind 1)
  where
    go : (b : Bool) → cond b MAX_EDIT_BODY MAX_CHANGE_BODY < 2 ^ 32
    go true = omega arith
    go false = omega arith

pub entry_takes : (bytes : List ℕ) (e : Entry) → IsBytes bytes → entry_of bytes ≡ Ok e → IsEntry e × (bytes ≡ entry_bytes e)
unfolding entry_of entry_bytes
entry_takes bytes e h read =
    let a = bind_ok _ _ e read in
    let b = bind_ok _ _ e a.2 in
    let u = bind_ok _ _ e b.2 in
    let s = bind_ok _ _ e u.2 in
    let n = bind_ok _ _ e s.2 in
    let r : Reading = record { rest = bytes; at = 0 } in
    let ta = header_takes r a.0 h a.1 in
    let tb = counted_takes (body_limit a.0.0.kind) a.0.1 b.0 ta.0.bytes b.1 in
    let ts = counted_takes MAX_SIGNATURE b.0.1 s.0 tb.0.bytes s.1 in
    let nothing : s.0.1.rest ≡ [] = end_takes s.0.1 n.1 in
    let made : Entry = record { header = a.0.0; body = b.0.0; signature = s.0.0 } in
    let body_is_bytes = counted_is_bytes a.0.1.rest b.0.0 b.0.1.rest ta.0.bytes tb.0.parts in
    let signature : b.0.1.rest ≡ counted_bytes s.0.0 [] = ts.0.parts ∙ ap (λ (rest : List ℕ). counted s.0.0 ++ rest) nothing ∙ counted_text s.0.0 [] in
    let body : a.0.1.rest ≡ counted_bytes b.0.0 (counted_bytes s.0.0 []) = tb.0.parts ∙ ap (λ (rest : List ℕ). counted b.0.0 ++ rest) signature ∙ counted_text b.0.0 (counted_bytes s.0.0 []) in
    subst (λ (y : Entry). IsEntry y × (bytes ≡ entry_bytes y)) {x = made} {y = e} (ok_is made e n.2) (
      record { header = ta.1; body = tb.2; change = body_takes a.0.0 b.0.0 u.0 body_is_bytes u.1; signature = ts.2 },
      ta.0.parts ∙ ap (header_bytes a.0.0) body,
    )

-- ---- lengths

pub limit_most : (kind : ℕ) → body_limit kind ≤ MAX_EDIT_BODY
limit_most kind = go (eqb kind 1)
  where
    go : (b : Bool) → cond b MAX_EDIT_BODY MAX_CHANGE_BODY ≤ MAX_EDIT_BODY
    go true = omega arith
    go false = omega arith

pub length-header_bytes : (h : Header) (rest : List ℕ) → IsHeader h → length (header_bytes h rest) ≡ header_len h.version + length rest
unfolding header_bytes
length-header_bytes h rest is =
    let hash : List ℕ = h.base_hash ++ (to_be_bytes w32 h.epoch ++ (to_be_bytes w32 h.leaf ++ h.kind ∷ rest)) in
    let number : List ℕ = to_be_bytes w32 h.number ++ (to_be_bytes w32 h.base ++ hash) in
    omega (
      arith,
      is.document,
      is.base_hash,
      header_len_is h.version h.device,
      length-append h.document (to_be_bytes w16 h.author ++ (device_bytes h.version h.device ++ number)),
      length-append (device_bytes h.version h.device) number,
      length-append h.base_hash (to_be_bytes w32 h.epoch ++ (to_be_bytes w32 h.leaf ++ h.kind ∷ rest)),
    )

-- a counted string has four bytes more
pub length-counted_bytes : (bytes rest : List ℕ) → length (counted_bytes bytes rest) ≡ 4 + length bytes + length rest
length-counted_bytes bytes rest = omega (arith, length-append bytes rest)

pub entry_size : (e : Entry) → IsEntry e → length (entry_bytes e) ≤ MAX_ENTRY
unfolding entry_bytes
entry_size e is = omega (
  arith,
  is.body,
  is.signature,
  limit_most e.header.kind,
  header_len-le e.header.version,
  length-header_bytes e.header (counted_bytes e.body (counted_bytes e.signature [])) is.header,
  length-counted_bytes e.body (counted_bytes e.signature []),
  length-counted_bytes e.signature [],
)

pub entry_again : (e : Entry) → IsEntry e → entry_of (entry_bytes e) ≡ Ok e
unfolding entry_of entry_bytes
entry_again e is =
    let h = e.header in
    let at = header_len h.version in
    let rest : List ℕ = counted_bytes e.signature [] in
    let small = limit_small h.kind in
    let body : counted_at (body_limit h.kind) (record { rest = counted_bytes e.body rest; at = at }) ≡ Ok (e.body, record { rest = rest; at = at + 4 + length e.body }) =
    ap (λ (bs : List ℕ). counted_at (body_limit h.kind) (record { rest = bs; at = at })) (sym (counted_text e.body rest)) ∙ counted_again (body_limit h.kind) at e.body rest (omega (arith, is.body, small)) is.body in
    let signature : counted_at MAX_SIGNATURE (record { rest = rest; at = at + 4 + length e.body }) ≡ Ok (e.signature, record { rest = []; at = at + 4 + length e.body + 4 + length e.signature }) =
    ap (λ (bs : List ℕ). counted_at MAX_SIGNATURE (record { rest = bs; at = at + 4 + length e.body })) (sym (counted_text e.signature []))
    ∙ counted_again MAX_SIGNATURE (at + 4 + length e.body) e.signature [] (omega (arith, is.signature)) is.signature in
    rw (
      header_again h (counted_bytes e.body rest) is.header,
      body,
      body_again h e.body is.header.kind.0 is.header.kind.1 is.change,
      signature,
    ) refl

-- what a call that read so found
pub entry_found : (bytes : List ℕ) (r : Result Entry EntryFault) → IsBytes bytes → GivesUnless Memory (λ e. e) r (fault_as Malformed (entry_of bytes)) → IfOk r (λ e. IsEntry e × (bytes ≡ entry_bytes e))
entry_found bytes (Ok e) h read = entry_takes bytes e h (fault_as_ok Malformed (entry_of bytes) e read)
entry_found bytes (Err fault) h read = tt

pub entry_sized : (bytes : List ℕ) (r : Result Entry EntryFault) → IfOk r (λ e. IsEntry e × (bytes ≡ entry_bytes e)) → IfOk r (λ _. length bytes ≤ MAX_ENTRY)
entry_sized bytes (Ok e) found = let P : List ℕ → Type 0 = λ b. length b ≤ MAX_ENTRY in subst P (sym found.1) (entry_size e found.0)
entry_sized bytes (Err fault) found = tt

pub entry_only : (bytes : List ℕ) (r : Result Entry EntryFault) → GivesUnless Memory (λ e. e) r (fault_as Malformed (entry_of bytes)) → (e : Entry) → IsEntry e → bytes ≡ entry_bytes e → GivesUnless Memory (λ e. e) r (Ok e)
entry_only bytes r read e is spelled = let P : Result Entry EntryFault → Type 0 = λ given. GivesUnless Memory (λ e. e) r given in subst P (ap (λ (bs : List ℕ). fault_as Malformed (entry_of bs)) spelled ∙ ap (fault_as Malformed) (entry_again e is)) read

pub change_of_entry : (e : Entry) → IsEntry e → e.header.kind ≡ 2 → (c : ChangeBody) × IsChangeBody e.header.version c × (change_of e ≡ Some c)
unfolding change_of
change_of_entry e is two =
    let version = e.header.version in
    let c = is.change two in
    let read : change_body_from version 0 e.body ≡ Ok c.0 = ap (change_body_from version 0) c.2 ∙ change_body_again version 0 c.0 c.1 in
    (c.0, c.1, rw (two, read) refl)
