-- The sizes of what is read: a body is within its limit, and a delta inserts no more characters than its bytes are many.
use Rattle.std.proofs.Common.{◌≡◌, ℕ, zero, suc, ◌+◌, ◌≤◌, Bool, true, false, cond, List, [], ◌∷◌, length, take, Option, Some, None, Result, Ok, Err, refl, ap, sym, ◌∙◌, subst, arith}
use Rattle.sporc_line.proofs.Common.{nat_lt, nat_le, ◌==◌, ltb-false, leb-true, length-take-le, Mark, inserted_len, inserted_len-append, inserted_len-remove_marks, inserted_len-insert_marks}
use Rattle.sporc_line.proofs.Common.{inserted_len-keep_marks, Entry, MAX_EDIT_BODY, MAX_SIGNATURE, header_at, body_limit, body_read, marks_in, w32, result_ok, mask_of}
use Rattle.sporc_line.proofs.Common.{length-mask_from, DeltaFault}
use Rattle.std.proofs.lemmas.Str.{IsUtf8-from_is_utf8}
use Rattle.sporc_bytes.specs.Fields.{Reading, ◌>>=◌, bytes_at, number_at, only_if, counted_at, end_at, past}
use Rattle.sporc_bytes.proofs.Fields.{bind_ok, bytes_len, only_if_ok}
use Rattle.sporc_delta.specs.declared.fault.DeltaFault.TheVariants as faults
use Rattle.sporc_delta.specs.declared.part.Kind.{Kind}
use Rattle.sporc_delta.specs.declared.part.Kind.TheVariants as kinds
use Rattle.sporc_delta.specs.declared.part.Part.{Part}
use Rattle.sporc_delta.specs.declared.part.Part.TheVariants.{Keep, Insert as InsertText, Remove}
use Rattle.sporc_delta.specs.Parts.{part_marks, marks_of, kind_of}
use Rattle.sporc_delta.specs.Reading.{head_at, text_at, body_at, part_at, parts_at, read_delta}
use Rattle.sporc_delta.proofs.Counted.{length-chars}
use Rattle.sporc_delta.proofs.Decoding.{head_ok, text_ok}
use Rattle.sporc_entry.proofs.EntryLaws.{limit_most}
use Rattle.sporc_entry.specs.Entry.{entry_of}

-- ---- fields

abbrev read_as : {X : Type 0} (F : Type 0) → X → Result X F
read_as F x = Ok x

cut_ok : (b : Bool) (at : ℕ) (x y : List ℕ × Reading) → cond b (Err at) (Ok x) ≡ Ok y → (b ≡ false) × (x ≡ y)
cut_ok true at x y h = absurd cc
cut_ok false at x y h = (refl, cc)

bytes_size : (n : ℕ) (r : Reading) (x : List ℕ × Reading) → bytes_at n r ≡ Ok x → length x.0 ≡ n
unfolding bytes_at
bytes_size n r x h =
    let c = cut_ok (nat_lt (length r.rest) n) r.at (take n r.rest, past n r) x h in
    ap (λ (p : List ℕ × Reading). length p.0) (sym c.1) ∙ length-take-le n r.rest (ltb-false (length r.rest) n c.0)

counted_within : (limit : ℕ) (r : Reading) (x : List ℕ × Reading) → counted_at limit r ≡ Ok x → length x.0 ≤ limit
unfolding counted_at
counted_within limit r x h =
    let n = bind_ok (number_at w32 r) (λ n. only_if (nat_le n.0 limit) r.at n.0 >>= λ len. bytes_at len n.1) x h in
    let len = bind_ok (only_if (nat_le n.0.0 limit) r.at n.0.0) (λ len. bytes_at len n.0.1) x n.2 in
    let t = only_if_ok (nat_le n.0.0 limit) r.at n.0.0 len.0 len.1 in
    omega (arith, bytes_size len.0 n.0.1 x len.2, leb-true n.0.0 limit t.0, t.1)

-- the body of an entry that was read
pub body_within : (bytes : List ℕ) (e : Entry) → entry_of bytes ≡ Ok e → length e.body ≤ MAX_EDIT_BODY
unfolding entry_of
body_within bytes e h =
    let header = bind_ok (header_at (record { rest = bytes; at = 0 })) _ e h in
    let body = bind_ok (counted_at (body_limit header.0.0.kind) header.0.1) _ e header.2 in
    let read = bind_ok (body_read header.0.0 body.0.0) _ e body.2 in
    let signature = bind_ok (counted_at MAX_SIGNATURE body.0.1) _ e read.2 in
    let end = bind_ok (end_at signature.0.1) _ e signature.2 in
    let same : body.0.0 ≡ e.body = ap (λ (e : Entry). e.body) (ok_entry _ e end.2) in
    omega (arith, ap length same, counted_within (body_limit header.0.0.kind) header.0.1 body.0 body.1, limit_most header.0.0.kind)
  where
    ok_entry : (a b : Entry) → read_as ℕ a ≡ read_as ℕ b → a ≡ b
    ok_entry a b h = cc

-- ---- deltas

-- a part that was read inserts no more than its bytes
abbrev Within : Reading → Part × Reading → Type 0
Within r x = inserted_len (part_marks x.0) + length x.1.rest ≤ length r.rest

part_body : (kind : Kind) (n : ℕ) (r : Reading) (x : Part × Reading) → body_at kind n r ≡ Ok x → Within r x
part_body kinds.Keep n r x e =
    let same : (Keep n, r) ≡ x = cc in
    subst (Within r) same (omega (arith, inserted_len-keep_marks n))
part_body kinds.Remove n r x e =
    let same : (Remove n, r) ≡ x = cc in
    subst (Within r) same (omega (arith, inserted_len-remove_marks n))
part_body kinds.Insert n r x e =
    let a = bind_ok (text_at n r) (λ text. Ok (InsertText text.0, text.1)) x e in
    let same : (InsertText a.0.0, a.0.1) ≡ x = cc a.2 in
    let t = text_ok n r a.0 a.1 in
    let chars = length-chars t.front (IsUtf8-from_is_utf8 t.front t.utf8) in
    subst (Within r) same (omega (arith, inserted_len-insert_marks a.0.0, chars, ap length t.is, bytes_size n r (t.front, a.0.1) t.taken, bytes_len n r (t.front, a.0.1) t.taken))

part_within : (before : Option Kind) (r : Reading) (x : Part × Reading) → part_at before r ≡ Ok x → Within r x
unfolding part_at
part_within before r x e =
    let a = bind_ok (head_at before r) (λ head. body_at head.0 head.1 head.2) x e in
    let h = head_ok before r a.0 a.1 in
    omega (arith, bytes_len 9 r (h.front, a.0.2) h.taken, part_body a.0.0 a.0.1 a.0.2 x a.2)

-- parts that were read insert no more than all bytes
abbrev AllWithin : Reading → List Part → Type 0
AllWithin r ps = inserted_len (marks_of ps) ≤ length r.rest

nothing_within : (r : Reading) (ps : List Part) → read_as DeltaFault [] ≡ read_as DeltaFault ps → AllWithin r ps
nothing_within r ps e = let same : [] ≡ ps = cc in subst (AllWithin r) same (omega arith)

parts_within : (n : ℕ) (before : Option Kind) (r : Reading) (ps : List Part) → parts_at n before r ≡ Ok ps → AllWithin r ps
unfolding parts_at
parts_within zero before r ps e = go (length r.rest == 0) e
  where
    go : (t : Bool) → cond t (Ok []) (Err faults.Short) ≡ Ok ps → AllWithin r ps
    go true e = nothing_within r ps e
    go false e = absurd cc
parts_within (suc n) before r ps e = go (λ x qs. parts_within n (Some (kind_of x.0)) x.1 qs) (length r.rest == 0) e
  where
    more : ((x : Part × Reading) (qs : List Part) → parts_at n (Some (kind_of x.0)) x.1 ≡ Ok qs → AllWithin x.1 qs) → (part_at before r >>= λ first. parts_at n (Some (kind_of first.0)) first.1 >>= λ others. Ok (first.0 ∷ others)) ≡ Ok ps → AllWithin r ps
    more rest e =
        let first = bind_ok (part_at before r) (λ first. parts_at n (Some (kind_of first.0)) first.1 >>= λ others. Ok (first.0 ∷ others)) ps e in
        let others = bind_ok (parts_at n (Some (kind_of first.0.0)) first.0.1) (λ others. Ok (first.0.0 ∷ others)) ps first.2 in
        let same : first.0.0 ∷ others.0 ≡ ps = cc others.2 in
        subst (AllWithin r) same (omega (arith, inserted_len-append (part_marks first.0.0) (marks_of others.0), part_within before r first.0 first.1, rest first.0 others.0 others.1))

    go : ((x : Part × Reading) (qs : List Part) → parts_at n (Some (kind_of x.0)) x.1 ≡ Ok qs → AllWithin x.1 qs) → (t : Bool)
        → cond t (Ok []) (part_at before r >>= λ first. parts_at n (Some (kind_of first.0)) first.1 >>= λ others. Ok (first.0 ∷ others)) ≡ Ok ps → AllWithin r ps
    go rest true e = nothing_within r ps e
    go rest false e = more rest e

read_within : (bytes : List ℕ) (ms : List Mark) → read_delta bytes ≡ Ok ms → inserted_len ms ≤ length bytes
unfolding read_delta
read_within bytes ms e =
    let p = bind_ok (parts_at (length bytes) None (record { rest = bytes; at = 0 })) (λ parts. Ok (marks_of parts)) ms e in
    let same : marks_of p.0 ≡ ms = cc p.2 in
    subst (λ (ms : List Mark). inserted_len ms ≤ length bytes) same (parts_within (length bytes) None (record { rest = bytes; at = 0 }) p.0 p.1)

result_of : {X F : Type 0} (r : Result X F) (x : X) → result_ok r ≡ Some x → r ≡ Ok x
result_of (Ok y) x h = cc
result_of (Err f) x h = absurd cc

-- the marks of a masked body insert no more characters than the body has bytes
pub marks_within : (key : List ℕ) (stream : ℕ) (body : List ℕ) (ms : List Mark) → marks_in key stream body ≡ Some ms → inserted_len ms ≤ length body
marks_within key stream body ms h =
    omega (arith, read_within (mask_of key stream body) ms (result_of (read_delta (mask_of key stream body)) ms h), length-mask_from key stream 0 body)
