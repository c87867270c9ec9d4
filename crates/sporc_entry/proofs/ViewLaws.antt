-- An entry read where its bytes stand: what its author signs is a part of the bytes, and its parts stand at their places.
use Rattle.std.proofs.Common.{◌≡◌, ℕ, ◌+◌, ◌≤◌, Bool, true, false, cond, eqb, List, [], ◌∷◌, ◌++◌, length, take, drop, Option, None, Ok, refl, sym, ap, ◌∙◌, append_assoc, arith, length-append}
use Rattle.sporc_entry.proofs.Common.{w32, to_be_bytes, eqb-true, eqb-false, append-nil, take_at, drop_at, IsBytes, ChangeBody, Entry, change_body_from, entry_of, counted_bytes, IsEntry, body_place}
use Rattle.std.specs.Result.{result_ok}
use Rattle.sporc_entry.specs.Entry.{change_of, header_bytes, entry_bytes, signed_string}
use Rattle.sporc_entry.specs.EntryView.{parts_entry, entry_within, EntryViewInvariant}
use Rattle.sporc_entry.proofs.ChangeLaws.{change_body_takes, change_body_again}
use Rattle.sporc_entry.proofs.EntryLaws.{entry_takes, length-header_bytes, length-counted_bytes}
use Rattle.sporc_entry.proofs.Written.{header_bytes-append}

-- a body that is read somewhere is read anywhere
pub change_anywhere : (version at : ℕ) (body : List ℕ) (c : ChangeBody) → IsBytes body → change_body_from version at body ≡ Ok c → change_body_from version 0 body ≡ Ok c
change_anywhere version at body c h e = let t = change_body_takes version at body c h e in ap (change_body_from version 0) t.1 ∙ change_body_again version 0 c t.0

-- the change that an entry holds, by its kind
pub view_change : (e : Entry) (change : Option ChangeBody) → IsEntry e → (e.header.kind ≡ 1 → change ≡ None) → (e.header.kind ≡ 2 → change ≡ result_ok (change_body_from e.header.version 0 e.body)) → change ≡ change_of e
unfolding change_of
view_change e change is edit some = go (eqb e.header.kind 2) refl
  where
    go : (b : Bool) → eqb e.header.kind 2 ≡ b → change ≡ cond b (result_ok (change_body_from e.header.version 0 e.body)) None
    go true p = some (eqb-true e.header.kind 2 p)
    go false p = edit (omega (arith, is.header.kind.0, is.header.kind.1, eqb-false e.header.kind 2 p))

-- the bytes of an entry before its signature, and the rest
counted_front : (xs rest : List ℕ) → counted_bytes xs rest ≡ counted_bytes xs [] ++ rest
counted_front xs rest = ap (λ (t : List ℕ). to_be_bytes w32 (length xs) ++ (t ++ rest)) (sym (append-nil xs))

abbrev before_signature : Entry → List ℕ
before_signature e = header_bytes e.header (counted_bytes e.body [])

signed_first : (e : Entry) → entry_bytes e ≡ before_signature e ++ counted_bytes e.signature []
unfolding entry_bytes
signed_first e =
    let rest : List ℕ = counted_bytes e.signature [] in
    ap (header_bytes e.header) (counted_front e.body rest)
    ∙ sym (header_bytes-append e.header (counted_bytes e.body [] ++ rest))
    ∙ sym (append_assoc (header_bytes e.header []) (counted_bytes e.body []) rest)
    ∙ ap (λ (t : List ℕ). t ++ rest) (header_bytes-append e.header (counted_bytes e.body []))

signed_length : (e : Entry) → IsEntry e → length (before_signature e) ≡ body_place e.header.version + length e.body
signed_length e is = omega (arith, length-header_bytes e.header (counted_bytes e.body []) is.header, length-counted_bytes e.body [])

pub view_bound : (e : Entry) (bytes : List ℕ) → IsEntry e → bytes ≡ entry_bytes e → body_place e.header.version + 4 + length e.body ≤ length bytes
view_bound e bytes is spelled = omega (arith, ap length (spelled ∙ signed_first e), length-append (before_signature e) (counted_bytes e.signature []), signed_length e is, length-counted_bytes e.signature [])

pub view_signed : (e : Entry) (bytes : List ℕ) → IsEntry e → bytes ≡ entry_bytes e → 3 ∷ take (body_place e.header.version + length e.body) bytes ≡ signed_string e
unfolding signed_string
view_signed e bytes is spelled =
    ap (λ (t : List ℕ). 3 ∷ t) (ap (take (body_place e.header.version + length e.body)) (spelled ∙ signed_first e) ∙ take_at (before_signature e) (counted_bytes e.signature []) (body_place e.header.version + length e.body) (signed_length e is))

-- ---- places

body_first : (e : Entry) → entry_bytes e ≡ (header_bytes e.header [] ++ to_be_bytes w32 (length e.body)) ++ (e.body ++ counted_bytes e.signature [])
unfolding entry_bytes
body_first e =
    sym (header_bytes-append e.header (counted_bytes e.body (counted_bytes e.signature [])))
    ∙ sym (append_assoc (header_bytes e.header []) (to_be_bytes w32 (length e.body)) (e.body ++ counted_bytes e.signature []))

body_in_place : (e : Entry) (bytes : List ℕ) → IsEntry e → bytes ≡ entry_bytes e → take (length e.body) (drop (body_place e.header.version) bytes) ≡ e.body
body_in_place e bytes is spelled =
    let front : List ℕ = header_bytes e.header [] ++ to_be_bytes w32 (length e.body) in
    let len : length front ≡ body_place e.header.version = omega (arith, length-append (header_bytes e.header []) (to_be_bytes w32 (length e.body)), length-header_bytes e.header [] is.header) in
    ap (λ (bs : List ℕ). take (length e.body) (drop (body_place e.header.version) bs)) (spelled ∙ body_first e)
    ∙ ap (take (length e.body)) (drop_at front (e.body ++ counted_bytes e.signature []) (body_place e.header.version) len)
    ∙ take_at e.body (counted_bytes e.signature []) (length e.body) refl

signature_in_place : (e : Entry) (bytes : List ℕ) → IsEntry e → bytes ≡ entry_bytes e → drop (body_place e.header.version + 4 + length e.body) bytes ≡ e.signature
signature_in_place e bytes is spelled =
    let front : List ℕ = before_signature e ++ to_be_bytes w32 (length e.signature) in
    let len : length front ≡ body_place e.header.version + 4 + length e.body = omega (arith, length-append (before_signature e) (to_be_bytes w32 (length e.signature)), signed_length e is) in
    ap (drop (body_place e.header.version + 4 + length e.body)) (spelled ∙ signed_first e ∙ sym (append_assoc (before_signature e) (to_be_bytes w32 (length e.signature)) (e.signature ++ [])))
    ∙ drop_at front (e.signature ++ []) (body_place e.header.version + 4 + length e.body) len
    ∙ append-nil e.signature

-- an entry is the one within its bytes
pub entry_in_place : (e : Entry) (bytes : List ℕ) → IsEntry e → bytes ≡ entry_bytes e → entry_within e.header bytes (length e.body) ≡ e
entry_in_place e bytes is spelled =
    ap (λ (body : List ℕ). parts_entry e.header body (drop (body_place e.header.version + 4 + length e.body) bytes)) (body_in_place e bytes is spelled)
    ∙ ap (λ (signature : List ℕ). parts_entry e.header e.body signature) (signature_in_place e bytes is spelled)

-- what is known of an entry that was read
pub view_holds : (bytes : List ℕ) (e : Entry) (change : Option ChangeBody) → IsBytes bytes → entry_of bytes ≡ Ok e → (e.header.kind ≡ 1 → change ≡ None) → (e.header.kind ≡ 2 → change ≡ result_ok (change_body_from e.header.version 0 e.body))
    → EntryViewInvariant e bytes change
view_holds bytes e change h read edit some =
    let t = entry_takes bytes e h read in
    record { entry = t.0; spelled = t.1; change = view_change e change t.0 edit some }
