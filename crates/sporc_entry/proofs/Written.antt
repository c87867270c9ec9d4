-- Bytes written one after another are the bytes of the whole.
use Rattle.std.proofs.Common.{◌≡◌, ℕ, List, [], ◌∷◌, ◌++◌, length, sym, ap, ◌∙◌, append_assoc}
use Rattle.sporc_entry.proofs.Common.{w32, to_be_bytes, append-nil, counted, Entry, Header, counted_bytes}
use Rattle.sporc_entry.specs.Entry.{header_bytes, entry_bytes, signed_string}

pub header_bytes-append : (h : Header) (rest : List ℕ) → header_bytes h [] ++ rest ≡ header_bytes h rest
unfolding header_bytes
header_bytes-append h rest = simp append_assoc

-- the bytes of a counted string with nothing after it
counted_alone : (xs : List ℕ) → counted xs ≡ counted_bytes xs []
counted_alone xs = ap (λ (t : List ℕ). to_be_bytes w32 (length xs) ++ t) (sym (append-nil xs))

pub entry_written : (e : Entry) → ([] ++ header_bytes e.header [] ++ counted e.body) ++ counted e.signature ≡ entry_bytes e
unfolding entry_bytes
entry_written e =
    append_assoc (header_bytes e.header []) (counted e.body) (counted e.signature) ∙ header_bytes-append e.header (counted e.body ++ counted e.signature)
    ∙ ap (header_bytes e.header) (append_assoc (to_be_bytes w32 (length e.body)) e.body (counted e.signature) ∙ ap (counted_bytes e.body) (counted_alone e.signature))

pub string_written : (e : Entry) → ([] ++ 3 ∷ []) ++ header_bytes e.header [] ++ counted e.body ≡ signed_string e
unfolding signed_string
string_written e = ap (λ (bs : List ℕ). 3 ∷ bs) (header_bytes-append e.header (counted e.body) ∙ ap (header_bytes e.header) (counted_alone e.body))
