-- The bytes of parts.
use Rattle.std.proofs.Common.{◌≡◌, ℕ, suc, ◌<◌, ◌+◌, ◌*◌, ◌≤◌, List, [], ◌∷◌, ◌++◌, length, ap, sym, subst, ◌∙◌, arith, take, drop, get_or, add-one, append_assoc}
use Rattle.sporc_delta.proofs.Common.{length-append, append-nil, take_all, drop_all, take_more, length-encode, len_utf8_bounds, w64, to_be_bytes, encode_utf8_all, AllByRecursion, Part, InsertText}
use Rattle.sporc_delta.proofs.Common.{out_len, part_marks, marks_of, part_bytes, parts_bytes, IsTypedPart}
use Rattle.std.proofs.Math.Seq.{drop-cons}
use Rattle.std.specs.Char.{encode_utf8}
use Rattle.sporc_base.proofs.ListLemmas.{all_append}
use Rattle.sporc_delta.proofs.Lengths.{out_len-append, out_len-insert_marks}

-- a character has at most four bytes
pub length-encode_all : (text : List ℕ) → length (encode_utf8_all text) ≤ 4 * length text
length-encode_all [] = omega arith
length-encode_all (c ∷ text) = omega (arith, length-encode_all text, length-append (encode_utf8 c) (encode_utf8_all text), length-encode c, len_utf8_bounds c)

-- a part has nine bytes, and the bytes of its text
length-part_bytes : (p : Part) → length (part_bytes p) ≤ 9 + 4 * out_len (part_marks p)
length-part_bytes (InsertText text) = omega (arith, length-encode_all text, out_len-insert_marks text, length-append (to_be_bytes w64 (length (encode_utf8_all text))) (encode_utf8_all text))
length-part_bytes p = omega arith

pub length-parts_bytes : (ps : List Part) → length (parts_bytes ps) ≤ 9 * length ps + 4 * out_len (marks_of ps)
length-parts_bytes [] = omega arith
length-parts_bytes (p ∷ ps) = omega (arith, length-part_bytes p, length-parts_bytes ps, length-append (part_bytes p) (parts_bytes ps), out_len-append (part_marks p) (marks_of ps))

first_of_rest : (ps : List Part) (i : ℕ) (p : Part) → i < length ps → p ≡ get_or ps i p → parts_bytes (drop i ps) ≡ part_bytes p ++ parts_bytes (drop (suc i) ps)
first_of_rest ps i p within is = ap parts_bytes (drop-cons ps i p within) ∙ ap (λ q. part_bytes q ++ parts_bytes (drop (suc i) ps)) (sym is)

-- the bytes of one part are among those of it and the parts behind it
pub part_within : (ps : List Part) (i : ℕ) (p : Part) → i < length ps → p ≡ get_or ps i p → length (part_bytes p) ≤ length (parts_bytes (drop i ps))
part_within ps i p within is =
    omega (arith, ap length (first_of_rest ps i p within is), length-append (part_bytes p) (parts_bytes (drop (suc i) ps)))

-- one part more was written, and then all of them
pub written_more : (ps : List Part) (i : ℕ) (p : Part) (old new : List ℕ) → i < length ps → p ≡ get_or ps i p → new ≡ old ++ part_bytes p
    → old ++ parts_bytes (drop i ps) ≡ parts_bytes ps → new ++ parts_bytes (drop (i + 1) ps) ≡ parts_bytes ps
written_more ps i p old new within is more before =
    rw (more, add-one) (append_assoc old (part_bytes p) (parts_bytes (drop (suc i) ps)) ∙ ap (λ (t : List ℕ). old ++ t) (sym (first_of_rest ps i p within is)) ∙ before)

pub written_all : (ps : List Part) (i : ℕ) (bytes : List ℕ) → length ps ≤ i → bytes ++ parts_bytes (drop i ps) ≡ parts_bytes ps → bytes ≡ parts_bytes ps
written_all ps i bytes end before =
    sym (append-nil bytes) ∙ ap (λ (rest : List Part). bytes ++ parts_bytes rest) (sym (drop_all i ps end)) ∙ before

-- one part more is of its type, and then all of them are
pub typed_more : (ps : List Part) (i : ℕ) (p : Part) → i < length ps → p ≡ get_or ps i p → IsTypedPart p → AllByRecursion IsTypedPart (take i ps)
    → AllByRecursion IsTypedPart (take (i + 1) ps)
typed_more ps i p within is typed before =
    rw (take_more ps i p within) (all_append IsTypedPart (take i ps) (get_or ps i p ∷ []) before (subst (λ (q : Part). IsTypedPart q) is typed, tt))

pub typed_all : (ps : List Part) (i : ℕ) → length ps ≤ i → AllByRecursion IsTypedPart (take i ps) → AllByRecursion IsTypedPart ps
typed_all ps i end typed = subst (λ (qs : List Part). AllByRecursion IsTypedPart qs) (take_all i ps end) typed
