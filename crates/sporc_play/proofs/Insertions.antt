-- How long the bytes of an insertion are.
use Rattle.std.proofs.Common.{◌≡◌, ℕ, zero, suc, ◌+◌, ◌-◌, ◌≤◌, List, [], ◌∷◌, ◌++◌, length, refl, ap, subst, arith, append_assoc, append-nil, length-append}
use Rattle.sporc_play.proofs.Common.{w64, to_be_bytes, encode_utf8, encode_utf8_all, delta_bytes, parts_bytes, Mark, insertion, insert_marks, keep_marks, Part, runs, with_mark}
use Rattle.sporc_delta.specs.declared.part.Part.TheVariants.{Keep as KeepRun, Insert as InsertText, Remove as RemoveRun}
use Rattle.sporc_delta.specs.Marks.{Keep, Insert}

abbrev size : List Part → ℕ
size ps = length (parts_bytes ps)

size-keep : (n : ℕ) (ps : List Part) → size (KeepRun n ∷ ps) ≡ 9 + size ps
size-keep n ps = omega (arith, length-append (to_be_bytes w64 n) (parts_bytes ps))

size-insert : (t : List ℕ) (ps : List Part) → size (InsertText t ∷ ps) ≡ 9 + (length (encode_utf8_all t) + size ps)
size-insert t ps =
    omega (
      arith,
      length-append (to_be_bytes w64 (length (encode_utf8_all t)) ++ encode_utf8_all t) (parts_bytes ps),
      length-append (to_be_bytes w64 (length (encode_utf8_all t))) (encode_utf8_all t),
    )

-- ---- parts that begin with one that keeps, and have so many bytes behind it

record Kept (ps : List Part) (n : ℕ) : Type 0 where
  count : ℕ
  rest : List Part
  is : ps ≡ KeepRun count ∷ rest
  short : size rest ≤ n

first_kept : (ps : List Part) → Kept (with_mark Keep ps) (size ps)
first_kept [] = record { count = 1; rest = []; is = refl; short = omega arith }
first_kept (KeepRun n ∷ ps) = record { count = suc n; rest = ps; is = refl; short = omega (arith, size-keep n ps) }
first_kept (InsertText t ∷ ps) = record { count = 1; rest = InsertText t ∷ ps; is = refl; short = omega arith }
first_kept (RemoveRun n ∷ ps) = record { count = 1; rest = RemoveRun n ∷ ps; is = refl; short = omega arith }

more_kept : (ps : List Part) (n : ℕ) → Kept ps n → Kept (with_mark Keep ps) n
more_kept ps n k = record { count = suc k.count; rest = k.rest; is = ap (with_mark Keep) k.is; short = k.short }

kept_run : (n : ℕ) (ms : List Mark) → Kept (runs (keep_marks (suc n) ++ ms)) (size (runs ms))
kept_run zero ms = first_kept (runs ms)
kept_run (suc n) ms = more_kept (runs (keep_marks (suc n) ++ ms)) (size (runs ms)) (kept_run n ms)

size-keep_marks : (n : ℕ) (ms : List Mark) → size (runs (keep_marks n ++ ms)) ≤ 9 + size (runs ms)
size-keep_marks zero ms = omega arith
size-keep_marks (suc n) ms = let k = kept_run n ms in omega (arith, ap size k.is, size-keep k.count k.rest, k.short)

-- ---- parts that begin with one that inserts, and have so many bytes of text and behind it

record Inserted (ps : List Part) (n : ℕ) : Type 0 where
  text : List ℕ
  rest : List Part
  is : ps ≡ InsertText text ∷ rest
  short : length (encode_utf8_all text) + size rest ≤ n

length-encode : (c : ℕ) (t : List ℕ) → length (encode_utf8_all (c ∷ t)) ≡ length (encode_utf8 c) + length (encode_utf8_all t)
length-encode c t = length-append (encode_utf8 c) (encode_utf8_all t)

first_inserted : (c : ℕ) (ps : List Part) → Inserted (with_mark (Insert c) ps) (length (encode_utf8_all (c ∷ [])) + size ps)
first_inserted c [] = record { text = c ∷ []; rest = []; is = refl; short = omega arith }
first_inserted c (KeepRun n ∷ ps) = record { text = c ∷ []; rest = KeepRun n ∷ ps; is = refl; short = omega arith }
first_inserted c (RemoveRun n ∷ ps) = record { text = c ∷ []; rest = RemoveRun n ∷ ps; is = refl; short = omega arith }
first_inserted c (InsertText t ∷ ps) = record {
  text = c ∷ t;
  rest = ps;
  is = refl;
  short = omega (arith, length-encode c t, length-encode c [], size-insert t ps);
}

more_inserted : (c : ℕ) (ps : List Part) (n : ℕ) → Inserted ps n → Inserted (with_mark (Insert c) ps) (length (encode_utf8 c) + n)
more_inserted c ps n k = record {
  text = c ∷ k.text;
  rest = k.rest;
  is = ap (with_mark (Insert c)) k.is;
  short = omega (arith, length-encode c k.text, k.short);
}

inserted_run : (c : ℕ) (t : List ℕ) (ms : List Mark) → Inserted (runs (insert_marks (c ∷ t) ++ ms)) (length (encode_utf8_all (c ∷ t)) + size (runs ms))
inserted_run c [] ms = first_inserted c (runs ms)
inserted_run c (d ∷ t) ms =
    let more = more_inserted c (runs (insert_marks (d ∷ t) ++ ms)) (length (encode_utf8_all (d ∷ t)) + size (runs ms)) (inserted_run d t ms) in
    let P : ℕ → Type 0 = λ n. Inserted (runs (insert_marks (c ∷ d ∷ t) ++ ms)) n in
    subst P (omega (arith, length-encode c (d ∷ t))) more

size-insert_marks : (t : List ℕ) (ms : List Mark) → size (runs (insert_marks t ++ ms)) ≤ 9 + (length (encode_utf8_all t) + size (runs ms))
size-insert_marks [] ms = omega arith
size-insert_marks (c ∷ t) ms = let k = inserted_run c t ms in omega (arith, ap size k.is, size-insert k.text k.rest, k.short)

-- ---- the insertion

pub insertion_short : (len at : ℕ) (text : List ℕ) → length (delta_bytes (insertion len at text)) ≤ 27 + length (encode_utf8_all text)
insertion_short len at text =
    let end = keep_marks (len - at) in
    let nothing : size (runs (end ++ [])) ≤ 9 + 0 = size-keep_marks (len - at) [] in
    omega (
      arith,
      ap (λ (ms : List Mark). size (runs ms)) (append_assoc (keep_marks at) (insert_marks text) end),
      size-keep_marks at (insert_marks text ++ end),
      size-insert_marks text end,
      ap (λ (ms : List Mark). size (runs ms)) (append-nil end),
      nothing,
    )
