-- What is read is spelled so, and what is spelled so is read.
use Rattle.std.proofs.Common.{◌≡◌, ℕ, zero, suc, ◌+◌, ◌≤◌, ◌<◌, Bool, true, false, ◌||◌, cond, eqb, ltb, List, [], ◌∷◌, ◌++◌, length, drop, Option, Some, None, Ok, Err, refl, sym, ap, subst, ◌∙◌}
use Rattle.std.proofs.Common.{append_assoc, arith}
use Rattle.sporc_delta.proofs.Common.{slice_index, w64, from_be_bytes, to_be_bytes, all_scalars, encode_utf8_all, eqb-false, eqb-true, le-ltb, ltb-false, ne_eqb, or_parts, append-nil, length-append}
use Rattle.sporc_delta.proofs.Common.{chars-encodes, encodes-chars, scalars-chars, IsUtf8-from_is_utf8, is_utf8-from_IsUtf8, length-le-encodes, MAX_COUNT, Part, InsertText, Remove, Mark, marks_of}
use Rattle.sporc_delta.proofs.Common.{runs, kind_of, part_len, BeginsUnlike, AreRuns, kind_byte, part_bytes, parts_bytes, HasSpelling, HaveSpellings, Spells, kind_at, count_at, is_kind, body_at}
use Rattle.std.proofs.lemmas.Nat.{be_bytes_8, from_be_bytes-to_be_bytes_8}
use Rattle.sporc_base.specs.Bytes.{IsBytes}
use Rattle.sporc_base.proofs.ByteLemmas.{IsBytes-rest}
use Rattle.sporc_bytes.specs.Fields.{Reading, ◌>>=◌}
use Rattle.sporc_bytes.proofs.Fields.{Takes, Takes-then, bind_ok, bytes_again, bytes_takes}
use Rattle.sporc_delta.specs.declared.encode.TheConstants.{INSERT, KEEP, REMOVE}
use Rattle.sporc_delta.specs.declared.fault.DeltaFault.TheVariants as faults
use Rattle.sporc_delta.specs.declared.part.Kind.{Kind}
use Rattle.sporc_delta.specs.declared.part.Kind.TheVariants as kinds
use Rattle.sporc_delta.specs.declared.part.Part.TheVariants.{Keep}
use Rattle.sporc_delta.specs.Reading.{head_at, text_at, part_at, parts_at, read_delta}
use Rattle.sporc_delta.proofs.Counted.{IsUtf8-encode_all}
use Rattle.sporc_delta.proofs.Decoding.{guard_ok, head_ok, text_ok, no_parts}
use Rattle.sporc_delta.proofs.Runs.{runs-marks_of, marks_of-runs, AreRuns-runs, same_is_kind}

-- ---- what was read

kind_spelled : (byte : ℕ) (kind : Kind) → kind_at byte ≡ Ok kind → byte ≡ kind_byte kind
kind_spelled byte kind e = go (eqb byte KEEP) (eqb byte INSERT) (eqb byte REMOVE) refl refl refl e
  where
    go : (x y z : Bool) → eqb byte KEEP ≡ x → eqb byte INSERT ≡ y → eqb byte REMOVE ≡ z
        → cond x (Ok kinds.Keep) (cond y (Ok kinds.Insert) (cond z (Ok kinds.Remove) (Err faults.BadKind))) ≡ Ok kind → byte ≡ kind_byte kind
    go true y z a b c e = let k : kinds.Keep ≡ kind = cc in eqb-true byte KEEP a ∙ ap kind_byte k
    go false true z a b c e = let k : kinds.Insert ≡ kind = cc in eqb-true byte INSERT b ∙ ap kind_byte k
    go false false true a b c e = let k : kinds.Remove ≡ kind = cc in eqb-true byte REMOVE c ∙ ap kind_byte k
    go false false false a b c e = absurd cc

record CountRead (number count : ℕ) : Type 0 where
  pub is : number ≡ count
  pub some : 0 < count
  pub small : count ≤ MAX_COUNT

count_ok : (number count : ℕ) → count_at number ≡ Ok count → CountRead number count
count_ok number count e =
    let g = guard_ok (eqb number 0 || ltb (MAX_COUNT) number) faults.BadCount number count e in
    let n = or_parts (eqb number 0) (ltb (MAX_COUNT) number) g.0 in
    let some = eqb-false number 0 n.0 in
    let small : number ≤ MAX_COUNT = ltb-false (MAX_COUNT) number n.1 in
    record { is = g.1; some = rw (← g.1) (omega arith); small = rw (← g.1) small }

record FrontTaken (front : List ℕ) (kind : Kind) (count : ℕ) : Type 0 where
  pub spelled : front ≡ kind_byte kind ∷ to_be_bytes w64 count
  pub some : 0 < count
  pub small : count ≤ MAX_COUNT

front_taken : (front : List ℕ) (kind : Kind) (count : ℕ) → length front ≡ 9 → IsBytes front → kind_at (slice_index front 0) ≡ Ok kind → count_at (from_be_bytes w64 (drop 1 front)) ≡ Ok count → FrontTaken front kind count
front_taken [] kind count len fits k n = absurd (omega arith)
front_taken (b ∷ bs) kind count len fits k n =
    let read = count_ok (from_be_bytes w64 bs) count n in
    let number : to_be_bytes w64 count ≡ bs = rw (← read.is) (be_bytes_8 bs (from_be_bytes w64 bs) (omega (arith, len)) (IsBytes-rest b bs fits) refl) in
    record {
      spelled = ap (λ c. c ∷ bs) (kind_spelled b kind k) ∙ ap (λ xs. kind_byte kind ∷ xs) (sym number);
      some = read.some;
      small = read.small;
    }

record HeadTaken (before : Option Kind) (r : Reading) (head : Kind × ℕ × Reading) : Type 0 where
  pub takes : Takes r (kind_byte head.0 ∷ to_be_bytes w64 head.1) head.2
  pub some : 0 < head.1
  pub small : head.1 ≤ MAX_COUNT
  pub unlike : is_kind before head.0 ≡ false

head_taken : (before : Option Kind) (r : Reading) (head : Kind × ℕ × Reading) → IsBytes r.rest → head_at before r ≡ Ok head → HeadTaken before r head
head_taken before r head fits e =
    let h = head_ok before r head e in
    let t = bytes_takes 9 r (h.front, head.2) fits h.taken in
    let f = front_taken h.front head.0 head.1 t.1 t.2 h.kind h.count in
    record { takes = subst (λ (text : List ℕ). Takes r text head.2) f.spelled t.0; some = f.some; small = f.small; unlike = h.unlike }

record TextTaken (n : ℕ) (r : Reading) (x : List ℕ × Reading) : Type 0 where
  pub takes : Takes r (encode_utf8_all x.0) x.1
  pub len : length (encode_utf8_all x.0) ≡ n
  pub characters : all_scalars x.0 ≡ true

text_taken : (n : ℕ) (r : Reading) (x : List ℕ × Reading) → IsBytes r.rest → text_at n r ≡ Ok x → TextTaken n r x
text_taken n r x fits e =
    let h = text_ok n r x e in
    let t = bytes_takes n r (h.front, x.1) fits h.taken in
    let utf8 = IsUtf8-from_is_utf8 h.front h.utf8 in
    let encoded : h.front ≡ encode_utf8_all x.0 = sym (encodes-chars h.front utf8) ∙ ap encode_utf8_all h.is in
    record {
      takes = subst (λ (text : List ℕ). Takes r text x.1) encoded t.0;
      len = ap length (sym encoded) ∙ t.1;
      characters = rw (← h.is) (scalars-chars h.front utf8);
    }

record PartTaken (before : Option Kind) (r : Reading) (x : Part × Reading) : Type 0 where
  pub takes : Takes r (part_bytes x.0) x.1
  pub in_range : HasSpelling x.0
  pub some : 0 < part_len x.0
  pub unlike : is_kind before (kind_of x.0) ≡ false

-- a text of some bytes has some characters
some_characters : (text : List ℕ) → 0 < length (encode_utf8_all text) → 0 < length text
some_characters [] h = h
some_characters (c ∷ text) h = omega arith

body_taken : (before : Option Kind) (r : Reading) (kind : Kind) (n : ℕ) (rest : Reading) (x : Part × Reading) → HeadTaken before r (kind, n, rest) → body_at kind n rest ≡ Ok x → PartTaken before r x
body_taken before r kinds.Keep n rest x h e =
    let same : (Keep n, rest) ≡ x = cc e in
    subst (PartTaken before r) same record { takes = h.takes; in_range = h.small; some = h.some; unlike = h.unlike }
body_taken before r kinds.Remove n rest x h e =
    let same : (Remove n, rest) ≡ x = cc e in
    subst (PartTaken before r) same record { takes = h.takes; in_range = h.small; some = h.some; unlike = h.unlike }
body_taken before r kinds.Insert n rest x h e =
    let a = bind_ok (text_at n rest) (λ text. Ok (InsertText text.0, text.1)) x e in
    let t = text_taken n rest a.0 h.takes.bytes a.1 in
    let same : (InsertText a.0.0, a.0.1) ≡ x = cc a.2 in
    let head : Takes r (INSERT ∷ to_be_bytes w64 (length (encode_utf8_all a.0.0))) rest = subst (λ (k : ℕ). Takes r (INSERT ∷ to_be_bytes w64 k) rest) (sym t.len) h.takes in
    subst (PartTaken before r) same record {
      takes = Takes-then r (INSERT ∷ to_be_bytes w64 (length (encode_utf8_all a.0.0))) rest (encode_utf8_all a.0.0) a.0.1 head t.takes;
      in_range = (t.characters, omega (arith, t.len, h.small));
      some = some_characters a.0.0 (omega (arith, t.len, h.some));
      unlike = h.unlike;
    }

part_taken : (before : Option Kind) (r : Reading) (x : Part × Reading) → IsBytes r.rest → part_at before r ≡ Ok x → PartTaken before r x
unfolding part_at
part_taken before r x fits e =
    let a = bind_ok (head_at before r) (λ head. body_at head.0 head.1 head.2) x e in
    body_taken before r a.0.0 a.0.1 a.0.2 x (head_taken before r a.0 fits a.1) a.2

-- the first of the parts is not of the kind before
abbrev FollowsKind : Option Kind → List Part → Type 0
FollowsKind before [] = Unit {0}
FollowsKind before (p ∷ ps) = is_kind before (kind_of p) ≡ false

begins_unlike : (p : Part) (ps : List Part) → FollowsKind (Some (kind_of p)) ps → BeginsUnlike p ps
begins_unlike p [] h = tt
begins_unlike p (q ∷ ps) h = sym (same_is_kind p q) ∙ h

follows_kind : (p : Part) (ps : List Part) → BeginsUnlike p ps → FollowsKind (Some (kind_of p)) ps
follows_kind p [] h = tt
follows_kind p (q ∷ ps) h = same_is_kind p q ∙ h

record PartsTaken (before : Option Kind) (bytes : List ℕ) (ps : List Part) : Type 0 where
  pub spelled : bytes ≡ parts_bytes ps
  pub in_range : HaveSpellings ps
  pub are_runs : AreRuns ps
  pub follows : FollowsKind before ps

none_left : (bytes : List ℕ) → length bytes ≡ 0 → bytes ≡ []
none_left [] len = refl
none_left (b ∷ bytes) len = absurd (omega arith)

no_parts_taken : (before : Option Kind) (bytes : List ℕ) (ps : List Part) → length bytes ≡ 0 → [] ≡ ps → PartsTaken before bytes ps
no_parts_taken before bytes ps len none =
    subst (PartsTaken before bytes) none record { spelled = none_left bytes len; in_range = tt; are_runs = tt; follows = tt }

parts_taken : (n : ℕ) (before : Option Kind) (r : Reading) (ps : List Part) → IsBytes r.rest → parts_at n before r ≡ Ok ps → PartsTaken before r.rest ps
unfolding parts_at
parts_taken zero before r ps fits e = by (eqb (length r.rest) 0) refl e
  where
    by : (b : Bool) → eqb (length r.rest) 0 ≡ b → cond b (Ok []) (Err faults.Short) ≡ Ok ps → PartsTaken before r.rest ps
    by true is e = no_parts_taken before r.rest ps (eqb-true (length r.rest) 0 is) cc
    by false is e = absurd cc
parts_taken (suc n) before r ps fits e = by (λ before s ps fits e. parts_taken n before s ps fits e) (eqb (length r.rest) 0) refl e
  where
    by : ((before : Option Kind) (s : Reading) (ps : List Part) → IsBytes s.rest → parts_at n before s ≡ Ok ps → PartsTaken before s.rest ps) → (b : Bool) → eqb (length r.rest) 0 ≡ b
        → cond b (Ok []) (part_at before r >>= λ first. parts_at n (Some (kind_of first.0)) first.1 >>= λ others. Ok (first.0 ∷ others)) ≡ Ok ps → PartsTaken before r.rest ps
    by others_taken true is e = no_parts_taken before r.rest ps (eqb-true (length r.rest) 0 is) cc
    by others_taken false is e =
        let a = bind_ok (part_at before r) (λ first. parts_at n (Some (kind_of first.0)) first.1 >>= λ others. Ok (first.0 ∷ others)) ps e in
        let c = bind_ok (parts_at n (Some (kind_of a.0.0)) a.0.1) (λ others. Ok (a.0.0 ∷ others)) ps a.2 in
        let first = part_taken before r a.0 fits a.1 in
        let others = others_taken (Some (kind_of a.0.0)) a.0.1 c.0 first.takes.bytes c.1 in
        let all : a.0.0 ∷ c.0 ≡ ps = cc c.2 in
        subst (PartsTaken before r.rest) all record {
          spelled = first.takes.parts ∙ ap (λ bs. part_bytes a.0.0 ++ bs) others.spelled;
          in_range = (first.in_range, others.in_range);
          are_runs = (first.some, begins_unlike a.0.0 c.0 others.follows, others.are_runs);
          follows = first.unlike;
        }

-- all of the bytes, from the first
abbrev whole : List ℕ → Reading
whole bytes = record { rest = bytes; at = 0 }

pub read_is_spelled : (bytes : List ℕ) (ms : List Mark) → IsBytes bytes → read_delta bytes ≡ Ok ms → Spells ms bytes
unfolding read_delta
read_is_spelled bytes ms fits e =
    let a = bind_ok (parts_at (length bytes) None (whole bytes)) (λ parts. Ok (marks_of parts)) ms e in
    let t = parts_taken (length bytes) None (whole bytes) a.0 fits a.1 in
    let marks : marks_of a.0 ≡ ms = cc a.2 in
    let are : runs ms ≡ a.0 = ap runs (sym marks) ∙ runs-marks_of a.0 t.are_runs in
    record { in_range = rw are t.in_range; bytes_are = rw are t.spelled }

-- ---- what was spelled

kind_again : (kind : Kind) → kind_at (kind_byte kind) ≡ Ok kind
kind_again kinds.Keep = refl
kind_again _ = refl

count_again : (count : ℕ) → 0 < count → count ≤ MAX_COUNT → count_at count ≡ Ok count
count_again count some small =
    let a : eqb count 0 ≡ false = ne_eqb count 0 (λ e. omega arith) in
    let b : ltb MAX_COUNT count ≡ false = le-ltb MAX_COUNT count small in
    rw (a, b) refl

-- bytes that are left, from a place on
abbrev left_at : List ℕ → ℕ → Reading
left_at bytes at = record { rest = bytes; at = at }

head_again : (before : Option Kind) (kind : Kind) (count at : ℕ) (rest : List ℕ) → is_kind before kind ≡ false → 0 < count → count ≤ MAX_COUNT
    → head_at before (left_at ((kind_byte kind ∷ to_be_bytes w64 count) ++ rest) at) ≡ Ok (kind, count, left_at rest (at + 9))
unfolding head_at
head_again before kind count at rest unlike some small =
    rw (bytes_again 9 at (kind_byte kind ∷ to_be_bytes w64 count) rest refl, kind_again kind, from_be_bytes-to_be_bytes_8 count (omega arith), count_again count some small, unlike) refl

text_again : (text : List ℕ) (at : ℕ) (rest : List ℕ) → all_scalars text ≡ true
    → text_at (length (encode_utf8_all text)) (left_at (encode_utf8_all text ++ rest) at) ≡ Ok (text, left_at rest (at + length (encode_utf8_all text)))
unfolding text_at
text_again text at rest characters =
    rw (bytes_again (length (encode_utf8_all text)) at (encode_utf8_all text) rest refl, is_utf8-from_IsUtf8 (encode_utf8_all text) (IsUtf8-encode_all text characters), chars-encodes text characters) refl

some_bytes : (text : List ℕ) → 0 < length text → 0 < length (encode_utf8_all text)
some_bytes text h = omega (arith, length-le-encodes text)

-- the place behind a part
abbrev behind : Part → ℕ → ℕ
behind (InsertText text) at = at + 9 + length (encode_utf8_all text)
behind _ at = at + 9

part_again : (before : Option Kind) (p : Part) (at : ℕ) (rest : List ℕ) → is_kind before (kind_of p) ≡ false → 0 < part_len p → HasSpelling p
    → part_at before (left_at (part_bytes p ++ rest) at) ≡ Ok (p, left_at rest (behind p at))
unfolding part_at
part_again before (Keep n) at rest unlike some fits = rw (head_again before kinds.Keep n at rest unlike some fits) refl
part_again before (Remove n) at rest unlike some fits = rw (head_again before kinds.Remove n at rest unlike some fits) refl
part_again before (InsertText text) at rest unlike some fits =
    let bytes = encode_utf8_all text in
    let regrouped : part_bytes (InsertText text) ++ rest ≡ (INSERT ∷ to_be_bytes w64 (length (encode_utf8_all text))) ++ (encode_utf8_all text ++ rest) =
    append_assoc (INSERT ∷ to_be_bytes w64 (length (encode_utf8_all text))) (encode_utf8_all text) rest in
    rw (regrouped, head_again before kinds.Insert (length bytes) at (bytes ++ rest) unlike (some_bytes text some) fits.1, text_again text (at + 9) rest fits.0) refl

-- a part has bytes
some_part_bytes : (p : Part) (rest : List ℕ) → 0 < length (part_bytes p ++ rest)
some_part_bytes (Keep n) rest = omega arith
some_part_bytes _ rest = omega arith

next_again : (n : ℕ) (before : Option Kind) (r : Reading) (p : Part) (ps : List Part) (rest : Reading) → 0 < length r.rest → part_at before r ≡ Ok (p, rest) → parts_at n (Some (kind_of p)) rest ≡ Ok ps
    → parts_at (suc n) before r ≡ Ok (p ∷ ps)
unfolding parts_at
next_again n before r p ps rest some first others =
    let left : eqb (length r.rest) 0 ≡ false = ne_eqb (length r.rest) 0 (λ e. omega arith) in
    rw (left, first, others) refl

parts_again : (n : ℕ) (before : Option Kind) (ps : List Part) (at : ℕ) → length (parts_bytes ps) ≤ n → AreRuns ps → HaveSpellings ps → FollowsKind before ps → parts_at n before (left_at (parts_bytes ps) at) ≡ Ok ps
parts_again n before [] at le h fits follows = no_parts n before (left_at [] at) refl
parts_again zero before (p ∷ ps) at le h fits follows = absurd (omega (arith, some_part_bytes p (parts_bytes ps)))
parts_again (suc n) before (p ∷ ps) at le h fits follows =
    let some = some_part_bytes p [] in
    let less : length (parts_bytes ps) ≤ n = omega (arith, some, length-append (part_bytes p) (parts_bytes ps), ap length (append-nil (part_bytes p))) in
    next_again n before (left_at (parts_bytes (p ∷ ps)) at) p ps (left_at (parts_bytes ps) (behind p at)) (some_part_bytes p (parts_bytes ps)) (part_again before p at (parts_bytes ps) follows h.0 fits.0)
    (parts_again n (Some (kind_of p)) ps (behind p at) less h.2 fits.1 (follows_kind p ps h.1))

not_before : (ps : List Part) → FollowsKind None ps
not_before [] = tt
not_before ps = refl

pub spelled_is_read : (bytes : List ℕ) (ms : List Mark) → Spells ms bytes → read_delta bytes ≡ Ok ms
unfolding read_delta
spelled_is_read bytes ms s =
    let read : parts_at (length bytes) None (whole bytes) ≡ Ok (runs ms) =
    rw s.bytes_are (parts_again (length (parts_bytes (runs ms))) None (runs ms) 0 (omega arith) (AreRuns-runs ms) s.in_range (not_before (runs ms))) in
    rw (read, marks_of-runs ms) refl
