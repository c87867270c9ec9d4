-- What the lines of a script hold is no longer than the script.
use Rattle.std.proofs.Common.{◌≡◌, ℕ, zero, suc, ◌+◌, ◌<◌, ◌≤◌, true, false, Bool, cond, List, [], ◌∷◌, ◌++◌, length, codes, get_or, refl, sym, ap, subst, arith, inl, inr, length-append}
use Rattle.std.specs.Prelude.{encode_utf8, flat_map}
use Rattle.std.proofs.lemmas.Str.{len_utf8_ascii, length-encode}
use Rattle.sporc_script.proofs.Common.{◌==◌, AllByRecursion, EditorCommand, EditorLine, ReadsAs, decimal, editor_line, editor_spelling, encode_utf8_all, eqb-true, escape, lines_of, quoted}
use Rattle.sporc_script.proofs.EditorReaders.{IsEditorNext}
use Rattle.sporc_script.specs.EditorLines.{AreShort, inserted_bytes}
use Rattle.sporc_script.specs.Grammar.{IsEditorScript}
use Rattle.sporc_script.specs.Lines.{with_byte}
use Rattle.sporc_script.specs.declared.editor_line.EditorCommand.TheVariants as commands
use Rattle.sporc_script.specs.declared.limits.TheConstants.{MAX_SCRIPT_BYTES}

-- ---- quoted texts

-- an ASCII character has one byte
one_byte : (c : ℕ) → c < 128 → length (encode_utf8 c) ≤ 2
one_byte c low = omega (arith, length-encode c, len_utf8_ascii c low)

escape_size : (c : ℕ) → length (encode_utf8 c) ≤ length (escape c)
escape_size c = go (c == 92) refl (c == 34) refl (c == 10) refl
  where
    go : (a : Bool) → (c == 92) ≡ a → (b : Bool) → (c == 34) ≡ b → (d : Bool) → (c == 10) ≡ d
        → length (encode_utf8 c) ≤ length (cond a (codes "\\\\") (cond b (codes "\\\"") (cond d (codes "\\n") (encode_utf8 c))))
    go true is b at d on = subst (λ (n : ℕ). length (encode_utf8 n) ≤ 2) (sym (eqb-true c 92 is)) (one_byte 92 (omega arith))
    go false is true at d on = subst (λ (n : ℕ). length (encode_utf8 n) ≤ 2) (sym (eqb-true c 34 at)) (one_byte 34 (omega arith))
    go false is false at true on = subst (λ (n : ℕ). length (encode_utf8 n) ≤ 2) (sym (eqb-true c 10 on)) (one_byte 10 (omega arith))
    go false is false at false on = omega arith

escapes_size : (text : List ℕ) → length (encode_utf8_all text) ≤ length (flat_map escape text)
escapes_size [] = omega arith
escapes_size (c ∷ text) =
    omega (arith, escape_size c, escapes_size text, length-append (encode_utf8 c) (encode_utf8_all text), length-append (escape c) (flat_map escape text))

pub quoted_size : (text : List ℕ) → length (encode_utf8_all text) ≤ length (quoted text)
quoted_size text =
    omega (arith, escapes_size text, length-append (codes "\"") (flat_map escape text ++ codes "\""), length-append (flat_map escape text) (codes "\""))

-- a part of a string is no longer
pub behind_size : (xs ys : List ℕ) (n : ℕ) → n ≤ length ys → n ≤ length (xs ++ ys)
behind_size xs ys n low = omega (arith, length-append xs ys, low)

-- ---- lines

-- no line is longer
abbrev pub AreWithin : ℕ → List (List ℕ) → Type 0
AreWithin n lines = AllByRecursion (λ (l : List ℕ). length l ≤ n) lines

wider : (n m : ℕ) (lines : List (List ℕ)) → n ≤ m → AreWithin n lines → AreWithin m lines
wider n m [] low all = tt
wider n m (l ∷ ls) low all = (omega (arith, low, all.0), wider n m ls low all.1)

byte_within : (b n : ℕ) (lines : List (List ℕ)) → AreWithin n lines → AreWithin (suc n) (with_byte b lines)
byte_within b n [] all = (omega arith, tt)
byte_within b n (l ∷ ls) all = (omega (arith, all.0), wider n (suc n) ls (omega arith) all.1)

lines_within : (bytes : List ℕ) → AreWithin (length bytes) (lines_of bytes)
lines_within [] = tt
lines_within (b ∷ bs) = go (b == 10) (lines_within bs)
  where
    go : (end : Bool) → AreWithin (length bs) (lines_of bs) → AreWithin (suc (length bs)) (cond end ([] ∷ lines_of bs) (with_byte b (lines_of bs)))
    go true all = (omega arith, wider (length bs) (suc (length bs)) (lines_of bs) (omega arith) all)
    go false all = byte_within b (length bs) (lines_of bs) all

-- ---- scripts

sizes : {A L : Type 0} (numbered : ℕ → A → L) (IsNext : List L → List ℕ → A → Type 0) (size_of : L → ℕ)
    → ((before : List L) (line : List ℕ) (n : ℕ) (a : A) → IsNext before line a → size_of (numbered n a) ≤ length line)
    → (size : ℕ) (before : List L) (n : ℕ) (lines : List (List ℕ)) (script : List L)
    → ReadsAs numbered IsNext before n lines script → AreWithin size lines → AllByRecursion (λ (l : L). size_of l ≤ size) script
sizes {L = L} numbered IsNext size_of one size before n [] script reads all = subst (AllByRecursion (λ (l : L). size_of l ≤ size)) (sym reads) tt
sizes {L = L} numbered IsNext size_of one size before n (line ∷ lines) script reads all = elim reads [
  | inl skipped ↦ sizes numbered IsNext size_of one size before (n + 1) lines script skipped.1 all.1
  | inr next ↦ subst (AllByRecursion (λ (l : L). size_of l ≤ size)) (sym next.3) (
    omega (arith, one before line n next.0 next.2, all.0),
    sizes numbered IsNext size_of one size (before ++ numbered n next.0 ∷ []) (n + 1) lines next.1 next.4 all.1,
  )
]

-- what a line that is read holds is no longer than the text, if none of its kind is longer than its line
pub script_sizes : {A L : Type 0} (numbered : ℕ → A → L) (IsNext : List L → List ℕ → A → Type 0) (size_of : L → ℕ)
    → ((before : List L) (line : List ℕ) (n : ℕ) (a : A) → IsNext before line a → size_of (numbered n a) ≤ length line)
    → (text : List ℕ) (script : List L) (size : ℕ) → ReadsAs numbered IsNext [] 1 (lines_of text) script → length text ≤ size → AllByRecursion (λ (l : L). size_of l ≤ size) script
script_sizes numbered IsNext size_of one text script size reads low =
    sizes numbered IsNext size_of one size [] 1 (lines_of text) script reads (wider (length text) size (lines_of text) low (lines_within text))

-- what holds of each of a list holds of the one at a place
pub all_at : {L : Type 0} (P : L → Type 0) (xs : List L) (i : ℕ) (x : L) → AllByRecursion P xs → i < length xs → x ≡ get_or xs i x → P x
all_at P [] i x all low is = absurd (omega (arith, low))
all_at P (y ∷ ys) zero x all low is = subst P (sym is) all.0
all_at P (y ∷ ys) (suc i) x all low is = all_at P ys i x all.1 (omega (arith, low)) is

-- ---- editor scripts

editor_size : (c : EditorCommand) → inserted_bytes c ≤ length (editor_spelling c)
editor_size (commands.Insert e) =
    let n = length (encode_utf8_all e.text) in
    behind_size (codes "insert ") _ n (behind_size (decimal e.at) _ n (behind_size (codes " ") (quoted e.text) n (quoted_size e.text)))
editor_size c = omega arith

pub editor_sizes : (text : List ℕ) (script : List EditorLine) → IsEditorScript text script → length text ≤ MAX_SCRIPT_BYTES → AreShort script
editor_sizes text script reads low =
    script_sizes editor_line IsEditorNext (λ (l : EditorLine). inserted_bytes l.command) (λ before line n c is. omega (arith, editor_size c, ap length is.1)) text script MAX_SCRIPT_BYTES reads low
