-- A delta is applied part by part.
use Rattle.std.proofs.Common.{◌≡◌, ℕ, zero, suc, ◌+◌, ◌<◌, ◌≤◌, List, [], ◌∷◌, ◌++◌, length, take, drop, get_or, refl, ap, sym, ◌∙◌, append_assoc, add-one, arith, drop-cons, length-drop}
use Rattle.sporc_text.proofs.Common.{drop-drop, Mark, Keep, Remove, Insert, base_len, out_len, apply, keep_marks, remove_marks, insert_marks, part_marks, marks_of, replaced}
use Rattle.sporc_delta.specs.declared.part.Part.{Part}
use Rattle.sporc_delta.specs.declared.part.Part.TheVariants.{Keep as KeepRun, Insert as InsertText, Remove as RemoveRun}
use Rattle.sporc_delta.proofs.Lengths.{base_len-append, base_len-keep_marks, base_len-remove_marks, base_len-insert_marks, out_len-append, out_len-keep_marks}
use Rattle.sporc_text.specs.Edit.{IsBetween, characters_read, characters_written}

-- a part in front reads so many characters more
base_len-part : (p : Part) (ms : List Mark) → base_len (part_marks p ++ ms) ≡ characters_read p + base_len ms
base_len-part (KeepRun n) ms = rw (base_len-append, base_len-keep_marks) refl
base_len-part (InsertText t) ms = rw (base_len-append, base_len-insert_marks) refl
base_len-part (RemoveRun n) ms = rw (base_len-append, base_len-remove_marks) refl

apply-keep_marks : (n : ℕ) (ms : List Mark) (s : List ℕ) → n ≤ length s → apply (keep_marks n ++ ms) s ≡ take n s ++ apply ms (drop n s)
apply-keep_marks zero ms s h = refl
apply-keep_marks (suc n) ms [] h = absurd (omega arith)
apply-keep_marks (suc n) ms (c ∷ s) h = ap (λ l. c ∷ l) (apply-keep_marks n ms s (omega arith))

apply-remove_marks : (n : ℕ) (ms : List Mark) (s : List ℕ) → n ≤ length s → apply (remove_marks n ++ ms) s ≡ apply ms (drop n s)
apply-remove_marks zero ms s h = refl
apply-remove_marks (suc n) ms [] h = absurd (omega arith)
apply-remove_marks (suc n) ms (c ∷ s) h = apply-remove_marks n ms s (omega arith)

apply-insert_marks : (t : List ℕ) (ms : List Mark) (s : List ℕ) → apply (insert_marks t ++ ms) s ≡ t ++ apply ms s
apply-insert_marks [] ms s = refl
apply-insert_marks (c ∷ t) ms s = ap (λ l. c ∷ l) (apply-insert_marks t ms s)

-- a part in front writes its characters, and the others go on behind those that it read
apply-part : (p : Part) (ms : List Mark) (s : List ℕ) → characters_read p ≤ length s → apply (part_marks p ++ ms) s ≡ characters_written p s ++ apply ms (drop (characters_read p) s)
apply-part (KeepRun n) ms s h = apply-keep_marks n ms s h
apply-part (InsertText t) ms s h = apply-insert_marks t ms s
apply-part (RemoveRun n) ms s h = apply-remove_marks n ms s h

-- what the parts from i on read of a text from a place on, and what they write after those before them
pub record IsEditedTo (parts : List Part) (i : ℕ) (text : List ℕ) (at : ℕ) (out whole : List ℕ) : Type 0 where
  pub reads : at + base_len (marks_of (drop i parts)) ≤ length text
  pub writes : out ++ apply (marks_of (drop i parts)) (drop at text) ≡ whole

pub edit_begins : (parts : List Part) (text : List ℕ) (at : ℕ) (out : List ℕ) → at + base_len (marks_of parts) ≤ length text → IsEditedTo parts 0 text at out (out ++ apply (marks_of parts) (drop at text))
edit_begins parts text at out fits = record { reads = fits; writes = refl }

-- and so with the same characters behind a place of another text
pub edit_moves_on : (parts : List Part) (i : ℕ) (text : List ℕ) (at : ℕ) (rest : List ℕ) (offset : ℕ) (out whole : List ℕ) → IsEditedTo parts i text at out whole → drop offset rest ≡ drop at text
    → length rest + at ≡ length text + offset → IsEditedTo parts i rest offset out whole
edit_moves_on parts i text at rest offset out whole h same len =
    record { reads = omega (arith, h.reads, len); writes = ap (λ (t : List ℕ). out ++ apply (marks_of (drop i parts)) t) same ∙ h.writes }

-- the characters behind the last change are kept
apply-last : (ms : List Mark) (n : ℕ) (s : List ℕ) → base_len ms + n ≡ length s → apply (ms ++ keep_marks n) s ≡ apply ms s ++ drop (base_len ms) s
apply-last [] zero [] h = refl
apply-last [] (suc n) (c ∷ s) h = ap (λ l. c ∷ l) (apply-last [] n s (omega arith))
apply-last (Insert c ∷ ms) n s h = ap (λ l. c ∷ l) (apply-last ms n s h)
apply-last (Keep ∷ ms) n (c ∷ s) h = ap (λ l. c ∷ l) (apply-last ms n s (omega arith))
apply-last (Remove ∷ ms) n (c ∷ s) h = apply-last ms n s (omega arith)
apply-last ms n s h = absurd (omega arith)

pub between : (delta marks others middle : List Mark) (kept left : ℕ) → marks ≡ delta → marks ≡ keep_marks kept ++ others → others ≡ middle ++ keep_marks left → IsBetween delta middle kept left
between delta marks others middle kept left is front back =
    let whole : delta ≡ keep_marks kept ++ (middle ++ keep_marks left) = sym is ∙ front ∙ ap (λ (ms : List Mark). keep_marks kept ++ ms) back in
    record {
      reads = omega (arith, ap base_len whole, base_len-append (keep_marks kept) (middle ++ keep_marks left), base_len-append middle (keep_marks left), base_len-keep_marks kept, base_len-keep_marks left);
      writes = omega (arith, ap out_len whole, out_len-append (keep_marks kept) (middle ++ keep_marks left), out_len-append middle (keep_marks left), out_len-keep_marks kept, out_len-keep_marks left);
      marks_are = whole;
    }

pub between_writes : (delta middle : List Mark) (kept left removed : ℕ) (text written : List ℕ) → IsBetween delta middle kept left → base_len delta ≡ length text → removed ≡ base_len middle → written ≡ apply middle (drop kept text)
    → replaced kept removed written text ≡ apply delta text
between_writes delta middle kept left removed text written h fits gone is =
    let rest : length (drop kept text) ≡ base_len middle + left = omega (arith, length-drop kept text, h.reads, fits) in
    let behind : drop (base_len middle) (drop kept text) ≡ drop (kept + removed) text = drop-drop (base_len middle) kept text ∙ ap (λ (k : ℕ). drop (kept + k) text) (sym gone) in
    sym (ap (λ (ms : List Mark). apply ms text) h.marks_are
    ∙ apply-keep_marks kept (middle ++ keep_marks left) text (omega (arith, h.reads, fits))
    ∙ ap (λ (l : List ℕ). take kept text ++ l) (apply-last middle left (drop kept text) (sym rest))
    ∙ ap (λ (l : List ℕ). take kept text ++ (l ++ drop (base_len middle) (drop kept text))) (sym is)
    ∙ ap (λ (l : List ℕ). take kept text ++ (written ++ l)) behind)

-- the part at i stands before the others
part_first : (parts : List Part) (i : ℕ) (p : Part) → i < length parts → p ≡ get_or parts i p → marks_of (drop i parts) ≡ part_marks p ++ marks_of (drop (suc i) parts)
part_first parts i p l is = ap marks_of (drop-cons parts i p l) ∙ ap (λ q. part_marks q ++ marks_of (drop (suc i) parts)) (sym is)

-- it can read what it is to read
pub edit_fits : (parts : List Part) (i : ℕ) (p : Part) (text : List ℕ) (at : ℕ) (out whole : List ℕ) → IsEditedTo parts i text at out whole → i < length parts → p ≡ get_or parts i p
    → at + characters_read p ≤ length text
edit_fits parts i p text at out whole h l is =
    omega (arith, h.reads, ap base_len (part_first parts i p l is), base_len-part p (marks_of (drop (suc i) parts)))

pub edit_goes_on : (parts : List Part) (i : ℕ) (p : Part) (text : List ℕ) (at next : ℕ) (out more whole : List ℕ) → IsEditedTo parts i text at out whole → i < length parts → p ≡ get_or parts i p
    → next ≡ at + characters_read p → more ≡ out ++ characters_written p (drop at text) → IsEditedTo parts (i + 1) text next more whole
edit_goes_on parts i p text at next out more whole h l is n e =
    let others = marks_of (drop (suc i) parts) in
    let split = part_first parts i p l is in
    let fits : characters_read p ≤ length (drop at text) = omega (arith, edit_fits parts i p text at out whole h l is, length-drop at text) in
    let len : next + base_len others ≤ length text = omega (arith, n, h.reads, ap base_len split, base_len-part p others) in
    let rest : drop (characters_read p) (drop at text) ≡ drop next text = drop-drop (characters_read p) at text ∙ ap (λ k. drop k text) (omega (arith, n)) in
    let written : more ++ apply others (drop next text) ≡ whole =
    ap (λ o. o ++ apply others (drop next text)) e
    ∙ append_assoc out (characters_written p (drop at text)) (apply others (drop next text))
    ∙ ap (λ t. out ++ (characters_written p (drop at text) ++ apply others t)) (sym rest)
    ∙ ap (λ t. out ++ t) (sym (apply-part p others (drop at text) fits) ∙ ap (λ ms. apply ms (drop at text)) (sym split))
    ∙ h.writes in
    rw add-one (record { reads = len; writes = written })
