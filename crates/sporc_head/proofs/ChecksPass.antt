-- Lists of checks one after the other, and the checks of an entry whoever asks.
use Rattle.std.proofs.Common.{◌≡◌, ℕ, ◌+◌, Bool, true, eqb, List, [], ◌∷◌, ◌++◌, length, refl, Option, None, Some, Result, Ok, Err}
use Rattle.sporc_head.proofs.Common.{eq-eqb, unless, first_of, Device, member_at, key_of, Entry, Genesis, author_device, entry_of, change_of, WrongDocument, WrongPosition, Removed, roster_of}
use Rattle.sporc_head.proofs.Common.{history_checks, author_checks, roster_checks, fault_read}
use Rattle.std.specs.Str.{bytes_eq}
use Rattle.sporc_head.specs.declared.refusal.Refusal.{Refusal}
use Rattle.sporc_head.specs.HeadChecks.{head_checks, is_not_removed, head_fault}

-- where no check of the first list fails, the others decide
pub first_of-none : {F : Type 0} (xs ys : List (Option F)) → first_of xs ≡ None → first_of (xs ++ ys) ≡ first_of ys
first_of-none [] ys h = refl
first_of-none (None ∷ xs) ys h = first_of-none xs ys h
first_of-none (Some f ∷ xs) ys h = absurd cc

-- where one fails, it is the first of both
pub first_of-some : {F : Type 0} (xs ys : List (Option F)) (f : F) → first_of xs ≡ Some f → first_of (xs ++ ys) ≡ Some f
first_of-some [] ys f h = absurd cc
first_of-some (None ∷ xs) ys f h = first_of-some xs ys f h
first_of-some (Some g ∷ xs) ys f h = h

-- three checks that hold leave the rest, and where none fails they hold
three : {F : Type 0} (a b c : Bool) (x y z : F) (rest : List (Option F)) → first_of (unless a x ∷ unless b y ∷ unless c z ∷ rest) ≡ None → (a ≡ true) × (first_of rest ≡ None)
three true true true x y z rest h = (refl, h)
three a b c x y z rest h = absurd cc

three_hold : {F : Type 0} (a b c : Bool) (x y z : F) (rest : List (Option F)) → a ≡ true → b ≡ true → c ≡ true → first_of rest ≡ None → first_of (unless a x ∷ unless b y ∷ unless c z ∷ rest) ≡ None
three_hold true true true x y z rest p q r h = h
three_hold a b c x y z rest p q r h = absurd cc

-- an entry that fails no check for a member fails none for nobody, at the next position
pub for_nobody : (g : Genesis) (me : Option Device) (entries : List (List ℕ)) (pos : ℕ) (e : Entry) → first_of (head_checks g me entries pos e) ≡ None → first_of (head_checks g None entries (length entries + 1) e) ≡ None
unfolding head_checks
for_nobody g me entries pos e h =
    let same = bytes_eq e.header.document g.document in
    let rest : List (Option Refusal) = history_checks g entries e.header ++ (author_checks (member_at (roster_of g entries) e.header.author) (key_of (roster_of g entries) (author_device e.header)) e ++ roster_checks (roster_of g entries) (change_of e)) in
    let p = three same (eqb pos (length entries + 1)) (is_not_removed me entries) WrongDocument WrongPosition Removed rest h in
    three_hold same (eqb (length entries + 1) (length entries + 1)) true WrongDocument WrongPosition Removed rest p.0 (eq-eqb (length entries + 1) (length entries + 1) refl) refl p.1

pub fault_for_nobody : (g : Genesis) (me : Option Device) (entries : List (List ℕ)) (pos : ℕ) (b : List ℕ) → head_fault g me entries pos b ≡ None → head_fault g None entries (length entries + 1) b ≡ None
unfolding head_fault
fault_for_nobody g me entries pos b h = go (entry_of b) h
  where
    go : (r : Result Entry ℕ) → fault_read (head_checks g me entries pos) r ≡ None → fault_read (head_checks g None entries (length entries + 1)) r ≡ None
    go (Ok e) h = for_nobody g me entries pos e h
    go (Err at) h = absurd cc
