-- Lines that are written in parts.
use Rattle.std.proofs.Common.{◌≡◌, ◌≢◌, ℕ, suc, ◌<◌, List, ◌∷◌, ◌++◌, codes, length, get_or, take, drop, Option, Result, Ok, Err, refl, ap, sym, ◌∙◌, subst}
use Rattle.sporc_files.proofs.Common.{device_text, flat_map, CountsFaults, AppendsPrefix-all, AppendsPrefix-first, AppendsPrefix-then, Fault, FileNames, WritesFaultLine, fault_line, decimal, Device}
use Rattle.sporc_files.proofs.Common.{OnOk, OnErr, Appends, take-append-drop}
use Rattle.std.proofs.lemmas.Bool.{ne_eqb}
use Rattle.sporc_member.specs.declared.device.TheConstants.{FIRST_DEVICE}
use Rattle.std.proofs.Math.Seq.{drop-cons}
use Rattle.std.proofs.lemmas.Grind.{flat_map-append}
use Rattle.sporc_outside.specs.Writing.{AppendsPrefix}
use Rattle.sporc_outside.specs.Uses.{Use}
use Rattle.sporc_outside.specs.Streams.{StreamTold}

-- what a line that was written as far as the sink took it tells
pub tells : {T E : Type 0} → (r : Result T E) (out : Use StreamTold) (names : FileNames) (fault : Fault) → OnOk r (Appends out.before.written out.after.written (fault_line names fault))
    → OnErr r (AppendsPrefix out.before.written out.after.written (fault_line names fault)) → CountsFaults out.before.faults out.after.faults r → WritesFaultLine out names fault
tells (Ok x) out names fault ok err count = record { line = AppendsPrefix-all out.before.written out.after.written (fault_line names fault) ok; whole = λ none. ok }
tells (Err e) out names fault ok err count = record { line = err; whole = λ none. absurd (none count.failed) }

-- of two results, both told or neither
pub on_err : {T E : Type 0} (r : Result T E) (P Q : Type 0) → (P → Q) → OnErr r P → OnErr r Q
on_err (Ok x) P Q then held = tt
on_err (Err e) P Q then held = then held

-- what holds anyway
pub any_err : {T E : Type 0} (r : Result T E) (P : Type 0) → P → OnErr r P
any_err (Ok x) P held = tt
any_err (Err e) P held = held

-- the bytes that were appended, by an equal list
pub said : (a b : Option (List ℕ)) (x y : List ℕ) → x ≡ y → Appends a b x → Appends a b y
said a b x y same written = subst (λ (t : List ℕ). Appends a b t) same written

pub cut_as : (a b : Option (List ℕ)) (x y : List ℕ) → x ≡ y → AppendsPrefix a b x → AppendsPrefix a b y
cut_as a b x y same written = subst (λ (t : List ℕ). AppendsPrefix a b t) same written

-- a further device's text
pub further_text : (d : Device) → d.number ≢ FIRST_DEVICE → decimal d.member ++ (codes "." ++ decimal d.number) ≡ device_text d
further_text d further = rw (ne_eqb d.number FIRST_DEVICE further) refl

-- items whose texts are written one behind another, one of which was cut off
pub cut_off : {X : Type 0} (f : X → List ℕ) (xs : List X) (i : ℕ) (x : X) (a b c : Option (List ℕ)) → i < length xs → Appends a b (flat_map f (take i xs))
    → AppendsPrefix b c (f (get_or xs i x)) → AppendsPrefix a c (flat_map f xs)
cut_off f xs i x a b c within written cut =
    let parts : take i xs ++ (get_or xs i x ∷ drop (suc i) xs) ≡ xs = ap (λ ys. take i xs ++ ys) (sym (drop-cons xs i x within)) ∙ take-append-drop i xs in
    let whole : flat_map f (take i xs) ++ (f (get_or xs i x) ++ flat_map f (drop (suc i) xs)) ≡ flat_map f xs =
    sym (flat_map-append f (take i xs) (get_or xs i x ∷ drop (suc i) xs)) ∙ ap (flat_map f) parts in
    subst (λ (t : List ℕ). AppendsPrefix a c t) whole (AppendsPrefix-then a b c (flat_map f (take i xs)) _ written (AppendsPrefix-first b c (f (get_or xs i x)) _ cut))
