-- What clap answers, by its own definitions.
use Rattle.std.proofs.Common.{◌≡◌, Bool, true, false, ◌||◌, List, [], ◌∷◌, Option, Some, None, refl, sym, ap, ◌∙◌, inl, inr, arith}
use Rattle.sporc_words.proofs.Common.{if◌then◌else◌, Row, Text, is_empty, App, fault_of, is_simple_and_free, kind_of, matches_of, takes, OutOfMemory}
use Rattle.std.proofs.lemmas.Bool.{and_parts}
use Rattle.clap.specs.Kinds.{HasKind, Kinds}
use Rattle.clap.specs.Simple.{built, is_simple}
use Rattle.clap.specs.Faults.{is_free_app}
use Rattle.clap.specs.declared.Error.{Error}
use Rattle.clap.specs.declared.error.ErrorKind.{ErrorKind}
use Rattle.sporc_words.specs.Arguments.{taken}

pub simple_of : (app : App) → is_simple_and_free app ≡ true → is_simple app ≡ true
simple_of app h = (and_parts (is_simple app) (is_free_app (built app)) h).0

-- what stands for the words, by both tests
abbrev answer : Bool → Kinds → List Row → Option (List Row)
answer takes faults rows = if takes || is_empty faults then Some rows else None

whole : (t : Bool) (rows : List Row) → answer t [] rows ≡ Some rows
whole true rows = refl
whole false rows = refl

some_left : (k : ErrorKind) (ks : Kinds) → is_empty (k ∷ ks) ≡ false
some_left k ks = grind arith

none : (t : Bool) (faults : Kinds) (rows : List Row) (e : Error) → (t ≡ true → kind_of e ≡ OutOfMemory) → HasKind faults e → (kind_of e ≡ OutOfMemory → ⊥)
    → None ≡ answer t faults rows
none true faults rows e passes has other = absurd (other (passes refl))
none false [] rows e passes (inl memory) other = absurd (other memory)
none false [] rows e passes (inr never) other = absurd never
none false (k ∷ ks) rows e passes has other = ap (λ (t : Bool). if t then Some rows else None) (sym (some_left k ks))

pub taken_whole : (app : App) (words : List Text) → fault_of app words ≡ [] → taken app words ≡ Some (matches_of app words)
unfolding taken
taken_whole app words free =
    ap (λ (faults : Kinds). answer (takes app words) faults (matches_of app words)) free ∙ whole (takes app words) (matches_of app words)

pub refused : (app : App) (words : List Text) (e : Error) → (takes app words ≡ true → kind_of e ≡ OutOfMemory) → HasKind (fault_of app words) e
    → (kind_of e ≡ OutOfMemory → ⊥) → None ≡ taken app words
unfolding taken
refused app words e passes has other = none (takes app words) (fault_of app words) (matches_of app words) e passes has other
