-- Prefixes of what is written in pieces.
use Rattle.std.proofs.Common.{ℕ, ◌+◌, List, ◌++◌, length, Option, sym, subst, arith, length-append}
use Rattle.std.proofs.lemmas.List.{take-append-le, take_all}
use Rattle.std.proofs.Math.Seq.{take-append-add}
use Rattle.std.proofs.KnownBytes.{Appends-nil, Appends-trans}
use Rattle.std.specs.Io.KnownBytes.{Appends}
use Rattle.sporc_outside.specs.Writing.{AppendsPrefix}

-- all of the bytes are a prefix of them, and so is nothing
pub AppendsPrefix-all : (a b : Option (List ℕ)) (bytes : List ℕ) → Appends a b bytes → AppendsPrefix a b bytes
AppendsPrefix-all a b bytes all = (length bytes, omega arith, subst (λ (t : List ℕ). Appends a b t) (sym (take_all (length bytes) bytes (omega arith))) all)

pub AppendsPrefix-none : (a : Option (List ℕ)) (bytes : List ℕ) → AppendsPrefix a a bytes
AppendsPrefix-none a bytes = (0, omega arith, Appends-nil a)

-- a prefix of the first piece, and of a piece after another, are prefixes of the whole
pub AppendsPrefix-first : (a b : Option (List ℕ)) (piece rest : List ℕ) → AppendsPrefix a b piece → AppendsPrefix a b (piece ++ rest)
AppendsPrefix-first a b piece rest (n, low, then) = (
  n,
  omega (arith, length-append piece rest),
  subst (λ (t : List ℕ). Appends a b t) (sym (take-append-le n piece rest low)) then,
)

pub AppendsPrefix-then : (a b c : Option (List ℕ)) (bytes piece : List ℕ) → Appends a b bytes → AppendsPrefix b c piece → AppendsPrefix a c (bytes ++ piece)
AppendsPrefix-then a b c bytes piece first (n, low, then) = (
  length bytes + n,
  omega (arith, length-append bytes piece),
  subst (λ (t : List ℕ). Appends a c t) (sym (take-append-add bytes piece n)) (Appends-trans _ _ _ _ _ first then),
)
