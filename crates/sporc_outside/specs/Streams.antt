-- What streams tell, and what calls do to them.
use Rattle.std.specs.Prelude.{◌≡◌, ℕ, Bool, List, Option, None, Result}
use Rattle.std.specs.Io.KnownBytes.{ReadConsumes, WriteAppends}
use Rattle.sporc_outside.specs.Counts.{CountsFaults}
use Rattle.sporc_outside.specs.Told.{IsTrueIfTold}
use Rattle.sporc_outside.specs.Uses.{Use}

-- what a stream of bytes tells: the bytes left to be read, those written so far, whether it was
-- shut, each where it tells that, and its count of faults
pub record StreamTold : Type 0 where
  pub left : Option (List ℕ)
  pub written : Option (List ℕ)
  pub is_shut : Option Bool
  pub faults : ℕ

-- what a stream tells that tells nothing but its count of faults, as a real one
abbrev pub silent_stream : ℕ → StreamTold
silent_stream faults = record { left = None; written = None; is_shut = None; faults = faults }

-- a read that gave this, with the buffer after it: nothing was written, and it was not shut
pub record Reads {E : Type 0} (did : Use StreamTold) (result : Result ℕ E)
    (buf : List ℕ) : Type 0 where
  pub bytes : ReadConsumes did.before.left did.after.left result buf
  pub written : did.after.written ≡ did.before.written
  pub is_shut : did.after.is_shut ≡ did.before.is_shut
  pub count : CountsFaults did.before.faults did.after.faults result

-- a write that gave this: nothing was read, and it was not shut
pub record Writes {E : Type 0} (did : Use StreamTold) (result : Result ℕ E)
    (bytes : List ℕ) : Type 0 where
  pub written : WriteAppends did.before.written did.after.written result bytes
  pub left : did.after.left ≡ did.before.left
  pub is_shut : did.after.is_shut ≡ did.before.is_shut
  pub count : CountsFaults did.before.faults did.after.faults result

-- it was shut
pub record Shuts (did : Use StreamTold) : Type 0 where
  pub shut : IsTrueIfTold did.after.is_shut
  pub left : did.after.left ≡ did.before.left
  pub written : did.after.written ≡ did.before.written
  pub count : did.after.faults ≡ did.before.faults

-- nothing was written, and no call failed
pub record IsUnwritten (did : Use StreamTold) : Type 0 where
  pub written : did.after.written ≡ did.before.written
  pub faults : did.after.faults ≡ did.before.faults
