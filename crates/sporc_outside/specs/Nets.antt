-- What a net tells.
use Rattle.std.specs.Prelude.{◌≡◌, ℕ, ◌+◌, List, ◌++◌, Option, None, option_map, Result, IfOk}
use Rattle.std.specs.Prelude.{OnErr, OnOk}
use Rattle.std.specs.List.{All}
use Rattle.sporc_outside.specs.Counts.{CountsFaults}
use Rattle.sporc_outside.specs.Streams.{StreamTold}
use Rattle.sporc_outside.specs.Told.{IfBoth, IsFalseIfTold, IsTrueIfTold, TakesItem}
use Rattle.sporc_outside.specs.Uses.{Use}

-- the addresses asked for so far, what the links tell that are still to come, how many are out, and
-- what those tell that were taken back, each where it tells them; the count of the faults of those
-- that were taken back, and its own
pub record NetTold : Type 0 where
  pub asked : Option (List (List ℕ))
  pub coming : Option (List StreamTold)
  pub out : Option ℕ
  pub returned : Option (List StreamTold)
  pub link_faults : ℕ
  pub faults : ℕ

-- what a net tells that tells nothing but its counts, as a real one
abbrev pub silent_net : ℕ → ℕ → NetTold
silent_net link_faults faults = record {
  asked = None;
  coming = None;
  out = None;
  returned = None;
  link_faults = link_faults;
  faults = faults;
}

-- a call that hands out a link: one that failed at no call, is not shut, and is the first of those
-- that were to come
pub record HandsLink {L E : Type 0} (link_told : L → StreamTold) (did : Use NetTold)
    (result : Result L E) : Type 0 where
  pub fresh : IfOk result (λ link. (link_told link).faults ≡ 0)
  pub not_shut : IfOk result (λ link. IsFalseIfTold (link_told link).is_shut)
  pub next : IfOk result (λ link. TakesItem did.before.coming did.after.coming (link_told link))
  pub coming_unchanged : OnErr result (did.after.coming ≡ did.before.coming)
  pub out : OnOk result (did.after.out ≡ option_map (λ n. n + 1) did.before.out)
  pub out_unchanged : OnErr result (did.after.out ≡ did.before.out)
  pub returned : did.after.returned ≡ did.before.returned
  pub links : did.after.link_faults ≡ did.before.link_faults
  pub count : CountsFaults did.before.faults did.after.faults result

-- told links went behind those that were handed back before, and each of them is shut where it
-- tells that
abbrev pub AreShutBehind : Option (List StreamTold) → Option (List StreamTold) → Type 0
AreShutBehind old new = IfBoth old new (λ before after. (links : List StreamTold)
    × (after ≡ before ++ links) × All (λ (l : StreamTold). IsTrueIfTold l.is_shut) links)
