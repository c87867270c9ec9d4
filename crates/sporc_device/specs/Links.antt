-- A link that a net hands out and takes back.
use Rattle.std.specs.Prelude.{◌≡◌, ◌≤◌, ℕ, List}
use Rattle.sporc_outside.specs.Counts.{count_of_both}
use Rattle.sporc_outside.specs.Told.{AppendsItem, IsFalseIfTold, IsTrueIfTold, MayAppend, TakesItem}
use Rattle.sporc_outside.specs.Uses.{Use}
use Rattle.sporc_outside.specs.Nets.{NetTold}
use Rattle.sporc_outside.specs.Streams.{StreamTold}
use Rattle.sporc_exchange.specs.Wires.{link_told}

-- The net handed out a link to an address, without faults and not shut. It was not shut before what
-- was done over it had ended; then it was, and the net took it back
pub record UsesLink (net : Use NetTold) (address : List ℕ) (first last : StreamTold) : Type 0 where
  pub asked : AppendsItem net.before.asked net.after.asked address
  pub came : TakesItem net.before.coming net.after.coming first
  pub fresh : first.faults ≡ 0
  pub is_open : IsFalseIfTold first.is_shut
  pub ended : StreamTold
  pub still_open : ended.is_shut ≡ first.is_shut
  pub told_then : link_told last ≡ link_told ended
  pub shut : IsTrueIfTold last.is_shut
  pub back : AppendsItem net.before.returned net.after.returned last
  pub counted : count_of_both net.before.link_faults last.faults ≤ net.after.link_faults

-- no link to an address was made: it may have been asked for, and all else is as it was
pub record MakesNoLink (net : Use NetTold) (address : List ℕ) : Type 0 where
  pub may_ask : MayAppend net.before.asked net.after.asked address
  pub coming : net.after.coming ≡ net.before.coming
  pub returned : net.after.returned ≡ net.before.returned
  pub counted : net.after.link_faults ≡ net.before.link_faults
