use Rattle.std.proofs.Common.{rules, Bool, false, IsTrue, ◌≡◌, ℕ, ◌+◌, ◌<◌, List, refl, sym, subst, arith}
use Rattle.sporc_memory.proofs.Common.{state_after}
use Rattle.sporc_memory.proofs.Spoiling.{SpoiltTo, leaves_one, spoils_one}
use Rattle.sporc_memory.proofs.memory_disk.spoil.Goals.{then-is_unsynced, else-is_unsynced}
use Rattle.sporc_memory.proofs.memory_disk.spoil.Goals as goal

-- a test that failed does not hold
is_false : {b : Bool} → b ≡ false → IsTrue b → ⊥
is_false = search rules

pub loop-at-init : goal.loop-at-init
loop-at-init c = λ first. record { as_long = refl; spoilt = λ i lt unsynced. absurd (omega (arith, lt)); others = λ i synced. refl }

pub loop-at-preserved : goal.loop-at-preserved
loop-at-preserved c = λ first.
    let ranges = (state_after first c.args.log.now).unsynced in
    let P : List ℕ → Type 0 = λ image. SpoiltTo ranges c.args.byte (c.loop-at.at + 1) c.args.image.now image in
    elim c.if-is_unsynced.branch [
      | then-is_unsynced w ↦ subst P (sym w.image-is) (spoils_one ranges c.args.byte c.loop-at.at c.args.image.now c.loop-at.image (subst (λ (n : ℕ). c.loop-at.at < n) (sym c.loop-at.auto.image) c.loop-at-test.true) ((c.is_unsynced.ensures first).0 w.if-is_unsynced.true) (c.loop-at.invariant first))
      | else-is_unsynced w ↦ subst P (sym w.image-is) (leaves_one ranges c.args.byte c.loop-at.at c.args.image.now c.loop-at.image (λ is. is_false w.if-is_unsynced.false ((c.is_unsynced.ensures first).1 is)) (c.loop-at.invariant first))
    ]

pub returns : goal.returns
returns c = λ first. let done = c.loop-at.invariant first in record {
  as_long = done.as_long;
  spoilt = λ i lt unsynced. done.spoilt i (omega (arith, lt, c.loop-at-test.false)) unsynced;
  others = done.others;
}
