use Rattle.std.proofs.Common.{◌+◌, ℕ, arith, ap₂}
use Rattle.sporc_play.proofs.Common.{Device, gives}
use Rattle.sporc_script.specs.declared.command.Command.TheVariants.{Give}
use Rattle.sporc_play.proofs.Batched.{can_give, mapped_room, maps_more, all_done}
use Rattle.sporc_play.proofs.generated.give_all.Goals as goal

pub perform-requires : goal.perform-requires
perform-requires c =
    can_give c.loop-m.state (record { device = c.first.result; position = c.args.number; entry = c.from.result }) (c.loop-m.m + 1) c.first.ensures.value
    (mapped_room 4 1 c.args.state.now c.loop-m.state (gives c.args.number) c.loop-m.m c.requires c.loop-m.invariant (omega arith)) (omega arith, omega arith)

pub loop-m-preserved : goal.loop-m-preserved
loop-m-preserved c =
    maps_more c.args.state.now c.loop-m.state c.perform.new.state (gives c.args.number) c.loop-m.m (Give (record { device = c.first.result; position = c.args.number; entry = c.from.result }))
    c.loop-m.invariant (λ scene stands. ap₂ (λ (who : Device) (entry : ℕ). Give (record { device = who; position = c.args.number; entry = entry })) c.first.ensures.value c.from.ensures) c.in_ok-perform.ensures

pub returns : goal.returns
returns c = all_done c.args.state.now c.loop-m.state (gives c.args.number) c.loop-m.m 3 (omega arith) c.loop-m.invariant
