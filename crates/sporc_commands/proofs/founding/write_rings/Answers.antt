use Rattle.std.proofs.Common.{◌∙◌, refl, arith}
use Rattle.sporc_commands.proofs.Common.{err_from_is_err_and, AsksOnly-none, if_err}
use Rattle.sporc_commands.proofs.Asking.{asks_ring}
use Rattle.sporc_commands.proofs.RingLoop.{others_not, ring_fails, ring_more}
use Rattle.sporc_commands.proofs.Storing.{none_yet}
use Rattle.sporc_commands.proofs.founding.write_rings.Goals as goal

pub returns-in_err-bytes-clause-err : goal.returns-in_err-bytes-clause-err
returns-in_err-bytes-clause-err g c =
    let p = err_from_is_err_and c.from_residual.result c.from_residual.ensures.1 in
    if_err _ _ _ _ p.1 p.2 (others_not c.args.names.now c.args.rings.now c.loop-ring.ring-index (g.F.Folder.told c.args.files.now) (g.F.Folder.told c.loop-ring.files) c.loop-ring.invariant.stored c.ring-item.result c.loop-ring-test.true (g.F.Folder.told c.loop-ring.files).files refl)

pub returns-in_err-write_whole_file-clause-err : goal.returns-in_err-write_whole_file-clause-err
returns-in_err-write_whole_file-clause-err g c =
    let p = err_from_is_err_and c.from_residual-in_err-write_whole_file.result c.from_residual-in_err-write_whole_file.ensures.1 in
    if_err _ _ _ _ p.1 p.2 (ring_fails c.args.names.now c.args.rings.now c.loop-ring.ring-index (g.F.Folder.told c.args.files.now) (g.F.Folder.told c.loop-ring.files) c.loop-ring.invariant.stored c.ring-item.result c.loop-ring-test.true c.ring-item.is
    (g.F.Folder.told c.write_whole_file.new.files) _ c.loop-ring.invariant.kept c.in_err-write_whole_file.ensures.err c.in_err-write_whole_file.ensures.left)

pub returns-in_err-write_whole_file-clause-may_ask : goal.returns-in_err-write_whole_file-clause-may_ask
returns-in_err-write_whole_file-clause-may_ask g c =
    asks_ring c.args.names.now c.args.rings.now c.loop-ring.ring-index c.ring-item.result _ _ _ c.loop-ring-test.true c.ring-item.is c.loop-ring.invariant.asked c.write_whole_file.ensures.may_ask

pub loop-ring-init : goal.loop-ring-init
loop-ring-init g c = record { stored = none_yet _; asked = AsksOnly-none _ _; lent = refl; kept = omega arith }

pub loop-ring-preserved : goal.loop-ring-preserved
loop-ring-preserved g c = record {
  stored = ring_more c.args.names.now c.args.rings.now c.loop-ring.ring-index (g.F.Folder.told c.args.files.now) (g.F.Folder.told c.loop-ring.files) c.loop-ring.invariant.stored c.ring-item.result c.loop-ring-test.true c.ring-item.is
      _ c.as_slice.result.now (c.as_slice.ensures.value ∙ c.in_ok-bytes.ensures.value) c.in_ok-write_whole_file.ensures.ok;
  asked = asks_ring c.args.names.now c.args.rings.now c.loop-ring.ring-index c.ring-item.result _ _ _ c.loop-ring-test.true c.ring-item.is c.loop-ring.invariant.asked c.write_whole_file.ensures.may_ask;
  lent = c.write_whole_file.ensures.lent ∙ c.loop-ring.invariant.lent;
  kept = omega (arith, c.write_whole_file.ensures.kept);
}
