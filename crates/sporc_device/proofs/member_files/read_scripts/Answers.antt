use Rattle.std.proofs.Common.{◌+◌, [], ◌∷◌, arith}
use Rattle.sporc_device.proofs.Common.{err_from_is_err_and, use_of, Script, if_err, script_files}
use Rattle.sporc_files.proofs.Asking.{reads_again}
use Rattle.sporc_device.proofs.ScriptFiles.{script_among}
use Rattle.sporc_device.proofs.Members.{first_script, next_script, no_memory, one_longer}
use Rattle.sporc_device.proofs.member_files.read_scripts.Goals as goal

pub returns-in_err-script-clause-err : goal.returns-in_err-script-clause-err
returns-in_err-script-clause-err g c =
    let p = err_from_is_err_and c.from_residual.result c.from_residual.ensures.1 in
    let i = c.loop-read.invariant in
    if_err _ _ _ _ p.1 p.2 (first_script (use_of g.F.Folder.told c.args.files.now c.read_script.new.files) (use_of g.F.Folder.told c.loop-read.files c.read_script.new.files) c.args.names.now
    c.loop-read.scripts.items c.loop-read.read c.in_err-script.field-0.0 i.all i.each c.in_err-script.ensures.err (record { same = i.reads.files; since = i.reads.kept; until = omega arith }))

pub returns-in_err-push-clause-err : goal.returns-in_err-push-clause-err
returns-in_err-push-clause-err g c =
    let p = err_from_is_err_and c.from_residual-in_err-push.result c.from_residual-in_err-push.ensures.1 in
    if_err _ _ _ _ p.1 p.2 (no_memory (use_of g.F.Folder.told c.args.files.now c.read_script.new.files) c.args.names.now)

pub returns-in_err-script-clause-reads : goal.returns-in_err-script-clause-reads
returns-in_err-script-clause-reads g c =
    reads_again c.args.names.now (Script (c.loop-read.read + 1) ∷ []) (script_files c.args.editors) _ _ _ (script_among c.args.names.now c.args.editors c.loop-read.read c.loop-read-test.true) c.loop-read.invariant.reads c.read_script.ensures.reads

pub returns-in_err-push-clause-reads : goal.returns-in_err-push-clause-reads
returns-in_err-push-clause-reads g c =
    reads_again c.args.names.now (Script (c.loop-read.read + 1) ∷ []) (script_files c.args.editors) _ _ _ (script_among c.args.names.now c.args.editors c.loop-read.read c.loop-read-test.true) c.loop-read.invariant.reads c.read_script.ensures.reads

pub loop-read-preserved : goal.loop-read-preserved
loop-read-preserved g c =
    let i = c.loop-read.invariant in
    record {
      each = next_script _ _ c.args.names.now c.loop-read.scripts.items _ c.loop-read.read c.in_ok-script.script i.reads.files i.all c.in_ok-push.ensures.items i.each c.in_ok-script.ensures.ok;
      all = one_longer c.loop-read.scripts.items _ c.loop-read.read _ i.all c.in_ok-push.ensures.items;
      reads = reads_again c.args.names.now (Script (c.loop-read.read + 1) ∷ []) (script_files c.args.editors) _ _ _ (script_among c.args.names.now c.args.editors c.loop-read.read c.loop-read-test.true) i.reads c.read_script.ensures.reads;
    }
