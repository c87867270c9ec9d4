use Rattle.std.proofs.Common.{arith}
use Rattle.sporc_commands.proofs.Common.{err_from_is_err_and, use_of, if_err, keys_read}
use Rattle.sporc_files.proofs.Asking.{reads_again, reads_nothing}
use Rattle.sporc_commands.proofs.Asking.{key_among}
use Rattle.sporc_commands.proofs.Named.{first_bad, named_more, no_memory, nobody}
use Rattle.sporc_commands.proofs.founding.read_founders.Goals as goal

pub returns-in_err-one-clause-err : goal.returns-in_err-one-clause-err
returns-in_err-one-clause-err g c =
    let p = err_from_is_err_and c.from_residual.result c.from_residual.ensures.1 in
    if_err _ _ _ _ p.1 p.2 (first_bad (use_of g.F.Folder.told c.args.files.now c.read_named.new.files) (use_of g.F.Folder.told c.loop-participant.files c.read_named.new.files)
    c.args.names.now c.args.participants.now c.loop-participant.participant-index _ c.loop-participant.named.items c.in_err-one.field-0.0
    c.loop-participant-test.true c.loop-participant.invariant.read c.in_err-one.ensures.err
    (record { same = c.loop-participant.invariant.reads.files; since = c.loop-participant.invariant.reads.kept; until = omega arith }))

pub returns-in_err-push-clause-err : goal.returns-in_err-push-clause-err
returns-in_err-push-clause-err g c =
    let p = err_from_is_err_and c.from_residual-in_err-push.result c.from_residual-in_err-push.ensures.1 in
    if_err _ _ _ _ p.1 p.2 (no_memory (use_of g.F.Folder.told c.args.files.now c.read_named.new.files) c.args.names.now c.args.participants.now c.loop-participant.participant-index c.loop-participant.named.items
    c.loop-participant-test.true c.loop-participant.invariant.read)

pub returns-in_err-one-clause-reads : goal.returns-in_err-one-clause-reads
returns-in_err-one-clause-reads g c =
    reads_again c.args.names.now _ (keys_read c.args.participants.now) _ _ _ (key_among c.args.names.now c.args.participants.now c.loop-participant.participant-index _ c.loop-participant-test.true)
    c.loop-participant.invariant.reads c.read_named.ensures.reads

pub returns-in_err-push-clause-reads : goal.returns-in_err-push-clause-reads
returns-in_err-push-clause-reads g c =
    reads_again c.args.names.now _ (keys_read c.args.participants.now) _ _ _ (key_among c.args.names.now c.args.participants.now c.loop-participant.participant-index _ c.loop-participant-test.true)
    c.loop-participant.invariant.reads c.read_named.ensures.reads

pub loop-participant-init : goal.loop-participant-init
loop-participant-init g c = record {
  read = nobody (g.F.Folder.told c.args.files.now).files c.args.names.now _ (cc);
  reads = reads_nothing c.args.names.now (keys_read c.args.participants.now) (g.F.Folder.told c.args.files.now);
}

pub loop-participant-preserved : goal.loop-participant-preserved
loop-participant-preserved g c = record {
  read = named_more _ _ c.args.names.now c.args.participants.now c.loop-participant.participant-index _ c.loop-participant.named.items _ c.in_ok-one.one
      c.loop-participant-test.true c.loop-participant.invariant.reads.files c.in_ok-push.ensures.items c.loop-participant.invariant.read c.in_ok-one.ensures.ok;
  reads = reads_again c.args.names.now _ (keys_read c.args.participants.now) _ _ _
      (key_among c.args.names.now c.args.participants.now c.loop-participant.participant-index _ c.loop-participant-test.true) c.loop-participant.invariant.reads c.read_named.ensures.reads;
}
