use Rattle.std.proofs.Common.{arith}
use Rattle.sporc_clients.proofs.Common.{shut_then, not_begun, not_resumed}
use Rattle.sporc_files.proofs.Asking.{asks_less, asks_more}
use Rattle.sporc_clients.proofs.WorkedFrom.{begun_later}
use Rattle.sporc_device.proofs.Resumed.{no_client}
use Rattle.sporc_clients.proofs.CountsRose.{rose_since}
use Rattle.sporc_clients.proofs.WorkedFrom.{past_resumed, work_from}
use Rattle.sporc_clients.proofs.attending.attend.Goals as goal

pub returns-in-Err-clause-err : goal.returns-in-Err-clause-err
returns-in-Err-clause-err g c = not_resumed c.in-Err.ensures.err

pub returns-in-Err-resume_client-clause-err : goal.returns-in-Err-resume_client-clause-err
returns-in-Err-resume_client-clause-err g c =
    not_resumed (no_client _ _ _ c.in-Ok.line c.in-Err-resume_client.fault c.in-Ok.ensures.ok c.in-Err-resume_client.ensures.memory)

pub returns-in-Err-work-clause-err : goal.returns-in-Err-work-clause-err
returns-in-Err-work-clause-err g c = not_begun c.in-Ok.ensures.ok (begun_later _ _ _ _ c.in-Err-work.fault c.resume_line.ensures.kept c.in-Err-work.ensures.err)

pub returns-in-Ok-work-clause-attended : goal.returns-in-Ok-work-clause-attended
returns-in-Ok-work-clause-attended g c = record {
  between = g.N.Links.told c.resume_line.new.net;
  line = c.in-Ok.line;
  resumed = c.in-Ok.ensures.ok;
  work = work_from _ _ _ _ _ _ _ _ (past_resumed _ _ c.in-Ok.line.entries _ c.in-Ok-resume_client.ensures.resumed) c.in-Ok-work.ensures.work;
}

pub returns-in-Ok-work-clause-causes : goal.returns-in-Ok-work-clause-causes
returns-in-Ok-work-clause-causes g c =
    rose_since (g.N.Links.told c.args.net.now).link_faults (g.N.Links.told c.resume_line.new.net).link_faults (g.N.Links.told c.work.new.net).link_faults _ _ _ c.resume_line.ensures.links_kept c.in-Ok-work.ensures.causes

pub returns-in-Err-clause-may_ask : goal.returns-in-Err-clause-may_ask
returns-in-Err-clause-may_ask g c = asks_less _ _ _ _ c.args.address.now (omega arith) c.resume_line.ensures.may_ask

pub returns-in-Err-resume_client-clause-may_ask : goal.returns-in-Err-resume_client-clause-may_ask
returns-in-Err-resume_client-clause-may_ask g c = asks_less _ _ _ _ c.args.address.now (omega arith) c.resume_line.ensures.may_ask

pub returns-in-Ok-work-clause-may_ask : goal.returns-in-Ok-work-clause-may_ask
returns-in-Ok-work-clause-may_ask g c = asks_more _ _ _ _ c.args.address.now c.resume_line.ensures.may_ask c.work.ensures.may_ask

pub returns-in-Err-work-clause-may_ask : goal.returns-in-Err-work-clause-may_ask
returns-in-Err-work-clause-may_ask g c = asks_more _ _ _ _ c.args.address.now c.resume_line.ensures.may_ask c.work.ensures.may_ask

pub returns-in-Ok-work-clause-shut : goal.returns-in-Ok-work-clause-shut
returns-in-Ok-work-clause-shut g c =
    shut_then (g.N.Links.told c.args.net.now).returned (g.N.Links.told c.resume_line.new.net).returned (g.N.Links.told c.work.new.net).returned c.resume_line.ensures.shut c.work.ensures.shut

pub returns-in-Err-work-clause-shut : goal.returns-in-Err-work-clause-shut
returns-in-Err-work-clause-shut g c =
    shut_then (g.N.Links.told c.args.net.now).returned (g.N.Links.told c.resume_line.new.net).returned (g.N.Links.told c.work.new.net).returned c.resume_line.ensures.shut c.work.ensures.shut
