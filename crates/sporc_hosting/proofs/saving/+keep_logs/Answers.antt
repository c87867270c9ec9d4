use Rattle.sporc_hosting.proofs.Saved.{logs_asked}
use Rattle.sporc_hosting.proofs.saving.+keep_logs.Goals as goal

pub returns-clause-may_ask : goal.returns-clause-may_ask
returns-clause-may_ask g t c =
    logs_asked c.args.names.now c.in-Some.name.now c.in-Some.more_names.now _ _ _ c.in-Some.ensures.cases.0 c.keep_document-first.ensures.may_ask
    c.keep_logs-others.ensures.may_ask
