use Rattle.sporc_docs.proofs.Opening.{none_kept}
use Rattle.sporc_thread_tests.proofs.docs.tails.served.Goals as goal

pub serve_docs_kept-kept-requires-clause-tails : goal.serve_docs_kept-kept-requires-clause-tails
serve_docs_kept-kept-requires-clause-tails g c κs within = none_kept c.args.tails.items c.args.docs c.requires
