use Rattle.sporc_top.proofs.Working.{by_client, by_public, by_serve, by_serve_all}
use Rattle.sporc_top.proofs.performing.perform.Goals as goal

pub returns-in-Serve-clause-outcome : goal.returns-in-Serve-clause-outcome
returns-in-Serve-clause-outcome g c =
    by_serve _ _ c.args.command.now c.in-Serve.words c.serve.result c.in-Serve.is (record {
      outcome = c.serve.ensures.outcome;
      files_may_ask = c.serve.ensures.files_may_ask;
      net_may_ask = c.serve.ensures.net_may_ask;
      shut = c.serve.ensures.shut;
    })

pub returns-in-Public-clause-outcome : goal.returns-in-Public-clause-outcome
returns-in-Public-clause-outcome g c =
    by_public _ _ c.args.command.now c.in-Public.words c.public.result c.in-Public.is (record {
      outcome = c.public.ensures.outcome;
      reads = record { files = c.public.ensures.files; lent = c.public.ensures.lent; may_ask = c.public.ensures.may_ask; kept = c.public.ensures.files_kept };
    })

pub returns-in-Client-clause-outcome : goal.returns-in-Client-clause-outcome
returns-in-Client-clause-outcome g c =
    by_client _ _ c.args.command.now c.in-Client.words c.client.result c.in-Client.is (record {
      outcome = c.client.ensures.outcome;
      files_may_ask = c.client.ensures.files_may_ask;
      net_may_ask = c.client.ensures.net_may_ask;
      shut = c.client.ensures.shut;
      links_kept = c.client.ensures.links_kept;
    })

pub returns-in-ServeAll-clause-outcome : goal.returns-in-ServeAll-clause-outcome
returns-in-ServeAll-clause-outcome g c =
    by_serve_all _ _ c.args.command.now c.in-ServeAll.words c.serve_all.result c.in-ServeAll.is (record {
      outcome = c.serve_all.ensures.outcome;
      files_may_ask = c.serve_all.ensures.files_may_ask;
      net_may_ask = c.serve_all.ensures.net_may_ask;
      shut = c.serve_all.ensures.shut;
    })
