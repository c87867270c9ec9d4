use Rattle.std.proofs.Common.{Err, ap, arith, refl}
use Rattle.sporc_top.proofs.Common.{command, done}
use Rattle.sporc_top.proofs.Ranges.{in_range}
use Rattle.sporc_top.proofs.Runs.{by_fault, by_words}
use Rattle.sporc_top.proofs.program.run.Goals as goal

pub returns-in-Err-clause-outcome : goal.returns-in-Err-clause-outcome
returns-in-Err-clause-outcome g c = record {
  outcome = by_words _ _ _ c.in-Err.fault c.from.result c.of_document.result _
      (record { source = refl; folder = refl; net = refl; chance = refl })
      (λ same. c.in-Err.ensures.err (ap Err same)) c.from.ensures c.of_document.ensures.value
      c.tell_fault.ensures.line c.tell_fault.ensures.status;
  kept = record {
    source = omega arith;
    out = c.tell_fault.ensures.kept;
    folder = omega arith;
    net = omega arith;
    chance = omega arith;
    links_out = refl;
    lent = refl;
  };
}

pub perform-requires-after_bounds : goal.perform-requires-after_bounds
perform-requires-after_bounds g c κs within = in_range _ c.in-Ok.command c.in-Ok.ensures.ok

pub returns-in-Ok-perform-clause-outcome : goal.returns-in-Ok-perform-clause-outcome
returns-in-Ok-perform-clause-outcome g c =
    let did = c.in-Ok-perform.ensures in record {
      outcome = command c.in-Ok.ensures.ok (done did.outcome);
      kept = record {
        source = did.source_kept;
        out = did.out_kept;
        folder = did.files_kept;
        net = did.net_kept;
        chance = did.chance_kept;
        links_out = did.links_out;
        lent = did.lent;
      };
    }

pub returns-clause-outcome : goal.returns-clause-outcome
returns-clause-outcome g c =
    let did = c.in-Err-perform.ensures in
    let told = c.tell_fault-in-Err-perform.ensures in record {
      outcome = by_fault _ _ _ c.in-Ok.command c.in-Err-perform.fault _ c.names_of.result _ c.in-Ok.ensures.ok did.outcome c.names_of.ensures.value
          did.out_kept told.line told.kept told.status;
      kept = record {
        source = did.source_kept;
        out = omega (arith, did.out_kept, told.kept);
        folder = did.files_kept;
        net = did.net_kept;
        chance = did.chance_kept;
        links_out = did.links_out;
        lent = did.lent;
      };
    }
