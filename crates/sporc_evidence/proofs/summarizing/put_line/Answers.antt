use Rattle.std.proofs.Common.{refl}
use Rattle.std.proofs.lemmas.Result.{IfOk-equal}
use Rattle.sporc_entry.specs.Genesis.{genesis_bytes}
use Rattle.sporc_evidence.proofs.Written.{chain_long}
use Rattle.sporc_evidence.proofs.summarizing.put_line.Goals as goal

pub put_summary-requires : goal.put_summary-requires
put_summary-requires c = chain_long (genesis_bytes c.args.line.now.genesis) c.args.line.now.entries c.hashes.result.now c.len.result c.hashes.ensures.value c.len.ensures.value

pub returns : goal.returns
returns c = IfOk-equal c.put_summary.result _ _ _ c.put_summary.ensures (rw (c.document.ensures.value, c.hashes.ensures.value) refl)
