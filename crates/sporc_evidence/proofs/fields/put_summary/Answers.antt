use Rattle.std.proofs.lemmas.Result.{IfOk-equal}
use Rattle.sporc_evidence.proofs.Written.{written}
use Rattle.sporc_evidence.proofs.fields.put_summary.Goals as goal

pub returns : goal.returns
returns c = IfOk-equal c.put_hashes.result _ _ _ c.put_hashes.ensures (rw (
  c.in_ok-put_u32-2.ensures.ok,
  c.in_ok-put_u8.ensures.ok,
  c.in_ok-put_u16.ensures.ok,
  c.in_ok-put_bytes.ensures.ok,
  c.in_ok-put_u32.ensures.ok,
) (written c.args.out.now (record { document = c.args.document.now; author = c.args.author; device = c.args.device; hashes = c.args.hashes.now }) c.args.count c.requires))
