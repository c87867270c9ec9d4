use Rattle.sporc_entry.proofs.Written.{entry_written}
use Rattle.sporc_entry.proofs.entry.write_entry.Goals as goal

pub returns : goal.returns
returns c =
    record {
      ok = rw (
        c.into_bytes.ensures.value,
        c.in_ok-put_counted-2.ensures.ok,
        c.in_ok-put_counted.ensures.ok,
        c.in_ok-put_header.ensures,
        c.in_ok-out.ensures.ok,
        c.as_slice-body.ensures.value,
        c.as_slice-signature.ensures.value,
      ) (entry_written c.args.entry.now);
    }
