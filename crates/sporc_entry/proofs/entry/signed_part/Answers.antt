use Rattle.sporc_entry.proofs.Written.{string_written}
use Rattle.sporc_entry.proofs.entry.signed_part.Goals as goal

pub returns : goal.returns
returns c =
    record {
      ok = rw (
        c.into_bytes.ensures.value,
        c.in_ok-put_counted.ensures.ok,
        c.in_ok-put_header.ensures,
        c.in_ok-put_u8.ensures.ok,
        c.in_ok-out.ensures.ok,
        c.as_slice-body.ensures.value,
      ) (string_written c.args.entry.now);
    }
