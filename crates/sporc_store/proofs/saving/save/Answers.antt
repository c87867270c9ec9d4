use Rattle.std.proofs.Common.{◌≡◌, Ok, map, sym, ap, ◌∙◌}
use Rattle.sporc_store.proofs.Common.{saved_bytes}
use Rattle.sporc_store.proofs.SavedLengths.{items, is_too_long, is_whole, is_written}
use Rattle.sporc_store.proofs.saving.save.Goals as goal

pub returns-then-len-gt-MAX_FILE : goal.returns-then-len-gt-MAX_FILE
returns-then-len-gt-MAX_FILE c = record {
  value = λ _. is_too_long c.args.document.now c.args.entries.now c.saved_len-len.result c.told-document c.saved_len-len.ensures c.if-len-gt-MAX_FILE.true;
}

pub returns : goal.returns
returns c =
    let written : c.into_bytes.result.items ≡ saved_bytes c.args.document.now (map items c.args.entries.now) =
    rw (
      c.into_bytes.ensures.value,
      c.in_ok-put_entries.ensures,
      c.in_ok-put_u32.ensures.ok,
      c.in_ok-put_bytes.ensures.ok,
      c.in_ok-file.ensures.ok,
      c.head_of.ensures,
    ) (is_written c.args.document.now c.args.entries.now) in
    record {
      value = is_whole c.args.document.now c.args.entries.now c.saved_len-len.result c.told-document c.saved_len-len.ensures c.if-len-gt-MAX_FILE.false
          ∙ ap Ok (sym written);
    }
