use Rattle.std.proofs.Common.{ℕ, List, ◌++◌, drop, length, ap, ◌∙◌, arith}
use Rattle.sporc_text.proofs.Common.{concat, apply, marks_of, MAX_CHUNK}
use Rattle.std.proofs.lemmas.Grind.{div_ceil_times}
use Rattle.sporc_text.proofs.ReadyLemmas.{made}
use Rattle.sporc_text.proofs.ready.ReadyText.new.Goals as goal

pub invariant_of-result : goal.invariant_of-result
invariant_of-result c =
    let read = c.changes-kept.ensures.reads in
    record {
      within = omega (arith, read, c.base_len-base.ensures.value);
      len_is = omega (arith, read, c.base_len-base.ensures.value, c.len.ensures);
      empty = c.in_ok-list.ensures.items;
      room = omega (arith, c.in_ok-list.ensures.exact);
      spare = omega (arith, c.in_ok-spare.ensures, c.div_ceil.ensures, c.len-2.ensures, (div_ceil_times (length c.in_ok-middle.middle.items) MAX_CHUNK (omega arith)).0);
    }

pub returns : goal.returns
returns c = record {
  ok = made _ c.args.delta.now (marks_of c.changes-kept.result.1.now) c.changes-kept.result.2 (concat c.args.chunks.now) c.changes-kept.ensures c.requires c.base_len-base.ensures.value
      (omega (arith, c.changes-kept.ensures.reads, c.base_len-base.ensures.value))
      (c.in_ok-middle.ensures.ok ∙ ap (λ (before : List ℕ). before ++ apply (marks_of c.changes-kept.result.1.now) (drop c.changes-kept.result.0 (concat c.args.chunks.now))) c.in_ok-room.ensures.items);
}
