use Rattle.std.proofs.Common.{◌++◌, map-id, sym, ap, ◌∙◌}
use Rattle.std.proofs.lemmas.Iterator.{YieldsList-from_chars}
use Rattle.std.proofs.lemmas.Iterator.Consumers.{YieldsList-end}
use Rattle.sporc_text.proofs.edit.push_text.Goals as goal

pub returns : goal.returns
returns c =
    let all = YieldsList-end (YieldsList-from_chars c.as_str.result.now c.as_str.utf8 cc) c.loop-c.yielded _ c.loop-c.yielded_by _ _ c.in-None.is c.next.ensures.steps in
    record { ok = c.loop-c.invariant ∙ ap (λ cs. c.args.out.now.items ++ cs) (sym (map-id c.loop-c.yielded) ∙ all.0 ∙ c.as_str.ensures.characters) }
