use Rattle.std.proofs.Common.{ℕ, List, length, ap, sym, ◌∙◌, arith}
use Rattle.sporc_text.proofs.Common.{replaced}
use Rattle.sporc_text.proofs.ReadyLemmas.{rewritten_here, rewritten_other}
use Rattle.sporc_text.proofs.doc.Doc.put.Goals as goal

pub returns-then-self-base : goal.returns-then-self-base
returns-then-self-base c =
    let base = c.self.invariant.len_is ∙ ap length c.self.view_is in
    record {
      value = c.put_into-self-inside.ensures.value ∙ ap (λ (t : List ℕ). replaced c.args.ready.kept c.args.ready.removed c.args.ready.middle t) c.self.view_is
          ∙ sym (rewritten_here c.args.ready c.args.self.now (omega (arith, base, c.if-self-base.true, c.base.ensures)));
    }

pub returns-else-self-base : goal.returns-else-self-base
returns-else-self-base c =
    let base = c.self.invariant.len_is ∙ ap length c.self.view_is in
    record { value = sym (rewritten_other c.args.ready c.args.self.now (λ is. c.if-self-base.false (base ∙ is ∙ sym c.base.ensures))) }
