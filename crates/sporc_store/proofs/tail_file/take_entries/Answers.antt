use Rattle.std.proofs.Common.{List, None, Option, Some, ℕ, subst}
use Rattle.sporc_store.proofs.Common.{Stop, AppendsPart, an_order}
use Rattle.sporc_store.proofs.TailOpens.{parts_end, refused_at, takes_all}
use Rattle.sporc_store.proofs.tail_file.take_entries.Goals as goal

pub returns-in-Some-clause-err : goal.returns-in-Some-clause-err
returns-in-Some-clause-err c =
    let checker = an_order c.args.order.now.genesis in
    let before = c.args.order.now.entries in
    let after = c.append_part.new.history.entries in
    refused_at checker before c.args.tail.now.entries.items after c.in_ok-refused.refused c.in-Some.stop c.fault_of.result c.in-Some.is
    (subst (λ (part : List (List ℕ)). AppendsPart checker before part c.in_ok-refused.refused after) c.as_slice.ensures.value c.in_ok-refused.ensures.ok) c.fault_of.ensures

pub returns-in-None-clause-ok : goal.returns-in-None-clause-ok
returns-in-None-clause-ok c =
    let checker = an_order c.args.order.now.genesis in
    let before = c.args.order.now.entries in
    let after = c.append_part.new.history.entries in
    let part : AppendsPart checker before c.as_slice.result.now None after =
    subst (λ (refused : Option Stop). AppendsPart checker before c.as_slice.result.now refused after) c.in-None.is c.in_ok-refused.ensures.ok in
    parts_end checker before c.args.tail.now.entries.items after (subst (λ (part : List (List ℕ)). AppendsPart checker before part None after) c.as_slice.ensures.value part)

pub returns-in-None-clause-all : goal.returns-in-None-clause-all
returns-in-None-clause-all c =
    let checker = an_order c.args.order.now.genesis in
    let before = c.args.order.now.entries in
    let after = c.append_part.new.history.entries in
    let part : AppendsPart checker before c.as_slice.result.now None after =
    subst (λ (refused : Option Stop). AppendsPart checker before c.as_slice.result.now refused after) c.in-None.is c.in_ok-refused.ensures.ok in
    takes_all checker before c.args.tail.now.entries.items after (subst (λ (part : List (List ℕ)). AppendsPart checker before part None after) c.as_slice.ensures.value part)
