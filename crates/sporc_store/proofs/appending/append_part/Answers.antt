use Rattle.std.proofs.Common.{◌∙◌, arith}
use Rattle.sporc_store.proofs.Taking.{goes_on, one_more, is_refused, is_done}
use Rattle.sporc_store.proofs.appending.append_part.Goals as goal

pub returns-in-Some-clause-ok : goal.returns-in-Some-clause-ok
returns-in-Some-clause-ok g c =
    let checker = g.H.History.checker c.args.history.now in
    let answer = c.in_ok-refusal.ensures in
    is_refused checker (g.H.History.checker c.loop-taken.history) (g.H.History.entries c.args.history.now) (g.H.History.entries c.loop-taken.history) (g.H.History.entries c.append.new.self)
    c.args.entries.now c.args.before c.loop-taken.taken c.index-entries-taken.result c.in_ok-refusal.field-0 c.in-Some.refusal
    c.loop-taken.invariant.checker c.loop-taken.invariant.count c.loop-taken-test.true
    c.index-entries-taken.is answer.refusal answer.taken answer.named c.in-Some.is c.loop-taken.invariant.so_far

pub loop-taken-preserved : goal.loop-taken-preserved
loop-taken-preserved g c =
    let checker = g.H.History.checker c.args.history.now in
    let first = g.H.History.entries c.args.history.now in
    let front = g.H.History.entries c.loop-taken.history in
    let more = g.H.History.entries c.append.new.self in
    let entry = c.index-entries-taken.result in
    let fault = c.in_ok-refusal.field-0 in
    let answer = c.in_ok-refusal.ensures in
    record {
      checker = answer.checker ∙ c.loop-taken.invariant.checker;
      count = one_more front more c.args.before c.loop-taken.taken entry fault answer.taken c.in_default.is c.loop-taken.invariant.count;
      within = let lt = c.loop-taken-test.true in omega (arith, lt);
      so_far = goes_on checker (g.H.History.checker c.loop-taken.history) first front more c.args.entries.now c.loop-taken.taken entry fault
          c.loop-taken.invariant.checker c.loop-taken-test.true c.index-entries-taken.is
          answer.refusal answer.taken c.in_default.is c.loop-taken.invariant.so_far;
    }

pub returns-clause-ok : goal.returns-clause-ok
returns-clause-ok g c =
    let checker = g.H.History.checker c.args.history.now in
    is_done checker (g.H.History.entries c.args.history.now) (g.H.History.entries c.loop-taken.history) c.args.entries.now c.args.before c.loop-taken.taken
    c.requires.before c.loop-taken.invariant.count c.loop-taken.invariant.within c.loop-taken-test.false c.loop-taken.invariant.so_far
