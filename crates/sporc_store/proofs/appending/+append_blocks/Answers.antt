use Rattle.std.proofs.Common.{◌≡◌, ◌++◌, ℕ, List, None, length, refl, sym, ap, ◌∙◌, true, arith, rules}
use Rattle.sporc_store.proofs.Common.{◌==◌, nil_from_length, nat_tests, accepted_from, AppendsPart}
use Rattle.sporc_store.proofs.Taking.{ends_empty, goes_behind, if_ok_to, on_err_to}
use Rattle.sporc_store.proofs.appending.+append_blocks.Goals as goal

pub returns-then-is_empty-clause-ok : goal.returns-then-is_empty-clause-ok
returns-then-is_empty-clause-ok g t c =
    let all = c.args.entries.now in
    let is : (length all == 0) ≡ true = sym c.is_empty.ensures ∙ c.if-is_empty.true in
    let none : length all ≡ 0 = grind (arith, nat_tests) in
    ends_empty (g.H.History.checker c.args.history.now) (g.H.History.entries c.args.history.now) all c.args.stop (nil_from_length all none)

pub returns-in-Ok-None-clause-ok : goal.returns-in-Ok-None-clause-ok
returns-in-Ok-None-clause-ok g t c =
    let checker = g.H.History.checker c.args.history.now in
    let old = g.H.History.entries c.args.history.now in
    let mid = g.H.History.entries c.append_beside.new.history in
    let part = c.split_at_mut-block.result.0.now in
    let rest = c.split_at_mut-block.result.1.now in
    let all = c.args.entries.now in
    let done : AppendsPart checker old part None mid = search rules in
    let whole : part ++ rest ≡ all = sym c.split_at_mut-block.ensures.value in
    let same : g.H.History.checker c.append_beside.new.history ≡ checker = search rules in
    let behind = goes_behind checker (g.H.History.checker c.append_beside.new.history) old part rest all c.args.stop None mid whole refl same done in
    if_ok_to c.append_blocks.result (g.H.History.entries c.append_blocks.new.history)
    (ap (λ (l : List (List ℕ)). accepted_from (g.H.History.checker c.append_beside.new.history) mid l c.args.stop) (search rules) ∙ behind) c.append_blocks.ensures.ok

pub returns-in-Ok-None-clause-memory : goal.returns-in-Ok-None-clause-memory
returns-in-Ok-None-clause-memory g t c =
    let checker = g.H.History.checker c.args.history.now in
    let old = g.H.History.entries c.args.history.now in
    let mid = g.H.History.entries c.append_beside.new.history in
    let part = c.split_at_mut-block.result.0.now in
    let rest = c.split_at_mut-block.result.1.now in
    let all = c.args.entries.now in
    let done : AppendsPart checker old part None mid = search rules in
    let whole : part ++ rest ≡ all = sym c.split_at_mut-block.ensures.value in
    let same : g.H.History.checker c.append_beside.new.history ≡ checker = search rules in
    let behind = goes_behind checker (g.H.History.checker c.append_beside.new.history) old part rest all c.args.stop None mid whole refl same done in
    on_err_to c.append_blocks.result (g.H.History.entries c.append_blocks.new.history)
    (ap (λ (l : List (List ℕ)). accepted_from (g.H.History.checker c.append_beside.new.history) mid l c.args.stop) (search rules) ∙ behind) c.append_blocks.ensures.memory
