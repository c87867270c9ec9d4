use Rattle.std.proofs.Common.{[], None, Some, refl, ◌∙◌, subst, rules}
use Rattle.sporc_store.proofs.Common.{append-nil, Taken, IsPrefix, AppendsPart, AppendsSome}
use Rattle.sporc_store.proofs.Taking.{ends_refused, ends_whole, from_none, some_of}
use Rattle.sporc_store.proofs.appending.append_entries.Goals as goal

pub returns-in-Ok-Some-clause-ok : goal.returns-in-Ok-Some-clause-ok
returns-in-Ok-Some-clause-ok g c =
    let checker = g.H.History.checker c.args.history.now in
    let first = g.H.History.entries c.args.history.now in
    let es = c.args.entries.now in
    let after = g.H.History.entries c.append_part.new.history in
    let end = c.in-Ok-Some.refused in
    let done : AppendsPart checker first es (Some end) after = search rules in
    ends_refused checker first es [] es c.args.stop end (Some end) after (append-nil es) refl done ∙ from_none checker first es c.args.stop c.requires.empty

pub returns-in-Ok-None-clause-ok : goal.returns-in-Ok-None-clause-ok
returns-in-Ok-None-clause-ok g c =
    let checker = g.H.History.checker c.args.history.now in
    let first = g.H.History.entries c.args.history.now in
    let es = c.args.entries.now in
    let after = g.H.History.entries c.append_part.new.history in
    let done : AppendsPart checker first es None after = search rules in
    ends_whole checker first es [] es c.args.stop None after (append-nil es) refl refl done ∙ from_none checker first es c.args.stop c.requires.empty

pub returns-in-Err-clause-memory : goal.returns-in-Err-clause-memory
returns-in-Err-clause-memory g c =
    let checker = g.H.History.checker c.args.history.now in
    let first = g.H.History.entries c.args.history.now in
    let es = c.args.entries.now in
    let after = g.H.History.entries c.append_part.new.history in
    let some : AppendsSome checker first es after = search rules in
    subst (λ (taken : Taken). IsPrefix after taken.entries) (from_none checker first es c.args.stop c.requires.empty)
    (some_of checker first es [] es after c.args.stop (append-nil es) some)
