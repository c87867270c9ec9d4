use Rattle.std.proofs.Common.{◌∙◌, arith}
use Rattle.sporc_suffix.proofs.Following.{Follow-at, all_inserted-drop}
use Rattle.sporc_lower_tests.proofs.texts.forms.behind_all.Goals as goal

pub later_over-requires-clause-base : goal.later_over-requires-clause-base
later_over-requires-clause-base g c =
    c.letter-delta.ensures.base ∙ c.base_len.ensures.value ∙ Follow-at c.args.blocks.now.base c.args.blocks.now.forms c.args.from c.form.result.now c.requires.follow c.form.ensures.value

pub later_over-requires-clause-limit : goal.later_over-requires-clause-limit
later_over-requires-clause-limit g c =
    omega (arith, c.letter-delta.ensures.base, c.letter-delta.ensures.len_within, c.letter-delta.ensures.within, all_inserted-drop c.args.blocks.now.forms c.args.from, c.requires.inserted_limit, c.requires.limit)

pub returns : goal.returns
returns g c = record { steps = λ count one. omega (arith, c.later_over.ensures.cost.1 12 (omega (arith, count, one))) }
