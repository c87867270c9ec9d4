use Rattle.std.proofs.Common.{List, ℕ, length, ap, refl, ◌∙◌, arith}
use Rattle.sporc_play.proofs.Common.{take_all, Mark, state_of, shown_after, text_after}
use Rattle.sporc_client.proofs.ShownCounts.{shown_count}
use Rattle.sporc_play.proofs.ShortTexts.{short_texts, journal_count}
use Rattle.sporc_play.proofs.generated.len_of_shown.Goals as goal

pub unreachable-requires : goal.unreachable-requires
unreachable-requires c =
    let client = c.args.client.now in
    omega (arith, c.in-None.ensures.none.0 refl, journal_count client.opening client.log c.journal.result.now c.journal.ensures.value, shown_count client.opening client.log)

pub returns-clause-value : goal.returns-clause-value
returns-clause-value c =
    let client = c.args.client.now in
    let state = state_of client in
    c.in-Some.ensures.some
    ∙ ap (λ (n : ℕ). length (shown_after n state)) (journal_count client.opening client.log c.journal.result.now c.journal.ensures.value)
    ∙ ap (λ (deltas : List (List Mark)). length (text_after deltas)) (take_all (length state.shown) state.shown (omega arith))
    ∙ ap (λ (text : List ℕ). length text) c.journal.ensures.sound.shown

pub returns-clause-within : goal.returns-clause-within
returns-clause-within c =
    let client = c.args.client.now in
    let count = journal_count client.opening client.log c.journal.result.now c.journal.ensures.value in
    let shown = shown_count client.opening client.log in
    let short = short_texts client c.journal.ensures.allowed c.journal.ensures.sound (omega (arith, count, shown, c.journal.ensures.within)) (length c.journal.result.now) (omega (arith, count, shown)) in
    omega (arith, short, c.in-Some.ensures.some)
