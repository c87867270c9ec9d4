use Rattle.std.proofs.Common.{◌≡◌, ℕ, ◌<◌, ◌≤◌, length, Some, refl, sym, ap, ◌∙◌, subst}
use Rattle.sporc_play.proofs.Common.{MAX_COUNT, state_of, MAX_EVENTS, marks_of}
use Rattle.sporc_client.proofs.ShownCounts.{shown_count}
use Rattle.sporc_play.proofs.ShortTexts.{short_texts, journal_count}
use Rattle.sporc_play.proofs.Reported.{ahead, not_below, within}
use Rattle.sporc_play.proofs.acting.delta_by.Goals as goal

pub returns-in_default-clause-value : goal.returns-in_default-clause-value
returns-in_default-clause-value c =
    let client = c.args.client.now in
    let more : length (state_of client).shown < c.args.seen = subst (λ (n : ℕ). n < c.args.seen) (sym (shown_count client.opening client.log)) (c.in_default.ensures.none.0 refl) in
    ap Some c.in_ok-keep_all.ensures.ok ∙ sym (ahead (state_of client) c.args.seen c.args.edit.now more)

pub returns-in-Some-2-clause-value : goal.returns-in-Some-2-clause-value
returns-in-Some-2-clause-value c =
    let client = c.args.client.now in
    let low : c.args.seen ≤ length (state_of client).shown = subst (λ (n : ℕ). c.args.seen ≤ n) (sym (shown_count client.opening client.log)) (not_below _ (length client.log) c.args.seen c.in-Some.ensures.none (λ h. cc)) in
    sym c.in-Some-2.is ∙ c.in_ok-delta.ensures ∙ ap (marks_of c.args.edit.now) c.in-Some.ensures.some ∙ sym (within (state_of client) c.args.seen c.args.edit.now low)

pub returns-in-None-clause-value : goal.returns-in-None-clause-value
returns-in-None-clause-value c =
    let client = c.args.client.now in
    let low : c.args.seen ≤ length (state_of client).shown = subst (λ (n : ℕ). c.args.seen ≤ n) (sym (shown_count client.opening client.log)) (not_below _ (length client.log) c.args.seen c.in-Some.ensures.none (λ h. cc)) in
    sym c.in-None.is ∙ c.in_ok-delta.ensures ∙ ap (marks_of c.args.edit.now) c.in-Some.ensures.some ∙ sym (within (state_of client) c.args.seen c.args.edit.now low)

pub delta_of-requires-clause-limit : goal.delta_of-requires-clause-limit
delta_of-requires-clause-limit c =
    let client = c.args.client.now in
    let low : c.args.seen ≤ length client.log = not_below _ (length client.log) c.args.seen c.in-Some.ensures.none (λ h. cc) in
    let count : length c.journal-journal.result.now ≡ length client.log =
    journal_count client.opening client.log c.journal-journal.result.now c.journal-journal.ensures.value ∙ shown_count client.opening client.log in
    subst (λ (n : ℕ). n ≤ MAX_COUNT) (sym c.in-Some.ensures.some)
    (short_texts client c.journal-journal.ensures.allowed c.journal-journal.ensures.sound (subst (λ (n : ℕ). n ≤ MAX_EVENTS) count c.journal-journal.ensures.within) c.args.seen low)
