-- How long a client's journal is, and what it has shown.
use Rattle.std.proofs.Common.{◌≡◌, ◌≤◌, List, length, ap, ◌∙◌, arith}
use Rattle.sporc_shared.proofs.Common.{take_all, Logged, journal_of, Opening, shown_after, shown_of}
use Rattle.sporc_delta.specs.Marks.{Mark}
use Rattle.sporc_line.specs.Document.{text_after}
use Rattle.sporc_client.proofs.ShownCounts.{journal_from_count, shown_count}
use Rattle.sporc_client.specs.Soundness.{IsSound}
use Rattle.sporc_client.specs.Step.{replay}

-- a journal has an event for each of the log's
pub length_journal : (log : List Logged) → length (journal_of log) ≡ length log
length_journal log = journal_from_count 0 log

-- the text that is shown after all events is the shown text
pub shown_last : (opening : Opening) (log : List Logged) → IsSound (replay opening log) → length (shown_after (length log) (replay opening log)) ≡ length (shown_of (replay opening log))
shown_last opening log sound =
    let all : length (replay opening log).shown ≤ length log = omega (arith, shown_count opening log) in
    ap (λ (forms : List (List Mark)). length (text_after forms)) (take_all (length log) (replay opening log).shown all) ∙ ap length sound.shown
