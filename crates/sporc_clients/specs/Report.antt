-- What is printed of a client.
use Rattle.std.specs.Prelude.{ℕ, List, ◌++◌}
use Rattle.sporc_client.specs.Log.{journal_of}
use Rattle.sporc_report.specs.JournalLines.{journal_lines}
use Rattle.sporc_report.specs.ClientLines.{hash_line, show_line}
use Rattle.sporc_shared.specs.Items.{Past, client_of}

-- the lines of its journal, what it shows, and the last value of its chain
abbrev pub report_of : Past → List ℕ
report_of past =
    let me = past.opening.kit.me in
    journal_lines (journal_of past.log)
    ++ (show_line me (client_of past) ++ hash_line me (client_of past))
