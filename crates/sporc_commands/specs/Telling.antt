-- The text and the entries of a device's saved history.
use Rattle.std.specs.Prelude.{◌≡◌, ℕ, nat_le, List, length, take, Option, None, Some, Result, Ok}
use Rattle.std.specs.Prelude.{Err, if◌then◌else◌}
use Rattle.std.specs.Str.{encode_utf8_all}
use Rattle.sporc_bytes.specs.Fields.{◌>>=◌}
use Rattle.sporc_line.specs.Document.{text_of}
use Rattle.sporc_member.specs.declared.device.Device.{Device}
use Rattle.sporc_report.specs.EntryLines.{entry_lines}
use Rattle.sporc_files.specs.declared.fault.Fault.{Fault}
use Rattle.sporc_files.specs.declared.fault.Fault.TheVariants as faults
use Rattle.sporc_commands.specs.Checking.{CheckedFiles, CheckedLine, line_in}

-- what was written is these bytes, and nothing before or behind them
abbrev pub IsJust : List ℕ → List ℕ → Type 0
IsJust bytes written = written ≡ bytes

-- ---- `text`

-- the committed text after the first so many entries, as UTF-8
abbrev pub text_after_first : ℕ → CheckedLine → List ℕ
text_after_first n line = encode_utf8_all (text_of line.genesis line.kit (take n line.entries))

-- the committed text after so many entries, if there are so many, or after all
abbrev pub text_at : Option ℕ → CheckedLine → Result (List ℕ) Fault
text_at None line = Ok (encode_utf8_all (text_of line.genesis line.kit line.entries))
text_at (Some n) line =
    if nat_le n (length line.entries) then Ok (text_after_first n line)
    else Err (faults.Ahead (length line.entries))

-- the text of the history in a device's files
abbrev pub text_in : Device → Option ℕ → CheckedFiles → Result (List ℕ) Fault
text_in device at content = line_in device content >>= text_at at

-- ---- `entries`

-- the lines of its entries from a position on; there are none behind the last
abbrev pub lines_from : ℕ → CheckedLine → Result (List ℕ) Fault
lines_from from line = Ok (entry_lines from line.genesis line.kit line.entries)

-- those of the history in a device's files
abbrev pub lines_in : Device → ℕ → CheckedFiles → Result (List ℕ) Fault
lines_in device from content = line_in device content >>= lines_from from
