use Rattle.std.proofs.Common.{◌≡◌, take}
use Rattle.sporc_line.specs.Document.{text_of}
use Rattle.sporc_commands.proofs.texts.text_after_first.Given as goal

abbrev pub invariant-forms : goal.invariant-forms
invariant-forms l = l.text ≡ text_of l.line.genesis l.line.kit (take l.i l.line.entries)
