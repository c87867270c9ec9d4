use Rattle.std.proofs.Common.{◌≡◌, ◌++◌, drop}
use Rattle.sporc_words.proofs.Common.{texts}
use Rattle.sporc_words.proofs.values.copied.Given as goal

abbrev pub invariant-loop-word : goal.invariant-loop-word
invariant-loop-word l = l.copies.items ++ texts (drop l.word-index l.words) ≡ texts l.words
