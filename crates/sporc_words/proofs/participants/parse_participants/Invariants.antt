use Rattle.std.proofs.Common.{◌≡◌, drop}
use Rattle.sporc_words.proofs.Common.{texts, all_participants}
use Rattle.sporc_words.proofs.NamedLemmas.{behind}
use Rattle.sporc_words.proofs.participants.parse_participants.Given as goal

abbrev pub invariant-loop-word : goal.invariant-loop-word
invariant-loop-word l = all_participants (texts l.words) ≡ behind l.participants.items (all_participants (texts (drop l.word-index l.words)))
