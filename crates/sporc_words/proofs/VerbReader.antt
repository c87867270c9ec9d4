-- A word that names a command is its first word.
use Rattle.std.proofs.Common.{◌≡◌, Some, sym}
use Rattle.sporc_base.proofs.ListLemmas.{found_passes}
use Rattle.sporc_words.proofs.Common.{Text, Verb, row_of}
use Rattle.std.specs.Str.{bytes_eq}
use Rattle.std.proofs.lemmas.Slice.Eq.{bytes_eq-Decides}
use Rattle.sporc_words.specs.declared.command.TheConstants.{VERBS}
use Rattle.sporc_words.specs.Verbs.{verb_of}

pub named_by : (word : Text) (verb : Verb) → verb_of word ≡ Some verb → word ≡ (row_of verb).word
unfolding verb_of
named_by word verb is =
    sym ((bytes_eq-Decides (row_of verb).word word).0 (found_passes (λ (v : Verb). bytes_eq (row_of v).word word) VERBS verb is))
