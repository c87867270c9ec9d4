use Rattle.std.proofs.Common.{[], Some, ap, sym, ◌∙◌}
use Rattle.std.proofs.lemmas.Option.{slice_get-get_or}
use Rattle.sporc_hash.specs.Chain.{genesis_value}
use Rattle.sporc_evidence.proofs.evidence.begins_with.Goals as goal

pub returns-clause-meaning : goal.returns-clause-meaning
returns-clause-meaning c = λ yes.
    slice_get-get_or c.args.hashes.now 0 [] c.requires.positive
    ∙ ap Some (sym (c.is_same.ensures.meaning.0 yes) ∙ c.genesis_hash-wanted.ensures.value ∙ ap genesis_value (c.as_slice.ensures.value ∙ c.in_ok-bytes.ensures.ok))
