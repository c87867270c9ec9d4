use Rattle.std.proofs.Common.{List, ℕ, map, subst}
use Rattle.sporc_commands.proofs.Common.{Vec, LineModel, AnswersUnlessOutside, tells_behind, entries_of, entries_for_hints}
use Rattle.sporc_files.specs.Opening.{kit_by}
use Rattle.sporc_commands.proofs.examining.open.Goals as goal

pub returns-clause-kit : goal.returns-clause-kit
returns-clause-kit c =
    tells_behind (λ (line : LineModel). line.kit) ⊥ c.open_line.result (entries_for_hints c.args.device c.args.ring.now.epoch_key c.args.genesis.document c.args.history.now)
    (entries_of c.in_ok-entries.entries) (kit_by c.args.genesis c.args.device c.args.ring.now) c.in_ok-entries.ensures.value
    (subst (λ (es : List (Vec ℕ)). AnswersUnlessOutside (λ (line : LineModel). line.kit) ⊥ c.open_line.result (kit_by c.args.genesis c.args.device c.args.ring.now (map (λ e. e.items) es)))
    c.as_slice.ensures.value c.open_line.ensures.kit)
