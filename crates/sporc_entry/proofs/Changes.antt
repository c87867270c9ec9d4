-- The changes of a history with one entry more.
use Rattle.std.proofs.Common.{◌≡◌, ℕ, List, [], ◌∷◌, ◌++◌, Option, ap, ◌∙◌}
use Rattle.std.specs.List.{cons_option}
use Rattle.std.proofs.lemmas.List.Elements.{filter_map-append}
use Rattle.sporc_entry.specs.CommittedChanges.{change_in, changes}
use Rattle.sporc_entry.specs.declared.committed.CommittedChange.{CommittedChange}

pub changes_push : (entries : List (List ℕ)) (b : List ℕ) (o : Option CommittedChange) → change_in b ≡ o → changes (entries ++ b ∷ []) ≡ changes entries ++ cons_option o []
changes_push entries b o e = filter_map-append change_in entries (b ∷ []) ∙ ap (λ (o : Option CommittedChange). changes entries ++ cons_option o []) e
