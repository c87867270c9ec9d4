use Rattle.sporc_editor.proofs.AuthorLemmas.{kept_all, named_all}
use Rattle.sporc_editor.proofs.laws.authors_are_named.Goals as goal

pub returns-clause-kept : goal.returns-clause-kept
returns-clause-kept c = kept_all

pub returns-clause-named : goal.returns-clause-named
returns-clause-named c = named_all
