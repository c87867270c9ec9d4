use Rattle.sporc_docs.proofs.Isolated.{isolated}
use Rattle.sporc_docs.proofs.laws.documents_are_isolated.Goals as goal

pub returns : goal.returns
returns c = isolated
