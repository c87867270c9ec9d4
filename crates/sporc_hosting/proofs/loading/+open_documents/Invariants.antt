use Rattle.std.proofs.Common.{length}
use Rattle.sporc_hosting.proofs.loading.+open_documents.Given as goal

abbrev pub decreases-open_documents : goal.decreases-open_documents
decreases-open_documents g l = length l.names.now
