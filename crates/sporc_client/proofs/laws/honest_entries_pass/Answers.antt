use Rattle.sporc_client.proofs.HonestEntries.{honest_entries_pass}
use Rattle.sporc_client.proofs.laws.honest_entries_pass.Goals as goal

pub returns : goal.returns
returns c = record { accepted = honest_entries_pass }
