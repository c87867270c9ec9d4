use Rattle.sporc_files.proofs.NamesApart.{names_apart}
use Rattle.sporc_files.proofs.laws.files_have_their_own_names.Goals as goal

pub returns : goal.returns
returns c = record { names = names_apart }
