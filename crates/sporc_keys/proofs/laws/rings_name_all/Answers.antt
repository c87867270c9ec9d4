use Rattle.sporc_keys.proofs.Sharing.{contained, named_members}
use Rattle.sporc_keys.proofs.laws.rings_name_all.Goals as goal

pub returns : goal.returns
returns c = record { members = λ numbers words member rises len among. named_members numbers words member rises len (contained numbers member among) }
