use Rattle.sporc_client.proofs.workspace.Workspace.restated.Given as goal

abbrev pub ghosts-behind : goal.ghosts-behind
ghosts-behind a = record { name = a.blank.name; parts = a.blank.parts }
