use Rattle.sporc_line.proofs.passing.pass_forms.Given as goal

abbrev pub ghosts-pass_counted : goal.ghosts-pass_counted
ghosts-pass_counted a = record { name = a.blank.name; parts = a.blank.parts }
