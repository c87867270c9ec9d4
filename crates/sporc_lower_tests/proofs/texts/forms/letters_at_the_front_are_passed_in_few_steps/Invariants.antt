use Rattle.sporc_lower_tests.proofs.texts.forms.letters_at_the_front_are_passed_in_few_steps.Given as goal

abbrev pub ghosts-passes_as_walked : goal.ghosts-passes_as_walked
ghosts-passes_as_walked g a = record { name = a.blank.name; parts = a.blank.parts }
