-- The commands are among those that `clap` defines.
use Rattle.std.proofs.Common.{◌≡◌, true, refl, ap, ◌∙◌}
use Rattle.sporc_words.proofs.Common.{App, is_simple_and_free, Verb, app_for}
use Rattle.sporc_words.specs.declared.command.Verb.TheVariants as verbs
use Rattle.sporc_words.proofs.Literals.{app_on_literals}

each_is_simple : (verb : Verb) → is_simple_and_free (app_for verb) ≡ true
unfolding app_on_literals
each_is_simple verbs.Play = refl
each_is_simple _ = refl

pub simple : (verb : Verb) (app : App) → app ≡ app_for verb → is_simple_and_free app ≡ true
simple verb app is = ap is_simple_and_free is ∙ each_is_simple verb
