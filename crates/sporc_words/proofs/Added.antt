-- A command with one more argument.
use Rattle.std.proofs.Common.{◌≡◌, ℕ, suc, ◌+◌, ◌<◌, ◌≤◌, false, List, length, get_or, drop, map, ap, sym, ◌∙◌, add-one, drop-cons}
use Rattle.sporc_words.proofs.Common.{drop_all, AddsArg, Rule, rule_of, with_rule, with_all}
use Rattle.clap.specs.Simple.{App}
use Rattle.clap.specs.declared.builder.Arg.{Arg}
use Rattle.clap.specs.declared.Command.{Command}
use Rattle.sporc_words.specs.Arguments.{grammar_of, with_argument}

pub added : (old new : Command) (a : Arg) (rule : Rule) → AddsArg old a new → a.global ≡ false → rule_of a ≡ rule
    → grammar_of new ≡ with_argument (grammar_of old) rule
unfolding grammar_of with_argument
added old new a rule adds local is = adds.shape local ∙ ap (with_rule (grammar_of old)) is

-- the arguments that are still to come, and those that are there once none is left
pub all_more : {A : Type 0} (rule : A → Rule) (items : List A) (i : ℕ) (other : A) (old new whole : App) → i < length items
    → new ≡ with_argument old (rule (get_or items i other)) → with_all old (map rule (drop i items)) ≡ whole → with_all new (map rule (drop (i + 1) items)) ≡ whole
all_more {A} rule items i other old new whole within is before =
    rw add-one (ap (λ (app : App). with_all app (map rule (drop (suc i) items))) is
    ∙ ap (λ (left : List A). with_all old (map rule left)) (sym (drop-cons items i other within)) ∙ before)

pub all_there : {A : Type 0} (rule : A → Rule) (items : List A) (i : ℕ) (app whole : App) → length items ≤ i
    → with_all app (map rule (drop i items)) ≡ whole → app ≡ whole
all_there {A} rule items i app whole end before = ap (λ (left : List A). with_all app (map rule left)) (sym (drop_all i items end)) ∙ before
