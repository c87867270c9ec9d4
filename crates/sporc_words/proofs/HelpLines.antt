-- Lines that ask for help ask no command for its work.
use Rattle.std.proofs.Common.{◌≡◌, ◌⊎◌, Bool, true, false, ◌||◌, List, [], ◌∷◌, codes, Option, None, Some, option_map, refl, sym, ap, ◌∙◌, subst, inl, inr}
use Rattle.sporc_words.proofs.Common.{if◌then◌else◌, Text, then_read, same_Some, map_some, Verb, row_of}
use Rattle.std.specs.Str.{bytes_eq}
use Rattle.std.proofs.lemmas.Slice.Eq.{bytes_eq-Decides}
use Rattle.sporc_words.specs.declared.command.Command.{Command}
use Rattle.sporc_words.specs.declared.command.Command.TheVariants as commands
use Rattle.sporc_words.specs.declared.page.Page.{Page}
use Rattle.sporc_words.specs.declared.page.Page.TheVariants as pages
use Rattle.sporc_words.specs.declared.command.Verb.TheVariants as verbs
use Rattle.sporc_words.specs.Commands.{command_by, command_of, found_or, work_in}
use Rattle.sporc_words.specs.Help.{asks_overview, asks_version, help_in, of_both, of_one, page_of}
use Rattle.sporc_words.specs.Verbs.{verb_of}
use Rattle.sporc_words.proofs.Literals.{words_on_literals}
use Rattle.sporc_words.proofs.VerbReader.{named_by}

-- ---- no work

no_verb : (word : Text) (rest : List Text) → verb_of word ≡ None → work_in (word ∷ rest) ≡ None
unfolding work_in
no_verb word rest none = ap (λ (o : Option Verb). then_read o (λ verb. command_by verb (word ∷ rest))) none

no_command : (verb : Verb) → work_in ((row_of verb).word ∷ codes "--help" ∷ []) ≡ None
unfolding words_on_literals
no_command verbs.Play = refl
no_command _ = refl

-- ---- by the words

-- a word is this one
is_word : (word name : Text) → bytes_eq word name ≡ true → word ≡ name
is_word word name same = (bytes_eq-Decides word name).0 same

-- by a word that names no command
by_name : (word name : Text) (rest : List Text) → verb_of name ≡ None → bytes_eq word name ≡ true → work_in (word ∷ rest) ≡ None
by_name word name rest none same = no_verb word rest (ap verb_of (is_word word name same) ∙ none)

help_names_none : verb_of (codes "help") ≡ None
unfolding verb_of
help_names_none = refl

-- one of several words
either : (x y : Bool) (P : Type 0) → (x ≡ true → P) → (y ≡ true → P) → (x || y) ≡ true → P
either true y P first second one = first refl
either false y P first second one = second one

overview_alone : (word : Text) → asks_overview word ≡ true → work_in (word ∷ []) ≡ None
unfolding verb_of
overview_alone word asks =
    either _ _ _ (by_name word (codes "help") [] help_names_none)
    (either _ _ _ (by_name word (codes "--help") [] refl) (by_name word (codes "-h") [] refl)) asks

version_alone : (word : Text) → asks_version word ≡ true → work_in (word ∷ []) ≡ None
unfolding verb_of
version_alone word asks = either _ _ _ (by_name word (codes "version") [] refl) (by_name word (codes "--version") [] refl) asks

one_word : (word : Text) → (of_one word ≡ None) ⊎ (work_in (word ∷ []) ≡ None)
one_word word = go (asks_overview word) (asks_version word) refl refl
  where
    go : (x y : Bool) → asks_overview word ≡ x → asks_version word ≡ y → (of_one word ≡ None) ⊎ (work_in (word ∷ []) ≡ None)
    go true y is other = inr (overview_alone word is)
    go false true is other = inr (version_alone word other)
    go false false is other = inl (rw (is, other) refl)

-- `COMMAND --help`
behind_option : (first : Text) (found : Option Verb) → verb_of first ≡ found → work_in (first ∷ codes "--help" ∷ []) ≡ None
behind_option first None is = no_verb first (codes "--help" ∷ []) is
behind_option first (Some verb) is =
    subst (λ (word : Text). work_in (word ∷ codes "--help" ∷ []) ≡ None) (sym (named_by first verb is)) (no_command verb)

two_words : (first second : Text) → (of_both first second ≡ None) ⊎ (work_in (first ∷ second ∷ []) ≡ None)
two_words first second = go (bytes_eq second (codes "--help")) (bytes_eq first (codes "help")) refl refl
  where
    go : (x y : Bool) → bytes_eq second (codes "--help") ≡ x → bytes_eq first (codes "help") ≡ y → (of_both first second ≡ None) ⊎ (work_in (first ∷ second ∷ []) ≡ None)
    go true y is other =
        inr (subst (λ (word : Text). work_in (first ∷ word ∷ []) ≡ None) (sym (is_word second (codes "--help") is)) (behind_option first (verb_of first) refl))
    go false true is other = inr (by_name first (codes "help") (second ∷ []) help_names_none other)
    go false false is other = inl (rw (is, other) refl)

-- ---- all words

help_or_work : (words : List Text) → (help_in words ≡ None) ⊎ (work_in words ≡ None)
unfolding help_in
help_or_work (word ∷ []) = one_word word
help_or_work (first ∷ second ∷ []) = two_words first second
help_or_work words = inl refl

-- what a command was asked for, it is asked for
pub work_is_asked : (words : List Text) (asked : Command) → work_in words ≡ Some asked → command_of words ≡ Some asked
unfolding command_of
work_is_asked words asked is = elim (help_or_work words) [
  | inl none ↦ ap (λ (o : Option Command). found_or o (work_in words)) none ∙ is
  | inr none ↦ absurd (let both : None ≡ Some asked = sym none ∙ is in cc)
]

-- ---- what they ask for

-- a page, or the version
abbrev IsTold : Command → Type 0
IsTold asked = ((page : Page) × (asked ≡ commands.Help page)) ⊎ (asked ≡ commands.Version)

a_page : (found : Option Page) (asked : Command) → option_map commands.Help found ≡ Some asked → IsTold asked
a_page found asked is =
    let made = map_some found commands.Help asked is in
    inl (made.0, sym made.2)

told_by_one : (word : Text) (asked : Command) → of_one word ≡ Some asked → IsTold asked
told_by_one word asked is = go (asks_overview word) (asks_version word) is
  where
    go : (x y : Bool) → (if x then Some (commands.Help pages.Overview) else if y then Some commands.Version else None) ≡ Some asked → IsTold asked
    go true y is = inl (pages.Overview, sym (same_Some (commands.Help pages.Overview) asked is))
    go false true is = inr (sym (same_Some commands.Version asked is))
    go false false is = absurd cc

told_by_both : (first second : Text) (asked : Command) → of_both first second ≡ Some asked → IsTold asked
told_by_both first second asked is = go (bytes_eq second (codes "--help")) (bytes_eq first (codes "help")) is
  where
    go : (x y : Bool) → (if x then option_map commands.Help (page_of first) else if y then option_map commands.Help (page_of second) else None) ≡ Some asked → IsTold asked
    go true y is = a_page (page_of first) asked is
    go false true is = a_page (page_of second) asked is
    go false false is = absurd cc

pub told_by_help : (words : List Text) (asked : Command) → help_in words ≡ Some asked → ((page : Page) × (asked ≡ commands.Help page)) ⊎ (asked ≡ commands.Version)
unfolding help_in
told_by_help (word ∷ []) asked is = told_by_one word asked is
told_by_help (first ∷ second ∷ []) asked is = told_by_both first second asked is
told_by_help words asked is = absurd cc
