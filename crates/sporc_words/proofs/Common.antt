-- The names of this crate and of those below that many of its proofs cite, passed on from one place.
pub use Rattle.clap.proofs.WalkLemmas.{first_value-rows, raw_values-rows}
pub use Rattle.clap.specs.Walk.{Row, Text, is_empty, texts}
pub use Rattle.clap.specs.Words.{AddsArg, App, Rule, fault_of, found_of, is_simple_and_free, kind_of, matches_of, rule_of, takes, with_rule}
pub use Rattle.clap.specs.declared.error.ErrorKind.TheVariants.{OutOfMemory}
pub use Rattle.std.proofs.lemmas.List.{drop_all, drop_more}
pub use Rattle.std.proofs.lemmas.Option.{same_Some}
pub use Rattle.std.specs.Prelude.{if◌then◌else◌, ⊤}
pub use Rattle.sporc_script.proofs.Exact.{map_some}
pub use Rattle.sporc_script.specs.Readers.{member_of, then_read}
pub use Rattle.sporc_words.specs.Arguments.{grammar_of, named, rule_for, with_all}
pub use Rattle.sporc_words.specs.Commands.{command_of}
pub use Rattle.sporc_words.specs.Values.{all_participants, has_twice}
pub use Rattle.sporc_words.specs.Verbs.{app_for, row_of, verb_of}
pub use Rattle.sporc_words.specs.declared.command.Verb.{Verb}
