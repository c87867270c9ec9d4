-- The names of this crate and of those below that many of its proofs cite, passed on from one place.
pub use Rattle.atomic_table.proofs.Lists.{at_last, at_longer, at_map, at_set, exchanged, set_again, set_else}
pub use Rattle.atomic_table.specs.Table.{Act, Allows, Final, Joins, Me, Seen, Splits, State, Valid, carried_after, gives, keeps, opening, rest, stepped, takes}
pub use lib.ListN.{get_elem?}
pub use mathlib.Core.Logic.{dite}
pub use mathlib.Core.Option.{Option, none, some, some-injective, some-ne-none}
pub use native.Mathlib.Decide.{ℕ_discrete}
pub use Rattle.std.proofs.lemmas.List.{append-nil, drop-append-le, map-append, map-set, nil_from_length}
pub use Rattle.std.proofs.lemmas.List.Elements.{All-cons, All-contains, All-contains_itself, All-nil, All-weaker, Contains-append_cases, Contains-append_left, Contains-append_right, filter-append}
pub use Rattle.std.specs.List.{filter}
pub use Rattle.std.specs.Prelude.{All, Contains, MatchBool, slice_index}
pub use Rattle.sporc_base.specs.Lists.{StartsWith}
pub use Rattle.sporc_turn.specs.Knowing.{adding, copied, first_known, hearing, joined_with, joining, matched, nothing_known, seeing, splitting}
pub use Rattle.sporc_turn.specs.Log.{Agrees, Extends, HasNumber, OnlyFirstAdds, longer, own, shorter}
pub use Rattle.sporc_turn.specs.Rule.{HasTicket, HasTurn, HoldsAt, IsFirst, KnowledgeInvariant, LogInvariant, NoLivePass, TicketInvariant, TurnInvariant, known, one_if, spent_of}
pub use Rattle.sporc_turn.specs.Seats.{IsIdle, first_view, has_room}
pub use Rattle.sporc_turn.specs.Steps.{Compares, DrawsTicket, PassesServing, RaisesCount, ReadsCount, ReadsServing, ReadsTicket, drawing, idling, left_of_split, newcomer, of_both, raising, reading}
pub use Rattle.sporc_turn.specs.Steps.{right_of_split, serving, spent_view}
pub use Rattle.sporc_turn.specs.declared.known.Known.{Known}
pub use Rattle.sporc_turn.specs.declared.known.View.{View}
