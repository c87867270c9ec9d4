-- The names of this crate and of those below that many of its proofs cite, passed on from one place.
pub use Rattle.sporc_turn.specs.Knowing.{adding, first_known, seeing}
pub use Rattle.sporc_turn.specs.Passes.{known_held, known_of, value_of}
pub use Rattle.std.proofs.lemmas.List.{append-nil, length-map, map-append, take_all}
pub use Rattle.sporc_head.specs.History.{change_in, hash_of}
pub use Rattle.sporc_client.specs.Answers.{added}
pub use Rattle.sporc_client.specs.ClientModel.{ClientModel, first_leaf_of, leaf_in, leaves_of, state_of}
pub use Rattle.sporc_client.specs.Log.{Accept, Change, Discard, Dropped, Edit, Logged, Submit, by_of as maker_of, journal_of}
pub use Rattle.sporc_client.specs.PlainClient.{Opening, PlainClient, committed_of, opened, shown_after, shown_of}
pub use Rattle.sporc_client.specs.Submissions.{submission_added}
pub use Rattle.sporc_shared.specs.Items.{Happened, IsAllowed, Item, Opened, Past, by_of, items_of, past_of, with_events}
