-- The names of this crate and of those below that many of its proofs cite, passed on from one place.
pub use Rattle.std.proofs.lemmas.Bool.{cases_lt, leb-false, leb-true, ltb-false, ltb-true}
pub use Rattle.std.proofs.lemmas.List.{append-nil, drop_all, length-drop, length-map, take_all}
pub use Rattle.std.specs.Global.{Vec}
pub use Rattle.std.specs.List.{All}
pub use Rattle.std.specs.Prelude.{◌&&◌, ◌↔◌}
pub use Rattle.sporc_bytes.specs.Fields.{counted}
pub use Rattle.sporc_entry.specs.declared.limits.TheConstants.{MAX_ENTRY}
pub use Rattle.sporc_wire.specs.declared.to_client.TheConstants.{MAX_PULLED}
pub use Rattle.sporc_order.specs.Batches.{batch_after, longest_batch}
pub use Rattle.sporc_order.specs.declared.order.TheConstants.{MAX_PULLED_BYTES}
