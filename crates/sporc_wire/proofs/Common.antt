-- The names of this crate and of those below that many of its proofs cite, passed on from one place.
pub use Rattle.bytes.specs.Filled.{Filled}
pub use Rattle.tokio_util.specs.Codec.LengthDelimited.{Answers, AnswersAtEnd, AnswersLast, Cut, IsSettled, codec_layout, cut, cut_adjusted, cut_frame, cut_in, cut_payload, frame, gives_frames, layout}
pub use Rattle.tokio_util.specs.Codec.LengthDelimited.{overflows, too_big, unfinished, with_state}
pub use Rattle.tokio_util.specs.Codec.LengthDelimitedLaws.{cut_frame_big, cut_frame_head, cut_frame_short, cut_payload_short, cut_payload_whole}
pub use Rattle.tokio_util.specs.declared.codec.length_delimited.DecodeState.{DecodeState}
pub use Rattle.tokio_util.specs.declared.codec.length_delimited.DecodeState.TheVariants.{Data, Head}
pub use Rattle.std.proofs.lemmas.Bool.{cases_lt, eqb-false, eqb-true, le-ltb, lt-ltb}
pub use Rattle.std.proofs.lemmas.List.{append-nil, drop-append-le, drop_at, flat_map_more, length-map, length-take-le, take-append-drop, take-append-le, take_all, take_at, take_more}
pub use Rattle.std.proofs.lemmas.List.Folds.{flat_map-map, length-flat_map-take}
pub use Rattle.std.proofs.lemmas.Nat.{be_bytes_4, from_be_bytes-to_be_bytes_4}
pub use Rattle.std.specs.Int.{from_be_bytes, to_be_bytes, w16, w32, w8}
pub use Rattle.std.specs.List.{flat_map, slice_index}
pub use Rattle.std.specs.Prelude.{MatchOption, find, is_some, not, ◌==◌, ◌≢◌}
pub use Rattle.sporc_base.specs.Bytes.{IsBytes}
pub use Rattle.sporc_base.specs.Outcome.{GivesUnless}
pub use Rattle.sporc_bytes.proofs.Fields.{Takes, Takes-nothing, Takes-then, bind_ok, byte_again, byte_takes, bytes_again, bytes_takes, counted_again, counted_takes, end_takes, number_takes, ok_is}
pub use Rattle.sporc_bytes.proofs.Fields.{present_ok, u16_again, u32_again, u8_again, wide16, wide32, wide8}
pub use Rattle.sporc_bytes.proofs.Lists.{ends, goes_on, is_done, with_front}
pub use Rattle.sporc_bytes.specs.Fields.{Reading, counted, counted_at, end_at, fault_as, number_at, values_at, ◌>>=◌}
pub use Rattle.sporc_head.specs.Refusal.{refusal_code_of}
pub use Rattle.sporc_wire.specs.CutterModel.{CutsFirst, CutterModel, FitsLimit, IsOurs, IsWithin, filled, our_layout, put_back, rest_of, unread}
pub use Rattle.sporc_wire.specs.Messages.{Unread, counted_to_end, framed, next_frame, next_read, next_unless, stream_of}
pub use Rattle.sporc_wire.specs.Refusals.{plain_refusals, refusal_detail_of, refusal_with}
pub use Rattle.sporc_wire.specs.Stream.{FirstFrame, first_frame, frame_of_len, partial, too_long, whole}
pub use Rattle.sporc_wire.specs.ToClient.{to_client_bytes, to_client_of}
pub use Rattle.sporc_wire.specs.ToServer.{to_server_bytes, to_server_of}
pub use Rattle.sporc_wire.specs.declared.cutter.TheConstants.{MAX_BODY}
pub use Rattle.sporc_wire.specs.declared.fault.FrameFault.{FrameFault}
pub use Rattle.sporc_wire.specs.declared.message.BodyFault.TheVariants.{Bad}
pub use Rattle.sporc_wire.specs.declared.to_client.TheConstants.{EMPTY, ENTRIES, MAX_CODE, MAX_PULLED, ORDERED, REJECTED}
pub use Rattle.sporc_wire.specs.declared.to_client.ToClient.TheVariants.{Empty, Entries, Ordered, Rejected}
pub use Rattle.sporc_wire.specs.declared.to_server.ToServer.TheVariants.{Hello, Pull, Submit}
