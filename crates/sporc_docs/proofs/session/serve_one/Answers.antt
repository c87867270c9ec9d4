use Rattle.std.proofs.Common.{◌≡◌, ◌∙◌, ℕ, [], Some, None, Result, Ok, Err, set, slice_index_or, refl, ap, sym, subst, subst₂, arith}
use Rattle.sporc_docs.proofs.Common.{ToServer, Unread, stream_of, Pass, known_of, read_of, SessionEnd, Item, inlet_at, ReadsFirst, LeadsFrom, pass_at}
use Rattle.sporc_serve.specs.Turns.{HasReadLast}
use Rattle.sporc_docs.proofs.Sessions.{have_length, have_at, have_set, became_here, kept_elsewhere, serves_from}
use Rattle.sporc_docs.proofs.session.serve_one.Goals as goal

pub returns-in-Err-clause-session : goal.returns-in-Err-clause-session
returns-in-Err-clause-session g c = (
  None,
  record {
    bound = (
      g.L.Stream.told c.first_message.new.link,
      c.first_message.new.frames,
      Err c.in-Err.end,
      record {
        first_is = subst₂ (λ (u : Unread) (r : Result ToServer SessionEnd). ReadsFirst (inlet_at (g.L.Stream.told c.args.link.now) u)
            (inlet_at (g.L.Stream.told c.first_message.new.link) c.first_message.new.frames) r)
            c.new-frames.ensures.value c.in-Err.is c.first_message.ensures.first;
        end_is = refl;
        written_is = c.first_message.ensures.written;
        as_shut = c.first_message.ensures.shut;
        shuts = c.shut.ensures.did;
      },
    );
    serves = λ i p p' old new. cc;
  },
)

pub returns-in_default-clause-session : goal.returns-in_default-clause-session
returns-in_default-clause-session g c = (
  None,
  record {
    bound = (
      g.L.Stream.told c.first_message.new.link,
      c.first_message.new.frames,
      Ok c.in-Ok.first,
      record {
        first_is = subst₂ (λ (u : Unread) (r : Result ToServer SessionEnd). ReadsFirst (inlet_at (g.L.Stream.told c.args.link.now) u)
            (inlet_at (g.L.Stream.told c.first_message.new.link) c.first_message.new.frames) r)
            c.new-frames.ensures.value c.in-Ok.is c.first_message.ensures.first;
        end_is = (sym c.named_by.ensures.value ∙ c.in_default.is, refl);
        written_is = c.first_message.ensures.written;
        as_shut = c.first_message.ensures.shut;
        shuts = c.shut-in_default.ensures.did;
      },
    );
    serves = λ i p p' old new. cc;
  },
)

pub bounds-hand-place : goal.bounds-hand-place
bounds-hand-place g c =
    let same = have_length c.args.docs.now.turns.now c.args.hand.now c.requires.locks in omega (arith, same, c.requires.one_length, c.in-Some.ensures.within)

pub serve_at-end-requires-clause-lock : goal.serve_at-end-requires-clause-lock
serve_at-end-requires-clause-lock g c =
    let turns = c.args.docs.now.turns.now in
    let hand = c.args.hand.now in
    let place = c.in-Some.place in
    have_at turns hand place (slice_index_or turns place c.index-docs-place.result) (slice_index_or hand place c.index-hand-place.result) c.requires.locks
    (omega (arith, c.requires.one_length, c.in-Some.ensures.within)) (ap (slice_index_or turns place) c.index-docs-place.is) (ap (slice_index_or hand place) c.index-hand-place.is)

pub returns-clause-locks : goal.returns-clause-locks
returns-clause-locks g c =
    let turns = c.args.docs.now.turns.now in
    let place = c.in-Some.place in
    have_set turns c.args.hand.now place (slice_index_or turns place c.index-docs-place.result) c.serve_at-end.new.pass c.requires.locks
    (omega (arith, c.requires.one_length, c.in-Some.ensures.within)) (ap (slice_index_or turns place) c.index-docs-place.is) c.serve_at-end.ensures.lock

pub returns-clause-session : goal.returns-clause-session
returns-clause-session g c =
    let first = subst₂ (λ (u : Unread) (r : Result ToServer SessionEnd). ReadsFirst (inlet_at (g.L.Stream.told c.args.link.now) u)
    (inlet_at (g.L.Stream.told c.first_message.new.link) c.first_message.new.frames) r)
    c.new-frames.ensures.value c.in-Ok.is c.first_message.ensures.first in
    let hand = c.args.hand.now in
    let place = c.in-Some.place in
    let old = slice_index_or hand place c.index-hand-place.result in
    let new = c.serve_at-end.new.pass in
    let read = ap (slice_index_or hand place) c.index-hand-place.is in (
      Some place,
      record {
        bound = (
          g.L.Stream.told c.first_message.new.link,
          c.first_message.new.frames,
          c.in-Ok.first,
          record { first_is = first; names = sym c.named_by.ensures.value ∙ c.in-Some.is },
        );
        serves = λ i p p' at_old at_new. (
          λ here. (
              let at_old' = subst (λ (j : ℕ). pass_at j hand ≡ Some p) (sym here) at_old in
              let at_new' = subst (λ (j : ℕ). pass_at j (set hand place new) ≡ Some p') (sym here) at_new in (
                became_here (λ (q q' : Pass Item). (known_of q').number ≡ (known_of q).number) hand place old new p p' read at_old' at_new' c.serve_at-end.ensures.number,
                became_here (λ (q q' : Pass Item). HasReadLast (read_of q') c.serve_at-end.result) hand place old new p p' read at_old' at_new' c.serve_at-end.ensures.worn,
                λ genesis log.
                    serves_from (g.L.Stream.told c.args.link.now) (g.L.Stream.told c.first_message.new.link) (g.L.Stream.told c.serve_at-end.new.link)
                    (g.L.Stream.told c.shut-2.new.self) (stream_of []) c.first_message.new.frames c.in-Ok.first first c.first_message.ensures.written c.first_message.ensures.shut
                    c.serve_at-end.ensures.shut
                    c.shut-2.ensures.did
                    genesis (known_of p) (known_of p') c.serve_at-end.result log
                    (became_here (λ (q q' : Pass Item). LeadsFrom c.in-Ok.first c.first_message.new.frames
                    (g.L.Stream.told c.first_message.new.link) (g.L.Stream.told c.serve_at-end.new.link)
                    c.serve_at-end.result (known_of q) (known_of q')) hand place old new p p' read at_old' at_new' c.serve_at-end.ensures.goes),
              )),
          λ apart. kept_elsewhere hand place i new p p' apart at_old at_new,
        );
      },
    )
