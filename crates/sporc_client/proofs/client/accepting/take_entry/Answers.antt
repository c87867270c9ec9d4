use Rattle.std.proofs.Common.{◌≡◌, ℕ, ◌+◌, ◌++◌, ◌∷◌, [], List, length, length-append, ap, sym, subst, ◌∙◌, arith}
use Rattle.sporc_client.proofs.Common.{Mark, Event, Pending, CanCome, Effect, effect, flight_after, pending_after, coming_at}
use Rattle.sporc_client.specs.declared.event.Event.TheVariants as events
use Rattle.sporc_client.proofs.Comings.{coming_there, same_flight}
use Rattle.sporc_client.proofs.client.accepting.take_entry.Goals as goal

pub record_coming-requires : goal.record_coming-requires
record_coming-requires c =
    let did = c.in-Ok.ensures in
    record {
      made = did.made;
      limit = rw did.unchanged.shown c.requires.settles.room;
      room = did.room;
      fits = subst (CanCome c.in-Ok.coming) (sym did.unchanged.pending) did.fits;
    }

pub returns-in-Ok-clause-ok : goal.returns-in-Ok-clause-ok
returns-in-Ok-clause-ok c =
    let line = c.args.line.now in
    let own = c.args.own.now in
    let p = c.args.prepared in
    let found = c.in-Ok.ensures in
    let same = found.unchanged in
    let did = c.record_coming.ensures in
    let coming : effect c.in-Ok.coming own.pending ≡ coming_at line.kit.me own p.checked.bytes p = coming_there line own p c.args.bytes.now c.own_device.result c.in-Ok.coming c.requires.bytes c.own_device.ensures.value found.coming in
    let place : c.len-place.result ≡ length line.entries + 1 = omega (arith, c.len-place.ensures.value, ap length c.commit.ensures.entries, length-append line.entries (p.checked.bytes ∷ [])) in
    record {
      genesis = c.commit.ensures.genesis;
      kit = c.commit.ensures.kit;
      entries = c.commit.ensures.entries;
      pending = did.pending ∙ ap (λ (ps : List Pending). pending_after (effect c.in-Ok.coming ps) ps) same.pending ∙ ap (λ (e : Effect). pending_after e own.pending) coming;
      flight = did.flight ∙ same_flight c.in-Ok.coming _ own.pending _ own.flight same.pending same.flight ∙ ap (λ (e : Effect). flight_after e own.flight) coming;
      shown = did.shown ∙ ap (λ (fs : List (List Mark)). fs ++ c.in-Ok.ready.form ∷ []) same.shown ∙ ap (λ (f : List Mark). own.shown ++ f ∷ []) found.ready_form;
      journal = did.journal ∙ ap (λ (es : List Event). es ++ events.Accept c.args.by c.len-place.result ∷ []) same.journal ∙ ap (λ (n : ℕ). own.journal ++ events.Accept c.args.by n ∷ []) place;
    }
