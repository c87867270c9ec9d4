use Rattle.std.proofs.Common.{◌≡◌, ◌+◌, length, Some, None, Ok, Err, refl, sym, ap, ap₂, ◌∙◌, arith}
use Rattle.sporc_wire.proofs.Common.{FrameFault, first_frame, partial, too_long, whole, unread, put_back, Unread, counted_to_end}
use Rattle.sporc_wire.specs.declared.fault.FrameFault.TheVariants.{BadMessage, TooLong}
use Rattle.sporc_wire.proofs.Nexts.{unread_is, next-stopped, next-at, next-message, read_ok, read_bad, cut_some, cut_none, stops_value, stops_after}
use Rattle.sporc_wire.proofs.frames.Frames.next.Goals as goal

pub returns-in-Some : goal.returns-in-Some
returns-in-Some g c =
    let is : c.args.self.now.fault ≡ Some c.in-Some.fault = sym (ap (λ (s : Unread). s.fault) c.self.view_is) ∙ c.in-Some.is in
    let stopped = next-stopped g.M.Message.of c.args.self.now c.in-Some.fault is in
    record { value = λ _. ap (λ n. n.answer) stopped; after = λ _. ap (λ n. n.after) (sym stopped); memory = λ _. refl }

pub returns-in-Err-TooLong : goal.returns-in-Err-TooLong
returns-in-Err-TooLong g c =
    let old = c.args.self.now in
    let fault : old.fault ≡ None = sym (ap (λ (s : Unread). s.fault) c.self.view_is) ∙ c.in_default.is in
    let first_frame : first_frame old.rest ≡ too_long c.in-Err-TooLong.len =
    ap (λ (s : Unread). first_frame s.rest) (sym c.self.view_is) ∙ c.cut.ensures.too_long c.in-Err-TooLong.len (c.in-Err-TooLong.is ∙ ap Err c.in-Err-TooLong.field-0-is) in
    let stops = next-at g.M.Message.of old (too_long c.in-Err-TooLong.len) fault first_frame in
    let rest : unread c.cut.new.self ≡ old.rest = c.cut.ensures.unread ∙ ap (λ (s : Unread). s.rest) c.self.view_is in
    record {
      value = stops_value g.M.Message.of old (TooLong c.in-Err-TooLong.len) c.stop.result stops (c.stop.ensures.value ∙ ap (λ n. Err (TooLong n)) c.from.ensures);
      after = λ _. stops_after g.M.Message.of old (TooLong c.in-Err-TooLong.len) c.stop.new.self stops
          (c.stop.ensures.after ∙ unread_is (record old { fault = Some (TooLong c.in-Err-TooLong.len) }) c.self.inside.at (unread c.cut.new.self) (Some (TooLong c.from.result))
          (ap (λ (s : Unread). s.at) c.self.view_is) rest (ap (λ n. Some (TooLong n)) c.from.ensures));
      memory = λ e. absurd cc;
    }

pub returns-in_default-body : goal.returns-in_default-body
returns-in_default-body g c =
    let old = c.args.self.now in
    let fault : old.fault ≡ None = sym (ap (λ (s : Unread). s.fault) c.self.view_is) ∙ c.in_default.is in
    let first_frame : first_frame old.rest ≡ partial =
    ap (λ (s : Unread). first_frame s.rest) (sym c.self.view_is) ∙ cut_none c.cut.new.self.body _ _ c.in_default-body.ensures c.in-Ok.ensures.ok in
    let next = next-at g.M.Message.of old partial fault first_frame in
    let rest : unread c.cut.new.self ≡ old.rest = c.cut.ensures.unread ∙ ap (λ (s : Unread). s.rest) c.self.view_is in
    record {
      value = ap (λ n. n.answer) next;
      after = λ _. unread_is old c.self.inside.at (unread c.cut.new.self) c.self.inside.fault
          (ap (λ (s : Unread). s.at) c.self.view_is) rest (ap (λ (s : Unread). s.fault) c.self.view_is)
          ∙ ap (λ n. n.after) (sym next);
      memory = λ e. absurd cc;
    }

pub returns-in-Ok-read : goal.returns-in-Ok-read
returns-in-Ok-read g c =
    let old = c.args.self.now in
    let body = c.in-Some-body.body.now in
    let fault : old.fault ≡ None = sym (ap (λ (s : Unread). s.fault) c.self.view_is) ∙ c.in_default.is in
    let first_frame : first_frame old.rest ≡ whole body c.cut.new.self.rest =
    ap (λ (s : Unread). first_frame s.rest) (sym c.self.view_is) ∙ cut_some c.cut.new.self.body body _ _ c.in-Some-body.ensures c.in-Ok.ensures.ok in
    let read : g.M.Message.of body ≡ Ok c.in-Ok-read.message = read_ok (g.M.Message.of body) c.in-Ok-read.message c.in-Ok-read.ensures.value in
    let next = next-message g.M.Message.of old body c.cut.new.self.rest (Ok c.in-Ok-read.message) fault first_frame read in
    let place : c.self.inside.at ≡ old.at = ap (λ (s : Unread). s.at) c.self.view_is in
    let at : c.saturating_add-self-inside.result ≡ counted_to_end (old.at + (4 + length body)) = omega arith in
    let rest : unread c.go_on.new.self ≡ c.cut.new.self.rest = ap₂ put_back c.go_on.ensures.body c.go_on.ensures.rest in
    let after : Unread = record { at = counted_to_end (old.at + (4 + length body)); rest = c.cut.new.self.rest; fault = old.fault } in
    record {
      value = ap (λ n. n.answer) next;
      after = λ _. unread_is after c.saturating_add-self-inside.result (unread c.go_on.new.self) c.self.inside.fault at rest (ap (λ (s : Unread). s.fault) c.self.view_is)
          ∙ ap (λ n. n.after) (sym next);
      memory = λ e. absurd cc;
    }

pub returns-in-Err-Bad : goal.returns-in-Err-Bad
returns-in-Err-Bad g c =
    let old = c.args.self.now in
    let body = c.in-Some-body.body.now in
    let fault : old.fault ≡ None = sym (ap (λ (s : Unread). s.fault) c.self.view_is) ∙ c.in_default.is in
    let first_frame : first_frame old.rest ≡ whole body c.cut.new.self.rest =
    ap (λ (s : Unread). first_frame s.rest) (sym c.self.view_is) ∙ cut_some c.cut.new.self.body body _ _ c.in-Some-body.ensures c.in-Ok.ensures.ok in
    let read : g.M.Message.of body ≡ Err c.in-Err-Bad.place = read_bad (g.M.Message.of body) c.in-Err-Bad.field-0 c.in-Err-Bad.place c.in-Err-Bad.field-0-is c.in-Err-Bad.ensures.value in
    let stops = next-message g.M.Message.of old body c.cut.new.self.rest (Err c.in-Err-Bad.place) fault first_frame read in
    let place : c.self.inside.at ≡ old.at = ap (λ (s : Unread). s.at) c.self.view_is in
    let at : c.saturating_add-place.result ≡ counted_to_end (old.at + (4 + c.in-Err-Bad.place)) = omega arith in
    let rest : unread c.cut.new.self ≡ old.rest = c.cut.ensures.unread ∙ ap (λ (s : Unread). s.rest) c.self.view_is in
    let found : FrameFault = BadMessage (counted_to_end (old.at + (4 + c.in-Err-Bad.place))) in
    record {
      value = stops_value g.M.Message.of old found c.stop-in-Err-Bad.result stops (c.stop-in-Err-Bad.ensures.value ∙ ap (λ n. Err (BadMessage n)) at);
      after = λ _. stops_after g.M.Message.of old found c.stop-in-Err-Bad.new.self stops
          (c.stop-in-Err-Bad.ensures.after ∙ unread_is (record old { fault = Some found }) c.self.inside.at (unread c.cut.new.self) (Some (BadMessage c.saturating_add-place.result))
          place rest (ap (λ n. Some (BadMessage n)) at));
      memory = λ e. absurd cc;
    }
