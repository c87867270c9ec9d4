use Rattle.std.proofs.Common.{◌≡◌, true, false, [], Ok, ◌-◌, take, ap, sym, ◌∙◌, append-nil}
use Rattle.sporc_epoch.proofs.Common.{insert, mask_of, previous_stream, is_of, is_committed}
use Rattle.sporc_epoch.proofs.WalkBack.{walked, passed_over, wrong_key, stepped_back}
use Rattle.sporc_epoch.proofs.hints.keys_back.Goals as goal

pub loop-start-preserved-then-not-is_of : goal.loop-start-preserved-then-not-is_of
loop-start-preserved-then-not-is_of c =
    let other : is_of c.in-Some.start c.loop-start.epoch ≡ false = cc in
    sym (passed_over c.loop-start.ring.keys c.loop-start.epoch c.loop-start.key c.loop-start.starts.items c.pop.new.self.items c.in-Some.start c.in-Some.ensures.items other)
    ∙ c.loop-start.invariant

pub returns-then-not-is_committed : goal.returns-then-not-is_committed
returns-then-not-is_committed c =
    let here : is_of c.in-Some.start c.loop-start.epoch ≡ true = cc in
    let other : is_committed c.in-Some.start c.loop-start.epoch c.loop-start.key ≡ false = cc in
    record {
      value = λ _. sym c.loop-start.invariant
          ∙ wrong_key c.loop-start.ring.keys c.loop-start.epoch c.loop-start.key c.loop-start.starts.items c.pop.new.self.items c.in-Some.start c.in-Some.ensures.items here other;
    }

pub loop-start-preserved : goal.loop-start-preserved
loop-start-preserved c =
    let here : is_of c.in-Some.start c.loop-start.epoch ≡ true = cc in
    let same : is_committed c.in-Some.start c.loop-start.epoch c.loop-start.key ≡ true = cc in
    let ring : c.put.new.self.keys ≡ insert c.loop-start.ring.keys c.loop-start.epoch c.loop-start.key = c.in_ok-put.ensures.ok in
    let key : c.masked-key.result ≡ mask_of c.loop-start.key (previous_stream c.loop-start.epoch) c.in-Some.start.previous = cc in
    rw (ring, key)
    (sym (stepped_back c.loop-start.ring.keys c.loop-start.epoch c.loop-start.key c.loop-start.starts.items c.pop.new.self.items c.in-Some.start c.in-Some.ensures.items here same)
    ∙ c.loop-start.invariant)

pub returns : goal.returns
returns c =
    let none : c.loop-start.starts.items ≡ [] =
    c.in_default.ensures.items ∙ append-nil c.pop.new.self.items ∙ c.in_default.ensures.rest
    ∙ ap (λ n. take (n - 1) c.loop-start.starts.items) c.in_default.ensures.cases.0 in
    record {
      value = sym c.loop-start.invariant ∙ walked c.loop-start.ring.keys c.loop-start.epoch c.loop-start.key c.loop-start.starts.items none
          ∙ ap Ok (sym c.in_ok-put-2.ensures.ok);
    }
