use Rattle.std.proofs.Common.{◌-◌, length, drop, take}
use Rattle.sporc_screen.proofs.Following.{rest_leads}
use Rattle.sporc_screen.proofs.EditLemmas.{edited_keeps, may_be}
use Rattle.sporc_screen.proofs.screen.Screen.edit.Goals as goal

pub restate-requires : goal.restate-requires
restate-requires c = rest_leads c.deref.result.now c.self.inside.since.items c.in-Some.place _ c.deref.ensures.value c.self.invariant.lead

pub invariant_of-self-2 : goal.invariant_of-self-2
invariant_of-self-2 c =
    let s = c.self.inside in
    let lines = take (length c.deref.result.now - c.in-Some.place) (drop c.in-Some.place c.deref.result.now) in
    let lead = rest_leads c.deref.result.now s.since.items c.in-Some.place _ c.deref.ensures.value c.self.invariant.lead in
    rw (c.in_ok-put_alone.ensures.ok, c.in_ok-restated.ensures.draft, c.in_ok-restated.ensures.line)
    (edited_keeps (record { draft = s.draft; own = s.own; last = s.last; base = s.base; since = s.since.items }) lines c.args.seen c.args.edit.now
    (may_be s.draft lines c.args.edit.now lead c.in_ok-restated.ensures.fault) c.in-Some.ensures.within c.self.invariant)
