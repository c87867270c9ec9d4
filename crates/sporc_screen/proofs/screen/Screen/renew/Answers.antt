use Rattle.std.proofs.Common.{ℕ, sym, subst}
use Rattle.sporc_screen.proofs.Common.{LeadTo, base_len-keep_marks}
use Rattle.sporc_screen.proofs.Keeping.{renewed_keeps}
use Rattle.sporc_screen.proofs.screen.Screen.renew.Goals as goal

pub put_line-requires : goal.put_line-requires
put_line-requires c =
    let Q : ℕ → Type 0 = λ n. LeadTo c.self.inside.since.items n in
    rw (c.in_ok-line.ensures, c.out_len.ensures.value) (subst Q (sym (base_len-keep_marks _)) c.self.invariant.lead)

pub invariant_of-self-2 : goal.invariant_of-self-2
invariant_of-self-2 c =
    let s = c.self.inside in
    rw (c.in_ok-put_line.ensures.ok, c.in_ok-line.ensures, c.out_len.ensures.value)
    (renewed_keeps (record { draft = s.draft; own = s.own; last = s.last; base = s.base; since = s.since.items }) c.self.invariant)
