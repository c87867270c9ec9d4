use Rattle.std.proofs.Common.{◌≡◌, sym, ◌∙◌, subst}
use Rattle.sporc_screen.proofs.Common.{ScreenModel, keep_marks, out_len}
use Rattle.sporc_screen.proofs.Keeping.{taken_keeps}
use Rattle.sporc_screen.proofs.screen.Screen.take_draft.Goals as goal

pub invariant_of-self : goal.invariant_of-self
invariant_of-self c =
    let P : ScreenModel → Type 0 = λ s. c.args.kept ≡ keep_marks (out_len s.draft) in
    let kept = subst P (sym c.self.view_is) c.requires in
    let s = c.self.inside in
    rw (c.replace.ensures.after ∙ kept) (taken_keeps (record { draft = s.draft; own = s.own; last = s.last; base = s.base; since = s.since.items }) c.self.invariant)
