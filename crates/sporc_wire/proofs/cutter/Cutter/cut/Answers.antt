use Rattle.std.proofs.Common.{◌≡◌, Option, Some, None, List, ℕ, true, subst, ap, ◌∙◌}
use Rattle.sporc_wire.proofs.Common.{is_some, not, CutsFirst, CutterModel, FitsLimit, filled, rest_of, unread, Filled}
use Rattle.sporc_wire.proofs.Fronts.{first_frame-frame}
use Rattle.sporc_wire.proofs.cutter.Cutter.cut.Goals as goal

-- what is ready stands first
abbrev IsReady : CutterModel → Type 0
IsReady c = CutsFirst (unread c) c.body c.rest

ready : (body : Option Filled) (rest : List ℕ) → FitsLimit body → is_some body ≡ true → IsReady (record { body = filled body; rest = rest })
ready (Some body) rest fits is = first_frame-frame body.items rest fits
ready None rest fits is = absurd cc

pub returns-else-is_none-clause-ok : goal.returns-else-is_none-clause-ok
returns-else-is_none-clause-ok c =
    subst IsReady c.self.view_is
    (ready c.self.inside.body (rest_of c.self.inside.codec.state c.self.inside.buffer.items) c.self.invariant.1
    (c.is_none.ensures ∙ ap not c.if-is_none.false))
