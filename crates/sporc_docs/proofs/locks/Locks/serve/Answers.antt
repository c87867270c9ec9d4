use Rattle.std.proofs.Common.{List, sym, subst}
use Rattle.sporc_docs.proofs.Common.{Turn, Desk, Item, AllHands, AllZip, IsEmpty}
use Rattle.sporc_docs.proofs.locks.Locks.serve.Goals as goal

pub serve_hands-requires-clause-empty : goal.serve_hands-requires-clause-empty
serve_hands-requires-clause-empty g c κs within =
    subst (λ (ts : List (Turn (Desk g.row.T.Denot g.T.Tail) Item)). AllHands (AllZip IsEmpty ts) c.args.hands.now) (sym c.deref.ensures.value) c.requires.empty
