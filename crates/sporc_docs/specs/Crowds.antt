-- Sessions of many documents beside one another, for inner contracts.
use Rattle.std.specs.Prelude.{◌≡◌, ℕ, List, [], ◌∷◌, length, Option, Result, Err}
use Rattle.sporc_outside.specs.Nets.{NetTold}
use Rattle.sporc_outside.specs.Told.{IsTrueIfTold}
use Rattle.sporc_turn.specs.declared.pass.Pass.{Pass}
use Rattle.sporc_turn.specs.declared.turn.Turn.{Turn}
use Rattle.sporc_order.specs.declared.tail.Tail.{Ghosts}
use Rattle.sporc_serve.specs.declared.desk.Desk.{Desk}
use Rattle.sporc_serve.specs.declared.end.SessionEnd.TheVariants as ends
use Rattle.sporc_serve.specs.declared.fault.ServeFault.{ServeFault}
use Rattle.sporc_serve.specs.declared.fault.ServeFault.TheVariants.{Unkept}
use Rattle.sporc_serve.specs.declared.item.Item.{Item}
use Rattle.sporc_serve.specs.Crowds.{LeavesNet}
use Rattle.sporc_serve.specs.Visits.{Visit, TookLinks}
use Rattle.sporc_docs.specs.declared.hands.Hand.{Hand}
use Rattle.sporc_docs.specs.Hands.{AllHands, HavePasses, LogsBegin}
use Rattle.sporc_docs.specs.Sessions.{Sits}

module _ {T : Type 0} {tail : Ghosts T} (turns : List (Turn (Desk T tail) Item))
    (documents : List (List ℕ)) where
  -- the sessions with these hands, the further ones of which are as they were
  abbrev pub AllSit : List Visit → List Hand → List Hand → Type 0
  AllSit [] hs hs' = hs' ≡ hs
  AllSit (v ∷ vs) [] hs' = ⊥
  AllSit (v ∷ vs) (h ∷ hs) [] = ⊥
  AllSit (v ∷ vs) (h ∷ hs) (h' ∷ hs') =
      HavePasses turns h.passes.items × HavePasses turns h'.passes.items
      × Sits documents v h.passes.items h'.passes.items × AllSit vs hs hs'

  -- the sessions that were served with these hands
  pub record Crowd (hands hands' : List Hand) (old new : NetTold)
      (result : Result (Unit {0}) ServeFault) (visits : List Visit) : Type 0 where
    pub sit : AllSit visits hands hands'
    pub links : TookLinks old new (length hands) result visits

  abbrev pub IsCrowd : List Hand → List Hand → NetTold → NetTold
      → Result (Unit {0}) ServeFault → Type 0
  IsCrowd hands hands' old new result =
      (visits : List Visit) × Crowd hands hands' old new result visits

  -- the sessions of these hands were served at a net, if the log of each pass began with its
  -- document
  abbrev pub ServesOthers : List Hand → List Hand → NetTold → NetTold
      → Result (Unit {0}) ServeFault → Type 0
  ServesOthers hands hands' old new result =
      AllHands (HavePasses turns) hands'
      × (AllHands LogsBegin hands → IsCrowd hands hands' old new result)
      × LeavesNet old new × (result ≡ Err Unkept → tail.may_fail)

  -- one session was served with a hand of passes, and its link is shut
  abbrev pub ServesOne : Visit → List (Option (Pass Item)) → List (Option (Pass Item)) → Type 0
  ServesOne v hand hand' =
      HavePasses turns hand' × Sits documents v hand hand' × IsTrueIfTold v.after.is_shut
      × (v.end ≡ ends.Unkept → tail.may_fail)
