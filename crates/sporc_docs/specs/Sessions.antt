-- A session of a server of many documents: it waits for its first message, and what that names is
-- its document for good.
use Rattle.std.specs.Prelude.{◌≡◌, ℕ, List, [], Option, Some, None, Result, Ok, Err, IfSome}
use Rattle.std.specs.List.{position_from}
use Rattle.std.specs.Str.{bytes_eq}
use Rattle.sporc_outside.specs.Streams.{Shuts, StreamTold}
use Rattle.sporc_turn.specs.declared.pass.Pass.{Pass}
use Rattle.sporc_turn.specs.Passes.{known_of, read_of}
use Rattle.sporc_wire.specs.declared.to_server.ToServer.{ToServer}
use Rattle.sporc_wire.specs.declared.to_server.ToServer.TheVariants.{Hello, Submit, Pull}
use Rattle.sporc_wire.specs.Messages.{Unread, stream_of}
use Rattle.sporc_serve.specs.declared.end.SessionEnd.{SessionEnd}
use Rattle.sporc_serve.specs.declared.end.SessionEnd.TheVariants.{Closed}
use Rattle.sporc_serve.specs.declared.item.Item.{Item}
use Rattle.sporc_serve.specs.Endings.{inlet_at, ReadsFirst}
use Rattle.sporc_serve.specs.Logs.{OfDocument}
use Rattle.sporc_serve.specs.Turns.{HasReadLast}
use Rattle.sporc_serve.specs.Visits.{Visit, IsServedSession}
use Rattle.sporc_docs.specs.Hands.{pass_at}

-- the place that a first message names, among documents
abbrev pub named_by : List (List ℕ) → ToServer → Option ℕ
named_by documents (Hello document member) = position_from (bytes_eq document) 0 documents
named_by documents (Submit entry) = None
named_by documents (Pull from) = None

-- what became of a pass
abbrev pub Became : (Pass Item → Pass Item → Type 0) → Option (Pass Item)
    → Option (Pass Item) → Type 0
Became how old new = IfSome old (λ p. IfSome new (λ p'. how p p'))

module _ {A : Type 0} (named : ToServer → Option A) where
  -- how a session ends that is bound to no document: its first message names none, or there was
  -- none
  abbrev pub IsUnboundEnd : Result ToServer SessionEnd → SessionEnd → Type 0
  IsUnboundEnd (Ok message) end = (named message ≡ None) × (end ≡ Closed)
  IsUnboundEnd (Err why) end = end ≡ why

  -- a link whose session is bound to no document: nothing was sent
  pub record Unbound (v : Visit) (link : StreamTold) (unread : Unread)
      (first : Result ToServer SessionEnd) : Type 0 where
    pub first_is : ReadsFirst (inlet_at v.before (stream_of [])) (inlet_at link unread) first
    pub end_is : IsUnboundEnd first v.end
    pub written_is : link.written ≡ v.before.written
    pub as_shut : link.is_shut ≡ v.before.is_shut
    pub shuts : Shuts (record { before = link; after = v.after })

  -- a link whose first message names a document
  pub record Names (v : Visit) (document : A) (link : StreamTold) (unread : Unread)
      (message : ToServer) : Type 0 where
    pub first_is : ReadsFirst (inlet_at v.before (stream_of [])) (inlet_at link unread) (Ok message)
    pub names : named message ≡ Some document

  -- what a session is bound to
  abbrev pub IsBound : Visit → Option A → Type 0
  IsBound v None = (link : StreamTold) × (unread : Unread) × (first : Result ToServer SessionEnd)
      × Unbound v link unread first
  IsBound v (Some document) = (link : StreamTold) × (unread : Unread) × (message : ToServer)
      × Names v document link unread message

-- What became of the pass for the document at a place: the session that is bound to it is served by
-- it, as by the server of that document alone, and any other leaves it as it was.
abbrev pub Serves : Visit → Option ℕ → ℕ → Pass Item → Pass Item → Type 0
Serves v None i p p' = p' ≡ p
Serves v (Some place) i p p' =
    ((place ≡ i) → ((known_of p').number ≡ (known_of p).number) × HasReadLast (read_of p') v.end
    × OfDocument (known_of p).seen
    (λ genesis. IsServedSession genesis (known_of p) (known_of p') v)) × (¬ (place ≡ i) → p' ≡ p)

-- a session with a hand, which is bound to the document at this place, if it is held
pub record SitsAt (documents : List (List ℕ)) (v : Visit) (hand hand' : List (Option (Pass Item)))
    (place : Option ℕ) : Type 0 where
  pub bound : IsBound (named_by documents) v place
  pub serves : (i : ℕ) (p p' : Pass Item) → pass_at i hand ≡ Some p → pass_at i hand' ≡ Some p'
      → Serves v place i p p'

abbrev pub Sits : List (List ℕ) → Visit → List (Option (Pass Item))
    → List (Option (Pass Item)) → Type 0
Sits documents v hand hand' = (place : Option ℕ) × SitsAt documents v hand hand' place
