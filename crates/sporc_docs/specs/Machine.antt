-- The machine of many documents: a list for each, and for each session the document of its first
-- message.
use Rattle.std.specs.Prelude.{◌≡◌, ◌==◌, ℕ, Bool, true, false, List, [], ◌∷◌, Option, None, Some}
use Rattle.std.specs.Prelude.{if◌then◌else◌}
use Rattle.std.specs.List.{filter, list_any}
use Rattle.std.specs.Str.{bytes_eq}
use Rattle.sporc_order.specs.OrderModel.{OrderModel}
use Rattle.sporc_order.specs.Sessions.{step_of}
use Rattle.sporc_order.specs.declared.session.Answer.{Answer}
use Rattle.sporc_order.specs.declared.session.Answer.TheVariants.{Close}
use Rattle.sporc_wire.specs.declared.to_server.ToServer.{ToServer}
use Rattle.sporc_wire.specs.declared.to_server.ToServer.TheVariants.{Hello, Submit, Pull}
use Rattle.sporc_docs.specs.Lists.{is_of, list_of}

-- a message of a session
pub record Event : Type 0 where
  pub session : ℕ
  pub message : ToServer

-- the lists, and what each session is bound to: nothing before its first message, and from then on
-- one document, or none
pub record Machine : Type 0 where
  pub orders : List OrderModel
  pub bound : ℕ → Option (Option (List ℕ))

-- before the first event
abbrev pub at_first : List OrderModel → Machine
at_first orders = record { orders = orders; bound = λ session. None }

-- ---- which document

-- the document that a first message binds its session to: that of a Hello, if it is held
abbrev pub bound_by : List OrderModel → ToServer → Option (List ℕ)
bound_by orders (Hello document member) =
    if list_any (is_of document) orders then Some document else None
bound_by orders (Submit entry) = None
bound_by orders (Pull from) = None

-- what a session is bound to once this message came
abbrev pub bound_with : List OrderModel → Option (Option (List ℕ)) → ToServer → Option (List ℕ)
bound_with orders None message = bound_by orders message
bound_with orders (Some bound) message = bound

-- whether a message came before
abbrev pub is_later : Option (Option (List ℕ)) → Bool
is_later None = false
is_later (Some bound) = true

-- ---- one event

-- an answer, and the lists after it
pub record Asked : Type 0 where
  pub answer : Answer
  pub orders : List OrderModel

-- an answer and the lists after it, behind a list more
abbrev pub behind : OrderModel → Asked → Asked
behind o asked = record { answer = asked.answer; orders = o ∷ asked.orders }

-- the list of a document answers, as it does alone
abbrev pub asked_of : List OrderModel → List ℕ → Bool → ToServer → Asked
asked_of [] document greeted message = record { answer = Close; orders = [] }
asked_of (o ∷ os) document greeted message =
    if is_of document o then record {
      answer = (step_of o greeted message).answer;
      orders = (step_of o greeted message).order ∷ os;
    } else behind o (asked_of os document greeted message)

-- a session that is bound to no document is closed
abbrev pub asked_by : List OrderModel → Option (List ℕ) → Bool → ToServer → Asked
asked_by orders None greeted message = record { answer = Close; orders = orders }
asked_by orders (Some document) greeted message = asked_of orders document greeted message

abbrev pub asked_at : Machine → Event → Asked
asked_at s e = asked_by s.orders (bound_with s.orders (s.bound e.session) e.message)
    (is_later (s.bound e.session)) e.message

-- a map with one value more
abbrev pub set_at : {A : Type 0} → (ℕ → A) → ℕ → A → ℕ → A
set_at map key value key' = if key' == key then value else map key'

abbrev pub after_event : Machine → Event → Machine
after_event s e = record {
  orders = (asked_at s e).orders;
  bound = set_at s.bound e.session (Some (bound_with s.orders (s.bound e.session) e.message));
}

-- ---- all events

-- the answers to these events
abbrev pub answers_of : Machine → List Event → List Answer
answers_of s [] = []
answers_of s (e ∷ es) = (asked_at s e).answer ∷ answers_of (after_event s e) es

-- those of them to sessions of this kind
abbrev pub answers_to : (ℕ → Bool) → Machine → List Event → List Answer
answers_to is_one s [] = []
answers_to is_one s (e ∷ es) =
    if is_one e.session then (asked_at s e).answer ∷ answers_to is_one (after_event s e) es
    else answers_to is_one (after_event s e) es

-- what a session is bound to by these events, after it was bound to this
abbrev pub bound_in : List OrderModel → Option (Option (List ℕ)) → List Event → ℕ → Option (List ℕ)
bound_in orders (Some bound) events session = bound
bound_in orders None [] session = None
bound_in orders None (e ∷ es) session =
    if session == e.session then bound_by orders e.message else bound_in orders None es session

abbrev pub is_document : List ℕ → Option (List ℕ) → Bool
is_document document None = false
is_document document (Some other) = bytes_eq document other

-- whether a session is one of this document
abbrev pub is_bound_to : List OrderModel → List Event → List ℕ → ℕ → Bool
is_bound_to orders events document session =
    is_document document (bound_in orders None events session)

-- the events of the sessions of one document
abbrev pub projected : List OrderModel → List Event → List ℕ → List Event
projected orders events document = filter (λ e. is_bound_to orders events document e.session) events

-- The sessions of each document are answered as by the machine that holds it alone, asked their
-- events.
abbrev pub IsIsolated : Type 0
IsIsolated = (orders : List OrderModel) (document : List ℕ) (o : OrderModel) (events : List Event)
    → list_of orders document ≡ Some o
    → answers_to (is_bound_to orders events document) (at_first orders) events
    ≡ answers_of (at_first (o ∷ [])) (projected orders events document)
