-- Worked examples: two documents, and sessions of each.
use Rattle.std.proofs.Common.{◌≡◌, List, [], ◌∷◌, refl, Some, None}
use Rattle.sporc_docs.proofs.Common.{OrderModel, Hello, Pull, place_of, route_of, AreApart, Event, at_first, answers_of, answers_to, is_bound_to, projected, bound_in}
use Rattle.sporc_order.specs.declared.session.Answer.TheVariants.{Send, Silent, Close}
use Rattle.sporc_wire.specs.declared.to_client.ToClient.TheVariants.{Entries, Empty}

-- document 7, whose list has one entry, and document 8 with none
abbrev seven : OrderModel
seven = record { genesis = record { document = 7 ∷ []; founders = []; commitment = [] }; entries = (1 ∷ 2 ∷ []) ∷ [] }

abbrev eight : OrderModel
eight = record { genesis = record { document = 8 ∷ []; founders = []; commitment = [] }; entries = [] }

abbrev both : List OrderModel
both = seven ∷ eight ∷ []

eight_is_second : place_of both (8 ∷ []) ≡ Some 1
eight_is_second = refl

nine_is_not_held : route_of both (Hello (9 ∷ []) 1) ≡ None
nine_is_not_held = refl

no_hello_names_none : route_of both (Pull 0) ≡ None
no_hello_names_none = refl

they_are_apart : AreApart both
they_are_apart = (refl, (refl, tt))

-- session 1 greets document 7, and session 2 document 8; session 3 greets one that is not held, and session 4 greets late
abbrev events : List Event
events =
    record { session = 1; message = Hello (7 ∷ []) 1 }
    ∷ record { session = 2; message = Hello (8 ∷ []) 1 }
    ∷ record { session = 3; message = Hello (9 ∷ []) 1 }
    ∷ record { session = 4; message = Pull 0 }
    ∷ record { session = 2; message = Pull 0 }
    ∷ record { session = 1; message = Pull 0 }
    ∷ record { session = 1; message = Hello (8 ∷ []) 1 }
    ∷ record { session = 4; message = Hello (7 ∷ []) 1 }
    ∷ []

each_has_its_own : answers_of (at_first both) events
    ≡ Silent ∷ Silent ∷ Close ∷ Close ∷ Send Empty ∷ Send (Entries 1 ((1 ∷ 2 ∷ []) ∷ [])) ∷ Close ∷ Close ∷ []
each_has_its_own = refl

later_hello_binds_nobody : bound_in both None events 4 ≡ None
later_hello_binds_nobody = refl

eights_events : projected both events (8 ∷ []) ≡ record { session = 2; message = Hello (8 ∷ []) 1 } ∷ record { session = 2; message = Pull 0 } ∷ []
eights_events = refl

pub eights_answers : answers_to (is_bound_to both events (8 ∷ [])) (at_first both) events ≡ Silent ∷ Send Empty ∷ []
eights_answers = refl
