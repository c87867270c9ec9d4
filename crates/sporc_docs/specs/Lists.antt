-- The lists of many documents, and which of them a message names.
use Rattle.std.specs.Prelude.{◌≡◌, ℕ, Bool, List, [], ◌∷◌, Option, None, find}
use Rattle.std.specs.List.{position_from}
use Rattle.std.specs.Str.{bytes_eq}
use Rattle.sporc_order.specs.OrderModel.{OrderModel}
use Rattle.sporc_wire.specs.declared.to_server.ToServer.{ToServer}
use Rattle.sporc_wire.specs.declared.to_server.ToServer.TheVariants.{Hello, Submit, Pull}

-- whether a list is this document's
abbrev pub is_of : List ℕ → OrderModel → Bool
is_of document o = bytes_eq document o.genesis.document

-- the list of a document, if it is held
abbrev pub list_of : List OrderModel → List ℕ → Option OrderModel
list_of orders document = find (is_of document) orders

-- the place of a document's list, from 0 on
abbrev pub place_of : List OrderModel → List ℕ → Option ℕ
place_of orders document = position_from (is_of document) 0 orders

-- the place of the document that a Hello names
abbrev pub route_of : List OrderModel → ToServer → Option ℕ
route_of orders (Hello document member) = place_of orders document
route_of orders (Submit entry) = None
route_of orders (Pull from) = None

-- no two lists are of one document
abbrev pub AreApart : List OrderModel → Type 0
AreApart [] = Unit {0}
AreApart (o ∷ os) = (list_of os o.genesis.document ≡ None) × AreApart os
