-- Which leaves a client's entries are signed by, over all its calls.
use Rattle.std.specs.Prelude.{◌≡◌, ℕ, ◌+◌, ◌≤◌, List, [], ◌∷◌, Option, None, Some, Result, Ok, Err}
use Rattle.std.specs.Prelude.{◌⊎◌, ⊤}
use Rattle.std.specs.List.{filter_map}
use Rattle.sporc_client.specs.declared.fault.SubmitFault.{SubmitFault}
use Rattle.sporc_client.specs.declared.submitted.Submitted.{Submitted}
use Rattle.sporc_client.specs.declared.submitted.Submitted.TheVariants.{Waiting, Nothing, Dropped}
use Rattle.sporc_client.specs.declared.submitted.Submitted.TheVariants.{Entry}
use Rattle.sporc_client.specs.ClientModel.{ClientModel, leaf_in}
use Rattle.sporc_client.specs.Log.{Submit}

-- the next leaf to be drawn, and the leaf of a ticket that is kept
pub record LeafSupply : Type 0 where
  pub next : ℕ
  pub ticket : Option ℕ

abbrev pub supply_of : {D : Type 0} → ClientModel D → LeafSupply
supply_of c = record { next = c.leaves.next; ticket = c.ticket }

-- the leaf that signed the entry that a submission gave
abbrev pub leaf_given : Result Submitted SubmitFault → Option ℕ
leaf_given (Ok Waiting) = None
leaf_given (Ok Nothing) = None
leaf_given (Ok (Dropped fault)) = None
leaf_given (Ok (Entry bytes)) = leaf_in (Submit 0 bytes)
leaf_given (Err fault) = None

-- what a call did to the supply, by the kept ticket and the next leaf before it, and the leaf of
-- the entry that it gave
abbrev pub Uses : Option ℕ → ℕ → Option ℕ → LeafSupply → Type 0
-- an entry spends the kept ticket
Uses (Some kept) next (Some leaf) new =
    (leaf ≡ kept) × (new ≡ record { next = next; ticket = None })
-- or, if there is none, the next leaf
Uses None next (Some leaf) new = (leaf ≡ next) × (new ≡ record { next = next + 1; ticket = None })
-- without an entry a kept ticket stays
Uses (Some kept) next None new = new ≡ record { next = next; ticket = Some kept }
-- and a leaf that is drawn is kept
Uses None next None new = (new ≡ record { next = next; ticket = None })
    ⊎ (new ≡ record { next = next + 1; ticket = Some next })

abbrev pub IsUse : LeafSupply → Option ℕ → LeafSupply → Type 0
IsUse old leaf new = Uses old.ticket old.next leaf new

-- ---- calls in a row

-- a call, with the leaf of the entry that it gave
pub record LeafUse : Type 0 where
  pub leaf : Option ℕ
  pub after : LeafSupply

-- the client is closed, and one with its leaves is opened, which goes on there or behind
pub record IsReopening (old : LeafSupply) (call : LeafUse) : Type 0 where
  pub none : call.leaf ≡ None
  pub forward : old.next ≤ call.after.next
  pub given_up : call.after.ticket ≡ None

-- calls one behind another
abbrev pub AreUses : LeafSupply → List LeafUse → Type 0
AreUses s [] = ⊤
AreUses s (call ∷ uses) =
    (IsUse s call.leaf call.after ⊎ IsReopening s call) × AreUses call.after uses

-- the leaves of the entries that calls gave
abbrev pub leaves_used : List LeafUse → List ℕ
leaves_used uses = filter_map (λ call. call.leaf) uses
