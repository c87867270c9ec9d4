-- What contracts say of a shared client, its passes and its replies.
use Rattle.std.specs.Prelude.{◌≡◌, ◌+◌, length, Result, MatchResult, IfErr, IfOk}
use Rattle.sporc_turn.specs.declared.limits.TheConstants.{MAX_TICKETS}
use Rattle.sporc_turn.specs.declared.pass.Pass.{Pass}
use Rattle.sporc_turn.specs.declared.turn.Worn.{Worn}
use Rattle.sporc_turn.specs.Passes.{known_of, read_of, IsPassOf as IsPassOfTurn}
use Rattle.sporc_shared.specs.declared.answered.Answered.{Answered}
use Rattle.sporc_shared.specs.declared.shared_client.SharedClient.{SharedClient}
use Rattle.sporc_shared.specs.Items.{Item}

-- the pass is one of this client
abbrev pub IsPassOf : {D : Type 0} → SharedClient D → Pass Item → Type 0
IsPassOf shared pass = IsPassOfTurn shared.turn pass

-- whatever the reply, its pass is one of this client
abbrev pub IsReplyOf : {D A : Type 0} → SharedClient D
    → Result (Answered A) (Pass Item × Worn) → Type 0
IsReplyOf shared reply = MatchResult reply (λ r. IsPassOf shared r.pass) (λ e. IsPassOf shared e.0)

-- the front is the length of the journal that the pass has seen, whose log has the opening before
-- it
abbrev pub HasFront : {A : Type 0} → Result (Answered A) (Pass Item × Worn) → Type 0
HasFront reply = IfOk reply (λ r. r.front.events + 1 ≡ length (known_of r.pass).seen)

-- no ticket is left: the pass has read that, and knows what it knew
abbrev pub IsWornOnErr : {A : Type 0} → Pass Item → Result (Answered A) (Pass Item × Worn) → Type 0
IsWornOnErr pass reply = IfErr reply
    (λ e. (e.1.0 ≡ MAX_TICKETS) × (read_of e.0 ≡ e.1.0) × (known_of e.0 ≡ known_of pass))
