-- An entry that is accepted has a position within the limit of a history.
use Rattle.std.proofs.Common.{◌≡◌, ℕ, ◌≤◌, Bool, List, Option, None, Some, refl, arith}
use Rattle.sporc_session.proofs.Common.{MAX_ENTRIES, Refusal, PlainClient}
use Rattle.sporc_line.proofs.Passes.{passed}
use Rattle.sporc_client.specs.Answers.{accept_fault, journal_has_room, or_full, refusal_of}

not_refused : (room : Bool) (refusal : Option Refusal) → or_full room refusal ≡ None → refusal ≡ None
not_refused room None h = refl
not_refused room (Some refusal) h = absurd cc

pub accept_position : (c : PlainClient) (position : ℕ) (entry : List ℕ) → accept_fault c position entry ≡ None → position ≤ MAX_ENTRIES
unfolding accept_fault
accept_position c position entry h =
    let p = passed c.opening.genesis c.opening.kit c.entries position entry (not_refused (journal_has_room c) (refusal_of c position entry) h) in
    omega (arith, p.2.position, p.2.room)
