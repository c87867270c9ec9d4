-- The entries that come to a receiver and go from it.
use Rattle.std.specs.Prelude.{ℕ, List, [], ◌∷◌}
use Rattle.sporc_client.specs.Submissions.{entries_made}
use Rattle.sporc_session.specs.Acts.{Act, Pull, Take, Submit, Send}
use Rattle.sporc_session.specs.Protocol.{Mode, Taking, Sending}

-- the entries that came
abbrev pub came_by : Act → List (List ℕ)
came_by (Pull from came) = came
came_by _ = []

-- those that were accepted
abbrev pub taken_by : Act → List (List ℕ)
taken_by (Take position entry) = entry ∷ []
taken_by _ = []

-- and those that are still to be
abbrev pub waiting : Mode → List (List ℕ)
waiting (Taking n at came next) = came
waiting _ = []

-- the entries that submissions made
abbrev pub submitted_by : Act → List (List ℕ)
submitted_by (Submit point first second answer) = entries_made answer
submitted_by _ = []

-- those that were sent
abbrev pub sent_by : Act → List (List ℕ)
sent_by (Send entry reply) = entry ∷ []
sent_by _ = []

-- and the one that is still to be
abbrev pub unsent : Mode → List (List ℕ)
unsent (Sending n at e) = e ∷ []
unsent _ = []
