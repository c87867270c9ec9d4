-- Each entry that comes is accepted in its order, and each that is made is sent.
use Rattle.std.proofs.Common.{◌≡◌, ℕ, Bool, List, [], ◌∷◌, ◌++◌, refl, ap, ◌∙◌}
use Rattle.sporc_session.proofs.Common.{Result, Ok, append-nil, SubmitFault, Submitted, Act, all_of, Mode, Asking, Between, Leads, Goes, IsQuiet, takes, submits_none, sends, rejected}
use Rattle.sporc_client.specs.declared.submitted.Submitted.TheVariants as submitted
use Rattle.sporc_client.specs.Submissions.{entries_made}
use Rattle.sporc_session.specs.Flows.{came_by, taken_by, waiting, submitted_by, sent_by, unsent}

-- a submission after which nothing is sent made no entry
quiet_makes : (answer : Result Submitted SubmitFault) → IsQuiet answer → entries_made answer ≡ []
quiet_makes (Ok (submitted.Entry entry)) quiet = absurd quiet
quiet_makes _ quiet = refl

module _ (ready : ℕ → ℕ → Bool) where
  -- an act accepts what waits from the front, and puts what comes behind it
  act_takes : {m k : Mode} {act : Act} → Goes ready m act k → (x t w : List (List ℕ)) → waiting k ++ x ≡ t ++ w → waiting m ++ (came_by act ++ x) ≡ (taken_by act ++ t) ++ w
  act_takes (takes {e = e}) x t w is = ap (λ (l : List (List ℕ)). e ∷ l) is
  act_takes _ x t w is = is

  -- and sends the entry that was made, if there is one
  act_sends : {m k : Mode} {act : Act} → Goes ready m act k → (x t w : List (List ℕ)) → unsent k ++ x ≡ t ++ w → unsent m ++ (submitted_by act ++ x) ≡ (sent_by act ++ t) ++ w
  act_sends (submits_none {answer = answer} quiet) x t w is = ap (λ (l : List (List ℕ)). l ++ x) (quiet_makes answer quiet) ∙ is
  act_sends (sends {e = e}) x t w is = ap (λ (l : List (List ℕ)). e ∷ l) is
  act_sends (rejected {e = e}) x t w is = ap (λ (l : List (List ℕ)). e ∷ l) is
  act_sends _ x t w is = is

  all_taken : (m m' : Mode) (acts : List Act) → Leads ready m acts m' → waiting m ++ all_of came_by acts ≡ all_of taken_by acts ++ waiting m'
  all_taken m m' [] is = append-nil (waiting m) ∙ ap waiting is
  all_taken m m' (act ∷ acts) leads = act_takes leads.1 (all_of came_by acts) (all_of taken_by acts) (waiting m') (all_taken leads.0 m' acts leads.2)

  all_sent : (m m' : Mode) (acts : List Act) → Leads ready m acts m' → unsent m ++ all_of submitted_by acts ≡ all_of sent_by acts ++ unsent m'
  all_sent m m' [] is = append-nil (unsent m) ∙ ap unsent is
  all_sent m m' (act ∷ acts) leads = act_sends leads.1 (all_of submitted_by acts) (all_of sent_by acts) (unsent m') (all_sent leads.0 m' acts leads.2)

-- from the beginning of a phase on
pub entries_taken : (ready : ℕ → ℕ → Bool) (acts : List Act) (m : Mode) → Leads ready Asking acts m → all_of came_by acts ≡ all_of taken_by acts ++ waiting m
entries_taken ready acts m leads = all_taken ready Asking m acts leads

pub later_taken : (ready : ℕ → ℕ → Bool) (acts : List Act) (m : Mode) → Leads ready (Between 0) acts m → all_of came_by acts ≡ all_of taken_by acts ++ waiting m
later_taken ready acts m leads = all_taken ready (Between 0) m acts leads

pub entries_sent : (ready : ℕ → ℕ → Bool) (acts : List Act) (m : Mode) → Leads ready Asking acts m → all_of submitted_by acts ≡ all_of sent_by acts ++ unsent m
entries_sent ready acts m leads = all_sent ready Asking m acts leads

pub later_sent : (ready : ℕ → ℕ → Bool) (acts : List Act) (m : Mode) → Leads ready (Between 0) acts m → all_of submitted_by acts ≡ all_of sent_by acts ++ unsent m
later_sent ready acts m leads = all_sent ready (Between 0) m acts leads
