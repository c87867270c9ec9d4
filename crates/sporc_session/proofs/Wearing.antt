-- What the pass of a session has read that ended by a fault: that no ticket is left, or that the disk of the leaves counted a fault.
use Rattle.std.proofs.Common.{◌≡◌, ◌≢◌, ◌≤◌, ℕ, max, Bool, true, false, List, Option, Ok, Err, refl, sym, subst, arith}
use Rattle.sporc_session.proofs.Common.{Result, IfErr, ⊤, result_and, Refusal, ToServer, Pass, read_of, watermark_of, AcceptFault, EditFault, SubmitFault, Submitted, Item}
use Rattle.sporc_session.proofs.Common.{SessionFault, AskFails, Unsent, checked_of, edited_of, made_of, taken_of, HasReadFor, LinkStand}
use Rattle.sporc_exchange.specs.declared.fault.ExchangeFault.{ExchangeFault}
use Rattle.sporc_exchange.specs.declared.fault.ExchangeFault.TheVariants as exchanges
use Rattle.sporc_session.specs.Asking.{IsOfExchange, session_fault}
use Rattle.sporc_client.specs.declared.fault.AcceptFault.TheVariants as accepts
use Rattle.sporc_client.specs.declared.fault.EditFault.TheVariants as edits
use Rattle.sporc_client.specs.declared.fault.SubmitFault.TheVariants as submits
use Rattle.sporc_client.specs.declared.submitted.Submitted.TheVariants as submitted
use Rattle.lms_leaf.specs.declared.faults.LeafFault.TheVariants as leaves
use Rattle.sporc_session.specs.declared.fault.SessionFault.TheVariants as faults

-- ---- the fault of an answer

pub taken_read : (position : ℕ) (p : Pass Item) (answer : Result ℕ AcceptFault) {result : Result ⊤ SessionFault} → result ≡ taken_of position answer → IfErr result (HasReadFor p)
taken_read position p answer is = subst (λ (r : Result ⊤ SessionFault). IfErr r (HasReadFor p)) (sym is) (by answer)
  where
    by : (a : Result ℕ AcceptFault) → IfErr (taken_of position a) (HasReadFor p)
    by (Err accepts.Memory) = tt
    by _ = tt

pub checked_read : (refusal : Refusal) (p : Pass Item) (is_flight : Bool) {result : Result ⊤ SessionFault} → result ≡ checked_of refusal is_flight → IfErr result (HasReadFor p)
checked_read refusal p is_flight is = subst (λ (r : Result ⊤ SessionFault). IfErr r (HasReadFor p)) (sym is) (by is_flight)
  where
    by : (b : Bool) → IfErr (checked_of refusal b) (HasReadFor p)
    by true = tt
    by false = tt

pub edited_read : (editor line : ℕ) (p : Pass Item) (answer : Result ℕ EditFault) {result : Result ⊤ SessionFault} → result ≡ edited_of editor line answer → IfErr result (HasReadFor p)
edited_read editor line p answer is = subst (λ (r : Result ⊤ SessionFault). IfErr r (HasReadFor p)) (sym is) (by answer)
  where
    by : (a : Result ℕ EditFault) → IfErr (edited_of editor line a) (HasReadFor p)
    by (Err edits.Memory) = tt
    by _ = tt

-- of a submission, by what the leaf disk's fault says
pub made_read : (p : Pass Item) (answer : Result Submitted SubmitFault) {result : Result (Option (List ℕ)) SessionFault} → result ≡ made_of answer → (answer ≡ Err submits.LeafFault → watermark_of p ≢ 0) → IfErr result (HasReadFor p)
made_read p answer is disk = subst (λ (r : Result (Option (List ℕ)) SessionFault). IfErr r (HasReadFor p)) (sym is) (by answer disk)
  where
    by : (a : Result Submitted SubmitFault) → (a ≡ Err submits.LeafFault → watermark_of p ≢ 0) → IfErr (made_of a) (HasReadFor p)
    by (Ok submitted.Waiting) h = tt
    by (Err submits.LeafFault) h = h refl
    by (Err submits.Memory) h = tt
    by _ h = tt

-- the fault that was matched
pub worn_at : {A : Type 0} (p : Pass Item) (result : Result A SessionFault) (fault : SessionFault) → result ≡ Err fault → IfErr result (HasReadFor p) → HasReadFor p fault
worn_at {A} p result fault is h = subst (λ (r : Result A SessionFault). IfErr r (HasReadFor p)) is h

-- ---- faults of a link are others

link_unworn : (p : Pass Item) (cause : ExchangeFault) → HasReadFor p (session_fault cause)
link_unworn p exchanges.LinkFault = tt
link_unworn p (exchanges.BadMessage place) = tt
link_unworn p (exchanges.LinkEnded taken) = tt
link_unworn p exchanges.Memory = tt

exchange_unworn : {Fails : ExchangeFault → Type 0} (p : Pass Item) (fault : SessionFault) → IsOfExchange Fails fault → HasReadFor p fault
exchange_unworn p fault of = subst (HasReadFor p) (sym of.1) (link_unworn p of.0)

pub unsent_worn : {A : Type 0} (p : Pass Item) (a b : LinkStand) (message : ToServer) (result : Result A SessionFault) → IfErr result (Unsent a b message) → IfErr result (HasReadFor p)
unsent_worn p a b message (Ok x) u = tt
unsent_worn p a b message (Err fault) u = exchange_unworn p fault u

pub asked_unworn : (p : Pass Item) (a b : LinkStand) (message : ToServer) (fault : SessionFault) → AskFails a b message fault → HasReadFor p fault
asked_unworn p a b message fault f = exchange_unworn p fault f

pub asked_worn : {A : Type 0} (p : Pass Item) (a b : LinkStand) (message : ToServer) (result : Result A SessionFault) (fault : SessionFault) → result ≡ Err fault
    → IfErr result (AskFails a b message) → HasReadFor p fault
asked_worn {A} p a b message result fault is h = asked_unworn p a b message fault (subst (λ (r : Result A SessionFault). IfErr r (AskFails a b message)) is h)

pub undrawn_unworn : (p : Pass Item) (fault : SessionFault) → fault ≡ faults.ChanceFault → HasReadFor p fault
undrawn_unworn p fault is = subst (HasReadFor p) (sym is) tt

-- ---- a pass that has read more

read_later : (p q : Pass Item) → (read_of p ≤ read_of q) × (watermark_of p ≤ watermark_of q) → (fault : SessionFault) → HasReadFor p fault → HasReadFor q fault
read_later p q more (faults.Worn ticket) h = omega (arith, h, more.0)
read_later p q more (faults.Leaf leaves.DiskFault) h = λ none. h (omega (arith, none, more.1))
read_later p q more _ h = tt

err_later : (p q : Pass Item) → (read_of p ≤ read_of q) × (watermark_of p ≤ watermark_of q) → (end : Result ⊤ SessionFault) → IfErr end (HasReadFor p) → IfErr end (HasReadFor q)
err_later p q more (Ok x) h = tt
err_later p q more (Err fault) h = read_later p q more fault h

-- number 0 and an editor's pass were joined: the first fault of an editor is this one's, or that of a later one
pub read_join : (first second joined : Pass Item) → read_of joined ≡ max (read_of first) (read_of second) → watermark_of joined ≡ max (watermark_of first) (watermark_of second) → (receiver told end later answer : Result ⊤ SessionFault)
    → told ≡ receiver → answer ≡ result_and end later
    → IfErr receiver (HasReadFor first) × IfErr later (HasReadFor first) → IfErr end (HasReadFor second)
    → IfErr told (HasReadFor joined) × IfErr answer (HasReadFor joined)
read_join first second joined read watermark receiver told end later answer same is h other = (
  subst (λ (r : Result ⊤ SessionFault). IfErr r (HasReadFor joined)) (sym same) (err_later first joined (omega (arith, read), omega (arith, watermark)) receiver h.0),
  subst (λ (r : Result ⊤ SessionFault). IfErr r (HasReadFor joined)) (sym is) (by end other),
)
  where
    by : (r : Result ⊤ SessionFault) → IfErr r (HasReadFor second) → IfErr (result_and r later) (HasReadFor joined)
    by (Ok x) w = err_later first joined (omega (arith, read), omega (arith, watermark)) later h.1
    by (Err f) w = read_later second joined (omega (arith, read), omega (arith, watermark)) f w
