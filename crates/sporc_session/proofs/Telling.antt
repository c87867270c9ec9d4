-- What the reply of a call tells, or that no ticket was left.
use Rattle.std.proofs.Common.{◌≡◌, ℕ, Bool, List, [], Option, Ok, Err, refl, sym, ap, subst, arith}
use Rattle.sporc_session.proofs.Common.{Result, IfOk, IfErr, MatchResult, Known, Pass, Worn, IsWorn, known_of, read_of, Answered, IsCall, Item, Past, SessionFault, CountsSame, KnowsMore, IsWornFault}
use Rattle.sporc_session.proofs.Common.{stand, Stopped, Mode, rounds_begun, HasReadFor, plain_of, LinkStand}
use Rattle.sporc_turn.specs.declared.limits.TheConstants.{MAX_TICKETS}
use Rattle.sporc_session.specs.declared.fault.SessionFault.TheVariants as faults
use Rattle.sporc_session.proofs.Knowing.{call_counts, call_knows, knows_none}
use Rattle.sporc_session.proofs.Stepping.{known_stopped}

-- a reply without a ticket says so, of a pass that knew this
abbrev pub WornAs : {A : Type 0} → Known Item → Result (Answered A) (Pass Item × Worn) → Type 0
WornAs k reply = IfErr reply (λ e. (e.1.0 ≡ MAX_TICKETS) × (read_of e.0 ≡ e.1.0) × (known_of e.0 ≡ k))

-- no ticket was left: the pass has read that, and knows what it knew
pub record NoneLeft (k : Known Item) (p : Pass Item) (fault : SessionFault) : Type 0 where
  pub same : known_of p ≡ k
  pub is : IsWornFault fault
  pub worn : IsWorn p

-- the call is so of the pass and the answer, or no ticket was left
pub record Replied {A : Type 0} (Call : Pass Item → A → Type 0) (k : Known Item) (p : Pass Item) (result : Result A SessionFault) : Type 0 where
  pub ends : MatchResult result (λ answer. Call p answer) (λ fault. NoneLeft k p fault)

pub replied : {A : Type 0} (Call : Pass Item → A → Type 0) {k : Known Item} (reply : Result (Answered A) (Pass Item × Worn)) {plain : Result A SessionFault × Pass Item}
    → plain ≡ plain_of reply → IfOk reply (λ r. Call r.pass r.answer) → WornAs k reply → Replied Call k plain.1 plain.0
replied {A} Call {k} reply is call worn = subst (λ (p : Result A SessionFault × Pass Item). Replied Call k p.1 p.0) (sym is) (by reply call worn)
  where
    by : (r : Result (Answered A) (Pass Item × Worn)) → IfOk r (λ r. Call r.pass r.answer) → WornAs k r → Replied Call k (plain_of r).1 (plain_of r).0
    by (Ok r) here none = record { ends = here }
    by (Err e) here none = record { ends = record { same = none.2; is = ap faults.Worn none.0; worn = omega (arith, none.0, none.1) } }

pub was_told : {A : Type 0} {Call : Pass Item → A → Type 0} {k : Known Item} {p : Pass Item} {answer : A} {result : Result A SessionFault} → result ≡ Ok answer → Replied Call k p result → Call p answer
was_told {Call = Call} {k = k} {p = p} is h = (subst (Replied Call k p) is h).ends

-- a call found the client with this past, and its answer is so there
pub record Tells {A : Type 0} (P : Past → A → Type 0) (k k' : Known Item) (answer : A) : Type 0 where
  pub before : Past
  pub call : IsCall k k' before []
  pub is_so : P before answer

-- what the reply of a call that adds nothing tells
pub told : {A : Type 0} (P : Past → A → Type 0) {k : Known Item} (reply : Result (Answered A) (Pass Item × Worn)) {plain : Result A SessionFault × Pass Item}
    → plain ≡ plain_of reply → IfOk reply (λ r. (before : Past) × IsCall k (known_of r.pass) before [] × P before r.answer) → WornAs k reply
    → Replied (λ p answer. Tells P k (known_of p) answer) k plain.1 plain.0
told {A} P {k} reply is call worn = replied (λ p answer. Tells P k (known_of p) answer) reply is (by reply call) worn
  where
    by : (r : Result (Answered A) (Pass Item × Worn)) → IfOk r (λ r. (before : Past) × IsCall k (known_of r.pass) before [] × P before r.answer) → IfOk r (λ r. Tells P k (known_of r.pass) r.answer)
    by (Ok r) h = record { before = h.0; call = h.1; is_so = h.2 }
    by (Err e) h = tt

-- the pass may have seen more, and splits and joins nothing
pub told_knows : {A : Type 0} {P : Past → A → Type 0} {k k' : Known Item} {answer : A} → Tells P k k' answer → KnowsMore k k' []
told_knows {k = k} {k' = k'} t = call_knows k k' t.before [] t.call

pub told_counts : {A : Type 0} {P : Past → A → Type 0} {k k' : Known Item} {answer : A} → Tells P k k' answer → CountsSame k k'
told_counts {k = k} {k' = k'} t = call_counts k k' t.before [] t.call

-- ---- no ticket was left

module _ {A : Type 0} {Call : Pass Item → A → Type 0} {k : Known Item} {p : Pass Item} {fault : SessionFault} {result : Result A SessionFault} (is : result ≡ Err fault) (h : Replied Call k p result) where
  none_left : NoneLeft k p fault
  none_left = (subst (Replied Call k p) is h).ends

  pub worn_is : IsWornFault fault
  worn_is = none_left.is

  pub worn_knows : KnowsMore k (known_of p) []
  worn_knows = subst (λ (y : Known Item). KnowsMore k y []) (sym none_left.same) (knows_none k)

  pub worn_counts : CountsSame k (known_of p)
  worn_counts = subst (CountsSame k) (sym none_left.same) (record { number = refl; splits = refl; joined = refl })

  pub worn_read : HasReadFor p fault
  worn_read = subst (HasReadFor p) (sym none_left.is) none_left.worn

  -- the receiver stops where it is
  pub worn_stopped : {link : LinkStand} {words : Option (List (List ℕ))} {g : ℕ} {ready : ℕ → ℕ → Bool} {m : Mode} → Stopped ready (stand k link words g) (stand (known_of p) link words g) m (rounds_begun m) fault
  worn_stopped {link} {words} {g} {ready} {m} = subst (Stopped ready (stand k link words g) (stand (known_of p) link words g) m (rounds_begun m)) (sym none_left.is) (known_stopped worn_knows refl)
