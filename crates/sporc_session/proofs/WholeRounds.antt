-- Acts that lead from one round to a later one are whole rounds.
use Rattle.std.proofs.Common.{◌≡◌, ◌≢◌, ◌≤◌, ◌<◌, ℕ, zero, suc, ◌+◌, Bool, true, false, List, [], ◌∷◌, ◌++◌, length, refl, sym, ap, ◌∙◌, subst, append_assoc, arith}
use Rattle.sporc_session.proofs.Common.{Result, Ok, All, flat_map, append-nil, length-append, All-cons, All-head, All-nil, All-tail, Refusal, SubmitFault, Submitted, Act, Ask, Greet, Look, Pull, Take}
use Rattle.sporc_session.proofs.Common.{Submit, Send, Check, Ordered, Rejected, takes_of, Mode, Asking, Greeting, Between, Pulling, Taking, Sending, Checking, Stuck, Then, Submits, Drains, Leads}
use Rattle.sporc_session.proofs.Common.{Goes, asks, greets, looks, pulls, takes, submits_entry, submits_none, sends, rejected, drains, drained, is_gone, is_there}
use Rattle.sporc_client.specs.declared.submitted.Submitted.TheVariants as submitted
use Rattle.sporc_session.specs.WholeRounds.{pulled, pulled_all, IsSent, nothing, is_ordered, is_rejected, IsRound, AreRounds, IsFirstPhase}
use Rattle.sporc_session.proofs.Fitting.{leads_append}
use Rattle.sporc_session.proofs.Stepping.{leads_takes}

abbrev IsSome : List (List ℕ) → Type 0
IsSome came = came ≢ []

-- what is next once these came
abbrev after : ℕ → ℕ → List ℕ → Refusal → List (List ℕ) → Mode
after n at e r [] = Checking n e r
after n at e r (c ∷ cs) = Taking n at (c ∷ cs) (Drains e r)

module _ (ready : ℕ → ℕ → Bool) where
  stuck : {n : ℕ} {r : Refusal} {act : Act} {k : Mode} → Goes ready (Stuck n r) act k → ⊥
  stuck goes = elim goes [ ]

  -- ---- entries that came are accepted

  record Taken (n at : ℕ) (es : List (List ℕ)) (next : Then) (acts : List Act) (m : ℕ) : Type 0 where
    rest : List Act
    are : acts ≡ takes_of at es ++ rest
    leads : Leads ready (Taking n (at + length es) [] next) rest (Between m)

  taken_first : {n at : ℕ} {e : List ℕ} {es : List (List ℕ)} {next : Then} {acts : List Act} {m : ℕ} → Taken n (at + 1) es next acts m → Taken n at (e ∷ es) next (Take (at + 1) e ∷ acts) m
  taken_first {n} {at} {e} {next = next} {m = m} t =
      record { rest = t.rest; are = ap (λ l. Take (at + 1) e ∷ l) t.are; leads = subst (λ x. Leads ready (Taking n x [] next) t.rest (Between m)) (omega arith) t.leads }

  taken_in : (n at : ℕ) (es : List (List ℕ)) (next : Then) (acts : List Act) (m : ℕ) → Leads ready (Taking n at es next) acts (Between m) → Taken n at es next acts m
  taken_in n at [] next acts m l = record { rest = acts; are = refl; leads = subst (λ x. Leads ready (Taking n x [] next) acts (Between m)) (omega arith) l }
  taken_in n at (e ∷ es) next [] m l = absurd cc
  taken_in n at (e ∷ es) next (act ∷ acts) m (k, takes, l) = taken_first (taken_in n (at + 1) es next acts m l)

  -- ---- pulls until no more entries come

  record Drained (n at : ℕ) (e : List ℕ) (acts : List Act) (m : ℕ) : Type 0 where
    all : List (List (List ℕ))
    some : All IsSome all
    point : ℕ
    rest : List Act
    are : acts ≡ pulled_all at all ++ Check point e false ∷ rest
    leads : Leads ready (Between (n + 1)) rest (Between m)

  pulled_next : {n at : ℕ} {e : List ℕ} {r : Refusal} {act : Act} {k : Mode} → Goes ready (Taking n at [] (Drains e r)) act k → (came : List (List ℕ)) × (act ≡ Pull at came) × (k ≡ after n at e r came)
  pulled_next (drains {c = c} {cs = cs}) = (c ∷ cs, refl, refl)
  pulled_next drained = ([], refl, refl)

  sees : {n : ℕ} {e : List ℕ} {r : Refusal} {act : Act} {k : Mode} (acts : List Act) (m : ℕ) → Goes ready (Checking n e r) act k → Leads ready k acts (Between m)
      → (point : ℕ) × (act ≡ Check point e false) × Leads ready (Between (n + 1)) acts (Between m)
  sees acts m (is_gone {point = point}) l = (point, refl, l)
  sees [] m is_there l = absurd cc
  sees (act ∷ acts) m is_there (k, goes, l) = absurd (stuck goes)

  drained_then : {n at m : ℕ} {e c : List ℕ} {cs : List (List ℕ)} {r : Refusal} {acts : List Act} (t : Taken n at (c ∷ cs) (Drains e r) acts m) → Drained n (at + length (c ∷ cs)) e t.rest m → Drained n at e (Pull at (c ∷ cs) ∷ acts) m
  drained_then {at = at} {e = e} {c = c} {cs = cs} t d = record {
    all = (c ∷ cs) ∷ d.all;
    some = All-cons IsSome (c ∷ cs) d.all (λ none. absurd cc) d.some;
    point = d.point;
    rest = d.rest;
    are = ap (λ l. Pull at (c ∷ cs) ∷ l)
        (t.are ∙ ap (λ l. takes_of at (c ∷ cs) ++ l) d.are ∙ sym (append_assoc (takes_of at (c ∷ cs)) (pulled_all (at + length (c ∷ cs)) d.all) (Check d.point e false ∷ d.rest)));
    leads = d.leads;
  }

  drains_by : (n at : ℕ) (e : List ℕ) (r : Refusal) (came : List (List ℕ)) (acts : List Act) (m : ℕ)
      → ((at' : ℕ) (rest : List Act) → length rest ≤ length acts → Leads ready (Taking n at' [] (Drains e r)) rest (Between m) → Drained n at' e rest m)
      → Leads ready (after n at e r came) acts (Between m) → Drained n at e (Pull at came ∷ acts) m
  drains_by n at e r [] [] m later l = absurd cc
  drains_by n at e r [] (act ∷ acts) m later (k, goes, l) =
      let t = sees acts m goes l in
      record { all = []; some = All-nil IsSome; point = t.0; rest = acts; are = ap (λ a. Pull at [] ∷ a ∷ acts) t.1; leads = t.2 }
  drains_by n at e r (c ∷ cs) acts m later l =
      let t = taken_in n at (c ∷ cs) (Drains e r) acts m l in
      drained_then t (later (at + length (c ∷ cs)) t.rest (omega (arith, ap length t.are, length-append (takes_of at (c ∷ cs)) t.rest)) t.leads)

  drained_in : (fuel n at : ℕ) (e : List ℕ) (r : Refusal) (acts : List Act) (m : ℕ) → length acts ≤ fuel → Leads ready (Taking n at [] (Drains e r)) acts (Between m) → Drained n at e acts m
  drained_in fuel n at e r [] m low l = absurd cc
  drained_in zero n at e r (act ∷ acts) m low l = absurd (omega (arith, low))
  drained_in (suc fuel) n at e r (act ∷ acts) m low (k, goes, l) =
      let t = pulled_next goes in
      subst (λ a. Drained n at e (a ∷ acts) m) (sym t.1)
      (drains_by n at e r t.0 acts m (λ at' rest fewer l'. drained_in fuel n at' e r rest m (omega (arith, low, fewer)) l') (subst (λ x. Leads ready x acts (Between m)) t.2 l))

  -- ---- a submission, and what follows it

  record Offered (n at : ℕ) (acts : List Act) (m : ℕ) : Type 0 where
    point : ℕ
    first : List ℕ
    second : List ℕ
    answer : Result Submitted SubmitFault
    last : List Act
    is_sent : IsSent at answer last
    rest : List Act
    are : acts ≡ Submit point first second answer ∷ last ++ rest
    leads : Leads ready (Between (n + 1)) rest (Between m)

  offered_with : {n at m point : ℕ} {first second e : List ℕ} {r : Refusal} {acts : List Act} → Drained n at e acts m → Offered n at (Submit point first second (Ok (submitted.Entry e)) ∷ Send e (Rejected r) ∷ acts) m
  offered_with {at = at} {point = point} {first = first} {second = second} {e = e} {r = r} d = record {
    point = point;
    first = first;
    second = second;
    answer = Ok (submitted.Entry e);
    last = Send e (Rejected r) ∷ pulled_all at d.all ++ Check d.point e false ∷ [];
    is_sent = is_rejected d.all d.point d.some;
    rest = d.rest;
    are = ap (λ l. Submit point first second (Ok (submitted.Entry e)) ∷ Send e (Rejected r) ∷ l) (d.are ∙ sym (append_assoc (pulled_all at d.all) (Check d.point e false ∷ []) d.rest));
    leads = d.leads;
  }

  offers : {n at point : ℕ} {first second e : List ℕ} {act : Act} {k : Mode} (acts : List Act) (m : ℕ) → Goes ready (Sending n at e) act k → Leads ready k acts (Between m)
      → Offered n at (Submit point first second (Ok (submitted.Entry e)) ∷ act ∷ acts) m
  offers {point = point} {first = first} {second = second} acts m (sends {position = position} {e = e}) l =
      record { point = point; first = first; second = second; answer = Ok (submitted.Entry e); last = Send e (Ordered position) ∷ []; is_sent = is_ordered; rest = acts; are = refl; leads = l }
  offers {n} {at} acts m (rejected {e = e} {r = r}) l = offered_with (drained_in (length acts) n at e r acts m (omega arith) l)

  submits : {n at : ℕ} {act : Act} {k : Mode} (acts : List Act) (m : ℕ) → Goes ready (Taking n at [] Submits) act k → Leads ready k acts (Between m) → Offered n at (act ∷ acts) m
  submits acts m (submits_none {point = point} {first = first} {second = second} {answer = answer} quiet) l =
      record { point = point; first = first; second = second; answer = answer; last = []; is_sent = nothing quiet; rest = acts; are = refl; leads = l }
  submits [] m submits_entry l = absurd cc
  submits (act ∷ acts) m submits_entry (k, goes, l) = offers acts m goes l

  submitted_in : (n at : ℕ) (acts : List Act) (m : ℕ) → Leads ready (Taking n at [] Submits) acts (Between m) → Offered n at acts m
  submitted_in n at [] m l = absurd cc
  submitted_in n at (act ∷ acts) m (k, goes, l) = submits acts m goes l

  -- ---- rounds

  record Begun (n : ℕ) (acts : List Act) (m : ℕ) : Type 0 where
    one : List Act
    is_round : IsRound ready one
    rest : List Act
    are : acts ≡ one ++ rest
    fewer : length rest < length acts
    leads : Leads ready (Between (n + 1)) rest (Between m)

  begun_with : {n point at pending m : ℕ} {came : List (List ℕ)} {acts : List Act} → ready at pending ≡ true → (t : Taken n at came Submits acts m) → Offered n (at + length came) t.rest m
      → Begun n (Look point at pending ∷ Pull at came ∷ acts) m
  begun_with {n} {point} {at} {pending} {came = came} {acts = acts} is t o =
      let one : List Act = Look point at pending ∷ pulled at came ++ Submit o.point o.first o.second o.answer ∷ o.last in
      let are : Look point at pending ∷ Pull at came ∷ acts ≡ one ++ o.rest =
      ap (λ l. Look point at pending ∷ Pull at came ∷ l)
      (t.are ∙ ap (λ l. takes_of at came ++ l) o.are ∙ sym (append_assoc (takes_of at came) (Submit o.point o.first o.second o.answer ∷ o.last) o.rest)) in
      record {
        one = one;
        is_round = record {
          looked_at = point;
          at = at;
          pending = pending;
          begins = is;
          came = came;
          submitted_at = o.point;
          first = o.first;
          second = o.second;
          answer = o.answer;
          rest = o.last;
          is_sent = o.is_sent;
          are = refl;
        };
        rest = o.rest;
        are = are;
        fewer = omega (arith, ap length are, length-append (pulled at came ++ Submit o.point o.first o.second o.answer ∷ o.last) o.rest);
        leads = o.leads;
      }

  begins_by : (n point at pending : ℕ) (acts : List Act) (m : ℕ) → ready at pending ≡ true → Leads ready (Pulling n at) acts (Between m) → Begun n (Look point at pending ∷ acts) m
  begins_by n point at pending [] m is l = absurd cc
  begins_by n point at pending (act ∷ acts) m is (k, pulls {came = came}, l) =
      let t = taken_in n at came Submits acts m l in
      begun_with is t (submitted_in n (at + length came) t.rest m t.leads)

  begun : (n : ℕ) (act : Act) (acts : List Act) (m : ℕ) → Leads ready (Between n) (act ∷ acts) (Between m) → Begun n (act ∷ acts) m
  begun n act acts m (k, looks {point = point} {at = at} {pending = pending} is, l) = begins_by n point at pending acts m is l

  rounds_first : {n count m : ℕ} {acts : List Act} (b : Begun n acts m) → AreRounds ready count b.rest → AreRounds ready (count + 1) acts
  rounds_first b r = record {
    rounds = b.one ∷ r.rounds;
    number = omega (arith, r.number);
    each = All-cons (IsRound ready) b.one r.rounds b.is_round r.each;
    are = b.are ∙ ap (λ l. b.one ++ l) r.are;
  }

  rounds_in : (fuel n : ℕ) (acts : List Act) (m : ℕ) → length acts ≤ fuel → Leads ready (Between n) acts (Between m) → (count : ℕ) × (m ≡ n + count) × AreRounds ready count acts
  rounds_in fuel n [] m low l = let same : m ≡ n = cc in (0, omega (arith, same), record { rounds = []; number = refl; each = All-nil (IsRound ready); are = refl })
  rounds_in zero n (act ∷ acts) m low l = absurd (omega (arith, low))
  rounds_in (suc fuel) n (act ∷ acts) m low l =
      let b = begun n act acts m l in
      let r = rounds_in fuel (n + 1) b.rest m (omega (arith, low, b.fewer)) b.leads in
      (r.0 + 1, omega (arith, r.1), rounds_first b r.2)

  pub whole_rounds : {acts : List Act} {n : ℕ} → Leads ready (Between 0) acts (Between n) → AreRounds ready n acts
  whole_rounds {acts} {n} l =
      let r = rounds_in (length acts) 0 acts n (omega arith) l in
      subst (λ x. AreRounds ready x acts) (omega (arith, r.1)) r.2

  -- ---- and whole rounds lead from one to the next

  leads_pulled : (n at : ℕ) (e : List ℕ) (r : Refusal) (all : List (List (List ℕ))) → All IsSome all → Leads ready (Taking n at [] (Drains e r)) (pulled_all at all) (Checking n e r)
  leads_pulled n at e r [] some = (Checking n e r, drained, refl)
  leads_pulled n at e r ([] ∷ more) some = absurd (All-head IsSome [] more some refl)
  leads_pulled n at e r ((c ∷ cs) ∷ more) some =
      let es = c ∷ cs in (
        Taking n at es (Drains e r),
        drains,
        leads_append ready (Taking n at es (Drains e r)) (Taking n (at + length es) [] (Drains e r)) (Checking n e r) (takes_of at es) (pulled_all (at + length es) more)
            (subst (λ l. Leads ready (Taking n at l (Drains e r)) (takes_of at es) (Taking n (at + length es) [] (Drains e r))) (append-nil es) (leads_takes ready n at es [] (Drains e r)))
            (leads_pulled n (at + length es) e r more (All-tail IsSome es more some)),
      )

  leads_sent : (n : ℕ) {at point : ℕ} {first second : List ℕ} {answer : Result Submitted SubmitFault} {rest : List Act} → IsSent at answer rest → Leads ready (Taking n at [] Submits) (Submit point first second answer ∷ rest) (Between (n + 1))
  leads_sent n (nothing quiet) = (Between (n + 1), submits_none quiet, refl)
  leads_sent n {at} (is_ordered {entry = entry}) = (Sending n at entry, submits_entry, (Between (n + 1), sends, refl))
  leads_sent n {at} (is_rejected {entry = entry} {refusal = refusal} all point some) = (
    Sending n at entry,
    submits_entry,
    (
      Taking n at [] (Drains entry refusal),
      rejected,
      leads_append ready (Taking n at [] (Drains entry refusal)) (Checking n entry refusal) (Between (n + 1)) (pulled_all at all) (Check point entry false ∷ [])
          (leads_pulled n at entry refusal all some)
          (Between (n + 1), is_gone, refl),
    ),
  )

  leads_round : (n : ℕ) {acts : List Act} → IsRound ready acts → Leads ready (Between n) acts (Between (n + 1))
  leads_round n r =
      subst (λ l. Leads ready (Between n) l (Between (n + 1))) (sym r.are) (
        Pulling n r.at,
        looks r.begins,
        (
          Taking n r.at r.came Submits,
          pulls,
          leads_append ready (Taking n r.at r.came Submits) (Taking n (r.at + length r.came) [] Submits) (Between (n + 1)) (takes_of r.at r.came) (Submit r.submitted_at r.first r.second r.answer ∷ r.rest)
              (subst (λ l. Leads ready (Taking n r.at l Submits) (takes_of r.at r.came) (Taking n (r.at + length r.came) [] Submits)) (append-nil r.came) (leads_takes ready n r.at r.came [] Submits))
              (leads_sent n r.is_sent),
        ),
      )

  leads_rounds : (n : ℕ) (rounds : List (List Act)) → All (IsRound ready) rounds → Leads ready (Between n) (flat_map (λ round. round) rounds) (Between (n + length rounds))
  leads_rounds n [] each = ap Between (omega arith)
  leads_rounds n (one ∷ more) each =
      leads_append ready (Between n) (Between (n + 1)) (Between (n + length (one ∷ more))) one (flat_map (λ round. round) more) (leads_round n (All-head (IsRound ready) one more each))
      (subst (λ x. Leads ready (Between (n + 1)) (flat_map (λ round. round) more) (Between x)) (omega arith) (leads_rounds (n + 1) more (All-tail (IsRound ready) one more each)))

  pub rounds_lead : {acts : List Act} {n : ℕ} → AreRounds ready n acts → Leads ready (Between 0) acts (Between n)
  rounds_lead {n = n} r =
      subst (λ (l : List Act). Leads ready (Between 0) l (Between n)) (sym r.are)
      (subst (λ (x : ℕ). Leads ready (Between 0) (flat_map (λ round. round) r.rounds) (Between x)) (omega (arith, r.number)) (leads_rounds 0 r.rounds r.each))

  -- ---- the first phase

  greeted_in : (document : List ℕ) (member : ℕ) (acts : List Act) (n : ℕ) → Leads ready (Greeting document member) acts (Between n) → (rest : List Act) × (acts ≡ Greet document member ∷ rest) × AreRounds ready n rest
  greeted_in document member [] n l = absurd cc
  greeted_in document member (act ∷ acts) n (k, greets, l) = (acts, refl, whole_rounds l)

  pub whole_phase : (acts : List Act) (n : ℕ) → Leads ready Asking acts (Between n) → IsFirstPhase ready n acts
  whole_phase [] n l = absurd cc
  whole_phase (act ∷ acts) n (k, asks {document = document} {member = member}, l) =
      let g = greeted_in document member acts n l in
      record { document = document; member = member; rest = g.0; rounds = g.2; are = ap (λ l. Ask document member ∷ l) g.1 }

  pub phase_leads : {acts : List Act} {n : ℕ} → IsFirstPhase ready n acts → Leads ready Asking acts (Between n)
  phase_leads {n = n} p =
      subst (λ l. Leads ready Asking l (Between n)) (sym p.are) (Greeting p.document p.member, asks, (Between 0, greets, rounds_lead p.rounds))
