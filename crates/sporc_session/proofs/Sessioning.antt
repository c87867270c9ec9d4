-- A whole session.
use Rattle.std.proofs.Common.{◌≡◌, ◌≢◌, ℕ, ◌+◌, ◌≤◌, ◌<◌, ◌==◌, ne_eqb, List, [], ◌∷◌, ◌++◌, length, take, drop, Option, Some, None, Err, refl, sym, ap, ◌∙◌, subst, append-nil, arith, cond}
use Rattle.sporc_session.proofs.Common.{All, Result, ⊤, All-head, All-tail, first_of, EditorLine, Known, Agrees, StartsWith, own, Item, by_of, SessionFault, all_of, items_by, CountsSame, IsAllowedLog}
use Rattle.sporc_session.proofs.Common.{KnowsMore, Stand, stand, AreLinesDone, LineEnd, EditorsDid, FirstPhase, IsSession, SecondPhase, SessionEnds, doesnt_settle, settles, stops, InboxModel}
use Rattle.sporc_session.proofs.Common.{LinkTold, empty_inbox, link_stand}
use Rattle.std.proofs.lemmas.List.Elements.{All-weaker}
use Rattle.std.specs.List.{filter}
use Rattle.sporc_turn.specs.declared.known.Joined.{Joined}
use Rattle.sporc_turn.proofs.Extending.{only_first_adds}
use Rattle.sporc_session.specs.Crowds.{CrowdDid, IsCrowd}
use Rattle.sporc_session.proofs.Crowding.{crowd_later}
use Rattle.sporc_session.proofs.Knowing.{knows_none, knows_then, starts_then}

-- no item has a number beyond the last one
pub own_none : (n m : ℕ) (items : List Item) → m < n → All (λ item. by_of item ≤ m) items → filter (λ item. by_of item == n) items ≡ []
own_none n m [] low all = refl
own_none n m (item ∷ items) low all =
    let here : by_of item ≤ m = All-head (λ (x : Item). by_of x ≤ m) item items all in
    let other : by_of item ≢ n = λ e. absurd (omega (arith, here, e)) in
    let rest = filter (λ (x : Item). by_of x == n) items in
    ap (λ b. cond b (item ∷ rest) rest) (ne_eqb (by_of item) n other) ∙ own_none n m items low (All-tail (λ (x : Item). by_of x ≤ m) item items all)

-- what each editor did stands in the log under its number
editors_did : (log : List Item) (start number : ℕ) (scripts : List (List EditorLine)) (ends : List (Option SessionFault)) (js : List (Joined Item)) → All (λ j. own by_of j.number start log ≡ j.items) js
    → CrowdDid log start number scripts ends js → EditorsDid log start number scripts ends
editors_did log start number [] ends js owns d = d.0
editors_did log start number (script ∷ scripts) [] js owns d = absurd d
editors_did log start number (script ∷ scripts) (end ∷ ends) [] owns d = absurd d
editors_did log start number (script ∷ scripts) (end ∷ ends) (j ∷ js) owns d =
    let P : Joined Item → Type 0 = λ x. own by_of x.number start log ≡ x.items in
    let is : j.items ≡ own by_of number start log = sym (All-head P j js owns) ∙ ap (λ n. own by_of n start log) d.0 in (
      record {
        count = d.1.count;
        done = subst (AreLinesDone log start number [] (take d.1.count script)) is d.1.done;
        end = subst (λ (m : List Item). LineEnd log start number m (drop d.1.count script) end) is d.1.ended;
      },
      editors_did log start (number + 1) scripts ends js (All-tail P j js owns) d.2,
    )

few_joined : (log : List Item) (start number : ℕ) (scripts : List (List EditorLine)) (ends : List (Option SessionFault)) (js : List (Joined Item)) → CrowdDid log start number scripts ends js → length js ≤ length scripts
few_joined log start number [] ends js d = omega (arith, ap length d.1)
few_joined log start number (script ∷ scripts) [] js d = absurd d
few_joined log start number (script ∷ scripts) (end ∷ ends) [] d = absurd d
few_joined log start number (script ∷ scripts) (end ∷ ends) (j ∷ js) d = omega (arith, few_joined log start (number + 1) scripts ends js d.2)

single : (fault : Option SessionFault) → first_of (fault ∷ []) ≡ fault
single (Some fault) = refl
single None = refl

-- what a session may rely on of its pass
pub record Begins (k : Known Item) : Type 0 where
  pub number : k.number ≡ 0
  pub splits : k.splits ≡ 0
  pub joined : k.joined ≡ []
  pub allowed : IsAllowedLog k.seen
  pub agrees : Agrees by_of k k.seen

-- the first phase, and what came after it
module _ (a middle b : Stand) (rounds until : ℕ) (scripts : List (List EditorLine)) (receiver fault : Option SessionFault) (begins : Begins a.known) (crowd : IsCrowd a middle rounds scripts receiver fault)
    (same : CountsSame middle.known b.known) (items items' : List Item) (first : KnowsMore a.known middle.known items) (second : KnowsMore middle.known b.known items') where
  number_b : b.known.number ≡ 0
  number_b = second.number ∙ first.number ∙ begins.number

  start_b : b.known.start ≡ a.known.start
  start_b = second.start ∙ first.start

  agrees_m : Agrees by_of middle.known middle.known.seen
  agrees_m = first.agrees begins.agrees

  agrees_b : Agrees by_of b.known b.known.seen
  agrees_b = second.agrees agrees_m

  allowed_b : IsAllowedLog b.known.seen
  allowed_b = second.allowed (first.allowed begins.allowed)

  joined_m : middle.known.joined ≡ crowd.joined
  joined_m = crowd.joined_are ∙ ap (λ (js : List (Joined Item)). crowd.joined ++ js) begins.joined ∙ append-nil crowd.joined

  splits_b : b.known.splits ≡ length crowd.joined
  splits_b = same.splits ∙ crowd.splits_are ∙ ap (λ n. n + length crowd.joined) begins.splits ∙ omega arith

  all_back : middle.known.splits ≡ length middle.known.joined
  all_back = sym same.splits ∙ splits_b ∙ ap length (sym joined_m)

  numbers : All (λ item. by_of item ≤ b.known.splits) (drop a.known.start b.known.seen)
  numbers = subst (λ n. All (λ item. by_of item ≤ b.known.splits) (drop n b.known.seen)) start_b (agrees_b.numbers number_b)

  owns : All (λ j. own by_of j.number a.known.start b.known.seen ≡ j.items) crowd.joined
  owns = subst (λ (z : ℕ × List (Joined Item)). All (λ j. own by_of j.number z.0 b.known.seen ≡ j.items) z.1) (λ i. (start_b i, (same.joined ∙ joined_m) i)) (agrees_b.joined number_b)

  did : CrowdDid b.known.seen a.known.start 1 scripts crowd.ends crowd.joined
  did = crowd_later middle.known.seen b.known.seen second.begins a.known.start 1 scripts crowd.ends crowd.joined
      (subst (λ n. CrowdDid middle.known.seen a.known.start n scripts crowd.ends crowd.joined) (ap (λ n. n + 1) begins.splits) crowd.did)

  faults_same : (r : Option SessionFault) → first_of (r ∷ fault ∷ []) ≡ first_of (r ∷ crowd.ends)
  faults_same (Some f) = refl
  faults_same None = single fault ∙ sym crowd.first

  is_session : (result : Result ⊤ SessionFault) → SessionEnds middle b rounds until (first_of (receiver ∷ fault ∷ [])) result → IsSession a b rounds until scripts result
  is_session result ends = record {
    middle = middle;
    receiver = receiver;
    editors = crowd.ends;
    first = crowd.phase;
    edited = editors_did b.known.seen a.known.start 1 scripts crowd.ends crowd.joined owns did;
    ends = subst (λ f. SessionEnds middle b rounds until f result) (faults_same receiver) ends;
    past = allowed_b.past;
    log_is = allowed_b.log_is;
    legal = record {
      allowed = allowed_b.allowed;
      begins = subst (λ (l : List Item). StartsWith l a.known.seen) allowed_b.log_is (starts_then a.known.seen middle.known.seen b.known.seen first.begins second.begins);
      mine_are = ap (own by_of 0 a.known.start) (sym allowed_b.log_is) ∙ subst (λ (z : ℕ × ℕ). own by_of z.0 z.1 b.known.seen ≡ b.known.mine) (λ i. (number_b i, start_b i)) agrees_b.mine;
    };
    others = All-weaker (λ item. by_of item ≤ b.known.splits) (λ item. by_of item ≤ length scripts)
        (λ item low. omega (arith, low, splits_b, few_joined b.known.seen a.known.start 1 scripts crowd.ends crowd.joined did)) (drop a.known.start b.known.seen) numbers;
    alone = (
      second.begins.0,
      second.begins.1,
      only_first_adds by_of middle.known b.known middle.known.seen second.begins.0 (first.number ∙ begins.number) all_back
          (second.number, second.start, same.splits, same.joined) agrees_m (subst (Agrees by_of b.known) second.begins.1 agrees_b),
    );
  }

first_knows : (a b : Stand) (rounds : ℕ) (fault : Option SessionFault) → FirstPhase a b rounds fault → (items : List Item) × KnowsMore a.known b.known items
first_knows a b rounds None d = (all_of items_by d.acts, d.trace.knows)
first_knows a b rounds (Some fault) d = (all_of items_by d.acts, d.trace.knows)

second_knows : (a b : Stand) (rounds until : ℕ) (result : Result ⊤ SessionFault) → SecondPhase a b rounds until result → (items : List Item) × KnowsMore a.known b.known items
second_knows a b rounds until result (settles low r settled) = (all_of items_by r.did.acts ++ [], knows_then a.known r.between.known b.known _ _ r.did.trace.knows r.last.knows)
second_knows a b rounds until result (doesnt_settle r unsettled) = (all_of items_by r.did.acts ++ [], knows_then a.known r.between.known b.known _ _ r.did.trace.knows r.last.knows)
second_knows a b rounds until result (stops s) = (all_of items_by s.acts, s.trace.knows)

-- nothing was taken off the link before
pub crowd_from : (known : Known Item) (link : LinkTold) (words : Option (List (List ℕ))) (count' : ℕ) (inbox : InboxModel) (m : Stand) (rounds : ℕ) (scripts : List (List EditorLine)) (receiver fault : Option SessionFault) → inbox ≡ empty_inbox
    → IsCrowd (stand known (link_stand link inbox) words count') m rounds scripts receiver fault → IsCrowd (stand known (link_stand link empty_inbox) words count') m rounds scripts receiver fault
crowd_from known link words count' inbox m rounds scripts receiver fault is crowd =
    subst (λ (i : InboxModel). IsCrowd (stand known (link_stand link i) words count') m rounds scripts receiver fault) is crowd

module _ (a m : Stand) (rounds until : ℕ) (scripts : List (List EditorLine)) (receiver fault : Option SessionFault) (begins : Begins a.known) (crowd : IsCrowd a m rounds scripts receiver fault) where
  -- the session ends after the first phase
  pub session_stopped : (f : SessionFault) → first_of (receiver ∷ fault ∷ []) ≡ Some f → IsSession a m rounds until scripts (Err f)
  session_stopped f is =
      let k = first_knows a m rounds receiver crowd.phase in
      is_session a m m rounds until scripts receiver fault begins crowd (record { number = refl; splits = refl; joined = refl }) k.0 [] k.1 (knows_none m.known) (Err f)
      (subst (λ o. SessionEnds m m rounds until o (Err f)) (sym is) (refl, refl))

  -- or goes on
  pub session_settled : (b : Stand) (result : Result ⊤ SessionFault) → receiver ≡ None → fault ≡ None → CountsSame m.known b.known → SecondPhase m b rounds until result → IsSession a b rounds until scripts result
  session_settled b result r f same second =
      let k = first_knows a m rounds receiver crowd.phase in
      let k' = second_knows m b rounds until result second in
      is_session a m b rounds until scripts receiver fault begins crowd same k.0 k'.0 k.1 k'.1 result
      (subst (λ (z : Option SessionFault × Option SessionFault). SessionEnds m b rounds until (first_of (z.0 ∷ z.1 ∷ [])) result) (λ i. (sym r i, sym f i)) second)
