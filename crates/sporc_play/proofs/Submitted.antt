-- What a call of `submit` did, for a client that keeps no ticket and whose disk works.
use Rattle.std.proofs.Common.{◌≡◌, ◌≢◌, ℕ, ◌+◌, ◌^◌, ◌<◌, Bool, true, false, cond, eq-eqb, List, [], ◌++◌, length, refl, sym, ap, ap₂, ◌∙◌, subst, arith, add-zero, Option, None, Some, Result, Ok, Err}
use Rattle.std.proofs.Common.{inl, inr, IfOk, option_map}
use Rattle.sporc_play.proofs.Common.{◌==◌, ◌⊎◌, is_none, ◌&&◌, option_to_list, OnOk, eqb-true, LeafFault, height_of, SubmitFault, Submitted, ClientModel, state_of, PlainClient, Due, Sign, answered}
use Rattle.sporc_play.proofs.Common.{due, is_signing, submission_added, entries_made, leaf_next, MemoryDiskModel, Seat, random_of, AreDrawn, ClientSubmitted, HasSubmitted, IsReady, IsSubmitted}
use Rattle.sporc_play.proofs.Common.{last_with, DrawFaults, Draws, LeavesModel}
use Rattle.lms_leaf.specs.declared.faults.LeafFault.TheVariants as leaves
use Rattle.sporc_base.specs.Outcome.{GivesUnless}
use Rattle.sporc_client.specs.declared.fault.SubmitFault.TheVariants as faults
use Rattle.sporc_client.specs.declared.submitted.Submitted.TheVariants as submitted
use Rattle.sporc_client.specs.Drawing.{IsDraw, asks_draw, at_hand, drawn, gives_entry, kept_after, leaf_for}
use Rattle.sporc_client.specs.Submissions.{submission}
use Rattle.sporc_outside.specs.LeafDisk.{DiskTold}
use Rattle.sporc_play.proofs.Forgeries.{leaf_drawn, leaf_none, drawn_more}

-- ---- answers

given : (result answer : Result Submitted SubmitFault) → GivesUnless faults.Memory (λ (s : Submitted). s) result answer → result ≢ Err faults.Memory → answer ≡ result
given (Ok s) answer gives named = gives
given (Err fault) answer gives named = gives (λ is. named (ap Err is))

-- ---- without a signature the leaf does not matter, and there is no entry

quiet_answer : (c : PlainClient) (random : List ℕ) (leaf other : Result ℕ LeafFault) (d : Due) → is_signing d ≡ false → answered c random leaf d ≡ answered c random other d
quiet_answer c random leaf other d quiet = grind arith

quiet_entries : (c : PlainClient) (random : List ℕ) (leaf : Result ℕ LeafFault) (d : Due) → is_signing d ≡ false → entries_made (answered c random leaf d) ≡ []
quiet_entries c random leaf d quiet = grind arith

quiet_gives : (answer : Result Submitted SubmitFault) → entries_made answer ≡ [] → gives_entry answer ≡ false
quiet_gives answer none = grind arith

-- ---- with one it does

record Signs (answer : Result Submitted SubmitFault) : Type 0 where
  entry : List ℕ
  is : answer ≡ Ok (submitted.Entry entry)

signs_with : (c : PlainClient) (random : List ℕ) (leaf : ℕ) (d : Due) → is_signing d ≡ true → Signs (answered c random (Ok leaf) d)
signs_with c random leaf (Sign item) signs = record { entry = _; is = refl }
signs_with c random leaf d signs = absurd cc

no_leaf : (c : PlainClient) (random : List ℕ) (next : ℕ) (d : Due) → is_signing d ≡ true → entries_made (answered c random (Err (leaves.Exhausted next)) d) ≡ []
no_leaf c random next d signs = grind arith

disk_fault : (c : PlainClient) (random : List ℕ) (d : Due) → is_signing d ≡ true → answered c random (Err leaves.DiskFault) d ≡ Err faults.LeafFault
disk_fault c random d signs = grind arith

-- ---- leaf numbers

same_next : {D : Type 0} (old new : LeavesModel D) → new.next ≡ old.next → at_hand None old new ≡ None
same_next old new same = ap (λ (b : Bool). cond b None (Some old.next)) (eq-eqb new.next old.next same)

-- ---- the call

-- what is known of the call
record Called {D : Type 0} (disk_told : D → DiskTold) (random : List ℕ) (old new : ClientModel D) (result : Result Submitted SubmitFault) : Type 0 where
  ready : IsReady old.opening.key old.leaves.next old
  answer : submission (state_of old) random (drawn old.leaves new.leaves) ≡ result
  log : new ≡ record old { log = old.log ++ submission_added 0 result; leaves = new.leaves; ticket = kept_after None old.leaves new.leaves (gives_entry result) }
  undrawn : is_signing (due (state_of old)) ≡ false → new.leaves ≡ old.leaves
  drawn_by : is_signing (due (state_of old)) ≡ true → IsDraw disk_told old.leaves new.leaves
  no_disk : result ≢ Err faults.LeafFault

-- its answer is that of the next leaf, and the client is as its contract says
pub record Submits {D : Type 0} (random : List ℕ) (old new : ClientModel D) (result : Result Submitted SubmitFault) : Type 0 where
  pub answer : submission (state_of old) random (leaf_next old) ≡ result
  pub client : IsSubmitted old result new

module _ {D : Type 0} (disk_told : D → DiskTold) where
  after_call : (random : List ℕ) (old new : ClientModel D) (result : Result Submitted SubmitFault) → Called disk_told random old new result
      → AreDrawn old.opening.key (old.leaves.next + length (entries_made result)) new.leaves → kept_after None old.leaves new.leaves (gives_entry result) ≡ None → IsSubmitted old result new
  after_call random old new result called drawn_now none = record {
    opening = ap (λ (c : ClientModel D). c.opening) called.log;
    log = ap (λ (c : ClientModel D). c.log) called.log;
    ready = record {
      key = ap (λ (c : ClientModel D). c.opening.key) called.log;
      leaves = drawn_now;
      no_ticket = ap (λ (c : ClientModel D). c.ticket) called.log ∙ none;
    };
  }

  quiet : (random : List ℕ) (old new : ClientModel D) (result : Result Submitted SubmitFault) → Called disk_told random old new result → is_signing (due (state_of old)) ≡ false → Submits random old new result
  unfolding submission
  quiet random old new result called signs =
      let c = state_of old in
      let same = called.undrawn signs in
      let none : entries_made result ≡ [] = ap entries_made (sym called.answer) ∙ quiet_entries c random (drawn old.leaves new.leaves) (due c) signs in
      let count : old.leaves.next ≡ old.leaves.next + length (entries_made result) = sym (ap (λ (es : List (List ℕ)). old.leaves.next + length es) none ∙ add-zero old.leaves.next) in
      record {
        answer = quiet_answer c random (leaf_next old) (drawn old.leaves new.leaves) (due c) signs ∙ called.answer;
        client = after_call random old new result called
            (subst (λ (n : ℕ). AreDrawn old.opening.key n new.leaves) count (subst (AreDrawn old.opening.key old.leaves.next) (sym same) called.ready.leaves))
            (ap (kept_after None old.leaves new.leaves) (quiet_gives result none) ∙ same_next old.leaves new.leaves (ap (λ (l : LeavesModel D). l.next) same));
      }

  exhausted : (random : List ℕ) (old new : ClientModel D) (result : Result Submitted SubmitFault) → Called disk_told random old new result → is_signing (due (state_of old)) ≡ true
      → drawn old.leaves new.leaves ≡ Err (leaves.Exhausted old.leaves.next) → old.leaves.next ≡ old.leaves.leaf_count → Submits random old new result
  unfolding submission
  exhausted random old new result called signs is all =
      let c = state_of old in
      let key = old.opening.key in
      let did = called.drawn_by signs in
      let draws = subst (λ (r : Result ℕ LeafFault). Draws disk_told old.leaves r new.leaves) is did.leaf in
      let why = subst (λ (r : Result ℕ LeafFault). DrawFaults disk_told old.leaves r new.leaves) is did.fault in
      let none : entries_made result ≡ [] = ap entries_made (sym called.answer ∙ ap (λ (r : Result ℕ LeafFault). answered c random r (due c)) is) ∙ no_leaf c random old.leaves.next (due c) signs in
      let next : new.leaves.next ≡ old.leaves.next + length (entries_made result) = draws.next ∙ sym (ap (λ (es : List (List ℕ)). old.leaves.next + length es) none ∙ add-zero old.leaves.next) in
      record {
        answer = ap (λ (r : Result ℕ LeafFault). answered c random r (due c)) (leaf_none key old.leaves.next old.leaves.leaf_count all called.ready.leaves.count ∙ sym is) ∙ called.answer;
        client = after_call random old new result called
            (drawn_more key old.leaves new.leaves (length (entries_made result)) called.ready.leaves next (omega (arith, ap (λ (es : List (List ℕ)). length es) none, all)) draws.leaf_count
            (λ yes. let no : Err (leaves.Exhausted old.leaves.next) ≡ Err leaves.DiskFault = why.faulty.0 yes in cc))
            (ap (kept_after None old.leaves new.leaves) (quiet_gives result none) ∙ same_next old.leaves new.leaves draws.next);
      }

  signs_next : (random : List ℕ) (old new : ClientModel D) (result : Result Submitted SubmitFault) → Called disk_told random old new result → is_signing (due (state_of old)) ≡ true
      → drawn old.leaves new.leaves ≡ Ok old.leaves.next → Submits random old new result
  unfolding submission
  signs_next random old new result called signs is =
      let c = state_of old in
      let key = old.opening.key in
      let did = called.drawn_by signs in
      let draws = subst (λ (r : Result ℕ LeafFault). Draws disk_told old.leaves r new.leaves) is did.leaf in
      let why = subst (λ (r : Result ℕ LeafFault). DrawFaults disk_told old.leaves r new.leaves) is did.fault in
      let made = signs_with c random old.leaves.next (due c) signs in
      let result_is : result ≡ Ok (submitted.Entry made.entry) = sym called.answer ∙ ap (λ (r : Result ℕ LeafFault). answered c random r (due c)) is ∙ made.is in
      let one : length (entries_made result) ≡ 1 = ap (λ (r : Result Submitted SubmitFault). length (entries_made r)) result_is in
      let low : old.leaves.next < 2 ^ height_of key.lms = subst (λ (n : ℕ). old.leaves.next < n) called.ready.leaves.count draws.within in
      record {
        answer = ap (λ (r : Result ℕ LeafFault). answered c random r (due c)) (leaf_drawn key old.leaves.next old.leaves.next (2 ^ height_of key.lms) refl low refl ∙ sym is) ∙ called.answer;
        client = after_call random old new result called
            (drawn_more key old.leaves new.leaves (length (entries_made result)) called.ready.leaves (draws.next ∙ sym (ap (λ (n : ℕ). old.leaves.next + n) one)) (omega (arith, one, draws.within)) draws.leaf_count
            (λ yes. let no : Ok old.leaves.next ≡ Err leaves.DiskFault = why.faulty.0 yes in cc))
            (ap (λ (r : Result Submitted SubmitFault). kept_after None old.leaves new.leaves (gives_entry r)) result_is);
      }

  signing : (random : List ℕ) (old new : ClientModel D) (result : Result Submitted SubmitFault) → Called disk_told random old new result → is_signing (due (state_of old)) ≡ true → Submits random old new result
  unfolding submission
  signing random old new result called signs = go (old.leaves.next == old.leaves.leaf_count) refl new.leaves.faulty refl
    where
      go : (all : Bool) → (old.leaves.next == old.leaves.leaf_count) ≡ all → (faulty : Bool) → new.leaves.faulty ≡ faulty → Submits random old new result
      go true is faulty broken = exhausted random old new result called signs (ap (λ (b : Bool). cond b (Err (leaves.Exhausted old.leaves.next)) (cond new.leaves.faulty (Err leaves.DiskFault) (Ok old.leaves.next))) is) (eqb-true old.leaves.next old.leaves.leaf_count is)
      go false is true broken =
          let at : drawn old.leaves new.leaves ≡ Err leaves.DiskFault =
          ap₂ (λ (b d : Bool). cond b (Err (leaves.Exhausted old.leaves.next)) (cond d (Err leaves.DiskFault) (Ok old.leaves.next))) is broken in
          absurd (called.no_disk (sym called.answer ∙ disk_answer at))
        where
          disk_answer : drawn old.leaves new.leaves ≡ Err leaves.DiskFault → submission (state_of old) random (drawn old.leaves new.leaves) ≡ Err faults.LeafFault
          disk_answer at = ap (λ (r : Result ℕ LeafFault). answered (state_of old) random r (due (state_of old))) at ∙ disk_fault (state_of old) random (due (state_of old)) signs
      go false is false broken =
          signs_next random old new result called signs
          (ap₂ (λ (b d : Bool). cond b (Err (leaves.Exhausted old.leaves.next)) (cond d (Err leaves.DiskFault) (Ok old.leaves.next))) is broken)

  by_due : (random : List ℕ) (old new : ClientModel D) (result : Result Submitted SubmitFault) → Called disk_told random old new result → Submits random old new result
  by_due random old new result called = go (is_signing (due (state_of old))) refl
    where
      go : (b : Bool) → is_signing (due (state_of old)) ≡ b → Submits random old new result
      go true is = signing random old new result called is
      go false is = quiet random old new result called is

  -- from the clauses of the call
  pub submits : (random : List ℕ) (old new : ClientModel D) (result : Result Submitted SubmitFault) → IsReady old.opening.key old.leaves.next old
      → GivesUnless faults.Memory (λ (s : Submitted). s) result (submission (state_of old) random (leaf_for old.ticket old.leaves new.leaves))
      → new ≡ record old { log = old.log ++ submission_added 0 result; leaves = new.leaves; ticket = kept_after old.ticket old.leaves new.leaves (gives_entry result) }
      → (asks_draw old ≡ false → new.leaves ≡ old.leaves)
      → (asks_draw old ≡ true → ((result ≡ Err faults.Memory) × (new.leaves ≡ old.leaves)) ⊎ IsDraw disk_told old.leaves new.leaves)
      → result ≢ Err faults.Memory → result ≢ Err faults.LeafFault → Submits random old new result
  submits random old new result ready gives log undrawn drew named no_disk = by_due random old new result (record {
    ready = ready;
    answer = given result (submission (state_of old) random (drawn old.leaves new.leaves))
        (subst (λ (t : Option ℕ). GivesUnless faults.Memory (λ (s : Submitted). s) result (submission (state_of old) random (leaf_for t old.leaves new.leaves))) ready.no_ticket gives) named;
    log = subst (λ (t : Option ℕ). new ≡ record old { log = old.log ++ submission_added 0 result; leaves = new.leaves; ticket = kept_after t old.leaves new.leaves (gives_entry result) }) ready.no_ticket log;
    undrawn = λ signs. undrawn (asks signs);
    drawn_by = λ signs. elim (drew (asks signs)) [
      | inl p ↦ absurd (named p.0)
      | inr p ↦ p
    ];
    no_disk = no_disk;
  })
    where
      asks : {b : Bool} → is_signing (due (state_of old)) ≡ b → asks_draw old ≡ b
      asks is = ap (λ (t : Option ℕ). is_none t && is_signing (due (state_of old))) ready.no_ticket ∙ is

-- ---- a submission, once its answer was told

pub told_made : {V F : Type 0} (items : V → List ℕ) (r : Result (Option V) F) (result answer : Result Submitted SubmitFault)
    → IfOk r (λ made. option_to_list (option_map items made) ≡ entries_made result) → OnOk r (answer ≡ result) → IfOk r (λ made. option_to_list (option_map items made) ≡ entries_made answer)
told_made items (Ok made) result answer is same = is ∙ ap entries_made (sym same)
told_made items (Err e) result answer is same = tt

-- ---- a seat after it

pub has_submitted : (next : ℕ) (seat : Seat) (c c' : ClientModel MemoryDiskModel) (random : List ℕ) (made : Option (List ℕ)) → seat.client ≡ Some c → random ≡ random_of seat.device (seat.asked + 1)
    → option_to_list made ≡ entries_made (submission (state_of c) random (leaf_next c)) → IsSubmitted c (submission (state_of c) random (leaf_next c)) c'
    → HasSubmitted next seat made (record { device = seat.device; asked = seat.asked + 1; last = last_with next seat.last made; signer = seat.signer; client = Some c' })
has_submitted next seat c c' random made is at entries did = record {
  device = refl;
  asked = refl;
  last = refl;
  signer = refl;
  client = subst (λ (o : Option (ClientModel MemoryDiskModel)). ClientSubmitted seat o made (Some c')) (sym is) (
    c',
    refl,
    subst (λ (r : List ℕ). IsSubmitted c (submission (state_of c) r (leaf_next c)) c') at did,
    entries ∙ ap (λ (r : List ℕ). entries_made (submission (state_of c) r (leaf_next c))) at,
  );
}
