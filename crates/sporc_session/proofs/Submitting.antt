-- Submissions.
use Rattle.std.proofs.Common.{◌≡◌, ◌≢◌, ◌+◌, ℕ, List, [], ◌∷◌, ◌++◌, length, map, take, Option, None, Some, Ok, Err, refl, sym, ap, ◌∙◌, subst, append_assoc, arith, append-nil}
use Rattle.sporc_session.proofs.Common.{take_all, ◌<◌, Result, IfOk, IfSome, Rose, AppendsItem, AppendsItems, MAX_BODY, Known, Pass, Worn, known_of, SubmitFault, Submitted, submission}
use Rattle.sporc_session.proofs.Common.{submission_added, Answered, IsCall, SubmitsAt, Item, Happened, Past, client_of, items_of, SessionFault, KnowsMore, IsWornFault, SubmitCause, SubmitGives, Submission, Drew, DrewFew}
use Rattle.sporc_session.proofs.Common.{SubmittedOne, IsPoint, made_of, plain_of}
use Rattle.sporc_base.specs.Outcome.{GivesUnless}
use Rattle.sporc_outside.proofs.Growing.{word_drawn, words_none}
use Rattle.sporc_client.specs.declared.fault.SubmitFault.TheVariants as submits
use Rattle.sporc_client.specs.declared.submitted.Submitted.TheVariants as submitted
use Rattle.sporc_session.specs.declared.fault.SessionFault.TheVariants as faults
use Rattle.sporc_session.proofs.EntryLengths.{submitted_len}
use Rattle.sporc_session.proofs.Knowing.{call_client, call_drop, call_knows, call_later, call_point, knows_none}
use Rattle.sporc_session.proofs.Taking.{none_point}
use Rattle.sporc_session.proofs.Telling.{Replied, WornAs, replied}

-- two words that were put into a buffer, one after the other
pub both_put : (half both first second : List ℕ) → length first ≡ 32 → length second ≡ 32 → length both ≡ 64
    → take (0 + length first) half ≡ first → take (32 + length second) both ≡ take 32 half ++ second → both ≡ first ++ second
both_put half both first second one two all put put' =
    let size : 32 ≡ 0 + length first = omega (arith, one) in
    let front : take 32 half ≡ first = ap (λ (n : ℕ). take n half) size ∙ put in
    sym (take_all (32 + length second) both (omega (arith, two, all))) ∙ put' ∙ ap (λ (l : List ℕ). l ++ second) front

-- two words were drawn, one after the other
words_drawn : (u v w : Option (List (List ℕ))) (first second : List ℕ) → AppendsItem u v first → AppendsItem v w second → AppendsItems u w (first ∷ second ∷ [])
words_drawn None v w first second one two = tt
words_drawn (Some given) None w first second one two = absurd one
words_drawn (Some given) (Some more) None first second one two = two
words_drawn (Some given) (Some more) (Some all) first second one two = two ∙ ap (λ (words : List (List ℕ)). words ++ second ∷ []) one ∙ append_assoc given (first ∷ []) (second ∷ [])

pub drew_both : (u v w : Option (List (List ℕ))) (first second random : List ℕ) → AppendsItem u v first → AppendsItem v w second → random ≡ first ++ second → Drew u w random
drew_both u v w first second random one two is = (first, second, is, words_drawn u v w first second one two)

-- the chance failed at the first word, or at the second
pub drew_none : (u v : Option (List (List ℕ))) → v ≡ u → DrewFew u v faults.ChanceFault
drew_none u v same = (refl, ([], omega arith, subst (λ (words : Option (List (List ℕ))). AppendsItems u words []) (sym same) (words_none u)))

pub drew_one : (u v w : Option (List (List ℕ))) (first : List ℕ) → AppendsItem u v first → w ≡ v → DrewFew u w faults.ChanceFault
drew_one u v w first one same = (refl, (first ∷ [], omega arith, subst (λ (words : Option (List (List ℕ))). AppendsItems u words (first ∷ [])) (sym same) (word_drawn u v first one)))

-- an answer other than out of memory is the definition's
given : (answer answer' : Result Submitted SubmitFault) → answer ≢ Err submits.Memory → GivesUnless submits.Memory (λ s. s) answer answer' → answer ≡ answer'
given (Ok s) answer' other h = sym h
given (Err fault) answer' other h = sym (h (λ is. other (ap Err is)))

abbrev SubmitCall : Known Item → List ℕ → Known Item → Result Submitted SubmitFault → Type 0
SubmitCall k random k' answer = (before : Past) × IsCall k k' before (submission_added k.number answer) × SubmitsAt before random answer

module _ (k : Known Item) (w w' : Option (List (List ℕ))) (n n' : ℕ) (first second : List ℕ) (zero' : k.number ≡ 0) (drew : AppendsItems w w' (first ∷ second ∷ [])) where
  kept : (k' : Known Item) (answer : Result Submitted SubmitFault) → answer ≢ Err submits.Memory → SubmitCall k (first ++ second) k' answer → Submission k k' (first ∷ second ∷ []) answer
  kept k' answer other h =
      let before = h.0 in
      let events = submission_added 0 answer in
      let c : IsCall k k' before events = subst (λ (n : ℕ). IsCall k k' before (submission_added n answer)) zero' h.1 in
      record {
        point = length (items_of before);
        later = call_later k k' before events c;
        first = first;
        second = second;
        knows = call_knows k k' before events c;
        fits = (
          subst (λ (n : ℕ). IsPoint k'.seen k.start n k.mine (length (items_of before))) zero' (call_point k k' before events c),
          (client_of before, h.2.leaf, call_client k k' before events c, h.2.may, given answer (submission (client_of before) (first ++ second) h.2.leaf) other h.2.gives),
          ([], call_drop k k' before events c ∙ sym (append-nil (map Happened events))),
        );
        drawn_are = refl;
      }

  stops : (k' : Known Item) (fault : SubmitFault) → fault ≢ submits.Memory → SubmitCall k (first ++ second) k' (Err fault) → SubmitGives k' (first ∷ second ∷ []) fault
  stops k' fault other h = record {
    point = length (items_of h.0);
    client = client_of h.0;
    first = first;
    second = second;
    leaf = h.2.leaf;
    is_point = none_point k k' h.0 zero' h.1;
    is_client = call_client k k' h.0 [] h.1;
    may = h.2.may;
    drawn_are = refl;
    gives = h.2.gives other;
  }

  submitted_by : (answer : Result Submitted SubmitFault) (k' : Known Item) → SubmitCall k (first ++ second) k' answer → SubmittedOne k k' w w' n n' (made_of answer)
  submitted_by (Ok (submitted.Entry entry)) k' h = (Ok (submitted.Entry entry), first ∷ second ∷ [], kept k' (Ok (submitted.Entry entry)) (λ e. absurd cc) h, drew, refl)
  submitted_by (Err submits.HistoryFull) k' h = (first ∷ second ∷ [], omega arith, drew, call_knows k k' h.0 [] h.1, stops k' submits.HistoryFull (λ e. absurd cc) h)
  submitted_by (Err submits.JournalFull) k' h = (first ∷ second ∷ [], omega arith, drew, call_knows k k' h.0 [] h.1, stops k' submits.JournalFull (λ e. absurd cc) h)
  submitted_by (Err (submits.Exhausted next)) k' h = (first ∷ second ∷ [], omega arith, drew, call_knows k k' h.0 [] h.1, stops k' (submits.Exhausted next) (λ e. absurd cc) h)
  submitted_by (Err submits.LeafFault) k' h = (first ∷ second ∷ [], omega arith, drew, call_knows k k' h.0 [] h.1, stops k' submits.LeafFault (λ e. absurd cc) h)
  submitted_by (Err submits.Memory) k' h = (first ∷ second ∷ [], omega arith, drew, call_knows k k' h.0 [] h.1, tt)
  submitted_by answer k' h = (answer, first ∷ second ∷ [], kept k' answer (λ e. absurd cc) h, drew, tt)

pub submit_told : {k : Known Item} (random : List ℕ) (reply : Result (Answered (Result Submitted SubmitFault)) (Pass Item × Worn)) {plain : Result (Result Submitted SubmitFault) SessionFault × Pass Item} → plain ≡ plain_of reply
    → IfOk reply (λ r. SubmitCall k random (known_of r.pass) r.answer) → WornAs k reply → Replied (λ p answer. SubmitCall k random (known_of p) answer) k plain.1 plain.0
submit_told {k} random = replied (λ p answer. SubmitCall k random (known_of p) answer)

pub submitted_one : (k k' : Known Item) (answer : Result Submitted SubmitFault) (result : Result (Option (List ℕ)) SessionFault) (w w' : Option (List (List ℕ))) (n n' : ℕ) (random : List ℕ) → k.number ≡ 0
    → result ≡ made_of answer → Drew w w' random → SubmitCall k random k' answer → SubmittedOne k k' w w' n n' result
submitted_one k k' answer result w w' n n' random zero' is drew call =
    subst (SubmittedOne k k' w w' n n') (sym is) (submitted_by k w w' n n' drew.0 drew.1 zero' drew.3 answer k' (subst (λ (s : List ℕ). SubmitCall k s k' answer) drew.2 call))

-- no ticket was left
pub submitted_none : (k k' : Known Item) (w w' : Option (List (List ℕ))) (n n' : ℕ) (random : List ℕ) (fault : SessionFault) → Drew w w' random → KnowsMore k k' [] → IsWornFault fault → SubmittedOne k k' w w' n n' (Err fault)
submitted_none k k' w w' n n' random fault drew knows is =
    let drawn = drew.0 ∷ drew.1 ∷ [] in
    (drawn, omega arith, drew.3, knows, subst (SubmitCause k' drawn n n') (sym is) refl)

-- the chance failed before both words were drawn
pub not_drawn : (k : Known Item) (u v : Option (List (List ℕ))) (n n' : ℕ) (fault : SessionFault) → DrewFew u v fault → Rose n n' → SubmittedOne k k u v n n' (Err fault)
not_drawn k u v n n' fault few rose = subst (λ (f : SessionFault). SubmittedOne k k u v n n' (Err f)) (sym few.0) (few.1.0, few.1.1, few.1.2, knows_none k, rose)

-- ---- the entry that was made fits into a message

abbrev pub IsShort : Result (Option (List ℕ)) SessionFault → Type 0
IsShort result = IfOk result (λ made. IfSome made (λ entry. length entry < MAX_BODY))

short_by : (k : Known Item) (random : List ℕ) (answer : Result Submitted SubmitFault) (k' : Known Item) → SubmitCall k random k' answer → IsShort (made_of answer)
short_by k random (Ok (submitted.Entry entry)) k' h = submitted_len h.0 k.number entry h.1.legal.allowed
short_by k random (Err submits.Memory) k' h = tt
short_by k random _ k' h = tt

pub submitted_short : (k k' : Known Item) (random : List ℕ) (answer : Result Submitted SubmitFault) (result : Result (Option (List ℕ)) SessionFault) → result ≡ made_of answer → SubmitCall k random k' answer → IsShort result
submitted_short k k' random answer result is call = subst IsShort (sym is) (short_by k random answer k' call)
