-- What a call of a shared client comes to, by what the lock and the client tell.
use Rattle.std.proofs.Common.{◌≡◌, ℕ, ◌+◌, ◌≤◌, ◌==◌, List, [], ◌∷◌, ◌++◌, length, map, drop, sym, ap, ◌∙◌, subst, arith, Result, Ok, Err}
use Rattle.sporc_shared.proofs.Common.{append-nil, length-map, map-append, adding, first_known, seeing, added, Logged, maker_of, submission_added, Item, Opened, Happened, Past, IsAllowed, by_of}
use Rattle.sporc_shared.proofs.Common.{items_of, with_events}
use Rattle.std.specs.List.{filter}
use Rattle.std.specs.Prelude.{All}
use Rattle.std.proofs.lemmas.List.Elements.{All-cons, All-nil}
use Rattle.sporc_base.specs.Lists.{StartsWith}
use Rattle.sporc_turn.specs.declared.known.Joined.{Joined}
use Rattle.sporc_turn.specs.declared.known.Known.{Known}
use Rattle.sporc_turn.specs.Log.{Agrees, Extends, own}
use Rattle.sporc_turn.proofs.Lists.{drop_length, drop_seen, starts_more, starts_self}
use Rattle.sporc_client.specs.declared.fault.SubmitFault.{SubmitFault}
use Rattle.sporc_client.specs.declared.submitted.Submitted.{Submitted}
use Rattle.sporc_client.specs.declared.submitted.Submitted.TheVariants as submitted
use Rattle.sporc_shared.specs.Calls.{IsCall}

pub items_more : (past : Past) (events : List Logged) → items_of (with_events past events) ≡ items_of past ++ map Happened events
items_more past events = ap (λ (items : List Item). Opened past.opening past.first_leaf ∷ items) (map-append Happened past.log events)

pub length_items : (past : Past) → length (items_of past) ≡ length past.log + 1
length_items past = let all = length-map past.log Happened in omega arith

pub with_none : (past : Past) → past ≡ with_events past []
with_none past = ap (λ (log : List Logged). record past { log = log }) (sym (append-nil past.log))

-- ---- the events of a call have the number of its pass

pub all_none : (n : ℕ) → All (λ (i : Item). by_of i ≡ n) []
all_none n = All-nil (λ (i : Item). by_of i ≡ n)

all_one : (event : Logged) (n : ℕ) → maker_of event ≡ n → All (λ (i : Item). by_of i ≡ n) (Happened event ∷ [])
all_one event n is = All-cons (λ (i : Item). by_of i ≡ n) (Happened event) [] is (all_none n)

pub added_by : {X F : Type 0} (answer : Result X F) (event : Logged) (n : ℕ) → maker_of event ≡ n → All (λ (i : Item). by_of i ≡ n) (map Happened (added answer event))
added_by (Ok x) event n is = all_one event n is
added_by (Err fault) event n is = all_none n

pub submission_by : (answer : Result Submitted SubmitFault) (by n : ℕ) → by ≡ n → All (λ (i : Item). by_of i ≡ n) (map Happened (submission_added by answer))
submission_by (Ok (submitted.Dropped fault)) by n is = all_one _ n is
submission_by (Ok (submitted.Entry entry)) by n is = all_one _ n is
submission_by _ by n is = all_none n

-- ---- a call

-- what `give` requires after a call
pub call_extends : (k held : Known Item) (before after : Past) (events : List Logged) → held ≡ seeing k (items_of before) → after ≡ with_events before events
    → All (λ (i : Item). by_of i ≡ k.number) (map Happened events) → Extends by_of held (items_of after)
call_extends k held before after events is became mine =
    subst (λ (h : Known Item). Extends by_of h (items_of after)) (sym is) (record { more = map Happened events; log_is = ap items_of became ∙ items_more before events; by_this = mine })

pub call_is : (k held k' : Known Item) (before after : Past) (events : List Logged) → held ≡ seeing k (items_of before) → after ≡ with_events before events
    → Agrees by_of k (items_of before) → k' ≡ adding held (items_of after) → Agrees by_of k' (items_of after) → IsAllowed after → IsCall k k' before events
call_is k held k' before after events is became found known agrees allowed =
    let new : List Item = items_of (with_events before events) in
    let log : items_of after ≡ new = ap items_of became in
    let dropped : drop (length (items_of before)) new ≡ map Happened events = ap (drop (length (items_of before))) (items_more before events) ∙ drop_seen (items_of before) (map Happened events) in
    let known' : k' ≡ record k { seen = new; mine = k.mine ++ map Happened events } =
    known
    ∙ ap (adding held) log
    ∙ ap (λ (h : Known Item). adding h new) is
    ∙ ap (λ (m : List Item). record k { seen = new; mine = k.mine ++ m }) dropped in
    let agrees' : Agrees by_of k' new = subst (Agrees by_of k') log agrees in
    record {
      known = known';
      legal = record {
        allowed = subst IsAllowed became allowed;
        begins = subst (λ (l : List Item). StartsWith l k.seen) (sym (items_more before events)) (starts_more (items_of before) (map Happened events) k.seen found.begins);
        mine_are = subst (λ (h : Known Item). own by_of h.number h.start new ≡ h.mine) known' agrees'.mine;
      };
      found = found;
      agrees = agrees';
    }

pub call_front : (held k' : Known Item) (after : Past) (events : ℕ) → k' ≡ adding held (items_of after) → events ≡ length after.log → events + 1 ≡ length k'.seen
call_front held k' after events known is = omega (arith, ap (λ (h : Known Item). length h.seen) known, length_items after)

-- ---- a call that leaves the client as it is

pub left_extends : (k held : Known Item) (now : Past) → held ≡ seeing k (items_of now) → Extends by_of held (items_of now)
left_extends k held now is = call_extends k held now now [] is (with_none now) (all_none k.number)

pub left_is : (k held k' : Known Item) (now : Past) → held ≡ seeing k (items_of now) → Agrees by_of k (items_of now) → k' ≡ adding held (items_of now) → Agrees by_of k' (items_of now) → IsAllowed now
    → IsCall k k' now []
left_is k held k' now is found known agrees allowed = call_is k held k' now now [] is (with_none now) found known agrees allowed

-- what the first pass knows
pub agrees_first : (k : Known Item) (log : List Item) → k ≡ first_known log → Agrees by_of k k.seen
agrees_first k log is = subst (λ (h : Known Item). Agrees by_of h h.seen) (sym is) (record {
  begins = starts_self log;
  whole = omega arith;
  mine = ap (filter (λ i. by_of i == 0)) (drop_length log);
  joined = λ _. All-nil (λ (j : Joined Item). own by_of j.number (length log) log ≡ j.items);
  numbers = λ _. subst (λ (l : List Item). All (λ i. by_of i ≤ 0) l) (sym (drop_length log)) (All-nil (λ (i : Item). by_of i ≤ 0));
  all_back = λ _ _ n other low. absurd (other (omega (arith, low)));
})
