-- The leaves of a client's submissions are different ones.
use Rattle.std.proofs.Common.{◌≡◌, ℕ, zero, suc, ◌+◌, ◌<◌, ◌≤◌, inl, inr, List, [], ◌∷◌, refl, ap, arith, Option, None, Some, ◌^◌, Bool, true, false, cond, ◌++◌, sym, ◌∙◌, subst}
use Rattle.std.proofs.Common.{length-append, Result, Ok, Err, ◌-◌, length, append-nil, filter_map, option_to_list}
use Rattle.sporc_client.proofs.Common.{slice_get, cons_option, Rise, StandOnce, IfSome, IsSomeAnd, ◌==◌, result_ok, eq-eqb, eqb-false, eqb-true, height_of, DrawFaults, Draws, LeavesModel}
use Rattle.sporc_client.proofs.Common.{LeafFault, SignerModel, LineModel, client_model, plain_of, ClientInvariant, AreInOrder, ClientModel, state_of, IsDraw, MayDraw, at_hand, drawn}
use Rattle.sporc_client.proofs.Common.{leaf_for, PlainClient, WorkspaceModel, AreUses, IsReopening, LeafSupply, LeafUse, Uses, leaves_used, filter_map-append, first_leaf_of, kept_count}
use Rattle.sporc_client.proofs.Common.{leaf_in, leaves_of, Logged, Submit, Opening, submission_added, SubmitFault, IsUse, leaf_given, supply_of, Submitted}
use Rattle.sporc_bytes.proofs.Ascending.{Ascends, ascends_below}
use Rattle.sporc_outside.specs.LeafDisk.{DiskTold}
use Rattle.lms_leaf.specs.declared.faults.LeafFault.TheVariants.{Exhausted, DiskFault}
use Rattle.sporc_client.specs.declared.submitted.Submitted.TheVariants as submitted

-- ---- numbers in ascending order

climb_from : (first : ℕ) (ns : List ℕ) (i n : ℕ) → Ascends first ns → slice_get ns i ≡ Some n → first ≤ n
climb_from first [] i n climb at = absurd cc
climb_from first (m ∷ ns) zero n climb at = let same : m ≡ n = cc in omega (arith, climb.0, same)
climb_from first (m ∷ ns) (suc i) n climb at = omega (arith, climb.0, climb_from (m + 1) ns i n climb.1 at)

climb_once : (first : ℕ) (ns : List ℕ) (i j n : ℕ) → Ascends first ns → slice_get ns i ≡ Some n → slice_get ns j ≡ Some n → i ≡ j
climb_once first [] i j n climb at at' = absurd cc
climb_once first (m ∷ ns) zero zero n climb at at' = refl
climb_once first (m ∷ ns) zero (suc j) n climb at at' = let same : m ≡ n = cc in absurd (omega (arith, same, climb_from (m + 1) ns j n climb.1 at'))
climb_once first (m ∷ ns) (suc i) zero n climb at at' = let same : m ≡ n = cc in absurd (omega (arith, same, climb_from (m + 1) ns i n climb.1 at))
climb_once first (m ∷ ns) (suc i) (suc j) n climb at at' = ap suc (climb_once (m + 1) ns i j n climb.1 at at')

-- ---- those of a log

rise_climbs : (first end : ℕ) (ns : List ℕ) → Rise first end ns → Ascends first ns
rise_climbs first end [] rise = tt
rise_climbs first end (n ∷ ns) rise = (rise.0, rise_climbs (n + 1) end ns rise.2)

pub rise_once : (first end : ℕ) (ns : List ℕ) → Rise first end ns → StandOnce ns
rise_once first end ns rise = λ i j n at at'. climb_once first ns i j n (rise_climbs first end ns rise) at at'

-- ---- those of all calls

-- the least leaf that can still sign
least : Option ℕ → ℕ → ℕ
least (Some kept) next = kept
least None next = next

-- a kept ticket is one that was drawn
abbrev WasDrawn : Option ℕ → ℕ → Type 0
WasDrawn (Some kept) next = kept < next
WasDrawn None next = Unit {0}

least-le : (ticket : Option ℕ) (next : ℕ) → WasDrawn ticket next → least ticket next ≤ next
unfolding least
least-le (Some kept) next was = omega (arith, was)
least-le None next was = omega arith

-- by the leaf that a call gave, how the least one before it stands to the least one after it
abbrev Rises : ℕ → Option ℕ → ℕ → Type 0
Rises low (Some leaf) high = (low ≤ leaf) × (leaf < high)
Rises low None high = low ≤ high

-- what a call does to a supply whose ticket was drawn
record Goes (ticket : Option ℕ) (next : ℕ) (leaf : Option ℕ) (after : LeafSupply) : Type 0 where
  drawn : WasDrawn after.ticket after.next
  rises : Rises (least ticket next) leaf (least after.ticket after.next)

use_goes : (ticket : Option ℕ) (next : ℕ) (leaf : Option ℕ) (after : LeafSupply) → WasDrawn ticket next → Uses ticket next leaf after → Goes ticket next leaf after
unfolding least
use_goes (Some kept) next (Some leaf) after was did = rw did.1 (record { drawn = tt; rises = (omega (arith, did.0), omega (arith, was, did.0)) })
use_goes None next (Some leaf) after was did = rw did.1 (record { drawn = tt; rises = (omega (arith, did.0), omega (arith, did.0)) })
use_goes (Some kept) next None after was did = rw did (record { drawn = was; rises = omega arith })
use_goes None next None after was (inl did) = rw did (record { drawn = tt; rises = omega arith })
use_goes None next None after was (inr did) = rw did (record { drawn = omega arith; rises = omega arith })

-- and to one that is opened again
opening_goes : (s : LeafSupply) (call : LeafUse) → WasDrawn s.ticket s.next → IsReopening s call → Goes s.ticket s.next call.leaf call.after
unfolding least
opening_goes s call was is =
    rw is.none (record { drawn = rw is.given_up tt; rises = rw is.given_up (omega (arith, is.forward, least-le s.ticket s.next was)) })

climb_on : (leaf : Option ℕ) (low high : ℕ) (ns : List ℕ) → Rises low leaf high → Ascends high ns → Ascends low (cons_option leaf ns)
climb_on (Some leaf) low high ns rises climb = (rises.0, ascends_below (leaf + 1) high ns (omega (arith, rises.1)) climb)
climb_on None low high ns rises climb = ascends_below low high ns rises climb

uses_climb : (s : LeafSupply) (uses : List LeafUse) → AreUses s uses → WasDrawn s.ticket s.next → Ascends (least s.ticket s.next) (leaves_used uses)
uses_climb s [] are was = tt
uses_climb s (call ∷ uses) are was =
    let goes : Goes s.ticket s.next call.leaf call.after = elim (are.0) [
      | inl is ↦ use_goes s.ticket s.next call.leaf call.after was is
      | inr is ↦ opening_goes s call was is
    ] in
    climb_on call.leaf (least s.ticket s.next) (least call.after.ticket call.after.next) (leaves_used uses) goes.rises (uses_climb call.after uses are.1 goes.drawn)

pub uses_once : (next : ℕ) (uses : List LeafUse) → AreUses (record { next = next; ticket = None }) uses → StandOnce (leaves_used uses)
uses_once next uses are = λ i j leaf at at'.
    let s : LeafSupply = record { next = next; ticket = None } in
    climb_once (least None next) (leaves_used uses) i j leaf (uses_climb s uses are tt) at at'

-- a call that leaves the supply as it was
pub unused : (ticket : Option ℕ) (next : ℕ) → Uses ticket next None (record { next = next; ticket = ticket })
unused (Some kept) next = refl
unused None next = inl refl

-- ---- the leaf that a draw gave, and the order of leaves

-- ---- what a draw answered is read off the leaf numbers

module _ {D : Type 0} (disk_told : D → DiskTold) (old new : LeavesModel D) where
  abbrev by_tests : Bool → Bool → Result ℕ LeafFault
  by_tests full faulty = cond full (Err (Exhausted old.next)) (cond faulty (Err DiskFault) (Ok old.next))

  pub drawn_is : (r : Result ℕ LeafFault) → Draws disk_told old r new → DrawFaults disk_told old r new → drawn old new ≡ r
  drawn_is (Ok leaf) d f = go (old.next == old.leaf_count) new.faulty refl refl
    where
      go : (full faulty : Bool) → (old.next == old.leaf_count) ≡ full → new.faulty ≡ faulty → by_tests full faulty ≡ Ok leaf
      go true faulty e g = absurd (omega (arith, eqb-true old.next old.leaf_count e, d.given, d.within))
      go false true e g = let no : Ok leaf ≡ Err DiskFault = f.faulty.0 g in absurd cc
      go false false e g = ap Ok (sym d.given)
  drawn_is (Err (Exhausted n)) d f =
      let both = (f.exhausted n).0 refl in
      go (old.next == old.leaf_count) new.faulty refl both.0 both.1
    where
      go : (full faulty : Bool) → (old.next == old.leaf_count) ≡ full → old.next ≡ old.leaf_count → n ≡ old.next → by_tests full faulty ≡ Err (Exhausted n)
      go true faulty e all is = ap (λ (k : ℕ). Err (Exhausted k)) (sym is)
      go false faulty e all is = absurd (eqb-false old.next old.leaf_count e all)
  drawn_is (Err DiskFault) d f = go (old.next == old.leaf_count) new.faulty refl refl
    where
      go : (full faulty : Bool) → (old.next == old.leaf_count) ≡ full → new.faulty ≡ faulty → by_tests full faulty ≡ Err DiskFault
      go true faulty e g = let no : Err DiskFault ≡ Err (Exhausted old.next) = (f.exhausted old.next).1 (eqb-true old.next old.leaf_count e, refl) in absurd cc
      go false true e g = refl
      go false false e g = let no : new.faulty ≡ true = f.faulty.1 refl in absurd cc

  -- and so is the leaf that it gave
  pub drawn_at_hand : (r : Result ℕ LeafFault) → Draws disk_told old r new → at_hand None old new ≡ result_ok r
  drawn_at_hand (Ok leaf) d = go (new.next == old.next) refl
    where
      go : (same : Bool) → (new.next == old.next) ≡ same → cond same None (Some old.next) ≡ Some leaf
      go true e = absurd (omega (arith, eqb-true new.next old.next e, d.next))
      go false e = ap Some (sym d.given)
  drawn_at_hand (Err fault) d = ap (λ (same : Bool). cond same None (Some old.next)) (eq-eqb new.next old.next d.next)

  pub is_draw : (r : Result ℕ LeafFault) → Draws disk_told old r new → DrawFaults disk_told old r new → IsDraw disk_told old new
  is_draw r d f =
      let same = sym (drawn_is r d f) in
      record {
        leaf = subst (λ (r : Result ℕ LeafFault). Draws disk_told old r new) same d;
        fault = subst (λ (r : Result ℕ LeafFault). DrawFaults disk_told old r new) same f;
      }

-- what may be drawn, where the leaves are those of the key and a kept ticket has one of them
module _ {D : Type 0} (plain : PlainClient) (old new : LeavesModel D) (all : old.leaf_count ≡ 2 ^ height_of plain.opening.key.lms) (within : old.next ≤ old.leaf_count) where
  drawn_may : MayDraw plain (drawn old new)
  drawn_may = go (old.next == old.leaf_count) new.faulty refl
    where
      go : (full faulty : Bool) → (old.next == old.leaf_count) ≡ full → MayDraw plain (cond full (Err (Exhausted old.next)) (cond faulty (Err DiskFault) (Ok old.next)))
      go true faulty e = eqb-true old.next old.leaf_count e ∙ all
      go false true e = tt
      go false false e = omega (arith, all, within, eqb-false old.next old.leaf_count e)

  leaf_may : (ticket : Option ℕ) → IfSome ticket (λ leaf. leaf < 2 ^ height_of plain.opening.key.lms) → MayDraw plain (leaf_for ticket old new)
  leaf_may (Some leaf) unspent = unspent
  leaf_may None unspent = drawn_may

-- so of a client whose fields hold these
pub client_may : {D : Type 0} {line : LineModel} {signer : SignerModel D} {ticket : Option ℕ} {own : WorkspaceModel} {c : ClientModel D} → ClientInvariant line signer ticket own → client_model line signer ticket own ≡ c
    → (new : LeavesModel D) → signer.leaves.leaf_count ≡ 2 ^ height_of signer.key.lms → signer.leaves.next ≤ signer.leaves.leaf_count → MayDraw (state_of c) (leaf_for c.ticket c.leaves new)
client_may {D} {line = line} {signer = signer} {ticket = ticket} {own = own} known view new all within =
    subst (λ (c : ClientModel D). MayDraw (state_of c) (leaf_for c.ticket c.leaves new)) view
    (subst (λ (plain : PlainClient). MayDraw plain (leaf_for ticket signer.leaves new)) known.state (leaf_may (plain_of signer.key line own) signer.leaves new all within ticket known.unspent))

-- a submission for which no leaf was drawn
pub no_leaf : {D : Type 0} (kept : Option ℕ) (old new : LeavesModel D) (fault : LeafFault) → ((leaf : ℕ) → kept ≡ Some leaf → Err fault ≡ Ok leaf) → (kept ≡ None → drawn old new ≡ Err fault) → leaf_for kept old new ≡ Err fault
no_leaf (Some leaf) old new fault is none = let no = is leaf refl in absurd cc
no_leaf None old new fault is none = none refl

-- ---- the order of leaves

pub rise_end : (first leaf end : ℕ) (ns : List ℕ) → Rise first leaf ns → leaf ≤ end → Rise first end ns
rise_end first leaf end [] rise le = tt
rise_end first leaf end (n ∷ ns) rise le = (rise.0, omega (arith, rise.1, le), rise_end (n + 1) leaf end ns rise.2 le)

pub rise_push : (first leaf end : ℕ) (ns : List ℕ) → Rise first leaf ns → first ≤ leaf → leaf < end → Rise first end (ns ++ leaf ∷ [])
rise_push first leaf end [] rise after within = (after, within, tt)
rise_push first leaf end (n ∷ ns) rise after within = (rise.0, omega (arith, rise.1, within), rise_push (n + 1) leaf end ns rise.2 (omega (arith, rise.1)) within)

-- a leaf that was just drawn comes after all that signed
pub kept_drawn : (first next end leaf : ℕ) (signed : List ℕ) → AreInOrder first next None signed → leaf ≡ next → first ≤ leaf → end ≡ next + 1 → AreInOrder first end (Some leaf) signed
kept_drawn first next end leaf signed order is after more = record {
  base = order.base;
  opened = order.opened;
  all = omega (arith, order.all, more);
  rise = rise_end order.base next end signed order.rise (omega (arith, more));
  kept = record {
    after = omega (arith, order.all, is);
    last = omega (arith, is, more);
    unsigned = rise_end order.base next leaf signed order.rise (omega (arith, is));
  };
}

-- a kept leaf that signed
pub signed_kept : (first end leaf : ℕ) (signed : List ℕ) → AreInOrder first end (Some leaf) signed → AreInOrder first end None (signed ++ leaf ∷ [])
signed_kept first end leaf signed order = record {
  base = order.base;
  opened = order.opened;
  all = omega (arith, order.all, length-append signed (leaf ∷ []));
  rise = rise_push order.base leaf end signed order.kept.unsigned order.kept.after (omega (arith, order.kept.last));
  kept = tt;
}

-- a new client has signed nothing
pub order_begun : (first end : ℕ) → first ≤ end → AreInOrder first end None []
order_begun first end forward = record { base = end; opened = forward; all = omega arith; rise = tt; kept = tt }

-- ---- after a submission

-- the leaf at hand comes after all that signed
module _ {D : Type 0} (disk_told : D → DiskTold) (old new : LeavesModel D) (signed : List ℕ) where
  order_drawn : (r : Result ℕ LeafFault) → AreInOrder old.next_at_open old.next None signed → Draws disk_told old r new → AreInOrder new.next_at_open new.next (result_ok r) signed
  order_drawn (Ok leaf) order d =
      let kept = kept_drawn old.next_at_open old.next new.next leaf signed order d.given d.forward d.next in
      subst (λ (first : ℕ). AreInOrder first new.next (Some leaf) signed) (sym d.next_at_open) kept
  order_drawn (Err fault) order d =
      let same = subst (λ (end : ℕ). AreInOrder old.next_at_open end None signed) (sym d.next) order in
      subst (λ (first : ℕ). AreInOrder first new.next None signed) (sym d.next_at_open) same

  pub order_at_hand : (ticket : Option ℕ) → AreInOrder old.next_at_open old.next ticket signed → ((leaf : ℕ) → ticket ≡ Some leaf → new ≡ old) → (ticket ≡ None → IsDraw disk_told old new)
      → AreInOrder new.next_at_open new.next (at_hand ticket old new) signed
  order_at_hand (Some leaf) order same draw = subst (λ (l : LeavesModel D). AreInOrder l.next_at_open l.next (Some leaf) signed) (sym (same leaf refl)) order
  order_at_hand None order same draw =
      let is = draw refl in
      let d = is.leaf in
      subst (λ (t : Option ℕ). AreInOrder new.next_at_open new.next t signed) (sym (drawn_at_hand disk_told old new (drawn old new) d)) (order_drawn (drawn old new) order d)

-- the leaf, where there is one
pub leaf_there : (P : ℕ → Type 0) (o : Option ℕ) → IsSomeAnd o P → (leaf : ℕ) × (o ≡ Some leaf) × P leaf
leaf_there P None h = absurd h
leaf_there P (Some leaf) h = (leaf, refl, h)

-- ---- the leaf that was next as a log began

rise_lower : (first lower end : ℕ) (ns : List ℕ) → Rise first end ns → lower ≤ first → Rise lower end ns
rise_lower first lower end [] rise le = tt
rise_lower first lower end (n ∷ ns) rise le = (omega (arith, rise.0, le), rise.1, rise.2)

-- what a submission does to the supply of leaves
first_used : (old new : LeafSupply) (leaf : Option ℕ) (count : ℕ) → IsUse old leaf new
    → new.next - (count + length (option_to_list leaf) + kept_count new.ticket) ≡ old.next - (count + kept_count old.ticket)
first_used old new leaf count did = go old.ticket leaf did
  where
    go : (ticket leaf : Option ℕ) → Uses ticket old.next leaf new
        → new.next - (count + length (option_to_list leaf) + kept_count new.ticket) ≡ old.next - (count + kept_count ticket)
    go (Some kept) (Some leaf) did = rw did.1 (omega arith)
    go None (Some leaf) did = rw did.1 (omega arith)
    go (Some kept) None did = rw did (omega arith)
    go None None (inl did) = rw did (omega arith)
    go None None (inr did) = rw did (omega arith)

module _ {D : Type 0} where
  first_is : (c : ClientModel D) (order : AreInOrder c.leaves.next_at_open c.leaves.next c.ticket (leaves_of c.log)) → first_leaf_of c ≡ order.base
  first_is c order = omega (arith, order.all)

  pub rises_from_first : (c : ClientModel D) → AreInOrder c.leaves.next_at_open c.leaves.next c.ticket (leaves_of c.log)
      → Rise (first_leaf_of c) c.leaves.next (leaves_of c.log)
  rises_from_first c order = subst (λ (first : ℕ). Rise first c.leaves.next (leaves_of c.log)) (sym (first_is c order)) order.rise

  pub rises_since_open : (c : ClientModel D) → AreInOrder c.leaves.next_at_open c.leaves.next c.ticket (leaves_of c.log)
      → Rise c.leaves.next_at_open c.leaves.next (leaves_of c.log)
  rises_since_open c order = rise_lower order.base c.leaves.next_at_open c.leaves.next (leaves_of c.log) order.rise order.opened

  pub opened_before : (c : ClientModel D) → AreInOrder c.leaves.next_at_open c.leaves.next c.ticket (leaves_of c.log) → c.leaves.next_at_open ≤ first_leaf_of c
  opened_before c order = omega (arith, order.opened, first_is c order)

  -- it stays, whatever a log without new leaves
  first_over : (leaves : LeavesModel D) (ticket : Option ℕ) (opening : Opening) (log more : List Logged) → leaves_of more ≡ []
      → first_leaf_of {D = D} (record { opening = opening; log = log ++ more; leaves = leaves; ticket = ticket })
      ≡ first_leaf_of {D = D} (record { opening = opening; log = log; leaves = leaves; ticket = ticket })
  first_over leaves ticket opening log more none =
      ap (λ (ns : List ℕ). leaves.next - (length ns + kept_count ticket))
      (filter_map-append leaf_in log more ∙ ap (λ (ns : List ℕ). leaves_of log ++ ns) none ∙ append-nil (leaves_of log))

  -- over the calls that sign nothing
  pub first_leaf-same : (old new : ClientModel D) (more : List Logged) → new ≡ record old { log = old.log ++ more } → leaves_of more ≡ []
      → first_leaf_of new ≡ first_leaf_of old
  first_leaf-same old new more is none = ap first_leaf_of is ∙ first_over old.leaves old.ticket old.opening old.log more none

  -- and over a submission
  pub first_leaf-submitted : (old new : ClientModel D) (by : ℕ) (result : Result Submitted SubmitFault) → new.log ≡ old.log ++ submission_added by result
      → IsUse (supply_of old) (leaf_given result) (supply_of new) → first_leaf_of new ≡ first_leaf_of old
  first_leaf-submitted old new by result log did =
      let signed : leaves_of new.log ≡ leaves_of old.log ++ option_to_list (leaf_given result) =
      ap leaves_of log ∙ filter_map-append leaf_in old.log (submission_added by result) ∙ ap (λ (ns : List ℕ). leaves_of old.log ++ ns) (leaf_added by result) in
      let count : length (leaves_of new.log) ≡ length (leaves_of old.log) + length (option_to_list (leaf_given result)) =
      ap length signed ∙ length-append (leaves_of old.log) (option_to_list (leaf_given result)) in
      ap (λ (n : ℕ). new.leaves.next - (n + kept_count new.ticket)) count ∙ first_used (supply_of old) (supply_of new) (leaf_given result) (length (leaves_of old.log)) did
    where
      leaf_added : (by : ℕ) (r : Result Submitted SubmitFault) → leaves_of (submission_added by r) ≡ option_to_list (leaf_given r)
      leaf_added by (Ok (submitted.Entry bytes)) = one (leaf_in (Submit 0 bytes))
        where
          one : (o : Option ℕ) → filter_map (λ (x : Option ℕ). x) (o ∷ []) ≡ option_to_list o
          one None = refl
          one (Some n) = refl
      leaf_added by r = refl
