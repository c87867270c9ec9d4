-- The links that a server took, and what it answers of their sessions.
use Rattle.std.proofs.Common.{◌≡◌, ◌≢◌, ℕ, suc, ◌≤◌, List, [], ◌∷◌, ◌++◌, Option, Some, None, Result, Ok, Err, refl, ap, sym, subst, ◌∙◌, append_assoc, append-nil, option_map, ◌+◌, ◌-◌, arith, inl, inr}
use Rattle.sporc_serve.proofs.Common.{NetTold, StreamTold, Genesis, MAX_TICKETS, SessionEnd, Worn, Memory, Unkept, ServerStand, IsEnd, Visit, visit, came, handed_back, AreFrom, AreBehind, NoneUnkept}
use Rattle.sporc_serve.proofs.Common.{TellsOf, TookLinks, with_end, AreShutBehind, AppendsItem, TakesItem, IsFalseIfTold, IsTrueIfTold, LeavesNet, ServeFault}
use Rattle.sporc_outside.proofs.Growing.{rose_then}
use Rattle.sporc_outside.proofs.Returning.{shut_more, shut_none}
use Rattle.sporc_serve.specs.declared.fault.ServeFault.TheVariants as faults

-- a session that ended for want of a ticket did so for want of the last
abbrev pub IsLastTicket : SessionEnd → Type 0
IsLastTicket (Worn ticket) = ticket ≡ MAX_TICKETS
IsLastTicket _ = Unit {0}

pub last_ticket : (g : Genesis) (a b : ServerStand) (end : SessionEnd) → IsEnd g a b end → IsLastTicket end
last_ticket g a b (Worn ticket) h = h.2.3
last_ticket g a b end h = tt

-- what was told of the rest
rest_told : (end : SessionEnd) (rest : Result (Unit {0}) ServeFault) → with_end rest end ≢ Err faults.Unkept → end ≢ Unkept → rest ≢ Err faults.Unkept
rest_told end (Err faults.Unkept) told other is = told refl
rest_told end rest told other is = absurd cc

tells_more : (n f0 f1 f2 : ℕ) (b a : StreamTold) (end : SessionEnd) (vs : List Visit) (rest : Result (Unit {0}) ServeFault) → f0 ≤ f1 → TellsOf n f1 f2 vs rest
    → IsLastTicket end → TellsOf (suc n) f0 f2 (record { before = b; after = a; end = end } ∷ vs) (with_end rest end)
tells_more n f0 f1 f2 b a end vs (Err faults.Unkept) le h last = inr h
tells_more n f0 f1 f2 b a Unkept vs rest le h last = inl refl
tells_more n f0 f1 f2 b a end vs (Err (faults.Worn t)) le h last = (h.0, inr h.1)
tells_more n f0 f1 f2 b a end vs (Err faults.ListenFault) le h last = rose_then f0 f1 f2 le h
tells_more n f0 f1 f2 b a (Worn t) vs rest le h last = (last, inl refl)
tells_more n f0 f1 f2 b a Memory vs rest le h last = tt
tells_more n f0 f1 f2 b a end vs (Err faults.Memory) le h last = tt
tells_more n f0 f1 f2 b a end vs (Ok done) le h last = (ap suc h.0, ((λ w. elim w [ inl e ↦ absurd cc | inr e ↦ absurd cc ]), h.1))

-- where none is told to be unkept, none was
kept_more : (b a : StreamTold) (end : SessionEnd) (vs : List Visit) (rest : Result (Unit {0}) ServeFault) → (rest ≢ Err faults.Unkept → NoneUnkept vs)
    → with_end rest end ≢ Err faults.Unkept → NoneUnkept (record { before = b; after = a; end = end } ∷ vs)
kept_more b a Unkept vs (Err faults.Unkept) h told = absurd (told refl)
kept_more b a Unkept vs rest h told = absurd (told refl)
kept_more b a end vs rest h told = ((λ e. absurd cc), h (rest_told end rest told (λ e. absurd cc)))

from_more : (old mid new : Option (List StreamTold)) (l : StreamTold) (ls : List StreamTold) → TakesItem old mid l → AreFrom mid new ls → AreFrom old new (l ∷ ls)
from_more None mid new l ls first more = tt
from_more (Some o) None new l ls first more = absurd first
from_more (Some o) (Some m) None l ls first more = more
from_more (Some o) (Some m) (Some n) l ls first more = first ∙ ap (λ (t : List StreamTold). l ∷ t) more

from_none : (old : Option (List StreamTold)) → AreFrom old old []
from_none None = tt
from_none (Some ls) = refl

behind_more : (old mid new : Option (List StreamTold)) (l : StreamTold) (ls : List StreamTold) → AreBehind old mid ls → AppendsItem mid new l → AreBehind old new (ls ++ l ∷ [])
behind_more None mid new l ls first more = tt
behind_more (Some o) None new l ls first more = absurd first
behind_more (Some o) (Some m) None l ls first more = more
behind_more (Some o) (Some m) (Some n) l ls first more = more ∙ ap (λ (t : List StreamTold). t ++ l ∷ []) first ∙ append_assoc o ls (l ∷ [])

behind_none : (old : Option (List StreamTold)) → AreBehind old old []
behind_none None = tt
behind_none (Some ls) = sym (append-nil ls)

-- what is told where the net's count rose before too
tells_before : (n x y z : ℕ) (vs : List Visit) (result : Result (Unit {0}) ServeFault) → x ≤ y → TellsOf n y z vs result → TellsOf n x z vs result
tells_before n x y z vs (Err faults.ListenFault) le h = rose_then x y z le h
tells_before n x y z vs result le h = h

-- no link came
pub links_none : (old new : NetTold) (n : ℕ) (result : Result (Unit {0}) ServeFault) → new.coming ≡ old.coming → new.returned ≡ old.returned
    → TellsOf n old.faults new.faults [] result → TookLinks old new n result []
links_none old new n result coming returned tells = record {
  came_open = tt;
  coming = subst (λ (c : Option (List StreamTold)). AreFrom old.coming c []) (sym coming) (from_none old.coming);
  returned = subst (λ (c : Option (List StreamTold)). AreBehind old.returned c []) (sym returned) (behind_none old.returned);
  result_is = tells;
  kept = λ told. tt;
}

-- a link came before the others, and was handed back behind them
pub links_more : (old mid low new : NetTold) (n m : ℕ) (b a : StreamTold) (end : SessionEnd) (vs : List Visit) (result result' : Result (Unit {0}) ServeFault)
    → TookLinks mid low n result vs → IsLastTicket end → TakesItem old.coming mid.coming b → IsFalseIfTold b.is_shut → mid.returned ≡ old.returned → old.faults ≤ mid.faults
    → new.coming ≡ low.coming → AppendsItem low.returned new.returned a → new.faults ≡ low.faults → m ≡ suc n → result' ≡ with_end result end
    → TookLinks old new m result' (visit b a end ∷ vs)
links_more old mid low new n m b a end vs result result' links last took is_open back le coming returned count size ended = record {
  came_open = (is_open, links.came_open);
  coming = from_more old.coming mid.coming new.coming b (came vs) took
      (subst (λ (x : Option (List StreamTold)). AreFrom mid.coming x (came vs)) (sym coming) links.coming);
  returned = behind_more old.returned low.returned new.returned a (handed_back vs)
      (subst (λ (x : Option (List StreamTold)). AreBehind x low.returned (handed_back vs)) back links.returned) returned;
  result_is = subst (λ (z : ℕ × ℕ × Result (Unit {0}) ServeFault). TellsOf z.0 old.faults z.1 (visit b a end ∷ vs) z.2) (λ i. (sym size i, sym count i, sym ended i))
      (tells_more n old.faults mid.faults low.faults b a end vs result le links.result_is last);
  kept = λ told. kept_more b a end vs result links.kept (λ is. told (ended ∙ is));
}

-- and so it is of the net before it listened
pub links_before : (old mid new : NetTold) (n : ℕ) (result : Result (Unit {0}) ServeFault) (vs : List Visit) → TookLinks mid new n result vs → mid.coming ≡ old.coming
    → mid.returned ≡ old.returned → old.faults ≤ mid.faults → TookLinks old new n result vs
links_before old mid new n result vs links coming returned le = record {
  came_open = links.came_open;
  coming = subst (λ (x : Option (List StreamTold)). AreFrom x new.coming (came vs)) coming links.coming;
  returned = subst (λ (x : Option (List StreamTold)). AreBehind x new.returned (handed_back vs)) returned links.returned;
  result_is = tells_before n old.faults mid.faults new.faults vs result le links.result_is;
  kept = links.kept;
}

-- ---- what is left of the net

abbrev one_less : Option ℕ → Option ℕ
one_less n = option_map (λ n. n - 1) n

less_again : (n : Option ℕ) → one_less (option_map (λ n. n + 1) n) ≡ n
less_again None = refl
less_again (Some n) = ap (λ (m : ℕ). Some m) (omega arith)

-- no link came of it
pub leaves_none : (old new : NetTold) → new.returned ≡ old.returned → new.asked ≡ old.asked → new.out ≡ old.out → old.faults ≤ new.faults → LeavesNet old new
leaves_none old new returned asked out kept = (shut_none old.returned new.returned returned, asked, out, kept)

-- a link came of it before the others, and was taken back shut behind them
pub leaves_more : (old mid low new : NetTold) (l : StreamTold) → mid.returned ≡ old.returned → mid.asked ≡ old.asked → mid.out ≡ option_map (λ n. n + 1) old.out
    → old.faults ≤ mid.faults → LeavesNet mid low → AppendsItem low.returned new.returned l → IsTrueIfTold l.is_shut → new.asked ≡ low.asked
    → low.out ≡ option_map (λ n. n + 1) new.out → new.faults ≡ low.faults → LeavesNet old new
leaves_more old mid low new l back asked more kept rest returned shut asked' less kept' =
    let rest_kept = rest.3 in (
      shut_more old.returned low.returned new.returned l (subst (λ (r : Option (List StreamTold)). AreShutBehind r low.returned) back rest.0) returned shut,
      asked' ∙ rest.1 ∙ asked,
      sym (less_again new.out) ∙ ap one_less (sym less ∙ rest.2 ∙ more) ∙ less_again old.out,
      omega (arith, kept, rest_kept, kept'),
    )
