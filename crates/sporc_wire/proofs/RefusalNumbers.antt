-- A refusal and its two numbers.
use Rattle.std.proofs.Common.{◌≡◌, ℕ, ◌≤◌, Bool, true, false, cond, eqb, Option, Some, None, refl, sym, ap, ◌∙◌, subst, arith}
use Rattle.sporc_wire.proofs.Common.{◌≢◌, ◌==◌, find, eqb-true, eqb-false, refusal_code_of, refusal_detail_of, plain_refusals}
use Rattle.sporc_member.specs.declared.change.ChangeFault.{ChangeFault}
use Rattle.sporc_member.specs.declared.change.ChangeFault.TheVariants.{NumberUsed}
use Rattle.sporc_base.proofs.ListLemmas.{found_passes}
use Rattle.sporc_member.specs.ChangeFault.{change_fault_code_of, change_fault_with_code, change_faults}
use Rattle.sporc_head.specs.declared.refusal.Refusal.{Refusal}
use Rattle.sporc_head.specs.declared.refusal.Refusal.TheVariants.{Malformed, BadChange, Memory}
use Rattle.sporc_head.specs.HeadChecks.{bad_change}
use Rattle.sporc_wire.specs.Refusals.{refusal_with}

-- the two numbers are the refusal's
pub record HasNumbers (refusal : Refusal) (m n : ℕ) : Type 0 where
  pub code : refusal_code_of refusal ≡ m
  pub detail : refusal_detail_of refusal ≡ n
  pub kind : refusal ≢ Memory

same_refusal : (x r : Refusal) → Some x ≡ Some r → x ≡ r
same_refusal x r e = cc

no_refusal : (r : Refusal) → ◌≡◌ {A = Option Refusal} None (Some r) → ⊥
no_refusal r e = absurd cc

no_detail : (r : Refusal) → (refusal_code_of r ≡ 1 → ⊥) → (refusal_code_of r ≡ 18 → ⊥) → refusal_detail_of r ≡ 0
no_detail (Malformed at) a b = absurd (a refl)
no_detail (BadChange fault) a b = absurd (b refl)
no_detail _ a b = refl

not_memory : (r : Refusal) (code : ℕ) → refusal_code_of r ≡ code → 1 ≤ code → r ≢ Memory
not_memory r code e positive = λ k. let zero : refusal_code_of r ≡ 0 = ap refusal_code_of k in omega (arith, e, zero, positive)

bad_change_is : (o : Option ChangeFault) (r : Refusal) → bad_change o ≡ Some r → (fault : ChangeFault) × (o ≡ Some fault) × (BadChange fault ≡ r)
bad_change_is None r e = absurd cc
bad_change_is (Some fault) r e = (fault, refl, cc)

pub refusal_takes : (code detail : ℕ) (r : Refusal) → 1 ≤ code → refusal_with code detail ≡ Some r → HasNumbers r code detail
unfolding refusal_with
refusal_takes code detail r positive e = go (eqb code 1) (eqb code 18) (eqb detail 0) refl refl refl e
  where
    go : (a b c : Bool) → eqb code 1 ≡ a → eqb code 18 ≡ b → eqb detail 0 ≡ c
        → cond a (Some (Malformed detail)) (cond b (bad_change (change_fault_with_code detail)) (cond c (find (λ r. refusal_code_of r == code) plain_refusals) None)) ≡ Some r
        → HasNumbers r code detail
    go true b c p q s e =
        let is = same_refusal (Malformed detail) r e in
        let P : Refusal → Type 0 = λ x. HasNumbers x code detail in
        subst P is (record { code = sym (eqb-true code 1 p); detail = refl; kind = not_memory (Malformed detail) code (sym (eqb-true code 1 p)) positive })
    go false true c p q s e =
        let is = bad_change_is (change_fault_with_code detail) r e in
        let found = found_passes (λ f. change_fault_code_of f == detail) change_faults is.0 is.1 in
        let P : Refusal → Type 0 = λ x. HasNumbers x code detail in
        subst P is.2 (record { code = sym (eqb-true code 18 q); detail = eqb-true _ _ found; kind = not_memory (BadChange is.0) code (sym (eqb-true code 18 q)) positive })
    go false false true p q s e =
        let found = eqb-true _ _ (found_passes (λ x. refusal_code_of x == code) plain_refusals r e) in
        record {
          code = found;
          detail = no_detail r (λ k. eqb-false code 1 p (sym found ∙ k)) (λ k. eqb-false code 18 q (sym found ∙ k)) ∙ sym (eqb-true detail 0 s);
          kind = not_memory r code found positive;
        }
    go false false false p q s e = absurd (no_refusal r e)

bad_change_again : (fault : ChangeFault) → change_fault_with_code (change_fault_code_of fault) ≡ Some fault
bad_change_again NumberUsed = refl
bad_change_again _ = refl

pub refusal_again : (r : Refusal) → r ≢ Memory → refusal_with (refusal_code_of r) (refusal_detail_of r) ≡ Some r
unfolding refusal_with
refusal_again Memory is = absurd (is refl)
refusal_again (BadChange fault) is = ap bad_change (bad_change_again fault)
refusal_again _ is = refl

pub code_within : (r : Refusal) → r ≢ Memory → (1 ≤ refusal_code_of r) × (refusal_code_of r ≤ 23)
code_within Memory is = absurd (is refl)
code_within _ is = (omega arith, omega arith)
