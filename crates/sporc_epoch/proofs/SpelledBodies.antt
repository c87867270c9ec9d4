-- The body of a sealed change has a spelling.
use Rattle.std.proofs.Common.{◌≡◌, true, ℕ, zero, suc, ◌+◌, ◌<◌, ◌≤◌, ◌^◌, List, [], ◌∷◌, length, get_or, None, Some, refl, ap, subst, sym, ◌∙◌, arith}
use Rattle.sporc_epoch.proofs.Common.{Option, Ok, option_map, All, AllByRecursion, cons_option, get, mask_of, length-mask_from, Wrap, Keys, previous_stream, Sealing, wraps_sealed, length-sha256}
use Rattle.sporc_epoch.proofs.Common.{ChangeBody}
use Rattle.sporc_member.specs.declared.limits.TheConstants.{MAX_MEMBERS}
use Rattle.sporc_entry.specs.ChangeBody.{kind_of, IsChange, IsWrap, IsChangeBody}
use Rattle.sporc_entry.specs.Version.{has_kind}
use Rattle.sporc_epoch.specs.Sealing.{body_sealed, change_sealed}
use Rattle.sporc_epoch.proofs.SealedKeys.{sealed}

-- each of some numbers is small, by its place
pub all_small : (members : List ℕ) → ((i : ℕ) → get_or members i 0 < 2 ^ 16) → All (λ m. m < 2 ^ 16) members
all_small [] h k d l = absurd (omega (arith, l))
all_small (m ∷ ms) h zero d l = h 0
all_small (m ∷ ms) h (suc k) d l = all_small ms (λ i. h (suc i)) k d (omega (arith, l))

-- what holds of a key sealed for each of some members holds of those that are sealed
pub wraps_each : (P : Wrap → Type 0) (stream : ℕ) (key : List ℕ) (pairs : Keys) (members : List ℕ) → All (λ m. (pair : List ℕ) → P (record { member = m; sealed = mask_of pair stream key })) members
    → AllByRecursion P (wraps_sealed stream key pairs members)
wraps_each P stream key pairs [] each = tt
wraps_each P stream key pairs (m ∷ ms) each = go (get pairs m) (wraps_each P stream key pairs ms (λ k d l. each (suc k) d (omega (arith, l))))
  where
    go : (pair : Option (List ℕ)) → AllByRecursion P (wraps_sealed stream key pairs ms)
        → AllByRecursion P (cons_option (option_map (λ (p : List ℕ). let w : Wrap = record { member = m; sealed = mask_of p stream key } in w) pair) (wraps_sealed stream key pairs ms))
    go None others = others
    go (Some pair) others = (each 0 m (omega arith) pair, others)

one_wrap : (stream : ℕ) (key : List ℕ) (member : ℕ) (pair : Option (List ℕ)) (rest : List Wrap)
    → length (cons_option (option_map (λ (p : List ℕ). let w : Wrap = record { member = member; sealed = mask_of p stream key } in w) pair) rest) ≤ suc (length rest)
one_wrap stream key member None rest = omega arith
one_wrap stream key member (Some p) rest = omega arith

-- there are no more wraps than members
pub wraps_few : (stream : ℕ) (key : List ℕ) (pairs : Keys) (members : List ℕ) → length (wraps_sealed stream key pairs members) ≤ length members
wraps_few stream key pairs [] = omega arith
wraps_few stream key pairs (m ∷ ms) = omega (arith, one_wrap stream key m (get pairs m) (wraps_sealed stream key pairs ms), wraps_few stream key pairs ms)

-- a body whose wraps are sealed for members
pub spelled_with : (version : ℕ) (body : ChangeBody) (stream : ℕ) (key : List ℕ) (pairs : Keys) (members : List ℕ) → has_kind version (kind_of body.change) ≡ true → IsChange body.change → length body.commitment ≡ 32 → length body.previous ≡ 32
    → body.wraps ≡ wraps_sealed stream key pairs members → length key ≡ 32 → All (λ m. m < 2 ^ 16) members → length members ≤ MAX_MEMBERS → IsChangeBody version body
spelled_with version body stream key pairs members kind change commitment previous wraps size small few = record {
  kind = kind;
  change = change;
  commitment = commitment;
  previous = previous;
  count = omega (arith, ap length wraps, wraps_few stream key pairs members, few);
  wraps = subst (AllByRecursion IsWrap) (sym wraps)
      (wraps_each IsWrap stream key pairs members (λ k d l pair. record { member = small k d l; sealed = length-mask_from pair stream 0 key ∙ size }));
}

-- the body of a change that was sealed
pub body_spelled : (version : ℕ) (s : Sealing) (pairs : Keys) (body : ChangeBody) → change_sealed s pairs ≡ Ok body → has_kind version (kind_of s.change) ≡ true → IsChange s.change → length s.old ≡ 32 → length s.new ≡ 32
    → All (λ m. m < 2 ^ 16) s.members → length s.members ≤ MAX_MEMBERS → IsChangeBody version body
unfolding body_sealed
body_spelled version s pairs body h kind change old new small few =
    subst (IsChangeBody version) (sym (sealed s pairs body h).0)
    (spelled_with version (body_sealed s pairs) s.stream s.new pairs s.members kind change (length-sha256 _) (length-mask_from s.new (previous_stream (s.epoch + 1)) 0 s.old ∙ old) refl new small few)
