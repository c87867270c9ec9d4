-- The next message of a stream, by what stands at its first_frame.
use Rattle.std.proofs.Common.{◌≡◌, ℕ, List, length, Option, Some, None, Result, Ok, Err, sym, ap, ◌∙◌, subst}
use Rattle.sporc_wire.proofs.Common.{MatchOption, ◌≢◌, fault_as, FrameFault, FirstFrame, whole, first_frame, Unread, next_read, next_frame, next_unless, GivesUnless, Bad}
use Rattle.sporc_wire.specs.declared.fault.FrameFault.TheVariants as faults
use Rattle.sporc_wire.specs.declared.message.BodyFault.{BodyFault}
use Rattle.sporc_wire.specs.declared.message.BodyFault.TheVariants.{Memory}
use Rattle.sporc_wire.specs.Messages.{stops, next}

-- a stream by its parts
abbrev pub unread_of : ℕ → List ℕ → Option FrameFault → Unread
unread_of at rest fault = record { at = at; rest = rest; fault = fault }

pub unread_is : (s : Unread) (at : ℕ) (rest : List ℕ) (fault : Option FrameFault) → at ≡ s.at → rest ≡ s.rest → fault ≡ s.fault → unread_of at rest fault ≡ s
unread_is s at rest fault p q r =
    ap (λ (n : ℕ). unread_of n rest fault) p ∙ ap (λ (bytes : List ℕ). unread_of s.at bytes fault) q ∙ ap (λ (f : Option FrameFault). unread_of s.at s.rest f) r

pub next-stopped : {M : Type 0} (read : List ℕ → Result M ℕ) (s : Unread) (fault : FrameFault) → s.fault ≡ Some fault → next read s ≡ record { answer = Err fault; after = s }
unfolding next
next-stopped read s fault e = ap (next_unless read s) e

pub next-at : {M : Type 0} (read : List ℕ → Result M ℕ) (s : Unread) (x : FirstFrame) → s.fault ≡ None → first_frame s.rest ≡ x → next read s ≡ next_frame read s x
unfolding next
next-at read s x e h = ap (next_unless read s) e ∙ ap (next_frame read s) h

pub next-message : {M : Type 0} (read : List ℕ → Result M ℕ) (s : Unread) (body rest : List ℕ) (r : Result M ℕ) → s.fault ≡ None → first_frame s.rest ≡ whole body rest → read body ≡ r
    → next read s ≡ next_read s (length body) rest r
next-message read s body rest r e h k = next-at read s (whole body rest) e h ∙ ap (next_read s (length body) rest) k

-- what a body gave
pub read_ok : {M : Type 0} (r : Result M ℕ) (m : M) → fault_as Bad r ≡ Ok m → r ≡ Ok m
read_ok (Ok x) m e = cc
read_ok (Err place) m e = absurd cc

pub read_bad : {M : Type 0} (r : Result M ℕ) (fault : BodyFault) (place : ℕ) → fault ≡ Bad place → (fault ≢ Memory → fault_as Bad r ≡ Err fault) → r ≡ Err place
read_bad (Ok x) fault place e h = let not_memory : fault ≢ Memory = λ k. let no : Bad place ≡ Memory = sym e ∙ k in cc in let no = h not_memory in absurd cc
read_bad (Err p) fault place e h =
    let not_memory : fault ≢ Memory = λ k. let no : Bad place ≡ Memory = sym e ∙ k in cc in
    let is = h not_memory in cc

-- what was cut out
pub cut_some : (found : Option (List ℕ)) (body : List ℕ) (P : Type 0) (Q : List ℕ → Type 0) → found ≡ Some body → MatchOption found P Q → Q body
cut_some found body P Q e h = subst (λ (o : Option (List ℕ)). MatchOption o P Q) e h

pub cut_none : (found : Option (List ℕ)) (P : Type 0) (Q : List ℕ → Type 0) → found ≡ None → MatchOption found P Q → P
cut_none found P Q e h = subst (λ (o : Option (List ℕ)). MatchOption o P Q) e h

-- a call that stopped answered what the definition does, and stays there
pub stops_value : {M : Type 0} (read : List ℕ → Result M ℕ) (s : Unread) (fault : FrameFault) (r : Result (Option M) FrameFault) → next read s ≡ stops fault s → r ≡ Err fault
    → GivesUnless faults.Memory (λ m. m) r (next read s).answer
stops_value {M} read s fault r h e =
    let P : Result (Option M) FrameFault → Type 0 = λ x. GivesUnless faults.Memory (λ m. m) x (next read s).answer in
    subst P (sym e) (λ _. ap (λ n. n.answer) h)

pub stops_after : {M : Type 0} (read : List ℕ → Result M ℕ) (s : Unread) (fault : FrameFault) (t : Unread) → next read s ≡ stops fault s → t ≡ record s { fault = Some fault }
    → t ≡ (next read s).after
stops_after read s fault t h e = e ∙ ap (λ n. n.after) (sym h)
