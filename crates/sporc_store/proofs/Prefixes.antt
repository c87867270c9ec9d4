-- What is loaded is the longest prefix that is accepted.
use Rattle.std.proofs.Common.{◌≡◌, ℕ, zero, suc, ◌+◌, List, [], ◌∷◌, ◌++◌, length, take, Option, None, Some, refl, sym, ap, ◌∙◌, subst, append_assoc, arith, length-append}
use Rattle.sporc_store.proofs.Common.{IsSomeAnd, slice_get, append-nil, Stop, Refused, Taken, read_to, first_and, IsPrefix, Checker, Refusal}
use Rattle.sporc_store.specs.Loading.{fault_behind, accepted_behind, unless_refused}

-- behind these entries, these of those that follow are taken
pub record IsLongest (checker : Checker) (before es : List (List ℕ)) (stop : Stop) (taken : Taken) : Type 0 where
  pub prefix : IsPrefix taken.entries es
  pub accepted : (i : ℕ) (e : List ℕ) → slice_get taken.entries i ≡ Some e → fault_behind checker (before ++ take i taken.entries) e ≡ None
  pub whole : taken.entries ≡ es → taken.stop ≡ stop
  pub refused : (e : List ℕ) → slice_get es (length taken.entries) ≡ Some e
      → IsSomeAnd (fault_behind checker (before ++ taken.entries) e) (λ refusal. taken.stop ≡ Refused (length before + length taken.entries + 1) refusal)

-- the first entry is refused
refused_first : (checker : Checker) (before : List (List ℕ)) (e : List ℕ) (es : List (List ℕ)) (stop : Stop) (refusal : Refusal) → fault_behind checker before e ≡ Some refusal
    → IsLongest checker before (e ∷ es) stop (read_to [] (Refused (length before + 1) refusal))
refused_first checker before e es stop refusal is = record {
  prefix = refl;
  accepted = λ i x at. absurd cc;
  whole = λ same. absurd cc;
  refused = λ x at.
      let same : e ≡ x = cc in
      let fault : fault_behind checker (before ++ []) x ≡ Some refusal = ap (λ (es : List (List ℕ)). fault_behind checker es x) (append-nil before) ∙ ap (fault_behind checker before) (sym same) ∙ is in
      let number : length before + 1 ≡ length before + 0 + 1 = omega arith in
      rw fault (ap (λ (n : ℕ). Refused n refusal) number);
}

-- the first entry is accepted
accepted_first : (checker : Checker) (before : List (List ℕ)) (e : List ℕ) (es : List (List ℕ)) (stop : Stop) (taken : Taken) → fault_behind checker before e ≡ None
    → IsLongest checker (before ++ e ∷ []) es stop taken → IsLongest checker before (e ∷ es) stop (first_and e taken)
accepted_first checker before e es stop taken is rest = record {
  prefix = ap (λ (l : List (List ℕ)). e ∷ l) rest.prefix;
  accepted = each;
  whole = λ same. let others : taken.entries ≡ es = cc in rest.whole others;
  refused = λ x at.
      let P : List (List ℕ) → ℕ → Type 0 = λ es n. IsSomeAnd (fault_behind checker es x) (λ refusal. taken.stop ≡ Refused n refusal) in
      let number : length (before ++ e ∷ []) + length taken.entries + 1 ≡ length before + suc (length taken.entries) + 1 = omega (arith, length-append before (e ∷ [])) in
      subst (λ (n : ℕ). P (before ++ (e ∷ taken.entries)) n) number
      (subst (λ (l : List (List ℕ)). P l (length (before ++ e ∷ []) + length taken.entries + 1)) (append_assoc before (e ∷ []) taken.entries) (rest.refused x at));
}
  where
    each : (i : ℕ) (x : List ℕ) → slice_get (e ∷ taken.entries) i ≡ Some x → fault_behind checker (before ++ take i (e ∷ taken.entries)) x ≡ None
    each zero x at = let same : e ≡ x = cc in ap (λ (es : List (List ℕ)). fault_behind checker es x) (append-nil before) ∙ ap (fault_behind checker before) (sym same) ∙ is
    each (suc i) x at = subst (λ (l : List (List ℕ)). fault_behind checker l x ≡ None) (append_assoc before (e ∷ []) (take i taken.entries)) (rest.accepted i x at)

pub is_longest : (checker : Checker) (before es : List (List ℕ)) (stop : Stop) → IsLongest checker before es stop (accepted_behind checker before es stop)
unfolding accepted_behind
is_longest checker before [] stop = record {
  prefix = refl;
  accepted = λ i x at. absurd cc;
  whole = λ same. refl;
  refused = λ x at. absurd cc;
}
is_longest checker before (e ∷ es) stop = by (is_longest checker (before ++ e ∷ []) es stop) (fault_behind checker before e) refl
  where
    behind : Taken
    behind = accepted_behind checker (before ++ e ∷ []) es stop

    by : IsLongest checker (before ++ e ∷ []) es stop behind → (fault : Option Refusal) → fault_behind checker before e ≡ fault
        → IsLongest checker before (e ∷ es) stop (unless_refused fault (length before + 1) (first_and e behind))
    by rest (Some refusal) is = refused_first checker before e es stop refusal is
    by rest None is = accepted_first checker before e es stop behind is rest

-- the entry behind those that are taken
pub next_refused : (checker : Checker) (es : List (List ℕ)) (stop : Stop) (e : List ℕ) → slice_get es (length (accepted_behind checker [] es stop).entries) ≡ Some e
    → IsSomeAnd (fault_behind checker (accepted_behind checker [] es stop).entries e)
    (λ refusal. (accepted_behind checker [] es stop).stop ≡ Refused (length (accepted_behind checker [] es stop).entries + 1) refusal)
next_refused checker es stop e at =
    let taken : Taken = accepted_behind checker [] es stop in
    let number : 0 + length taken.entries + 1 ≡ length taken.entries + 1 = omega arith in
    subst (λ (n : ℕ). IsSomeAnd (fault_behind checker taken.entries e) (λ refusal. taken.stop ≡ Refused n refusal)) number ((is_longest checker [] es stop).refused e at)

-- entries that are accepted where they stand are all taken
pub all_accepted : (checker : Checker) (before es : List (List ℕ)) (stop : Stop) → ((i : ℕ) (e : List ℕ) → slice_get es i ≡ Some e → fault_behind checker (before ++ take i es) e ≡ None)
    → accepted_behind checker before es stop ≡ read_to es stop
unfolding accepted_behind
all_accepted checker before [] stop each = refl
all_accepted checker before (e ∷ es) stop each =
    let first : fault_behind checker before e ≡ None = ap (λ (l : List (List ℕ)). fault_behind checker l e) (sym (append-nil before)) ∙ each 0 e refl in
    rw first (ap (first_and e) (all_accepted checker (before ++ e ∷ []) es stop (λ i x at.
    subst (λ (l : List (List ℕ)). fault_behind checker l x ≡ None) (sym (append_assoc before (e ∷ []) (take i es))) (each (suc i) x at))))
