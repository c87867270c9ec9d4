-- For a caller that adds to the log: what `give` requires of it, what the pass knows afterwards, and who adds once all passes are joined back.
use Rattle.std.proofs.Common.{◌≡◌, ◌≢◌, ℕ, ◌≤◌, ◌==◌, cond, eq-eqb, Bool, true, false, List, [], ◌∷◌, ◌++◌, length, drop, sym, ap, ◌∙◌, subst, ⊎_elim, arith}
use Rattle.sporc_turn.proofs.Common.{Contains, MatchBool, dite, ℕ_discrete, filter, append-nil, drop-append-le, All-nil, All-cons, All-contains, Contains-append_right, Known, own, Extends}
use Rattle.sporc_turn.proofs.Common.{OnlyFirstAdds}
use Rattle.sporc_turn.proofs.Lists.{starts_length, behind, All-of_each, Contains-nil, Contains-head, Contains-tail, Contains-cons}

module _ {E : Type 0} (by : E → ℕ) where
  -- nothing was added
  pub Extends-same : (k : Known E) (log : List E) → log ≡ k.seen → Extends by k log
  Extends-same k log is = record { more = []; log_is = is ∙ sym (append-nil k.seen); by_this = All-nil (λ e. by e ≡ k.number) }

  -- one item was added
  pub Extends-push : (k : Known E) (log : List E) (e : E) → log ≡ k.seen ++ e ∷ [] → by e ≡ k.number → Extends by k log
  Extends-push k log e is mine = record { more = e ∷ []; log_is = is; by_this = (let P : E → Type 0 = λ x. by x ≡ k.number in All-cons P e [] mine (All-nil P)) }

  -- one item, or nothing
  pub Extends-push_or_same : (b : Bool) (k : Known E) (old new : List E) (e : E) → old ≡ k.seen → by e ≡ k.number → MatchBool b (new ≡ old ++ e ∷ []) (new ≡ old) → Extends by k new
  Extends-push_or_same true k old new e is mine add = Extends-push k new e (add ∙ ap (λ l. l ++ e ∷ []) is) mine
  Extends-push_or_same false k old new e is mine add = Extends-same k new (add ∙ is)

-- once all passes are joined back, what is added is the first one's
pub only_first_adds : {E : Type 0} (by : E → ℕ) → OnlyFirstAdds by
only_first_adds {E} by k k' log more zero' all same a b =
    All-of_each (λ e. by e ≡ 0) more (λ e has. dite (ℕ_discrete (by e) 0) (λ is. is) (λ ne. absurd (Contains-nil e (subst (λ xs. Contains xs e) (none e ne has) (kept e more has)))))
  where
    -- an item of another number is not among those that were added
    none : (e : E) → by e ≢ 0 → Contains more e → filter (λ x. by x == by e) more ≡ []
    none e ne has =
        let low : k.start ≤ length log = omega (arith, a.whole, starts_length log k.seen a.begins) in
        let in_log : Contains (drop k'.start (log ++ more)) e = subst (λ n. Contains (drop n (log ++ more)) e) (sym same.1) (subst (λ xs. Contains xs e) (sym (drop-append-le k.start log more low)) (Contains-append_right (drop k.start log) more e has)) in
        let few : by e ≤ k'.splits = All-contains (λ x. by x ≤ k'.splits) (drop k'.start (log ++ more)) e (b.numbers (same.0 ∙ zero')) in_log in
        let t = a.all_back zero' all (by e) ne (omega (arith, same.2)) in
        let old : own by t.0.number k.start log ≡ t.0.items = All-contains (λ j. own by j.number k.start log ≡ j.items) k.joined t.0 (a.joined zero') t.1 in
        let new : own by t.0.number k'.start (log ++ more) ≡ t.0.items = All-contains (λ j. own by j.number k'.start (log ++ more) ≡ j.items) k'.joined t.0 (b.joined (same.0 ∙ zero')) (subst (λ js. Contains js t.0) (sym same.3) t.1) in
        subst (λ n. filter (λ x. by x == n) more ≡ []) t.2 (behind by t.0.number k.start log more t.0.items low old (ap (λ n. own by t.0.number n (log ++ more)) (sym same.1) ∙ new))

    -- an item stays among those of its number
    kept : (e : E) (xs : List E) → Contains xs e → Contains (filter (λ x. by x == by e) xs) e
    kept e [] has = absurd (Contains-nil e has)
    kept e (x ∷ xs) has =
        let F = filter (λ y. by y == by e) xs in
        ⊎_elim
        (λ (is : x ≡ e). subst (λ c. Contains (cond c (x ∷ F) F) e) (sym (eq-eqb (by x) (by e) (ap by is))) (subst (λ y. Contains (y ∷ F) e) (sym is) (Contains-head e F)))
        (λ (in' : Contains xs e). elim (by x == by e) as (λ c. Contains (cond c (x ∷ F) F) e) [ true ↦ Contains-tail x F e (kept e xs in') | false ↦ kept e xs in' ])
        (Contains-cons x xs e has)
