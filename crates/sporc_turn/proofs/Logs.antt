-- The rule on the log: each step keeps it, and what it tells one pass.
use Rattle.std.proofs.Common.{◌≡◌, ◌≢◌, ℕ, zero, suc, ◌+◌, ◌<◌, ◌≤◌, ◌==◌, cond, eqb, eq-eqb, ne_eqb, true, false, List, [], ◌∷◌, ◌++◌, length, drop, set, sym, refl, ap, ◌∙◌, subst, inl, inr, ⊎_elim, arith, length-append, length-set}
use Rattle.sporc_turn.proofs.Common.{Contains, some, some-injective, some-ne-none, dite, ℕ_discrete, get_elem?, filter, drop-append-le, append-nil, Contains-append_left, Contains-append_right}
use Rattle.sporc_turn.proofs.Common.{Contains-append_cases, at_set, set_else, at_last, at_longer, Known, StartsWith, longer, own, HasNumber, Agrees, splitting, copied, joining, nothing_known, spent_of}
use Rattle.sporc_turn.proofs.Common.{one_if, KnowledgeInvariant, IsFirst, NoLivePass, LogInvariant}
use Rattle.sporc_turn.specs.declared.known.Joined.{Joined}
use Rattle.sporc_turn.proofs.Lists

abbrev number_of : {E : Type 0} → Known E → ℕ
number_of k = k.number

-- how many are spent
spent_set : {E : Type 0} (ks : List (Known E)) (i : ℕ) (k l : Known E) → get_elem? ks i ≡ some k → spent_of (set ks i l) + one_if k.spent ≡ spent_of ks + one_if l.spent
spent_set [] i k l e = absurd (some-ne-none k (sym e))
spent_set (x ∷ xs) zero k l e = let s : one_if x.spent ≡ one_if k.spent = ap (λ y. one_if y.spent) (some-injective x k e) in omega arith
spent_set (x ∷ xs) (suc i) k l e = let s = spent_set xs i k l e in omega arith

spent_append : {E : Type 0} (ks ls : List (Known E)) → spent_of (ks ++ ls) ≡ spent_of ks + spent_of ls
spent_append [] ls = omega arith
spent_append (k ∷ ks) ls = omega (arith, spent_append ks ls)

spent_low : {E : Type 0} (ks : List (Known E)) → spent_of ks ≤ length ks
spent_low [] = omega arith
spent_low (k ∷ ks) = let b : one_if k.spent ≤ 1 = elim k.spent as (λ b. one_if b ≤ 1) [ true ↦ omega arith | false ↦ omega arith ] in omega (arith, spent_low ks)

first_spent : {E : Type 0} (k : Known E) (ks : List (Known E)) → spent_of (k ∷ ks) ≡ suc (length ks) → k.spent ≡ true
first_spent k ks e = elim k.spent as (λ b. one_if b + spent_of ks ≡ suc (length ks) → b ≡ true) [ true ↦ λ _. refl | false ↦ λ z. absurd (omega (arith, spent_low ks)) ] e

-- where as many are spent as there are, each is
all_spent : {E : Type 0} (ks : List (Known E)) → spent_of ks ≡ length ks → (j : ℕ) (u : Known E) → get_elem? ks j ≡ some u → u.spent ≡ true
all_spent [] e j u at = absurd (some-ne-none u (sym at))
all_spent (k ∷ ks) e zero u at = ap (λ (y : Known _). y.spent) (sym (some-injective k u at)) ∙ first_spent k ks e
all_spent (k ∷ ks) e (suc j) u at = let b : one_if k.spent ≡ 1 = ap one_if (first_spent k ks e) in all_spent ks (omega arith) j u at

module _ {E : Type 0} (by : E → ℕ) (start : ℕ) where
  -- one pass learns, or adds items with its own number
  pub updates : (log extra : List E) (ks : List (Known E)) (i : ℕ) (k l : Known E) (o : LogInvariant by start log ks) → get_elem? ks i ≡ some k → k.spent ≡ false
      → (l.number ≡ k.number) × (l.spent ≡ false) × (l.splits ≡ k.splits) × (l.joined ≡ k.joined)
      → ((e : E) → Contains extra e → by e ≡ k.number)
      → KnowledgeInvariant by start (log ++ extra) o.seat o.splits i l
      → ((n : ℕ) (es : List E) → own by n start k.seen ≡ es → own by n start (log ++ extra) ≡ es → own by n start l.seen ≡ es)
      → LogInvariant by start (log ++ extra) (set ks i l)
  updates log extra ks i k l o at live same mine knows stands =
      let f = o.each i k at live in
      let long : start ≤ length log = omega (arith, f.whole, Lists.starts_length log k.seen f.sees) in
      let other : (n : ℕ) → n ≢ k.number → own by n start (log ++ extra) ≡ own by n start log = λ n ne. Lists.own_same by n start log extra long (λ e h is. ne (sym is ∙ mine e h)) in record {
        seat = o.seat;
        splits = o.splits;
        joined = o.joined;
        first = λ h e. ⊎_elim
            (λ (x : (0 ≡ i) × (l ≡ h)). (let H = o.first k (ap (λ n. get_elem? ks n) x.0 ∙ at) in
            let new : IsFirst by start o.splits o.joined l = record {
              zero = same.0 ∙ H.zero;
              live = same.1;
              splits_is = same.2 ∙ H.splits_is;
              joined_is = same.3 ∙ H.joined_is;
              stand = λ j has. stands j.number j.items (H.stand j has) (other j.number (λ is. (o.joins j has).2 i k at live (sym is)) ∙ (o.joins j has).1);
            } in subst (IsFirst by start o.splits o.joined) x.1 new))
            (λ (x : (0 ≢ i) × (get_elem? ks 0 ≡ some h)). o.first h x.1)
            (at_set ks i 0 l h e);
        each = λ j u e here. ⊎_elim
            (λ (x : (j ≡ i) × (l ≡ u)). subst (λ (y : ℕ × Known E). KnowledgeInvariant by start (log ++ extra) o.seat o.splits y.0 y.1) (λ m. (sym x.0 m, x.1 m)) knows)
            (λ (x : (j ≢ i) × (get_elem? ks j ≡ some u)). (let g = o.each j u x.1 here in record {
              starts = g.starts;
              place_is = g.place_is;
              number = g.number;
              sees = Lists.starts_more log extra u.seen g.sees;
              whole = g.whole;
              unmatched = Lists.starts_more log extra u.unmatched g.unmatched;
              mine = other u.number (λ is. x.0 (sym g.place_is ∙ ap o.seat is ∙ f.place_is)) ∙ g.mine;
              mine_seen = g.mine_seen;
              news = omega (arith, g.news, length-append log extra);
            }))
            (at_set ks i j l u e);
        joins = λ j has. let t = o.joins j has in (
          t.0,
          other j.number (λ is. t.2 i k at live (sym is)) ∙ t.1,
          λ p u e here. ⊎_elim
              (λ (x : (p ≡ i) × (l ≡ u)). λ is. t.2 i k at live (sym same.0 ∙ ap number_of x.1 ∙ is))
              (λ (x : (p ≢ i) × (get_elem? ks p ≡ some u)). t.2 p u x.1 here)
              (at_set ks i p l u e),
        );
        numbered = λ e has. ⊎_elim (λ old. o.numbered e old) (λ new. omega (arith, f.number, mine e new)) (Contains-append_cases (drop start log) extra e (subst (λ xs. Contains xs e) (drop-append-le start log extra long) has));
        numbers = λ n low. ⊎_elim
            (λ (t : (j : ℕ) × (u : Known E) × (get_elem? ks j ≡ some u) × (u.spent ≡ false) × (u.number ≡ n)). dite (ℕ_discrete t.0 i)
            (λ (is : t.0 ≡ i). inl (i, l, Lists.set_at ks i l k at, same.1, same.0 ∙ ap number_of (Lists.same_at ks i t.0 k t.1 (sym is) at t.2) ∙ t.4))
            (λ (ne : t.0 ≢ i). inl (t.0, t.1, set_else ks i t.0 l ne ∙ t.2, t.3, t.4)))
            inr
            (o.numbers n low);
        counted = length-set ks i l ∙ o.counted;
        spents = (let s = spent_set ks i k l at in let a : one_if k.spent ≡ 0 = ap one_if live in let b : one_if l.spent ≡ 0 = ap one_if same.1 in omega (arith, o.spents));
      }

  -- the first pass is the only one with the number 0
  pub at_zero : (log : List E) (ks : List (Known E)) (i : ℕ) (k : Known E) (o : LogInvariant by start log ks) → get_elem? ks i ≡ some k → k.spent ≡ false → k.number ≡ 0 → 0 ≡ i
  at_zero log ks i k o at live zero' =
      let t : (h : Known E) × (get_elem? ks 0 ≡ some h) = head ks o.counted in
      let H = o.first t.0 t.1 in
      let f = o.each 0 t.0 t.1 H.live in
      let g = o.each i k at live in
      sym f.place_is ∙ ap o.seat (H.zero ∙ sym zero') ∙ g.place_is
    where
      head : (xs : List (Known E)) → length xs ≡ suc o.splits → (h : Known E) × (get_elem? xs 0 ≡ some h)
      head [] e = absurd (omega arith)
      head (x ∷ xs) e = (x, refl)

  is_first : (log : List E) (ks : List (Known E)) (i : ℕ) (k : Known E) (o : LogInvariant by start log ks) → get_elem? ks i ≡ some k → k.spent ≡ false → k.number ≡ 0 → IsFirst by start o.splits o.joined k
  is_first log ks i k o at live zero' = o.first k (ap (λ n. get_elem? ks n) (at_zero log ks i k o at live zero') ∙ at)

  -- where the first has joined back all that it split, each other pass is spent
  alone : (log : List E) (ks : List (Known E)) (i : ℕ) (k : Known E) (o : LogInvariant by start log ks) → get_elem? ks i ≡ some k → k.spent ≡ false → k.number ≡ 0 → k.splits ≡ length k.joined
      → (j : ℕ) (u : Known E) → get_elem? ks j ≡ some u → u.spent ≡ false → j ≡ 0
  alone log ks i k o at live zero' all =
      let H = is_first log ks i k o at live zero' in
      let as_many : spent_of ks + 1 ≡ length ks = omega (arith, o.spents, o.counted, H.splits_is, ap length H.joined_is) in
      only ks (ap (λ n. get_elem? ks n) (at_zero log ks i k o at live zero') ∙ at) as_many
    where
      only : (xs : List (Known E)) → get_elem? xs 0 ≡ some k → spent_of xs + 1 ≡ length xs → (j : ℕ) (u : Known E) → get_elem? xs j ≡ some u → u.spent ≡ false → j ≡ 0
      only [] e m j u p here = absurd (omega arith)
      only (x ∷ xs) e m zero u p here = refl
      only (x ∷ xs) e m (suc j) u p here = let z : one_if x.spent ≡ 0 = ap one_if (ap (λ (y : Known E). y.spent) (some-injective x k e) ∙ live) in Lists.no_both u.spent here (all_spent xs (omega arith) j u p)

  -- and each number is of one of those that were joined
  all_back : (log : List E) (ks : List (Known E)) (i : ℕ) (k : Known E) (o : LogInvariant by start log ks) → get_elem? ks i ≡ some k → k.spent ≡ false → k.number ≡ 0 → k.splits ≡ length k.joined
      → (n : ℕ) → n ≢ 0 → n ≤ k.splits → HasNumber k.joined n
  all_back log ks i k o at live zero' all n ne low =
      let H = is_first log ks i k o at live zero' in
      let is0 = at_zero log ks i k o at live zero' in
      ⊎_elim
      (λ (t : (m : ℕ) × (u : Known E) × (get_elem? ks m ≡ some u) × (u.spent ≡ false) × (u.number ≡ n)).
      absurd (ne (sym t.4 ∙ ap number_of (sym (Lists.same_at ks i t.0 k t.1 (sym is0 ∙ sym (alone log ks i k o at live zero' all t.0 t.1 t.2 t.3)) at t.2)) ∙ zero')))
      (λ (t : HasNumber o.joined n). subst (λ js. HasNumber js n) (sym H.joined_is) t)
      (o.numbers n (omega (arith, H.splits_is)))

  -- the log agrees with what a pass knows
  pub agrees : (log : List E) (ks : List (Known E)) (i : ℕ) (k : Known E) (o : LogInvariant by start log ks) → get_elem? ks i ≡ some k → k.spent ≡ false → Agrees by k log
  agrees log ks i k o at live =
      let f = o.each i k at live in record {
        begins = f.sees;
        whole = omega (arith, f.starts, f.whole);
        mine = ap (λ n. own by k.number n log) f.starts ∙ f.mine;
        joined = λ zero'. (let H = is_first log ks i k o at live zero' in
            Lists.All-of_each (λ (j : Joined E). own by j.number k.start log ≡ j.items) k.joined
            (λ j has. ap (λ n. own by j.number n log) f.starts ∙ (o.joins j (subst (λ js. Contains js j) H.joined_is has)).1));
        numbers = λ zero'. (let H = is_first log ks i k o at live zero' in
            Lists.All-of_each (λ e. by e ≤ k.splits) (drop k.start log)
            (λ e has. omega (arith, H.splits_is, o.numbered e (subst (λ n. Contains (drop n log) e) f.starts has))));
        all_back = all_back log ks i k o at live;
      }

  -- and so does what the pass has seen of it
  pub agrees_seen : (log : List E) (ks : List (Known E)) (i : ℕ) (k : Known E) (o : LogInvariant by start log ks) → get_elem? ks i ≡ some k → k.spent ≡ false → Agrees by k k.seen
  agrees_seen log ks i k o at live =
      let f = o.each i k at live in record {
        begins = Lists.starts_self k.seen;
        whole = omega (arith, f.starts, f.whole);
        mine = ap (λ n. own by k.number n k.seen) f.starts ∙ f.mine_seen;
        joined = λ zero'. (let H = is_first log ks i k o at live zero' in
            Lists.All-of_each (λ (j : Joined E). own by j.number k.start k.seen ≡ j.items) k.joined
            (λ j has. ap (λ n. own by j.number n k.seen) f.starts ∙ H.stand j (subst (λ js. Contains js j) H.joined_is has)));
        numbers = λ zero'. (let H = is_first log ks i k o at live zero' in
            Lists.All-of_each (λ e. by e ≤ k.splits) (drop k.start k.seen)
            (λ e has. omega (arith, H.splits_is, o.numbered e (in_log log k.seen f.sees f.whole e (subst (λ n. Contains (drop n k.seen) e) f.starts has)))));
        all_back = all_back log ks i k o at live;
      }
    where
      in_log : (log' seen : List E) → StartsWith log' seen → start ≤ length seen → (e : E) → Contains (drop start seen) e → Contains (drop start log') e
      in_log log' seen s low e has = subst (λ xs. Contains xs e) (sym (ap (drop start) s.1 ∙ drop-append-le start seen s.0 low)) (Contains-append_left (drop start seen) s.0 e has)

  -- the first has joined no more than it split
  pub no_more : (log : List E) (ks : List (Known E)) (i : ℕ) (k : Known E) (o : LogInvariant by start log ks) → get_elem? ks i ≡ some k → k.spent ≡ false → k.number ≡ 0 → length k.joined ≤ k.splits
  no_more log ks i k o at live zero' =
      let H = is_first log ks i k o at live zero' in
      omega (arith, few ks (ap (λ n. get_elem? ks n) (at_zero log ks i k o at live zero') ∙ at), o.spents, o.counted, H.splits_is, ap length H.joined_is)
    where
      few : (xs : List (Known E)) → get_elem? xs 0 ≡ some k → spent_of xs < length xs
      few [] e = absurd (some-ne-none k (sym e))
      few (x ∷ xs) e = let z : one_if x.spent ≡ 0 = ap one_if (ap (λ (y : Known E). y.spent) (some-injective x k e) ∙ live) in omega (arith, spent_low xs)

  -- a pass is split from the first
  pub splits : (log : List E) (ks : List (Known E)) (i : ℕ) (k : Known E) (o : LogInvariant by start log ks) → get_elem? ks i ≡ some k → k.spent ≡ false → k.number ≡ 0
      → LogInvariant by start log (set ks i (splitting k) ++ copied k ∷ [])
  splits log ks i k o at live zero' =
      let is0 = at_zero log ks i k o at live zero' in
      let H = is_first log ks i k o at live zero' in
      let f = o.each i k at live in
      let l = splitting k in
      let c = copied k in
      let n' : ℕ = k.splits + 1 in
      let vs : List (Known E) = set ks i l in
      let seat' : ℕ → ℕ = λ n. cond (eqb n n') (length vs) (o.seat n) in
      let other : (n : ℕ) → n ≤ o.splits → seat' n ≡ o.seat n = λ n low. ap (λ b. cond b (length vs) (o.seat n)) (ne_eqb n n' (λ is. omega (arith, H.splits_is))) in
      let long : start ≤ length log = omega (arith, f.whole, Lists.starts_length log k.seen f.sees) in
      let none' : own by n' start log ≡ [] = Lists.filter_none by n' (drop start log) (λ e has is. omega (arith, o.numbered e has, H.splits_is)) in
      let cut : (xs : List E) → StartsWith log xs → start ≤ length xs → own by n' start xs ≡ [] = λ xs s low. Lists.filter_none by n' (drop start xs)
      (λ e has is. (let more = Contains-append_left (drop start xs) s.0 e has in let in_log = subst (λ ys. Contains ys e) (sym (ap (drop start) s.1 ∙ drop-append-le start xs s.0 low)) more in omega (arith, o.numbered e in_log, H.splits_is))) in
      let Q : ℕ → Known E → Type 0 = KnowledgeInvariant by start log seat' (o.splits + 1) in record {
        seat = seat';
        splits = o.splits + 1;
        joined = o.joined;
        first = λ h e. ⊎_elim
            (λ old. ⊎_elim
            (λ (x : (0 ≡ i) × (l ≡ h)). (let new : IsFirst by start (o.splits + 1) o.joined l = record { zero = H.zero; live = H.live; splits_is = ap (λ n. n + 1) H.splits_is; joined_is = H.joined_is; stand = H.stand } in subst (IsFirst by start (o.splits + 1) o.joined) x.1 new))
            (λ (x : (0 ≢ i) × (get_elem? ks 0 ≡ some h)). absurd (x.0 is0))
            (at_set ks i 0 l h old))
            (λ (x : (0 ≡ length vs) × (c ≡ h)). absurd (omega (arith, length-set ks i l, o.counted, x.0)))
            (Lists.at_end vs c h 0 e);
        each = λ j u e here. ⊎_elim
            (λ old. ⊎_elim
            (λ (x : (j ≡ i) × (l ≡ u)). subst (λ (y : ℕ × Known E). Q y.0 y.1) (λ m. (sym x.0 m, x.1 m))
            (let new : Q i l = record { starts = f.starts; place_is = other k.number f.number ∙ f.place_is; number = omega (arith, f.number); sees = f.sees; whole = f.whole; unmatched = f.unmatched; mine = f.mine; mine_seen = f.mine_seen; news = f.news } in new))
            (λ (x : (j ≢ i) × (get_elem? ks j ≡ some u)). (let g = o.each j u x.1 here in
            record { starts = g.starts; place_is = other u.number g.number ∙ g.place_is; number = omega (arith, g.number); sees = g.sees; whole = g.whole; unmatched = g.unmatched; mine = g.mine; mine_seen = g.mine_seen; news = g.news }))
            (at_set ks i j l u old))
            (λ (x : (j ≡ length vs) × (c ≡ u)). subst (λ (y : ℕ × Known E). Q y.0 y.1) (λ m. (sym x.0 m, x.1 m))
            (let new : Q (length vs) c = record {
              starts = f.starts;
              place_is = ap (λ b. cond b (length vs) (o.seat n')) (eq-eqb n' n' refl);
              number = omega (arith, H.splits_is);
              sees = f.sees;
              whole = f.whole;
              unmatched = (log, refl);
              mine = none';
              mine_seen = cut k.seen f.sees f.whole;
              news = f.news;
            } in new))
            (Lists.at_end vs c u j e);
        joins = λ j has. let t = o.joins j has in (
          omega (arith, t.0),
          t.1,
          λ p u e here. ⊎_elim
              (λ old. ⊎_elim
              (λ (x : (p ≡ i) × (l ≡ u)). λ is. t.2 i k at live (ap number_of x.1 ∙ is))
              (λ (x : (p ≢ i) × (get_elem? ks p ≡ some u)). t.2 p u x.1 here)
              (at_set ks i p l u old))
              (λ (x : (p ≡ length vs) × (c ≡ u)). λ is. (let low = t.0 in absurd (omega (arith, H.splits_is, ap number_of x.1))))
              (Lists.at_end vs c u p e),
        );
        numbered = λ e has. omega (arith, o.numbered e has);
        numbers = λ n low. dite (ℕ_discrete n n')
            (λ (is : n ≡ n'). inl (length vs, c, at_last vs c (length vs) refl, live, sym is))
            (λ (ne : n ≢ n'). ⊎_elim
            (λ (t : (j : ℕ) × (u : Known E) × (get_elem? ks j ≡ some u) × (u.spent ≡ false) × (u.number ≡ n)). dite (ℕ_discrete t.0 i)
            (λ (is : t.0 ≡ i). inl (i, l, at_longer vs (c ∷ []) i l (Lists.set_at ks i l k at), live, ap number_of (Lists.same_at ks i t.0 k t.1 (sym is) at t.2) ∙ t.4))
            (λ (no : t.0 ≢ i). inl (t.0, t.1, at_longer vs (c ∷ []) t.0 t.1 (set_else ks i t.0 l no ∙ t.2), t.3, t.4)))
            inr
            (o.numbers n (omega (arith, H.splits_is))));
        counted = omega (arith, length-append vs (c ∷ []), length-set ks i l, o.counted);
        spents = (let s = spent_set ks i k l at in let z : one_if k.spent ≡ 0 = ap one_if live in omega (arith, spent_append vs (c ∷ []), o.spents));
      }

  -- a pass is joined to the first
  pub joins : (log : List E) (ks : List (Known E)) (i j : ℕ) (k l : Known E) (o : LogInvariant by start log ks) → get_elem? ks i ≡ some k → k.spent ≡ false → k.number ≡ 0
      → j ≢ i → get_elem? ks j ≡ some l → l.spent ≡ false
      → LogInvariant by start log (set (set ks i (joining k l)) j nothing_known)
  joins log ks i j k l o at live zero' apart there live' =
      let is0 = at_zero log ks i k o at live zero' in
      let H = is_first log ks i k o at live zero' in
      let f = o.each i k at live in
      let g = o.each j l there live' in
      let b = joining k l in
      let vs : List (Known E) = set ks i b in
      let there' : get_elem? vs j ≡ some l = set_else ks i j b apart ∙ there in
      let new' : Joined E = record { number = l.number; items = l.mine } in
      let joined' : List (Joined E) = new' ∷ o.joined in
      let top : List E = longer k.seen l.seen in
      let starts = Lists.longer_starts k.seen l.seen log f.sees g.sees in
      let sees : StartsWith log top = Lists.longer_is (λ xs. StartsWith log xs) k.seen l.seen f.sees g.sees in
      let distinct : l.number ≢ k.number = λ is. apart (sym g.place_is ∙ ap o.seat is ∙ f.place_is) in
      let Q : ℕ → Known E → Type 0 = KnowledgeInvariant by start log o.seat o.splits in
      let split_at : (R : ℕ → Known E → Type 0) → R i b → ((m : ℕ) (u : Known E) → m ≢ i → m ≢ j → get_elem? ks m ≡ some u → u.spent ≡ false → R m u) → (m : ℕ) (u : Known E) → get_elem? (set vs j nothing_known) m ≡ some u → u.spent ≡ false → R m u =
      λ R mine others m u e here. ⊎_elim
      (λ (x : (m ≡ j) × (nothing_known ≡ u)). Lists.no_both u.spent here (sym (ap (λ (y : Known E). y.spent) x.1)))
      (λ (x : (m ≢ j) × (get_elem? vs m ≡ some u)). ⊎_elim
      (λ (y : (m ≡ i) × (b ≡ u)). subst (λ (z : ℕ × Known E). R z.0 z.1) (λ t. (sym y.0 t, y.1 t)) mine)
      (λ (y : (m ≢ i) × (get_elem? ks m ≡ some u)). others m u y.0 x.0 y.1 here)
      (at_set ks i m b u x.1))
      (at_set vs j m nothing_known u e) in record {
        seat = o.seat;
        splits = o.splits;
        joined = joined';
        first = λ h e. ⊎_elim
            (λ (x : (0 ≡ j) × (nothing_known ≡ h)). absurd (apart (sym x.0 ∙ is0)))
            (λ (x : (0 ≢ j) × (get_elem? vs 0 ≡ some h)). ⊎_elim
            (λ (y : (0 ≡ i) × (b ≡ h)). (let new : IsFirst by start o.splits joined' b = record {
              zero = H.zero;
              live = H.live;
              splits_is = H.splits_is;
              joined_is = ap (λ xs. new' ∷ xs) H.joined_is;
              stand = λ q has. ⊎_elim
                  (λ (z : new' ≡ q). subst (λ (w : Joined E). own by w.number start top ≡ w.items) z (Lists.between by l.number start l.seen top log l.mine starts.1 sees g.whole g.mine_seen g.mine))
                  (λ old. Lists.between by q.number start k.seen top log q.items starts.0 sees f.whole (H.stand q old) (o.joins q old).1)
                  (Lists.Contains-cons new' o.joined q has);
            } in subst (IsFirst by start o.splits joined') y.1 new))
            (λ (y : (0 ≢ i) × (get_elem? ks 0 ≡ some h)). absurd (y.0 is0))
            (at_set ks i 0 b h x.1))
            (at_set vs j 0 nothing_known h e);
        each = split_at Q
            (record {
              starts = f.starts;
              place_is = f.place_is;
              number = f.number;
              sees = sees;
              whole = Lists.longer_is (λ xs. start ≤ length xs) k.seen l.seen f.whole g.whole;
              unmatched = Lists.shorter_is (λ xs. StartsWith log xs) k.seen l.seen f.sees g.sees;
              mine = f.mine;
              mine_seen = Lists.between by k.number start k.seen top log k.mine starts.0 sees f.whole f.mine_seen f.mine;
              news = omega (arith, f.news, g.news);
            })
            (λ m u _ _ e here. o.each m u e here);
        joins = λ q has. ⊎_elim
            (λ (z : new' ≡ q). subst (λ (w : Joined E). (w.number ≤ o.splits) × (own by w.number start log ≡ w.items) × NoLivePass (set vs j nothing_known) w.number) z
            (g.number, g.mine, split_at (λ m u. u.number ≢ l.number) (λ is. distinct (sym is)) (λ m u _ ne e here is. ne (sym (o.each m u e here).place_is ∙ ap o.seat is ∙ g.place_is))))
            (λ old. let t = o.joins q old in (t.0, t.1, split_at (λ m u. u.number ≢ q.number) (t.2 i k at live) (λ m u _ _ e here. t.2 m u e here)))
            (Lists.Contains-cons new' o.joined q has);
        numbered = o.numbered;
        numbers = λ n low. ⊎_elim
            (λ (t : (m : ℕ) × (u : Known E) × (get_elem? ks m ≡ some u) × (u.spent ≡ false) × (u.number ≡ n)). dite (ℕ_discrete t.0 j)
            (λ (is : t.0 ≡ j). inr (new', Lists.Contains-head new' o.joined, ap number_of (Lists.same_at ks j t.0 l t.1 (sym is) there t.2) ∙ t.4))
            (λ (ne : t.0 ≢ j). dite (ℕ_discrete t.0 i)
            (λ (is : t.0 ≡ i). inl (i, b, set_else vs j i nothing_known (λ s. apart (sym s)) ∙ Lists.set_at ks i b k at, live, ap number_of (Lists.same_at ks i t.0 k t.1 (sym is) at t.2) ∙ t.4))
            (λ (no : t.0 ≢ i). inl (t.0, t.1, set_else vs j t.0 nothing_known ne ∙ (set_else ks i t.0 b no ∙ t.2), t.3, t.4))))
            (λ (t : HasNumber o.joined n). inr (t.0, Lists.Contains-tail new' o.joined t.0 t.1, t.2))
            (o.numbers n low);
        counted = length-set vs j nothing_known ∙ length-set ks i b ∙ o.counted;
        spents = (let s = spent_set ks i k b at in let t = spent_set vs j l nothing_known there' in let x : one_if l.spent ≡ 0 = ap one_if live' in omega (arith, o.spents));
      }

  -- where the first has joined back all its copies, each other pass is spent, and the log is what the first has seen
  pub closes : (log : List E) (ks : List (Known E)) (i : ℕ) (k : Known E) (o : LogInvariant by start log ks) → get_elem? ks i ≡ some k → k.spent ≡ false → k.number ≡ 0 → k.splits ≡ length k.joined
      → ((j : ℕ) (u : Known E) → get_elem? ks j ≡ some u → u.spent ≡ false → j ≡ i) × (log ≡ k.seen)
  closes log ks i k o at live zero' all =
      let is0 = at_zero log ks i k o at live zero' in
      let H = is_first log ks i k o at live zero' in
      let f = o.each i k at live in
      let alone' = alone log ks i k o at live zero' all in
      let none' : (n : ℕ) → n ≤ o.splits → filter (λ e. by e == n) f.sees.0 ≡ [] = λ n low. ⊎_elim
      (λ (t : (m : ℕ) × (u : Known E) × (get_elem? ks m ≡ some u) × (u.spent ≡ false) × (u.number ≡ n)).
      (let same : k ≡ t.1 = Lists.same_at ks i t.0 k t.1 (sym is0 ∙ sym (alone' t.0 t.1 t.2 t.3)) at t.2 in
      let number : k.number ≡ n = ap number_of same ∙ t.4 in
      subst (λ m. filter (λ e. by e == m) f.sees.0 ≡ []) number (Lists.behind by k.number start k.seen f.sees.0 k.mine f.whole f.mine_seen (ap (own by k.number start) (sym f.sees.1) ∙ f.mine))))
      (λ (t : HasNumber o.joined n).
      subst (λ m. filter (λ e. by e == m) f.sees.0 ≡ []) t.2 (Lists.behind by t.0.number start k.seen f.sees.0 t.0.items f.whole (H.stand t.0 t.1) (ap (own by t.0.number start) (sym f.sees.1) ∙ (o.joins t.0 t.1).1)))
      (o.numbers n low) in
      let empty : f.sees.0 ≡ [] = Lists.filter_all by f.sees.0 (λ e has. none' (by e) (o.numbered e (in_log e has))) in
      ((λ j u e here. alone' j u e here ∙ is0), f.sees.1 ∙ ap (λ l. k.seen ++ l) empty ∙ append-nil k.seen)
    where
      in_log : (e : E) → Contains (o.each i k at live).sees.0 e → Contains (drop start log) e
      in_log e has = let f = o.each i k at live in subst (λ xs. Contains xs e) (sym (ap (drop start) f.sees.1 ∙ drop-append-le start k.seen f.sees.0 f.whole)) (Contains-append_right (drop start k.seen) f.sees.0 e has)
