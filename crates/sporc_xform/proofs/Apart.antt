-- Deltas whose changes do not meet.
use Rattle.std.proofs.Common.{◌≡◌, ℕ, zero, suc, ◌+◌, ◌-◌, ◌<◌, ◌≤◌, Bool, true, false, Option, Some, None, List, [], ◌∷◌, ◌++◌, refl, ap, sym, ◌∙◌, append_assoc, arith}
use Rattle.sporc_xform.proofs.Common.{replicate-append-replicate, flat_map, ◌↔◌, IfNone, MAX_TEXT_LEN, Mark, Keep, Remove, Insert, base_len, inserted_len, out_len, keep_marks, runs, count_of}
use Rattle.sporc_xform.proofs.Common.{kept_first, kept_last, kept_there, shifted, Later, earlier, earlier_step, later, later_step, steps, base_len-append, base_len-keep_marks, out_len-append}
use Rattle.sporc_xform.proofs.Common.{out_len-keep_marks, IsMoved, Meet, ShiftsEarlier, ShiftsLater}
use Rattle.sporc_delta.specs.declared.shift.Shift.{Shift}
use Rattle.sporc_delta.specs.declared.shift.Shift.TheVariants.{First, Last}
use Rattle.sporc_delta.proofs.Shifted.{begins_with, ends_with, shifted_first, shifted_last}
use Rattle.sporc_xform.proofs.LengthLemmas.{base_len-earlier, base_len-later, inserted_len-earlier, inserted_len-later, out_len-le}

-- ---- a delta and one that keeps all

insert_kept : (n c : ℕ) (q : List Mark) → steps (keep_marks n) (Insert c ∷ q) ≡ Later c ∷ steps (keep_marks n) q
insert_kept zero c q = refl
insert_kept (suc n) c q = refl

later_behind_keeps : (q : List Mark) → later q (keep_marks (base_len q)) ≡ q
later_behind_keeps [] = refl
later_behind_keeps (Insert c ∷ q) = ap (flat_map later_step) (insert_kept (base_len q) c q) ∙ ap (λ ms. Insert c ∷ ms) (later_behind_keeps q)
later_behind_keeps (Keep ∷ q) = ap (λ ms. Keep ∷ ms) (later_behind_keeps q)
later_behind_keeps (Remove ∷ q) = ap (λ ms. Remove ∷ ms) (later_behind_keeps q)

keeps_behind_later : (q : List Mark) → earlier (keep_marks (base_len q)) q ≡ keep_marks (out_len q)
keeps_behind_later [] = refl
keeps_behind_later (Insert c ∷ q) = ap (flat_map earlier_step) (insert_kept (base_len q) c q) ∙ ap (λ ms. Keep ∷ ms) (keeps_behind_later q)
keeps_behind_later (Keep ∷ q) = ap (λ ms. Keep ∷ ms) (keeps_behind_later q)
keeps_behind_later (Remove ∷ q) = keeps_behind_later q

earlier_behind_keeps : (p : List Mark) → earlier p (keep_marks (base_len p)) ≡ p
earlier_behind_keeps [] = refl
earlier_behind_keeps (Insert c ∷ p) = ap (λ ms. Insert c ∷ ms) (earlier_behind_keeps p)
earlier_behind_keeps (Keep ∷ p) = ap (λ ms. Keep ∷ ms) (earlier_behind_keeps p)
earlier_behind_keeps (Remove ∷ p) = ap (λ ms. Remove ∷ ms) (earlier_behind_keeps p)

keeps_behind_earlier : (p : List Mark) → later (keep_marks (base_len p)) p ≡ keep_marks (out_len p)
keeps_behind_earlier [] = refl
keeps_behind_earlier (Insert c ∷ p) = ap (λ ms. Keep ∷ ms) (keeps_behind_earlier p)
keeps_behind_earlier (Keep ∷ p) = ap (λ ms. Keep ∷ ms) (keeps_behind_earlier p)
keeps_behind_earlier (Remove ∷ p) = keeps_behind_earlier p

-- ---- the changes of the earlier one, f, stand first

later_passes : (f p q : List Mark) → later (keep_marks (base_len f) ++ q) (f ++ p) ≡ keep_marks (out_len f) ++ later q p
later_passes [] p q = refl
later_passes (Insert c ∷ f) p q = ap (λ ms. Keep ∷ ms) (later_passes f p q)
later_passes (Keep ∷ f) p q = ap (λ ms. Keep ∷ ms) (later_passes f p q)
later_passes (Remove ∷ f) p q = later_passes f p q

earlier_stays : (f p q : List Mark) → earlier (f ++ p) (keep_marks (base_len f) ++ q) ≡ f ++ earlier p q
earlier_stays [] p q = refl
earlier_stays (Insert c ∷ f) p q = ap (λ ms. Insert c ∷ ms) (earlier_stays f p q)
earlier_stays (Keep ∷ f) p q = ap (λ ms. Keep ∷ ms) (earlier_stays f p q)
earlier_stays (Remove ∷ f) p q = ap (λ ms. Remove ∷ ms) (earlier_stays f p q)

-- ---- the changes of the later one, g, stand first, and behind them the earlier one keeps a character

insert_before : (n c : ℕ) (p q : List Mark) → steps (keep_marks n ++ Keep ∷ p) (Insert c ∷ q) ≡ Later c ∷ steps (keep_marks n ++ Keep ∷ p) q
insert_before zero c p q = refl
insert_before (suc n) c p q = refl

later_stays : (g p q : List Mark) → later (g ++ q) (keep_marks (base_len g) ++ Keep ∷ p) ≡ g ++ later q (Keep ∷ p)
later_stays [] p q = refl
later_stays (Insert c ∷ g) p q = ap (flat_map later_step) (insert_before (base_len g) c p (g ++ q)) ∙ ap (λ ms. Insert c ∷ ms) (later_stays g p q)
later_stays (Keep ∷ g) p q = ap (λ ms. Keep ∷ ms) (later_stays g p q)
later_stays (Remove ∷ g) p q = ap (λ ms. Remove ∷ ms) (later_stays g p q)

earlier_passes : (g p q : List Mark) → earlier (keep_marks (base_len g) ++ Keep ∷ p) (g ++ q) ≡ keep_marks (out_len g) ++ earlier (Keep ∷ p) q
earlier_passes [] p q = refl
earlier_passes (Insert c ∷ g) p q = ap (flat_map earlier_step) (insert_before (base_len g) c p (g ++ q)) ∙ ap (λ ms. Keep ∷ ms) (earlier_passes g p q)
earlier_passes (Keep ∷ g) p q = ap (λ ms. Keep ∷ ms) (earlier_passes g p q)
earlier_passes (Remove ∷ g) p q = earlier_passes g p q

-- ---- two deltas whose changes do not meet

-- all that a changes stands before all that b does, with so many characters between
pub record Split (a b : List Mark) : Type 0 where
  pub front : List Mark
  pub gap : ℕ
  pub rest : List Mark
  pub first_is : a ≡ front ++ keep_marks (base_len (keep_marks gap ++ rest))
  pub second_is : b ≡ keep_marks (base_len front) ++ (keep_marks gap ++ rest)
  pub first_kept : kept_last a ≡ base_len (keep_marks gap ++ rest)
  pub second_kept : kept_first b ≡ base_len front + gap

pub split : (a b : List Mark) → base_len a ≡ base_len b → base_len a ≤ kept_last a + kept_first b → Split a b
split a b same apart =
    let end = ends_with a in
    let begin = begins_with b in
    let gap = kept_last a + kept_first b - base_len a in
    let base_a = ap base_len end.is ∙ base_len-append end.front (keep_marks (kept_last a)) in
    let kept_b : kept_first b ≡ base_len end.front + (kept_last a + kept_first b - base_len a) = omega (arith, apart, base_a, base_len-keep_marks (kept_last a)) in
    let b_is : b ≡ keep_marks (base_len end.front) ++ (keep_marks gap ++ begin.rest) =
    begin.is ∙ ap (λ (n : ℕ). keep_marks n ++ begin.rest) kept_b ∙ ap (λ (ms : List Mark). ms ++ begin.rest) (sym (replicate-append-replicate (base_len end.front) gap Keep)) ∙ append_assoc (keep_marks (base_len end.front)) (keep_marks gap) begin.rest in
    let base_b = ap base_len b_is ∙ base_len-append (keep_marks (base_len end.front)) (keep_marks gap ++ begin.rest) in
    let kept_a : kept_last a ≡ base_len (keep_marks gap ++ begin.rest) = omega (arith, same, base_a, base_len-keep_marks (kept_last a), base_b, base_len-keep_marks (base_len end.front)) in
    record {
      front = end.front;
      gap = gap;
      rest = begin.rest;
      first_is = end.is ∙ ap (λ (n : ℕ). end.front ++ keep_marks n) kept_a;
      second_is = b_is;
      first_kept = kept_a;
      second_kept = kept_b;
    }

-- the counts of both, moved
module _ (a b : List Mark) (s : Split a b) (n : ℕ) where
  rest_of : List Mark
  rest_of = keep_marks s.gap ++ s.rest

  pub second_shifted : IsMoved (kept_first b) n a → shifted (First n) b ≡ keep_marks (out_len s.front) ++ (keep_marks s.gap ++ s.rest)
  second_shifted m =
      let b_is : b ≡ keep_marks (kept_first b) ++ s.rest =
      s.second_is ∙ sym (append_assoc (keep_marks (base_len s.front)) (keep_marks s.gap) s.rest) ∙ ap (λ (ms : List Mark). ms ++ s.rest) (replicate-append-replicate (base_len s.front) s.gap Keep) ∙ ap (λ (k : ℕ). keep_marks k ++ s.rest) (sym s.second_kept) in
      let base_a = ap base_len s.first_is ∙ base_len-append s.front (keep_marks (base_len (keep_marks s.gap ++ s.rest))) in
      let out_a = ap out_len s.first_is ∙ out_len-append s.front (keep_marks (base_len (keep_marks s.gap ++ s.rest))) in
      let n_is : n ≡ out_len s.front + s.gap =
      omega (arith, m.moved, s.second_kept, base_a, out_a, base_len-keep_marks (base_len (keep_marks s.gap ++ s.rest)), out_len-keep_marks (base_len (keep_marks s.gap ++ s.rest))) in
      shifted_first b s.rest n b_is ∙ ap (λ (k : ℕ). keep_marks k ++ s.rest) n_is ∙ ap (λ (ms : List Mark). ms ++ s.rest) (sym (replicate-append-replicate (out_len s.front) s.gap Keep)) ∙ append_assoc (keep_marks (out_len s.front)) (keep_marks s.gap) s.rest

  pub first_shifted : IsMoved (kept_last a) n b → shifted (Last n) a ≡ s.front ++ keep_marks (out_len (keep_marks s.gap ++ s.rest))
  first_shifted m =
      let a_is : a ≡ s.front ++ keep_marks (kept_last a) = s.first_is ∙ ap (λ (k : ℕ). s.front ++ keep_marks k) (sym s.first_kept) in
      let base_b = ap base_len s.second_is ∙ base_len-append (keep_marks (base_len s.front)) (keep_marks s.gap ++ s.rest) in
      let out_b = ap out_len s.second_is ∙ out_len-append (keep_marks (base_len s.front)) (keep_marks s.gap ++ s.rest) in
      let n_is : n ≡ out_len (keep_marks s.gap ++ s.rest) =
      omega (arith, m.moved, s.first_kept, base_b, out_b, base_len-keep_marks (base_len s.front), out_len-keep_marks (base_len s.front)) in
      shifted_last a s.front n a_is ∙ ap (λ (k : ℕ). s.front ++ keep_marks k) n_is

-- with a character between that both keep, both counts move
pub record Moves (a b : List Mark) : Type 0 where
  pub second_some : 0 < kept_first b
  pub second_moves : base_len a < kept_first b + out_len a
  pub first_some : 0 < kept_last a
  pub first_moves : base_len b < kept_last a + out_len b

pub moves : (a b : List Mark) → base_len a ≡ base_len b → base_len a < kept_last a + kept_first b → Moves a b
moves a b same apart =
    let s = split a b same (omega (arith, apart)) in
    let tail = base_len-append (keep_marks s.gap) s.rest in
    let out = out_len-append (keep_marks s.gap) s.rest in
    let base_a = ap base_len s.first_is ∙ base_len-append s.front (keep_marks (base_len (keep_marks s.gap ++ s.rest))) in
    let out_a = ap out_len s.first_is ∙ out_len-append s.front (keep_marks (base_len (keep_marks s.gap ++ s.rest))) in
    let base_b = ap base_len s.second_is ∙ base_len-append (keep_marks (base_len s.front)) (keep_marks s.gap ++ s.rest) in
    let out_b = ap out_len s.second_is ∙ out_len-append (keep_marks (base_len s.front)) (keep_marks s.gap ++ s.rest) in
    let kept_base = base_len-keep_marks (base_len (keep_marks s.gap ++ s.rest)) in
    let kept_out = out_len-keep_marks (base_len (keep_marks s.gap ++ s.rest)) in
    let some : 0 < s.gap = omega (arith, apart, s.first_kept, s.second_kept, base_a, kept_base) in
    record {
      second_some = omega (arith, some, s.second_kept);
      second_moves = omega (arith, some, s.second_kept, base_a, out_a, kept_base, kept_out);
      first_some = omega (arith, some, s.first_kept, tail, base_len-keep_marks s.gap);
      first_moves = omega (arith, some, s.first_kept, base_b, out_b, out, out_len-keep_marks s.gap, base_len-keep_marks (base_len s.front), out_len-keep_marks (base_len s.front));
    }

-- where no count moves, the changes meet
if_none : (o : Option Shift) (Q : Type 0) → Q → IfNone o Q
if_none (Some shift) Q known = tt
if_none None Q known = known

within : (m n : ℕ) → (m < n → ⊥) → n ≤ m
within m n not = omega (arith, not)

pub not_apart : (b : Bool) (m n : ℕ) → (b ≡ true ↔ m < n) → b ≡ false → n ≤ m
not_apart b m n decides is = within m n (λ less. let no : true ≡ false = sym (decides.1 less) ∙ is in cc)

module _ (p q : List Mark) (same : base_len p ≡ base_len q) (o : Option Shift) where
  -- with a character between they don't
  pub later_last_moves : (k : ℕ) → base_len q < kept_last q + kept_first p → k ≡ kept_last q → (0 < k → k + out_len p ≤ base_len p) → IfNone o (Meet p q)
  later_last_moves k apart is none = let m = moves q p (sym same) apart in let h = none (omega (arith, m.first_some)) in absurd (omega (arith, m.first_moves))

  pub earlier_first_moves : (k : ℕ) → base_len q < kept_last q + kept_first p → k ≡ kept_first p → (0 < k → k + out_len q ≤ base_len q) → IfNone o (Meet p q)
  earlier_first_moves k apart is none = let m = moves q p (sym same) apart in let h = none (omega (arith, m.second_some)) in absurd (omega (arith, m.second_moves))

  pub later_first_meets : (k : ℕ) → kept_last q + kept_first p ≤ base_len q → k ≡ kept_first q → (0 < k → k + out_len p ≤ base_len p) → IfNone o (Meet p q)
  later_first_meets k second is none =
      let not : base_len p < kept_last p + kept_first q → ⊥ =
      λ apart. let m = moves p q same apart in let h = none (omega (arith, m.second_some)) in omega (arith, m.second_moves) in
      if_none o (Meet p q) record { first = within (base_len p) (kept_last p + kept_first q) not; second = second }

  pub earlier_last_meets : (k : ℕ) → kept_last q + kept_first p ≤ base_len q → k ≡ kept_last p → (0 < k → k + out_len q ≤ base_len q) → IfNone o (Meet p q)
  earlier_last_meets k second is none =
      let not : base_len p < kept_last p + kept_first q → ⊥ =
      λ apart. let m = moves p q same apart in let h = none (omega (arith, m.first_some)) in omega (arith, m.first_moves) in
      if_none o (Meet p q) record { first = within (base_len p) (kept_last p + kept_first q) not; second = second }

-- ---- what the code answers

later_fits : (shift : Shift) (q p : List Mark) → base_len p ≡ base_len q → base_len p + inserted_len p + inserted_len q ≤ MAX_TEXT_LEN → 0 < count_of shift → 0 < kept_there shift (runs q)
    → shifted shift q ≡ later q p → ShiftsLater shift q p
later_fits shift q p same limit some kept value = record {
  value = value;
  fits = record {
    some = some;
    kept = kept;
    base = omega (arith, limit, ap base_len value, base_len-later p q same, out_len-le p);
    out = omega (arith, limit, ap out_len value, base_len-later p q same, out_len-le p, out_len-le (later q p), inserted_len-later p q);
  };
}

earlier_fits : (shift : Shift) (p q : List Mark) → base_len p ≡ base_len q → base_len p + inserted_len p + inserted_len q ≤ MAX_TEXT_LEN → 0 < count_of shift → 0 < kept_there shift (runs p)
    → shifted shift p ≡ earlier p q → ShiftsEarlier shift p q
earlier_fits shift p q same limit some kept value = record {
  value = value;
  fits = record {
    some = some;
    kept = kept;
    base = omega (arith, limit, same, ap base_len value, base_len-earlier p q same, out_len-le q);
    out = omega (arith, limit, same, ap out_len value, base_len-earlier p q same, out_len-le q, out_len-le (earlier p q), inserted_len-earlier p q);
  };
}

module _ (p q : List Mark) (same : base_len p ≡ base_len q) (limit : base_len p + inserted_len p + inserted_len q ≤ MAX_TEXT_LEN) (n : ℕ) where
  -- the earlier one's changes stand first
  pub later_moves : base_len p ≤ kept_last p + kept_first q → IsMoved (kept_first q) n p → ShiftsLater (First n) q p
  later_moves apart m =
      let s = split p q same apart in
      let tail = keep_marks s.gap ++ s.rest in
      later_fits (First n) q p same limit m.some m.kept_some
      (second_shifted p q s n m ∙ sym (ap (λ (ms : List Mark). keep_marks (out_len s.front) ++ ms) (later_behind_keeps (keep_marks s.gap ++ s.rest)))
      ∙ sym (later_passes s.front (keep_marks (base_len (keep_marks s.gap ++ s.rest))) (keep_marks s.gap ++ s.rest)) ∙ sym (ap (later q) s.first_is ∙ ap (λ (ms : List Mark). later ms (s.front ++ keep_marks (base_len (keep_marks s.gap ++ s.rest)))) s.second_is))

  pub earlier_keeps_more : base_len p ≤ kept_last p + kept_first q → IsMoved (kept_last p) n q → ShiftsEarlier (Last n) p q
  earlier_keeps_more apart m =
      let s = split p q same apart in
      earlier_fits (Last n) p q same limit m.some m.kept_some
      (first_shifted p q s n m ∙ sym (ap (λ (ms : List Mark). s.front ++ ms) (keeps_behind_later (keep_marks s.gap ++ s.rest)))
      ∙ sym (earlier_stays s.front (keep_marks (base_len (keep_marks s.gap ++ s.rest))) (keep_marks s.gap ++ s.rest)) ∙ sym (ap (earlier p) s.second_is ∙ ap (λ (ms : List Mark). earlier ms (keep_marks (base_len s.front) ++ (keep_marks s.gap ++ s.rest))) s.first_is))

  -- the later one's changes stand first, and a character between is kept
  pub later_keeps_more : base_len q < kept_last q + kept_first p → IsMoved (kept_last q) n p → ShiftsLater (Last n) q p
  later_keeps_more apart m =
      let s = split q p (sym same) (omega (arith, apart)) in
      later_fits (Last n) q p same limit m.some m.kept_some (first_shifted q p s n m ∙ behind s.front s.rest s.gap (some s) s.first_is s.second_is)
    where
      some : (s : Split q p) → 0 < s.gap
      some s = omega (arith, apart, s.first_kept, s.second_kept, ap base_len s.first_is, base_len-append s.front (keep_marks (base_len (keep_marks s.gap ++ s.rest))), base_len-keep_marks (base_len (keep_marks s.gap ++ s.rest)))

      behind : (front rest : List Mark) (gap : ℕ) → 0 < gap → q ≡ front ++ keep_marks (base_len (keep_marks gap ++ rest)) → p ≡ keep_marks (base_len front) ++ (keep_marks gap ++ rest) → front ++ keep_marks (out_len (keep_marks gap ++ rest)) ≡ later q p
      behind front rest zero some q_is p_is = absurd (omega arith)
      behind front rest (suc gap) some q_is p_is =
          sym (ap (λ (ms : List Mark). front ++ ms) (keeps_behind_earlier (keep_marks (suc gap) ++ rest))) ∙ sym (later_stays front (keep_marks gap ++ rest) (keep_marks (base_len (keep_marks (suc gap) ++ rest))))
          ∙ sym (ap (later q) p_is ∙ ap (λ (ms : List Mark). later ms (keep_marks (base_len front) ++ (keep_marks (suc gap) ++ rest))) q_is)

  pub earlier_moves : base_len q < kept_last q + kept_first p → IsMoved (kept_first p) n q → ShiftsEarlier (First n) p q
  earlier_moves apart m =
      let s = split q p (sym same) (omega (arith, apart)) in
      earlier_fits (First n) p q same limit m.some m.kept_some (second_shifted q p s n m ∙ behind s.front s.rest s.gap (some s) s.first_is s.second_is)
    where
      some : (s : Split q p) → 0 < s.gap
      some s = omega (arith, apart, s.first_kept, s.second_kept, ap base_len s.first_is, base_len-append s.front (keep_marks (base_len (keep_marks s.gap ++ s.rest))), base_len-keep_marks (base_len (keep_marks s.gap ++ s.rest)))

      behind : (front rest : List Mark) (gap : ℕ) → 0 < gap → q ≡ front ++ keep_marks (base_len (keep_marks gap ++ rest)) → p ≡ keep_marks (base_len front) ++ (keep_marks gap ++ rest) → keep_marks (out_len front) ++ (keep_marks gap ++ rest) ≡ earlier p q
      behind front rest zero some q_is p_is = absurd (omega arith)
      behind front rest (suc gap) some q_is p_is =
          sym (ap (λ (ms : List Mark). keep_marks (out_len front) ++ ms) (earlier_behind_keeps (keep_marks (suc gap) ++ rest))) ∙ sym (earlier_passes front (keep_marks gap ++ rest) (keep_marks (base_len (keep_marks (suc gap) ++ rest))))
          ∙ sym (ap (earlier p) q_is ∙ ap (λ (ms : List Mark). earlier ms (front ++ keep_marks (base_len (keep_marks (suc gap) ++ rest)))) p_is)
