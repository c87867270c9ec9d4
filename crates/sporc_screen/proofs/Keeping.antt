-- What holds of a screen at every moment, after each of its calls.
use Rattle.std.proofs.Common.{◌≡◌, ℕ, suc, ◌≤◌, Bool, true, false, List, [], ◌∷◌, ◌++◌, length, refl, ap₂, sym, ◌∙◌, subst, arith, length-append, cond}
use Rattle.std.proofs.lemmas.Bool.{ltb-false, ltb-true}
use Rattle.sporc_screen.proofs.Common.{Mark, base_len, out_len, keep_marks, earlier, out_len-keep_marks, base_len-keep_marks, inserted_len-keep_marks}
use Rattle.sporc_screen.proofs.Common.{base_len-earlier, base_len-later, inserted_len-later, LeadTo, first_joined, last_of, with_line, MAX_NAMED, MAX_COUNT, nat_lt}
use Rattle.sporc_screen.proofs.Common.{ScreenInvariant, ScreenModel, opened, taken, came, renewed}
use Rattle.sporc_screen.specs.declared.lines.Numbers.{Numbers}
use Rattle.sporc_screen.specs.declared.lines.Written.{Written}
use Rattle.sporc_screen.proofs.Following.{LeadTo-append, LeadTo-joined, length-joined, out_len-both, out_len_le}

-- ---- one line more

pub record OneMore (xs : List (List Mark)) (x : List Mark) (new : List (List Mark)) : Type 0 where
  pub lead : LeadTo new (out_len x)
  pub few : length new ≤ MAX_NAMED
  pub grown : length new ≤ suc (length xs)

one_more : (b : Bool) (xs : List (List Mark)) (x : List Mark) → nat_lt (length xs) MAX_NAMED ≡ b → length xs ≤ MAX_NAMED → LeadTo xs (base_len x) → OneMore xs x (cond b (xs ++ x ∷ []) (first_joined xs ++ x ∷ []))
one_more true xs x is few lead = record {
  lead = LeadTo-append xs x lead;
  few = omega (arith, ltb-true (length xs) MAX_NAMED is, length-append xs (x ∷ []));
  grown = omega (arith, length-append xs (x ∷ []));
}
one_more false xs x is few lead =
    let many : 2 ≤ length xs = omega (arith, ltb-false (length xs) MAX_NAMED is) in
    let shorter = length-joined xs many in record {
      lead = LeadTo-append (first_joined xs) x (LeadTo-joined xs (base_len x) lead);
      few = omega (arith, shorter, length-append (first_joined xs) (x ∷ []));
      grown = omega (arith, shorter, length-append (first_joined xs) (x ∷ []));
    }

pub with_line_keeps : (xs : List (List Mark)) (x : List Mark) → length xs ≤ MAX_NAMED → LeadTo xs (base_len x) → OneMore xs x (with_line xs x)
with_line_keeps xs x few lead = one_more (nat_lt (length xs) MAX_NAMED) xs x refl few lead

-- ---- the calls

pub opened_keeps : (len : ℕ) → len ≤ MAX_COUNT → ScreenInvariant (opened len)
opened_keeps len small = record {
  lead = tt;
  few = omega arith;
  numbered = omega arith;
  own_limit = omega arith;
  inserted_limit = omega (arith, inserted_len-keep_marks len);
  limit = omega (arith, inserted_len-keep_marks len, base_len-keep_marks len);
}

pub taken_keeps : (s : ScreenModel) → ScreenInvariant s → ScreenInvariant (taken s)
taken_keeps s h =
    let n = out_len s.draft in record {
      lead = subst (λ (n : ℕ). LeadTo s.since n) (sym (out_len-keep_marks n)) h.lead;
      few = h.few;
      numbered = h.numbered;
      own_limit = h.own_limit;
      inserted_limit = omega (arith, inserted_len-keep_marks n);
      limit = omega (arith, inserted_len-keep_marks n, base_len-keep_marks n, out_len_le s.draft, h.limit);
    }

pub came_keeps : (s : ScreenModel) (form : List Mark) → base_len form ≡ base_len s.draft → out_len form ≤ MAX_COUNT → ScreenInvariant s → ScreenInvariant (came s form)
came_keeps s form base small h =
    let x = earlier form s.draft in
    let more = with_line_keeps s.since x h.few (subst (λ (n : ℕ). LeadTo s.since n) (sym (base_len-earlier form s.draft base)) h.lead) in record {
      lead = subst (λ (n : ℕ). LeadTo (with_line s.since x) n) (sym (out_len-both form s.draft)) more.lead;
      few = more.few;
      numbered = omega (arith, more.grown, h.numbered);
      own_limit = omega (arith, h.own_limit);
      inserted_limit = omega (arith, inserted_len-later form s.draft, h.inserted_limit);
      limit = omega (arith, inserted_len-later form s.draft, h.inserted_limit, base_len-later form s.draft base, small);
    }

pub renewed_keeps : (s : ScreenModel) → ScreenInvariant s → ScreenInvariant (renewed s)
renewed_keeps s h =
    let n = out_len s.draft in
    let more = with_line_keeps s.since (keep_marks n) h.few (subst (λ (n : ℕ). LeadTo s.since n) (sym (base_len-keep_marks n)) h.lead) in record {
      lead = subst (λ (k : ℕ). LeadTo (with_line s.since (keep_marks n)) k) (out_len-keep_marks n) more.lead;
      few = more.few;
      numbered = omega (arith, more.grown, h.numbered);
      own_limit = omega (arith, h.own_limit);
      inserted_limit = h.inserted_limit;
      limit = h.limit;
    }

-- ---- the last line

last_of-append : (xs : List (List Mark)) (x : List Mark) → last_of (xs ++ x ∷ []) ≡ x
last_of-append [] x = refl
last_of-append (y ∷ []) x = refl
last_of-append (y ∷ z ∷ zs) x = last_of-append (z ∷ zs) x

last_more : (b : Bool) (xs : List (List Mark)) (x : List Mark) → last_of (cond b (xs ++ x ∷ []) (first_joined xs ++ x ∷ [])) ≡ x
last_more true xs x = last_of-append xs x
last_more false xs x = last_of-append (first_joined xs) x

pub last_with_line : (xs : List (List Mark)) (x : List Mark) → last_of (with_line xs x) ≡ x
last_with_line xs x = last_more (nat_lt (length xs) MAX_NAMED) xs x

pub written_last : (w : Written) (n : Numbers) (xs new : List (List Mark)) (x : List Mark) → new ≡ with_line xs x → w.numbers ≡ n → w.delta ≡ x → w ≡ record { numbers = n; delta = last_of new }
written_last w n xs new x is numbers delta =
    let line : Numbers → List Mark → Written = λ n d. record { numbers = n; delta = d } in
    rw is (ap₂ line numbers (delta ∙ sym (last_with_line xs x)))
