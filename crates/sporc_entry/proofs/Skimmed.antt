-- Reading of which only the place behind it is kept.
use Rattle.std.proofs.Common.{◌≡◌, ◌≢◌, ℕ, suc, ◌-◌, ◌+◌, ◌≤◌, ◌<◌, List, ◌∷◌, Result, Ok, Err, refl, sym, ap, ◌∙◌, arith}
use Rattle.sporc_entry.proofs.Common.{ne_eqb, Reading, ◌>>=◌, end_at, ok_is, ChangeBody, Header, change_body_at, body_read, body_place, left_by}
use Rattle.sporc_bytes.specs.Fields.{values_at}
use Rattle.sporc_entry.specs.ChangeBody.{change_body_from}

-- what is left behind one value and others is what is left behind the others
pub left_then : {A B : Type 0} (f : A → B) (read : Result (A × Reading) ℕ) → left_by (read >>= λ x. Ok (f x.0, x.1)) ≡ left_by read
left_then f (Ok x) = refl
left_then f (Err at) = refl

module _ {A : Type 0} (read : Reading → Result (A × Reading) ℕ) (count i : ℕ) (r : Reading) (total : Result Reading ℕ) (so_far : left_by (values_at read (count - i) r) ≡ total) where
  next_value : i < count → left_by (values_at read (count - i) r) ≡ left_by (read r >>= λ first. values_at read (count - (i + 1)) first.1 >>= λ others. Ok (first.0 ∷ others.0, others.1))
  unfolding values_at
  next_value lt = let k : count - i ≡ suc (count - (i + 1)) = omega arith in rw k refl

  pub skims_on : (a : A) (after : Reading) → i < count → read r ≡ Ok (a, after) → left_by (values_at read (count - (i + 1)) after) ≡ total
  skims_on a after lt h = sym (left_then (λ (others : List A). a ∷ others) (values_at read (count - (i + 1)) after)) ∙ sym (next_value lt ∙ rw h refl) ∙ so_far

  pub skim_ends : (at : ℕ) → i < count → read r ≡ Err at → total ≡ Err at
  skim_ends at lt h = sym so_far ∙ next_value lt ∙ rw h refl

  pub skim_done : count ≤ i → total ≡ Ok r
  unfolding values_at
  skim_done le = let k : count - i ≡ 0 = omega arith in sym so_far ∙ rw k refl

-- a change's body, of which only that it is one is kept
abbrev alone : {A : Type 0} → Result A ℕ → Result (Unit {0}) ℕ
alone read = read >>= λ _. Ok (tt {0})

end_alone : (c : ChangeBody) (end : Result (Unit {0}) ℕ) → alone (end >>= λ _. Ok c) ≡ end
end_alone c (Ok x) = refl
end_alone c (Err at) = refl

fields_end : (read : Result (ChangeBody × Reading) ℕ) (after : Reading) → left_by read ≡ Ok after → alone (read >>= λ x. end_at x.1 >>= λ _. Ok x.0) ≡ end_at after
fields_end (Ok x) after h = end_alone x.0 (end_at x.1) ∙ ap end_at (ok_is x.1 after h)
fields_end (Err at) after h = absurd cc

fields_fail : (read : Result (ChangeBody × Reading) ℕ) (at : ℕ) → left_by read ≡ Err at → alone (read >>= λ x. end_at x.1 >>= λ _. Ok x.0) ≡ Err at
fields_fail (Ok x) at h = absurd cc
fields_fail (Err a) at h = cc

-- what a body of no edit reads as, told by what is behind the fields of a change
module _ (h : Header) (body : List ℕ) (r : Reading) (other : h.kind ≢ 1) (rest : r.rest ≡ body) (place : r.at ≡ body_place h.version) where
  pub body_ends : (after : Reading) → left_by (change_body_at h.version r) ≡ Ok after → body_read h body ≡ end_at after
  unfolding change_body_from
  body_ends after e = rw (sym rest, sym place, ne_eqb h.kind 1 other) (fields_end (change_body_at h.version r) after e)

  pub body_fails : (f : ℕ) → left_by (change_body_at h.version r) ≡ Err f → body_read h body ≡ Err f
  unfolding change_body_from
  body_fails f e = rw (sym rest, sym place, ne_eqb h.kind 1 other) (fields_fail (change_body_at h.version r) f e)
