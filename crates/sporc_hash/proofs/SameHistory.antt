-- Two histories whose chains end in one value are one history, if no two different hashed strings have one digest.
use Rattle.std.proofs.Common.{◌≡◌, ℕ, List, [], ◌∷◌, ◌++◌, refl, ap, sym, ◌∙◌, subst, inl, inr}
use Rattle.std.specs.List.{Contains}
use Rattle.std.proofs.lemmas.List.Elements.{Contains-append_left, Contains-append_right}
use Rattle.sha2.specs.Sha256.{sha256}
use Rattle.sha2.proofs.Facts256.{length-sha256}
use Rattle.sporc_hash.specs.Chain.{genesis_string, genesis_value, entry_string, link_string, next_value, value_after}
use Rattle.sporc_hash.proofs.ChainLemmas.{value_push}
use Rattle.sporc_hash.specs.Strings.{entry_strings, chain_strings, CollisionFree}
use Rattle.sporc_hash.proofs.Lists.{from_end, last_cases, same_splits, Contains-first, Contains-rest}

pub entry_strings_push : (value : List ℕ) (es : List (List ℕ)) (e : List ℕ)
    → entry_strings value (es ++ e ∷ []) ≡ entry_strings value es ++ entry_string e ∷ link_string (value_after value es) e ∷ []
unfolding value_after
entry_strings_push value [] e = refl
entry_strings_push value (x ∷ es) e = ap (λ l. entry_string x ∷ link_string value x ∷ l) (entry_strings_push (next_value value x) es e)

-- two links that are one string
pub same_links : (p q e f : List ℕ) → link_string p e ≡ link_string q f → (p ≡ q) × (sha256 (entry_string e) ≡ sha256 (entry_string f))
same_links p q e f h =
    let t : p ++ sha256 (entry_string e) ≡ q ++ sha256 (entry_string f) = cc in
    same_splits p q _ _ (length-sha256 (entry_string e) ∙ sym (length-sha256 (entry_string f))) t

-- S holds of each of these strings
abbrev pub AllOf : (List ℕ → Type 0) → List (List ℕ) → Type 0
AllOf S ss = (x : List ℕ) → Contains ss x → S x

-- among the strings that S holds of, one digest means one string
abbrev pub CollisionFreeIn : (List ℕ → Type 0) → Type 0
CollisionFreeIn S = (x y : List ℕ) → S x → S y → sha256 x ≡ sha256 y → x ≡ y

module _ (S : List ℕ → Type 0) (free : CollisionFreeIn S) (g : List ℕ) (first : S (genesis_string g)) where
  front : (es : List (List ℕ)) (e : List ℕ) → AllOf S (entry_strings (genesis_value g) (es ++ e ∷ [])) → AllOf S (entry_strings (genesis_value g) es)
  front es e all x h = all x (rw entry_strings_push (Contains-append_left _ _ x h))

  own_string : (es : List (List ℕ)) (e : List ℕ) → AllOf S (entry_strings (genesis_value g) (es ++ e ∷ [])) → S (entry_string e)
  own_string es e all = all _ (rw entry_strings_push (Contains-append_right (entry_strings (genesis_value g) es) (entry_string e ∷ link_string (value_after (genesis_value g) es) e ∷ []) (entry_string e) (Contains-first (entry_string e) (link_string (value_after (genesis_value g) es) e ∷ []))))

  own_link : (es : List (List ℕ)) (e : List ℕ) → AllOf S (entry_strings (genesis_value g) (es ++ e ∷ [])) → S (link_string (value_after (genesis_value g) es) e)
  own_link es e all = all _ (rw entry_strings_push (Contains-append_right (entry_strings (genesis_value g) es) (entry_string e ∷ link_string (value_after (genesis_value g) es) e ∷ []) (link_string (value_after (genesis_value g) es) e) (Contains-rest (entry_string e) _ (link_string (value_after (genesis_value g) es) e ∷ []) (Contains-first (link_string (value_after (genesis_value g) es) e) []))))

  -- no link of the chain has the value of its beginning
  no_return : (es : List (List ℕ)) (e : List ℕ) → AllOf S (entry_strings (genesis_value g) (es ++ e ∷ [])) → value_after (genesis_value g) (es ++ e ∷ []) ≡ genesis_value g → ⊥
  no_return es e all h =
      let k : link_string (value_after (genesis_value g) es) e ≡ genesis_string g = free _ _ (own_link es e all) first (sym (value_push _ es e) ∙ h) in cc

  abbrev SameFrom : List (List ℕ) → Type 0
  SameFrom a = (b : List (List ℕ)) → AllOf S (entry_strings (genesis_value g) a) → AllOf S (entry_strings (genesis_value g) b)
      → value_after (genesis_value g) a ≡ value_after (genesis_value g) b → a ≡ b

  none_first : SameFrom []
  unfolding value_after
  none_first b in_a in_b h = elim (last_cases b) [
    | inl e ↦ sym e
    | inr p ↦ absurd (no_return p.0 p.1 (subst (λ b. AllOf S (entry_strings (genesis_value g) b)) p.2 in_b) (ap (value_after (genesis_value g)) (sym p.2) ∙ sym h))
  ]

  same_last : (a b : List (List ℕ)) (e f : List ℕ) → SameFrom a → AllOf S (entry_strings (genesis_value g) (a ++ e ∷ [])) → AllOf S (entry_strings (genesis_value g) (b ++ f ∷ []))
      → value_after (genesis_value g) (a ++ e ∷ []) ≡ value_after (genesis_value g) (b ++ f ∷ []) → a ++ e ∷ [] ≡ b ++ f ∷ []
  same_last a b e f ih in_a in_b h =
      let l = same_links _ _ e f (free _ _ (own_link a e in_a) (own_link b f in_b) (sym (value_push _ a e) ∙ h ∙ value_push _ b f)) in
      let x : a ≡ b = ih b (front a e in_a) (front b f in_b) l.0 in
      let y : entry_string e ≡ entry_string f = free _ _ (own_string a e in_a) (own_string b f in_b) l.1 in
      let z : e ≡ f = cc in
      cc

  one_more : (a : List (List ℕ)) (e : List ℕ) → SameFrom a → SameFrom (a ++ e ∷ [])
  unfolding value_after
  one_more a e ih b in_a in_b h = elim (last_cases b) [
    | inl p ↦ absurd (no_return a e in_a (h ∙ ap (value_after (genesis_value g)) p))
    | inr p ↦ same_last a p.0 e p.1 ih in_a (subst (λ b. AllOf S (entry_strings (genesis_value g) b)) p.2 in_b) (h ∙ ap (value_after (genesis_value g)) p.2) ∙ sym p.2
  ]

  -- chains that end in one value are of one history
  pub same_histories : (a : List (List ℕ)) → SameFrom a
  same_histories = from_end SameFrom none_first one_more

-- the law, over the strings of both histories
pub one_value_one_history : (genesis : List ℕ) (a b : List (List ℕ)) → CollisionFree (chain_strings genesis a ++ chain_strings genesis b)
    → value_after (genesis_value genesis) a ≡ value_after (genesis_value genesis) b → a ≡ b
one_value_one_history genesis a b free h =
    let of_a = chain_strings genesis a in
    let of_b = chain_strings genesis b in
    let root = genesis_string genesis in
    same_histories (Contains (of_a ++ of_b)) free genesis
    (Contains-append_left of_a of_b root (Contains-first root (entry_strings (genesis_value genesis) a)))
    a b
    (λ x c. Contains-append_left of_a of_b x (Contains-rest root x (entry_strings (genesis_value genesis) a) c))
    (λ x c. Contains-append_right of_a of_b x (Contains-rest root x (entry_strings (genesis_value genesis) b) c))
    h
