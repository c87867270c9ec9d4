-- Three deltas in one, in either order.
use Rattle.std.proofs.Common.{◌≡◌, ℕ, zero, suc, List, [], ◌∷◌, refl, ap, sym, ◌∙◌, arith}
use Rattle.sporc_xform.proofs.Common.{Mark, Keep, Remove, Insert, base_len, out_len, compose, keep_marks}
use Rattle.sporc_xform.proofs.LawLemmas.{composes}

abbrev pub Associates : List Mark → List Mark → List Mark → Type 0
Associates p q r = out_len p ≡ base_len q → out_len q ≡ base_len r → compose (compose p q) r ≡ compose p (compose q r)

-- an insertion that the second of two deltas begins with comes first
insert_first : (p : List Mark) (c : ℕ) (q : List Mark) → compose p (Insert c ∷ q) ≡ Insert c ∷ compose p q
insert_first [] c q = refl
insert_first (Keep ∷ p) c q = refl
insert_first (Remove ∷ p) c q = refl
insert_first (Insert d ∷ p) c q = refl

-- the third delta begins with an insertion
third_inserts : (p q : List Mark) (c : ℕ) (r : List Mark) → Associates p q r → Associates p q (Insert c ∷ r)
third_inserts p q c r rest a b = insert_first (compose p q) c r ∙ ap (λ ms. Insert c ∷ ms) (rest a b) ∙ sym (ap (compose p) (insert_first q c r) ∙ insert_first p c (compose q r))

-- the second one does
second_inserts : (p : List Mark) (c : ℕ) (q : List Mark) → ((r : List Mark) → Associates p q r) → (r : List Mark) → Associates p (Insert c ∷ q) r
second_inserts p c q ih [] a b = absurd (omega arith)
second_inserts p c q ih (Insert d ∷ r) a b = third_inserts p (Insert c ∷ q) d r (second_inserts p c q ih r) a b
second_inserts p c q ih (Keep ∷ r) a b =
    ap (λ (ms : List Mark). compose ms (Keep ∷ r)) (insert_first p c q) ∙ ap (λ ms. Insert c ∷ ms) (ih r a (omega arith)) ∙ sym (insert_first p c (compose q r))
second_inserts p c q ih (Remove ∷ r) a b = ap (λ (ms : List Mark). compose ms (Remove ∷ r)) (insert_first p c q) ∙ ih r a (omega arith)

-- the first one begins with a removal
first_removes : (p : List Mark) → ((q r : List Mark) → Associates p q r) → (q r : List Mark) → Associates (Remove ∷ p) q r
first_removes p ih (Insert c ∷ q) r a b = second_inserts (Remove ∷ p) c q (first_removes p ih q) r a b
first_removes p ih q (Insert d ∷ r) a b = third_inserts (Remove ∷ p) q d r (first_removes p ih q r) a b
first_removes p ih q r a b = ap (λ ms. Remove ∷ ms) (ih q r a b)

-- it keeps a character
first_keeps : (p : List Mark) → ((q r : List Mark) → Associates p q r) → (q r : List Mark) → Associates (Keep ∷ p) q r
first_keeps p ih [] r a b = absurd (omega arith)
first_keeps p ih (Insert c ∷ q) r a b = second_inserts (Keep ∷ p) c q (first_keeps p ih q) r a b
first_keeps p ih q (Insert d ∷ r) a b = third_inserts (Keep ∷ p) q d r (first_keeps p ih q r) a b
first_keeps p ih (Keep ∷ q) [] a b = absurd (omega arith)
first_keeps p ih (Keep ∷ q) (Keep ∷ r) a b = ap (λ ms. Keep ∷ ms) (ih q r (omega arith) (omega arith))
first_keeps p ih (Keep ∷ q) (Remove ∷ r) a b = ap (λ ms. Remove ∷ ms) (ih q r (omega arith) (omega arith))
first_keeps p ih (Remove ∷ q) r a b = ap (λ ms. Remove ∷ ms) (ih q r (omega arith) b)

-- it inserts one
first_inserts : (c : ℕ) (p : List Mark) → ((q r : List Mark) → Associates p q r) → (q r : List Mark) → Associates (Insert c ∷ p) q r
first_inserts c p ih [] r a b = absurd (omega arith)
first_inserts c p ih (Insert d ∷ q) r a b = second_inserts (Insert c ∷ p) d q (first_inserts c p ih q) r a b
first_inserts c p ih q (Insert d ∷ r) a b = third_inserts (Insert c ∷ p) q d r (first_inserts c p ih q r) a b
first_inserts c p ih (Keep ∷ q) [] a b = absurd (omega arith)
first_inserts c p ih (Keep ∷ q) (Keep ∷ r) a b = ap (λ ms. Insert c ∷ ms) (ih q r (omega arith) (omega arith))
first_inserts c p ih (Keep ∷ q) (Remove ∷ r) a b = ih q r (omega arith) (omega arith)
first_inserts c p ih (Remove ∷ q) r a b = ih q r (omega arith) b

-- where nothing is to be kept, the second delta is all
compose-nothing : (q : List Mark) → base_len q ≡ 0 → compose [] q ≡ q
compose-nothing [] h = refl
compose-nothing (Insert c ∷ q) h = ap (λ ms. Insert c ∷ ms) (compose-nothing q h)
compose-nothing _ h = absurd (omega arith)

pub compose-assoc : (p q r : List Mark) → Associates p q r
compose-assoc [] q r a b = ap (λ (ms : List Mark). compose ms r) (compose-nothing q (sym a)) ∙ sym (compose-nothing (compose q r) ((composes q r b).base ∙ sym a))
compose-assoc (Remove ∷ p) q r a b = first_removes p (compose-assoc p) q r a b
compose-assoc (Keep ∷ p) q r a b = first_keeps p (compose-assoc p) q r a b
compose-assoc (Insert c ∷ p) q r a b = first_inserts c p (compose-assoc p) q r a b

-- ---- a delta that keeps all

pub compose-keep_before : (q : List Mark) → compose (keep_marks (base_len q)) q ≡ q
compose-keep_before [] = refl
compose-keep_before (Insert c ∷ q) = insert_first (keep_marks (base_len q)) c q ∙ ap (λ ms. Insert c ∷ ms) (compose-keep_before q)
compose-keep_before (Keep ∷ q) = ap (λ ms. Keep ∷ ms) (compose-keep_before q)
compose-keep_before (Remove ∷ q) = ap (λ ms. Remove ∷ ms) (compose-keep_before q)

remove_first : (p : List Mark) (n : ℕ) → compose (Remove ∷ p) (keep_marks n) ≡ Remove ∷ compose p (keep_marks n)
remove_first p zero = refl
remove_first p (suc n) = refl

pub compose-keep_after : (p : List Mark) → compose p (keep_marks (out_len p)) ≡ p
compose-keep_after [] = refl
compose-keep_after (Insert c ∷ p) = ap (λ ms. Insert c ∷ ms) (compose-keep_after p)
compose-keep_after (Keep ∷ p) = ap (λ ms. Keep ∷ ms) (compose-keep_after p)
compose-keep_after (Remove ∷ p) = remove_first p (out_len p) ∙ ap (λ ms. Remove ∷ ms) (compose-keep_after p)
