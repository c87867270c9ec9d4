-- Lists of numbers, read exactly.
use Rattle.std.proofs.Common.{◌≡◌, ◌≢◌, ℕ, List, [], ◌∷◌, ◌++◌, Option, Some, None, option_map, refl, sym, ap, ◌∙◌, subst, inl, inr, arith}
use Rattle.sporc_script.proofs.Common.{decimal, eqb_tells, same_Some, Device, device_of, then_read, IsU64, device_text, Lacks, Splits, number_of, AllByRecursion, Join, join_spelling}
use Rattle.sporc_script.specs.Numbers.{JoinInRange, NumbersInRange, all_numbers, join_of, numbers_of, numbers_spelling, parts_of}
use Rattle.sporc_script.proofs.Cuts.{decimal_lacks}
use Rattle.sporc_script.proofs.Exact.{IsExact, map_exact, map_some, pair_exact, then_some}
use Rattle.sporc_script.proofs.DeviceWords.{device_exact, device_words}
use Rattle.sporc_script.proofs.Escapes.{pushed}
use Rattle.sporc_script.proofs.TextWords.{number_exact}

-- ---- the parts between spaces

-- the words with one space between two of them
abbrev joined : List (List ℕ) → List ℕ
joined [] = []
joined (w ∷ []) = w
joined (w ∷ v ∷ ws) = w ++ 32 ∷ joined (v ∷ ws)

parts_some : (bytes : List ℕ) → (w : List ℕ) × (ws : List (List ℕ)) × (parts_of bytes ≡ w ∷ ws)
parts_some [] = ([], [], refl)
parts_some (b ∷ bs) =
    let rest = parts_some bs in
    elim (eqb_tells b 32) [
      | inl h ↦ ([], parts_of bs, rw h.0 refl)
      | inr n ↦ (b ∷ rest.0, rest.1, rw (n.0, rest.2) refl)
    ]

joined_byte : (b : ℕ) (w : List ℕ) (ws : List (List ℕ)) → joined ((b ∷ w) ∷ ws) ≡ b ∷ joined (w ∷ ws)
joined_byte b w [] = refl
joined_byte b w (v ∷ ws) = refl

joined_parts : (bytes : List ℕ) → joined (parts_of bytes) ≡ bytes
joined_parts [] = refl
joined_parts (b ∷ bs) =
    let some = parts_some bs in
    let rest : joined (some.0 ∷ some.1) ≡ bs = ap joined (sym some.2) ∙ joined_parts bs in
    elim (eqb_tells b 32) [
      | inl h ↦
          let here : parts_of (b ∷ bs) ≡ [] ∷ (some.0 ∷ some.1) = rw (h.0, some.2) refl in
          ap joined here ∙ ap (λ zs. 32 ∷ zs) rest ∙ ap (λ c. c ∷ bs) (sym h.1)
      | inr n ↦
          let here : parts_of (b ∷ bs) ≡ (b ∷ some.0) ∷ some.1 = rw (n.0, some.2) refl in
          ap joined here ∙ joined_byte b some.0 some.1 ∙ ap (λ zs. b ∷ zs) rest
    ]

parts_more : (b : ℕ) (bs w : List ℕ) (ws : List (List ℕ)) → b ≢ 32 → parts_of bs ≡ w ∷ ws → parts_of (b ∷ bs) ≡ (b ∷ w) ∷ ws
parts_more b bs w ws other is =
    elim (eqb_tells b 32) [ inl h ↦ absurd (other h.1) | inr n ↦ rw (n.0, is) refl ]

parts_split : (w rest : List ℕ) → Lacks 32 w → parts_of (w ++ 32 ∷ rest) ≡ w ∷ parts_of rest
parts_split [] rest lacks = refl
parts_split (b ∷ bs) rest lacks = parts_more b (bs ++ 32 ∷ rest) bs (parts_of rest) lacks.0 (parts_split bs rest lacks.1)

parts_last : (w : List ℕ) → Lacks 32 w → parts_of w ≡ w ∷ []
parts_last [] lacks = refl
parts_last (b ∷ bs) lacks = parts_more b bs bs [] lacks.0 (parts_last bs lacks.1)

-- ---- the numbers that they are

all_some : (w : List ℕ) (ws : List (List ℕ)) (ns : List ℕ) → all_numbers (w ∷ ws) ≡ Some ns
    → (n : ℕ) × (ms : List ℕ) × (number_of w ≡ Some n) × (all_numbers ws ≡ Some ms) × (n ∷ ms ≡ ns)
all_some w ws ns e =
    let first = then_some (number_of w) (λ n. option_map (λ ms. n ∷ ms) (all_numbers ws)) ns e in
    let rest = map_some (all_numbers ws) (λ ms. first.0 ∷ ms) ns first.2 in
    (first.0, rest.0, first.1, rest.1, rest.2)

abbrev AreSpelled : List ℕ → List ℕ → Type 0
AreSpelled bytes ns = NumbersInRange ns × (bytes ≡ numbers_spelling ns)

numbers_sound : (w : List ℕ) (ws : List (List ℕ)) (ns : List ℕ) → all_numbers (w ∷ ws) ≡ Some ns → AreSpelled (joined (w ∷ ws)) ns
numbers_sound w [] ns e =
    let got = all_some w [] ns e in
    let none : [] ≡ got.1 = same_Some [] got.1 got.3 in
    let h = number_exact.sound w got.0 got.2 in
    let same : got.0 ∷ [] ≡ ns = ap (λ ms. got.0 ∷ ms) none ∙ got.4 in
    subst (AreSpelled w) same (((h.0, tt), omega arith), h.1)
numbers_sound w (v ∷ ws) ns e =
    let got = all_some w (v ∷ ws) ns e in
    let next = all_some v ws got.1 got.3 in
    let h = number_exact.sound w got.0 got.2 in
    let rest = numbers_sound v ws got.1 got.3 in
    let more : AreSpelled (joined (v ∷ ws)) (next.0 ∷ next.1) = subst (AreSpelled (joined (v ∷ ws))) (sym next.4) rest in
    let same : got.0 ∷ next.0 ∷ next.1 ≡ ns = ap (λ ms. got.0 ∷ ms) next.4 ∙ got.4 in
    subst (AreSpelled (w ++ 32 ∷ joined (v ∷ ws))) same
    (((h.0, more.0.0), omega arith), ap (λ z. z ++ 32 ∷ joined (v ∷ ws)) h.1 ∙ ap (λ zs. decimal got.0 ++ 32 ∷ zs) more.1)

spaceless : (n : ℕ) → IsU64 n → Lacks 32 (decimal n)
spaceless n fits = decimal_lacks 32 n (omega arith) fits

numbers_complete : (n : ℕ) (ns : List ℕ) → IsU64 n → AllByRecursion IsU64 ns → all_numbers (parts_of (numbers_spelling (n ∷ ns))) ≡ Some (n ∷ ns)
numbers_complete n [] fits all =
    ap all_numbers (parts_last (decimal n) (spaceless n fits))
    ∙ ap (λ (o : Option ℕ). then_read o (λ m. Some (m ∷ []))) (number_exact.complete n fits)
numbers_complete n (m ∷ ms) fits all =
    ap all_numbers (parts_split (decimal n) (numbers_spelling (m ∷ ms)) (spaceless n fits))
    ∙ ap (λ (o : Option ℕ). then_read o (λ x. option_map (λ xs. x ∷ xs) (all_numbers (parts_of (numbers_spelling (m ∷ ms)))))) (number_exact.complete n fits)
    ∙ ap (option_map (λ xs. n ∷ xs)) (numbers_complete m ms all.0 all.1)

numbers_found : (ns : List ℕ) → NumbersInRange ns → all_numbers (parts_of (numbers_spelling ns)) ≡ Some ns
numbers_found [] range = absurd (omega (arith, range.1))
numbers_found (n ∷ ns) range = numbers_complete n ns range.0.0 range.0.1

pub numbers_exact : IsExact (List ℕ) NumbersInRange numbers_spelling numbers_of
unfolding numbers_of
numbers_exact = record {
  sound = λ bytes ns e.
      let some = parts_some bytes in
      let h = numbers_sound some.0 some.1 ns (ap all_numbers (sym some.2) ∙ e) in
      (h.0, sym (joined_parts bytes) ∙ ap joined some.2 ∙ h.1);
  complete = λ ns range. numbers_found ns range;
}

pub join_exact : IsExact Join JoinInRange join_spelling join_of
unfolding join_of
join_exact =
    map_exact (Device × List ℕ) Join _ _ _
    (pair_exact Device (List ℕ) _ _ device_text numbers_spelling device_of numbers_of device_exact device_words numbers_exact)
    (λ p. record { device = p.0; entries = p.1 }) (λ j. (j.device, j.entries)) (λ p. refl) (λ j. refl)

-- ---- the loop that reads them

-- what the words are, if these numbers were read before the rest
abbrev pub Follows : List ℕ → List ℕ → List ℕ → Type 0
Follows words numbers rest = numbers_of words ≡ option_map (λ t. numbers ++ t) (all_numbers (parts_of rest))

pub first_follows : (words : List ℕ) → Follows words [] words
unfolding numbers_of
first_follows words = all_same (all_numbers (parts_of words))
  where
    all_same : (o : Option (List ℕ)) → o ≡ option_map (λ t. [] ++ t) o
    all_same None = refl
    all_same (Some t) = refl

at_split : (rest word after : List ℕ) (o : Option ℕ) → Splits 32 rest word after → number_of word ≡ o
    → all_numbers (parts_of rest) ≡ then_read o (λ n. option_map (λ t. n ∷ t) (all_numbers (parts_of after)))
at_split rest word after o split read =
    ap (λ zs. all_numbers (parts_of zs)) split.1 ∙ ap all_numbers (parts_split word after split.0)
    ∙ ap (λ (x : Option ℕ). then_read x (λ n. option_map (λ t. n ∷ t) (all_numbers (parts_of after)))) read

at_last : (rest : List ℕ) (o : Option ℕ) → Lacks 32 rest → number_of rest ≡ o → all_numbers (parts_of rest) ≡ then_read o (λ n. Some (n ∷ []))
at_last rest o lacks read = ap all_numbers (parts_last rest lacks) ∙ ap (λ (x : Option ℕ). then_read x (λ n. Some (n ∷ []))) read

pub next_follows : (words numbers rest word after : List ℕ) (n : ℕ) → Follows words numbers rest → Splits 32 rest word after → number_of word ≡ Some n → Follows words (numbers ++ n ∷ []) after
next_follows words numbers rest word after n so_far split read =
    so_far ∙ ap (option_map (λ t. numbers ++ t)) (at_split rest word after (Some n) split read) ∙ pushed numbers n (all_numbers (parts_of after))

pub no_number_follows : (words numbers rest word after : List ℕ) → Follows words numbers rest → Splits 32 rest word after → number_of word ≡ None → numbers_of words ≡ None
no_number_follows words numbers rest word after so_far split read =
    so_far ∙ ap (option_map (λ t. numbers ++ t)) (at_split rest word after None split read)

pub last_follows : (words numbers rest : List ℕ) (n : ℕ) → Follows words numbers rest → Lacks 32 rest → number_of rest ≡ Some n → numbers_of words ≡ Some (numbers ++ n ∷ [])
last_follows words numbers rest n so_far lacks read =
    so_far ∙ ap (option_map (λ t. numbers ++ t)) (at_last rest (Some n) lacks read)

pub no_last_follows : (words numbers rest : List ℕ) → Follows words numbers rest → Lacks 32 rest → number_of rest ≡ None → numbers_of words ≡ None
no_last_follows words numbers rest so_far lacks read =
    so_far ∙ ap (option_map (λ t. numbers ++ t)) (at_last rest None lacks read)
