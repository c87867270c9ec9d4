-- Lists of chunks.
use Rattle.std.proofs.Common.{◌≡◌, ℕ, zero, suc, ◌+◌, ◌-◌, ◌*◌, ◌<◌, ◌≤◌, List, [], ◌∷◌, ◌++◌, length, take, drop, get_or, set, refl, ap, sym, ◌∙◌, append_assoc, append-nil, add-one, arith}
use Rattle.std.proofs.Common.{length-append, inl, inr}
use Rattle.std.proofs.Math.Seq.{drop-append-add}
use Rattle.std.proofs.lemmas.List.Folds.{concat-append}
use Rattle.sporc_text.proofs.Common.{get_or_default, take-append-drop, cases_lt, concat, MAX_CHUNK, MAX_JOINED, MEAN_CHUNK, AreChunks, IsAt, Joins}

-- chunks are few, and not too few
pub few_chunks : (cs : List (List ℕ)) → AreChunks cs → MEAN_CHUNK * length cs ≤ length (concat cs) + MEAN_CHUNK
few_chunks (c ∷ d ∷ cs) h = omega (arith, few_chunks cs h.1.1, h.0.apart, length-append c (d ++ concat cs), length-append d (concat cs))
few_chunks cs h = omega arith

pub long_chunks : (cs : List (List ℕ)) → AreChunks cs → length (concat cs) ≤ MAX_CHUNK * length cs
long_chunks [] h = omega arith
long_chunks (c ∷ cs) h = omega (arith, long_chunks cs h.1, h.0.most, length-append c (concat cs))

pub no_chunks : (cs : List (List ℕ)) → AreChunks cs → concat cs ≡ [] → length cs ≡ 0
no_chunks [] h e = refl
no_chunks (c ∷ cs) h e = absurd (omega (arith, h.0.some, ap length e, length-append c (concat cs)))

-- ---- one chunk of a list

pub chunks_apart : (cs : List (List ℕ)) (i : ℕ) → AreChunks cs → suc i < length cs → MAX_JOINED < length (get_or cs i []) + length (get_or cs (suc i) [])
chunks_apart (c ∷ d ∷ cs) zero h l = h.0.apart
chunks_apart (c ∷ cs) (suc i) h l = chunks_apart cs i h.1 (omega arith)
chunks_apart cs i h l = absurd (omega arith)

-- one more chunk
pub chunks-push : (cs : List (List ℕ)) (c : List ℕ) → AreChunks cs → 0 < length c → length c ≤ MAX_CHUNK → ((i : ℕ) → suc i ≡ length cs → MAX_JOINED < length (get_or cs i []) + length c) → AreChunks (cs ++ c ∷ [])
chunks-push [] c h some most apart = (record { some = some; most = most; apart = tt }, tt)
chunks-push (d ∷ []) c h some most apart = (record { some = h.0.some; most = h.0.most; apart = apart 0 refl }, chunks-push [] c tt some most (λ i e. absurd (omega arith)))
chunks-push (d ∷ e ∷ cs) c h some most apart = (record { some = h.0.some; most = h.0.most; apart = h.0.apart }, chunks-push (e ∷ cs) c h.1 some most (λ i l. apart (suc i) (omega arith)))

-- another chunk in place of one
pub chunks-set : (cs : List (List ℕ)) (i : ℕ) (c : List ℕ) → AreChunks cs → i < length cs → 0 < length c → length c ≤ MAX_CHUNK
    → ((j : ℕ) → suc j ≡ i → MAX_JOINED < length (get_or cs j []) + length c)
    → (suc i < length cs → MAX_JOINED < length c + length (get_or cs (suc i) []))
    → AreChunks (set cs i c)
chunks-set (d ∷ []) zero c h l some most front back = (record { some = some; most = most; apart = tt }, tt)
chunks-set (d ∷ e ∷ cs) zero c h l some most front back = (record { some = some; most = most; apart = back (omega arith) }, h.1)
chunks-set (d ∷ e ∷ cs) (suc zero) c h l some most front back =
    (record { some = h.0.some; most = h.0.most; apart = front 0 refl }, chunks-set (e ∷ cs) 0 c h.1 (omega arith) some most (λ j z. absurd (omega arith)) (λ z. back (omega arith)))
chunks-set (d ∷ e ∷ cs) (suc (suc i)) c h l some most front back =
    (record { some = h.0.some; most = h.0.most; apart = h.0.apart }, chunks-set (e ∷ cs) (suc i) c h.1 (omega arith) some most (λ j z. front (suc j) (omega arith)) (λ z. back (omega arith)))
chunks-set cs i c h l some most front back = absurd (omega arith)

-- ---- the characters of chunks

pub concat-at : (cs : List (List ℕ)) (i : ℕ) → concat cs ≡ concat (take i cs) ++ concat (drop i cs)
concat-at cs i = ap concat (sym (take-append-drop i cs)) ∙ concat-append (take i cs) (drop i cs)

-- behind a place, from the chunk on in which it stands
pub record IsBehind (text : List ℕ) (place : ℕ) (rest : List ℕ) (offset : ℕ) : Type 0 where
  pub behind : drop offset rest ≡ drop place text
  pub len : length rest + place ≡ length text + offset
  pub within : offset ≤ place

pub behind_at : (cs rest : List (List ℕ)) (place i offset : ℕ) → IsAt cs place i offset → rest ≡ drop i cs → IsBehind (concat cs) place (concat rest) offset
behind_at cs rest place i offset at is =
    let front = concat (take i cs) in
    let text : concat cs ≡ front ++ concat rest = concat-at cs i ∙ ap (λ (l : List (List ℕ)). front ++ concat l) (sym is) in
    record {
      behind = sym (ap (λ (t : List ℕ). drop place t) text ∙ ap (λ (k : ℕ). drop k (front ++ concat rest)) (sym at.before) ∙ drop-append-add front (concat rest) offset);
      len = omega (arith, at.before, ap length text, length-append front (concat rest));
      within = omega (arith, at.before);
    }

pub concat-drop : (cs : List (List ℕ)) (i : ℕ) → concat (drop i cs) ≡ get_or cs i [] ++ concat (drop (suc i) cs)
concat-drop [] zero = refl
concat-drop (c ∷ cs) (suc i) = concat-drop cs i
concat-drop cs i = refl

pub concat-set : (cs : List (List ℕ)) (i : ℕ) (c : List ℕ) → i < length cs → concat (set cs i c) ≡ concat (take i cs) ++ (c ++ concat (drop (suc i) cs))
concat-set [] i c l = absurd (omega arith)
concat-set (d ∷ cs) zero c l = refl
concat-set (d ∷ cs) (suc i) c l = ap (λ (t : List ℕ). d ++ t) (concat-set cs i c (omega arith)) ∙ sym (append_assoc d (concat (take i cs)) (c ++ concat (drop (suc i) cs)))

-- one chunk more in front
take_more : (cs : List (List ℕ)) (i : ℕ) (c : List ℕ) → c ≡ get_or cs i c → i < length cs → length (concat (take (suc i) cs)) ≡ length (concat (take i cs)) + length c
take_more [] i c is l = absurd (omega arith)
take_more (d ∷ cs) zero c is l = omega (arith, ap length is, length-append d [])
take_more (d ∷ cs) (suc i) c is l = omega (arith, take_more cs i c is (omega arith), length-append d (concat (take (suc i) cs)), length-append d (concat (take i cs)))

pub length-take-more : (cs : List (List ℕ)) (i : ℕ) (c : List ℕ) → c ≡ get_or cs i c → i < length cs → length (concat (take (i + 1) cs)) ≡ length (concat (take i cs)) + length c
length-take-more cs i c is l = rw add-one (take_more cs i c is l)

-- ---- a chunk joined to the last one, or behind it

last_joined : (cs : List (List ℕ)) (i : ℕ) (c : List ℕ) → suc i ≡ length cs → concat (set cs i (get_or cs i [] ++ c)) ≡ concat cs ++ c
last_joined (d ∷ []) zero c e = append-nil (d ++ c) ∙ ap (λ (t : List ℕ). t ++ c) (sym (append-nil d))
last_joined (d ∷ f ∷ cs) (suc i) c e = ap (λ (t : List ℕ). d ++ t) (last_joined (f ∷ cs) i c (omega arith)) ∙ sym (append_assoc d (concat (f ∷ cs)) c)
last_joined cs i c e = absurd (omega arith)

-- the last of some chunks with another one's characters behind its own, that are few together
pub record AreJoined (cs : List (List ℕ)) (c : List ℕ) (ds : List (List ℕ)) : Type 0 where
  pub chunks : AreChunks ds
  pub value : concat ds ≡ concat cs ++ c

pub joined : (cs : List (List ℕ)) (i : ℕ) (c d e : List ℕ) → AreChunks cs → suc i ≡ length cs → Joins cs (length c) → 0 < length c → d ≡ get_or cs i d → e ≡ d ++ c → AreJoined cs c (set cs i e)
joined cs i c d e h last few some is long =
    let here : d ≡ get_or cs i [] = is ∙ get_or_default cs i d [] (omega arith) in
    let whole : e ≡ get_or cs i [] ++ c = long ∙ ap (λ (t : List ℕ). t ++ c) here in
    let size : length e ≡ length (get_or cs i []) + length c = ap length whole ∙ length-append (get_or cs i []) c in
    let place : length cs - 1 ≡ i = omega arith in
    let small : length e ≤ MAX_JOINED = omega (arith, few.1, ap (λ (k : ℕ). length (get_or cs k [])) place) in
    record {
      chunks = chunks-set cs i e h (omega arith) (omega arith) (omega arith)
          (λ j l. omega (arith, chunks_apart cs j h (omega arith), ap (λ (k : ℕ). length (get_or cs k [])) l))
          (λ l. absurd (omega arith));
      value = ap (λ (t : List ℕ). concat (set cs i t)) whole ∙ last_joined cs i c last;
    }

-- a chunk that isn't joined to the last one
pub pushed : (cs : List (List ℕ)) (c : List ℕ) → AreChunks cs → (Joins cs (length c) → ⊥) → 0 < length c → length c ≤ MAX_CHUNK → AreJoined cs c (cs ++ c ∷ [])
pushed cs c h apart some most = record {
  chunks = chunks-push cs c h some most (λ i l.
      let place : length cs - 1 ≡ i = omega arith in
      elim (cases_lt MAX_JOINED (length (get_or cs i []) + length c)) [ inl lt ↦ lt | inr le ↦ absurd (apart (omega arith, omega (arith, ap (λ (k : ℕ). length (get_or cs k [])) place))) ]);
  value = concat-append cs (c ∷ []) ∙ ap (λ (t : List ℕ). concat cs ++ t) (append-nil c);
}

pub concat-push : (cs : List (List ℕ)) (c : List ℕ) → concat (cs ++ c ∷ []) ≡ concat cs ++ c
concat-push cs c = concat-append cs (c ∷ []) ∙ ap (λ (t : List ℕ). concat cs ++ t) (append-nil c)
