-- Characters of a text that are kept, chunk by chunk.
use Rattle.std.proofs.Common.{◌≡◌, ℕ, suc, ◌+◌, ◌-◌, ◌<◌, List, [], ◌++◌, length, take, drop, get_or, ap, sym, ◌∙◌, append_assoc, add-one, arith, length-drop}
use Rattle.sporc_text.proofs.Common.{get_or_default, length-take, concat}
use Rattle.sporc_text.proofs.ChunkLemmas.{concat-drop}
use Rattle.sporc_text.proofs.CutLemmas.{taken_of}

-- one chunk more
pub keeps_on : (cs : List (List ℕ)) (i : ℕ) (c out whole : List ℕ) (skipped left : ℕ) (characters behind wanted more : List ℕ)
    → out ++ take left (drop skipped (concat (drop i cs))) ≡ whole → c ≡ get_or cs i c → i < length cs
    → characters ≡ c → behind ≡ drop skipped characters → wanted ≡ take left behind → more ≡ out ++ wanted
    → more ++ take (left - length wanted) (drop (skipped - (length c - length behind)) (concat (drop (i + 1) cs))) ≡ whole
keeps_on cs i c out whole skipped left characters behind wanted more h is l here b w m =
    let back : behind ≡ drop skipped c = b ∙ ap (λ (t : List ℕ). drop skipped t) here in
    let some : wanted ≡ take left (drop skipped c) = w ∙ ap (λ (t : List ℕ). take left t) back in
    let first : concat (drop i cs) ≡ c ++ concat (drop (suc i) cs) = concat-drop cs i ∙ ap (λ (t : List ℕ). t ++ concat (drop (suc i) cs)) (sym (is ∙ get_or_default cs i c [] l)) in
    let rest = drop (skipped - (length c - length behind)) (concat (drop (suc i) cs)) in
    let cut : take left (drop skipped (c ++ concat (drop (suc i) cs))) ≡ take left (drop skipped c) ++ take (left - length wanted) rest =
    taken_of left skipped (skipped - (length c - length behind)) (left - length wanted) c (concat (drop (suc i) cs)) (omega (arith, length-drop skipped c, ap length back)) (omega (arith, length-take left (drop skipped c), ap length some)) in
    rw add-one (ap (λ (t : List ℕ). t ++ take (left - length wanted) rest) (m ∙ ap (λ (t : List ℕ). out ++ t) some)
    ∙ append_assoc out (take left (drop skipped c)) (take (left - length wanted) rest)
    ∙ ap (λ (t : List ℕ). out ++ t) (sym cut)
    ∙ ap (λ (t : List ℕ). out ++ take left (drop skipped t)) (sym first) ∙ h)
