-- Items that are taken from a list in turn.
use Rattle.std.proofs.Common.{◌≡◌, ℕ, suc, ◌+◌, ◌<◌, List, [], ◌∷◌, ◌++◌, length, take, drop, get_or, ap, sym, subst, ◌∙◌, arith, add-one, length-append}
use Rattle.sporc_memory.proofs.Common.{reverse, get_or-append, take-suc, drop-cons, reverse-append, AreFresh, IsFresh}
use Rattle.sporc_memory.specs.declared.memory_link.MemoryLink.{MemoryLink}

-- one more was given, and it was the first of those that were left
pub given_more : (words : List (List ℕ)) (at : ℕ) (word : List ℕ) → at < length words → word ≡ get_or words at word
    → take (at + 1) words ≡ take at words ++ word ∷ []
given_more words at word lt is = rw add-one (take-suc words at word lt ∙ ap (λ (w : List ℕ). take at words ++ w ∷ []) (sym is))

pub left_less : (words : List (List ℕ)) (at : ℕ) (word : List ℕ) → at < length words → word ≡ get_or words at word
    → drop at words ≡ word ∷ drop (at + 1) words
left_less words at word lt is = rw add-one (drop-cons words at word lt ∙ ap (λ (w : List ℕ). w ∷ drop (suc at) words) (sym is))

-- the last of a list is the first of its reverse
pub last_first : (links rest : List MemoryLink) (link : MemoryLink) → links ≡ rest ++ link ∷ [] → reverse links ≡ link ∷ reverse rest
last_first links rest link is = ap reverse is ∙ reverse-append rest (link ∷ [])

-- the links before the last one are fresh
pub fresh_before : (links rest : List MemoryLink) (link : MemoryLink) → links ≡ rest ++ link ∷ [] → AreFresh links → AreFresh rest
fresh_before links rest link is fresh = λ k d lt.
    let all : AreFresh (rest ++ link ∷ []) = subst AreFresh is fresh in
    subst IsFresh (get_or-append rest (link ∷ []) d k lt) (all k d (omega (arith, lt, length-append rest (link ∷ []))))
