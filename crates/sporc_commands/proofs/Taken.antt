-- Lists of entries, as a loop goes over them.
use Rattle.std.proofs.Common.{◌≡◌, ℕ, ◌+◌, ◌<◌, List, [], ◌∷◌, ◌++◌, length, take, map, get_or, sym, ap, ◌∙◌}
use Rattle.sporc_commands.proofs.Common.{map-append, take_more, Vec}

-- the bytes of entries
abbrev pub bytes_of : List (Vec ℕ) → List (List ℕ)
bytes_of entries = map (λ entry. entry.items) entries

-- one entry more
pub taken_more : (entries : List (Vec ℕ)) (i : ℕ) (e : Vec ℕ) → i < length entries → e ≡ get_or entries i e → bytes_of (take (i + 1) entries) ≡ bytes_of (take i entries) ++ e.items ∷ []
taken_more entries i e lt is =
    let one : take (i + 1) entries ≡ take i entries ++ e ∷ [] = take_more entries i e lt ∙ ap (λ (x : Vec ℕ). take i entries ++ x ∷ []) (sym is) in
    ap bytes_of one ∙ map-append (λ (entry : Vec ℕ). entry.items) (take i entries) (e ∷ [])
