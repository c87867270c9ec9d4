-- What a history says of itself, with one entry more.
use Rattle.std.proofs.Common.{◌≡◌, ℕ, suc, zero, ◌+◌, ◌≤◌, Bool, true, false, List, [], ◌∷◌, ◌++◌, length, get_or, take, refl, ap, sym, ◌∙◌, arith, Option, None, Some, Ok, map, length-append, add-zero}
use Rattle.sporc_head.proofs.Common.{cond, is_some, ◌||◌, count_by, fold, map-append, next_value, genesis_value, Change, Device, same_device, Roster, roster_after, after_change, founded, removes}
use Rattle.sporc_head.proofs.Common.{Entry, ChangeBody, Genesis, author_device, entry_of, change_of, genesis_bytes, CommittedChange, changes, change_read, committed_by, is_read_by, epoch_of, roster_of}
use Rattle.sporc_head.proofs.Common.{last_from, count_of, hash_of, is_removed}
use Rattle.std.specs.List.{cons_option, list_any}
use Rattle.std.proofs.lemmas.List.Folds.{list_any-append}
use Rattle.std.proofs.lemmas.List.Sums.{count_by-le-length}
use Rattle.sporc_hash.specs.Chain.{chain_after, value_after, chain}
use Rattle.sporc_hash.proofs.ChainLemmas.{chain_push, length-chain_after}
use Rattle.sporc_entry.proofs.Changes.{changes_push}
use Rattle.sporc_head.specs.History.{change_in, is_by}

-- ---- the chain

pub chain_at : (v : List ℕ) (entries : List (List ℕ)) (i : ℕ) (d : List ℕ) → i ≤ length entries → get_or (chain_after v entries) i d ≡ value_after v (take i entries)
unfolding chain_after value_after
chain_at v [] zero d h = refl
chain_at v [] (suc i) d h = absurd (omega arith)
chain_at v (a ∷ entries) zero d h = refl
chain_at v (a ∷ entries) (suc i) d h = chain_at (next_value v a) entries i d (omega arith)

pub length-chain : (g : List ℕ) (entries : List (List ℕ)) → length (chain g entries) ≡ suc (length entries)
length-chain g entries = length-chain_after (genesis_value g) entries

-- the value that a read of the chain gives
pub chain_read : (g : Genesis) (entries hs : List (List ℕ)) (i : ℕ) (x : List ℕ) → hs ≡ chain (genesis_bytes g) entries → i ≤ length entries → x ≡ get_or hs i x → x ≡ hash_of g (take i entries)
chain_read g entries hs i x is h e = e ∙ ap (λ (l : List (List ℕ)). get_or l i x) is ∙ chain_at (genesis_value (genesis_bytes g)) entries i x h

-- the chain of one entry more
pub chain_more : (g : Genesis) (entries hs : List (List ℕ)) (b x : List ℕ) → hs ≡ chain (genesis_bytes g) entries → x ≡ next_value (hash_of g entries) b → hs ++ x ∷ [] ≡ chain (genesis_bytes g) (entries ++ b ∷ [])
chain_more g entries hs b x is e =
    ap (λ (l : List (List ℕ)). l ++ x ∷ []) is ∙ ap (λ (v : List ℕ). chain (genesis_bytes g) entries ++ v ∷ []) e ∙ sym (chain_push (genesis_value (genesis_bytes g)) entries b)

-- ---- last positions and counts

pub last_from_push : (p : List ℕ → Bool) (found at : ℕ) (entries : List (List ℕ)) (b : List ℕ) → last_from p found at (entries ++ b ∷ []) ≡ cond (p b) (suc (at + length entries)) (last_from p found at entries)
last_from_push p found at [] b = rw (add-zero) refl
last_from_push p found at (a ∷ entries) b = last_from_push p (cond (p a) (suc at) found) (suc at) entries b ∙ ap (λ (n : ℕ). cond (p b) (suc n) (last_from p (cond (p a) (suc at) found) (suc at) entries)) (omega arith)

pub last_push : (p : List ℕ → Bool) (entries : List (List ℕ)) (b : List ℕ) (t : Bool) → p b ≡ t → last_from p 0 0 (entries ++ b ∷ []) ≡ cond t (length entries + 1) (last_from p 0 0 entries)
last_push p entries b t e = last_from_push p 0 0 entries b ∙ ap (λ (n : ℕ). cond (p b) n (last_from p 0 0 entries)) (omega arith) ∙ ap (λ (t : Bool). cond t (length entries + 1) (last_from p 0 0 entries)) e

sum_push : (f : List ℕ → ℕ) (k : ℕ) (entries : List (List ℕ)) (b : List ℕ) → fold (λ (n : ℕ) (x : List ℕ). n + f x) k (entries ++ b ∷ []) ≡ fold (λ (n : ℕ) (x : List ℕ). n + f x) k entries + f b
sum_push f k [] b = refl
sum_push f k (a ∷ entries) b = sum_push f (k + f a) entries b

pub count_push : (p : List ℕ → Bool) (entries : List (List ℕ)) (b : List ℕ) (t : Bool) → p b ≡ t → count_by p (entries ++ b ∷ []) ≡ cond t (count_by p entries + 1) (count_by p entries)
count_push p entries b t e = sum_push (λ x. cond (p x) 1 0) 0 entries b ∙ ap (λ (q : Bool). count_by p entries + cond q 1 0) e ∙ one t
  where
    one : (t : Bool) → count_by p entries + cond t 1 0 ≡ cond t (count_by p entries + 1) (count_by p entries)
    one true = refl
    one false = omega arith

pub count_le : (d : Device) (entries : List (List ℕ)) → count_of d entries ≤ length entries
count_le d entries = count_by-le-length (is_by d) entries

-- ---- changes

pub epoch_push : (entries : List (List ℕ)) (b : List ℕ) (o : Option CommittedChange) → change_in b ≡ o → epoch_of (entries ++ b ∷ []) ≡ cond (is_some o) (epoch_of entries + 1) (epoch_of entries)
epoch_push entries b o e = ap length (changes_push entries b o e) ∙ length-append (changes entries) (cons_option o []) ∙ one o
  where
    one : (o : Option CommittedChange) → epoch_of entries + length (cons_option o []) ≡ cond (is_some o) (epoch_of entries + 1) (epoch_of entries)
    one None = omega arith
    one (Some c) = refl

pub epoch_le : (entries : List (List ℕ)) → epoch_of entries ≤ length entries
epoch_le [] = omega arith
epoch_le (a ∷ entries) = go (change_in a) (epoch_le entries)
  where
    go : (o : Option CommittedChange) → epoch_of entries ≤ length entries → length (cons_option o (changes entries)) ≤ suc (length entries)
    go None h = omega (arith, h)
    go (Some c) h = omega (arith, h)

fold_push : (r : Roster) (cs : List Change) (c : Change) → fold after_change r (cs ++ c ∷ []) ≡ after_change (fold after_change r cs) c
fold_push r [] c = refl
fold_push r (x ∷ cs) c = fold_push (after_change r x) cs c

-- an edit leaves the members
pub roster_edit : (g : Genesis) (entries : List (List ℕ)) (b : List ℕ) → change_in b ≡ None → roster_of g (entries ++ b ∷ []) ≡ roster_of g entries
roster_edit g entries b e = ap (λ (cs : List CommittedChange). roster_after g.founders (map (λ c. c.body.change) cs)) (changes_push entries b None e ∙ append-none (changes entries))
  where
    append-none : (cs : List CommittedChange) → cs ++ [] ≡ cs
    append-none [] = refl
    append-none (c ∷ cs) = ap (λ (l : List CommittedChange). c ∷ l) (append-none cs)

-- a change makes its change of them
pub roster_change : (g : Genesis) (entries : List (List ℕ)) (b : List ℕ) (s : CommittedChange) → change_in b ≡ Some s → roster_of g (entries ++ b ∷ []) ≡ after_change (roster_of g entries) s.body.change
roster_change g entries b s e =
    ap (λ (cs : List CommittedChange). roster_after g.founders (map (λ c. c.body.change) cs)) (changes_push entries b (Some s) e)
    ∙ ap (λ (cs : List Change). fold after_change (founded g.founders) cs) (map-append (λ (c : CommittedChange). c.body.change) (changes entries) (s ∷ []))
    ∙ fold_push (founded g.founders) (map (λ c. c.body.change) (changes entries)) s.body.change

-- whether a change removes a device, or its member, if it is one
abbrev pub removes_in : Device → Option CommittedChange → Bool
removes_in d None = false
removes_in d (Some s) = removes d s.body.change

pub removed_push : (d : Device) (entries : List (List ℕ)) (b : List ℕ) (o : Option CommittedChange) → change_in b ≡ o → is_removed d (entries ++ b ∷ []) ≡ (is_removed d entries || removes_in d o)
removed_push d entries b o e = ap (list_any (λ (c : CommittedChange). removes d c.body.change)) (changes_push entries b o e) ∙ list_any-append (λ (c : CommittedChange). removes d c.body.change) (changes entries) (cons_option o []) ∙ one o
  where
    or_false : (x : Bool) → (x || false) ≡ x
    or_false true = refl
    or_false false = refl

    one : (o : Option CommittedChange) → (is_removed d entries || list_any (λ (c : CommittedChange). removes d c.body.change) (cons_option o [])) ≡ (is_removed d entries || removes_in d o)
    one None = refl
    one (Some c) = ap (λ (x : Bool). is_removed d entries || x) (or_false (removes d c.body.change))

-- ---- an entry that was read

pub is_by_read : (d : Device) (b : List ℕ) (e : Entry) → entry_of b ≡ Ok e → is_by d b ≡ same_device (author_device e.header) d
unfolding is_by
is_by_read d b e h = ap (is_read_by d) h

pub change_in_read : (b : List ℕ) (e : Entry) (c : Option ChangeBody) → entry_of b ≡ Ok e → c ≡ change_of e → change_in b ≡ committed_by e c
unfolding change_in
change_in_read b e c h is = ap change_read h ∙ ap (committed_by e) (sym is)
