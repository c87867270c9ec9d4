-- The scan of a history for the change that adds a member.
use Rattle.std.proofs.Common.{◌≡◌, ℕ, suc, ◌+◌, ◌<◌, Bool, true, false, cond, not, List, [], ◌∷◌, ◌++◌, map, reverse, take, drop, length, get_or, Some, None, refl, ap, sym, ◌∙◌, arith, append-nil}
use Rattle.sporc_epoch.proofs.Common.{Option, find, take_while, cons_option, prefix_len, EpochStart, joins, start_by, joining, starts_before, reverse-append, map-append, take_more, take-append-drop}
use Rattle.sporc_epoch.proofs.Common.{change_in, changes}
use Rattle.std.specs.Option.{option_or}
use Rattle.std.proofs.Math.Seq.{drop-cons}
use Rattle.std.proofs.lemmas.Bool.{and_parts, ltb-true}
use Rattle.std.proofs.lemmas.List.Elements.{filter_map-append}
use Rattle.std.proofs.lemmas.List.Folds.{find-append}
use Rattle.sporc_entry.proofs.Changes.{changes_push}
use Rattle.sporc_entry.specs.declared.committed.CommittedChange.{CommittedChange}
use Rattle.sporc_epoch.specs.declared.streams.TheConstants.{MAX_EPOCH}

-- none of these entries adds the member, and starts are what their changes say of epochs
pub record Scanned (me : ℕ) (entries : List (List ℕ)) (starts : List EpochStart) : Type 0 where
  pub told : starts ≡ map start_by (changes entries)
  pub none : joining me (changes entries) ≡ None

-- an entry that is no change
pub scanned_other : (me : ℕ) (entries : List (List ℕ)) (starts : List EpochStart) (bytes : List ℕ) → Scanned me entries starts → change_in bytes ≡ None
    → Scanned me (entries ++ bytes ∷ []) starts
scanned_other me entries starts bytes s h =
    let same : changes (entries ++ bytes ∷ []) ≡ changes entries = changes_push entries bytes None h ∙ append-nil (changes entries) in
    record {
      told = s.told ∙ ap (map start_by) (sym same);
      none = ap (joining me) same ∙ s.none;
    }

-- a change that doesn't add the member
pub scanned_change : (me : ℕ) (entries : List (List ℕ)) (starts : List EpochStart) (bytes : List ℕ) (c : CommittedChange) → Scanned me entries starts
    → change_in bytes ≡ Some c → joins me c ≡ false → Scanned me (entries ++ bytes ∷ []) (starts ++ start_by c ∷ [])
scanned_change me entries starts bytes c s h other =
    let same : changes (entries ++ bytes ∷ []) ≡ changes entries ++ c ∷ [] = changes_push entries bytes (Some c) h in
    record {
      told = ap (λ (ss : List EpochStart). ss ++ start_by c ∷ []) s.told ∙ sym (map-append start_by (changes entries) (c ∷ [])) ∙ ap (map start_by) (sym same);
      none = ap (joining me) same ∙ find-append (joins me) (changes entries) (c ∷ [])
          ∙ ap (λ o. option_or o (find (joins me) (c ∷ []))) s.none ∙ ap (λ b. cond b (Some c) None) other;
    }

-- what stands before the first element that passes a test
take_while-to : {X : Type 0} (p : X → Bool) (xs : List X) (y : X) (ys : List X) → find p xs ≡ None → p y ≡ true → take_while (λ x. not (p x)) (xs ++ y ∷ ys) ≡ xs
take_while-to p [] y ys h is = ap (λ b. take (cond (not b) (1 + prefix_len (λ x. not (p x)) ys) 0) (y ∷ ys)) is
take_while-to p (x ∷ xs) y ys h is = by (p x) refl h (λ h. take_while-to p xs y ys h is)
  where
    by : (b : Bool) → p x ≡ b → cond b (Some x) (find p xs) ≡ None → (find p xs ≡ None → take_while (λ x. not (p x)) (xs ++ y ∷ ys) ≡ xs)
        → take (cond (not b) (1 + prefix_len (λ x. not (p x)) (xs ++ y ∷ ys)) 0) (x ∷ (xs ++ y ∷ ys)) ≡ x ∷ xs
    by true e none ih = absurd cc
    by false e none ih =
        let n : 1 + prefix_len (λ x. not (p x)) (xs ++ y ∷ ys) ≡ suc (prefix_len (λ x. not (p x)) (xs ++ y ∷ ys)) = omega arith in
        ap (λ n. take n (x ∷ (xs ++ y ∷ ys))) n ∙ ap (λ zs. x ∷ zs) (ih none)

-- the first change that adds the member
changes_around : (front : List (List ℕ)) (bytes : List ℕ) (rest : List (List ℕ)) (c : CommittedChange) → change_in bytes ≡ Some c
    → changes (front ++ bytes ∷ rest) ≡ changes front ++ c ∷ changes rest
changes_around front bytes rest c h =
    filter_map-append change_in front (bytes ∷ rest) ∙ ap (λ (o : Option CommittedChange). changes front ++ cons_option o (changes rest)) h

pub joining_found : (me : ℕ) (front : List (List ℕ)) (starts : List EpochStart) (bytes : List ℕ) (rest : List (List ℕ)) (c : CommittedChange) → Scanned me front starts
    → change_in bytes ≡ Some c → joins me c ≡ true → Some c ≡ joining me (changes (front ++ bytes ∷ rest))
joining_found me front starts bytes rest c s h is =
    sym (ap (joining me) (changes_around front bytes rest c h) ∙ find-append (joins me) (changes front) (c ∷ changes rest)
    ∙ ap (λ o. option_or o (find (joins me) (c ∷ changes rest))) s.none ∙ ap (λ b. cond b (Some c) (find (joins me) (changes rest))) is)

pub starts_found : (me : ℕ) (front : List (List ℕ)) (starts : List EpochStart) (bytes : List ℕ) (rest : List (List ℕ)) (c : CommittedChange) → Scanned me front starts
    → change_in bytes ≡ Some c → joins me c ≡ true → reverse (starts ++ start_by c ∷ []) ≡ start_by c ∷ starts_before me (changes (front ++ bytes ∷ rest))
starts_found me front starts bytes rest c s h is =
    reverse-append starts (start_by c ∷ [])
    ∙ ap (λ ss. start_by c ∷ reverse ss) s.told
    ∙ ap (λ cs. start_by c ∷ reverse (map start_by cs)) (sym (take_while-to (joins me) (changes front) c (changes rest) s.none is))
    ∙ ap (λ cs. start_by c ∷ starts_before me cs) (sym (changes_around front bytes rest c h))

-- ---- entries by index

pub front_more : {X Y : Type 0} (f : X → Y) (xs : List X) (i : ℕ) (x : X) → i < length xs → x ≡ get_or xs i x → map f (take (i + 1) xs) ≡ map f (take i xs) ++ f x ∷ []
front_more f xs i x lt at =
    ap (map f) (take_more xs i x lt) ∙ map-append f (take i xs) (get_or xs i x ∷ []) ∙ ap (λ y. map f (take i xs) ++ f y ∷ []) (sym at)

pub around : {X Y : Type 0} (f : X → Y) (xs : List X) (i : ℕ) (x : X) → i < length xs → x ≡ get_or xs i x → map f xs ≡ map f (take i xs) ++ f x ∷ map f (drop (suc i) xs)
around f xs i x lt at =
    ap (map f) (sym (take-append-drop i xs) ∙ ap (λ ys. take i xs ++ ys) (drop-cons xs i x lt))
    ∙ map-append f (take i xs) (get_or xs i x ∷ drop (suc i) xs)
    ∙ ap (λ y. map f (take i xs) ++ f y ∷ map f (drop (suc i) xs)) (sym at)

-- a change that adds the member leaves an epoch to start
pub joins_below : (me : ℕ) (c : CommittedChange) → joins me c ≡ true → c.header.epoch < MAX_EPOCH
joins_below me c h = ltb-true c.header.epoch MAX_EPOCH (and_parts _ _ h).1
