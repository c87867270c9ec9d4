-- Files that are asked for, one call after another.
use Rattle.std.proofs.Common.{◌≡◌, ℕ, ◌+◌, inl, inr, List, [], ◌∷◌, ◌++◌, length, map, Option, Some, None, sym, ap, ◌∙◌, subst, append-nil}
use Rattle.sporc_clients.proofs.Common.{drop, option_map, map-append, MayAppend, Words, Leaf, History, FileNames, file_name, AsksOnly, own_files, client_files}
use Rattle.sporc_clients.proofs.Common.{names_of, All-nil, All-push, Contains-push, File}
use Rattle.std.specs.List.{Contains}
use Rattle.sporc_files.proofs.Asking.{AsksOnly-trans, asks_first as names_first, asks_then as names_then}

module _ (names : FileNames) where
  -- some of the first files are some of all
  asks_first : (first rest : List File) (a b : Option (List (List ℕ))) → AsksOnly (map (file_name names) first) a b → AsksOnly (map (file_name names) (first ++ rest)) a b
  asks_first first rest a b asks =
      subst (λ (all : List (List ℕ)). AsksOnly all a b) (sym (map-append (file_name names) first rest))
      (names_first (map (file_name names) first) (map (file_name names) rest) a b asks)

  -- some of the first files, and then some of the others
  asks_then : (first rest : List File) (a b c : Option (List (List ℕ))) → AsksOnly (map (file_name names) first) a b → AsksOnly (map (file_name names) rest) b c
      → AsksOnly (map (file_name names) (first ++ rest)) a c
  asks_then first rest a b c asks more =
      subst (λ (all : List (List ℕ)). AsksOnly all a c) (sym (map-append (file_name names) first rest))
      (names_then (map (file_name names) first) (map (file_name names) rest) a b c asks more)

-- one name may have been asked for
one_name : (name : List ℕ) (a b : Option (List (List ℕ))) → MayAppend a b name → AsksOnly (name ∷ []) a b
one_name name None b may = tt
one_name name (Some x) None never = never
one_name name (Some x) (Some y) (inl once) = (name ∷ [], once, All-push (Contains (name ∷ [])) [] name (All-nil (Contains (name ∷ []))) (Contains-push [] name))
one_name name (Some x) (Some y) (inr same) = ([], same ∙ sym (append-nil x), All-nil (Contains (name ∷ [])))

-- ---- the command

-- with other words for its names and for the count of its editors
module _ (names : FileNames) (words : Words) (named : names ≡ names_of words) where
  pub asks_history : (a b : Option (List (List ℕ))) → AsksOnly (file_name names (History words.device) ∷ []) a b → AsksOnly (file_name (names_of words) (History words.device) ∷ []) a b
  asks_history a b history = subst (λ (n : FileNames). AsksOnly (file_name n (History words.device) ∷ []) a b) named history

  -- it is read, and written under its name
  pub asks_history_again : (name : List ℕ) (a b c : Option (List (List ℕ))) → name ≡ file_name names (History words.device)
      → AsksOnly (file_name names (History words.device) ∷ []) a b → MayAppend b c name → AsksOnly (file_name (names_of words) (History words.device) ∷ []) a c
  asks_history_again name a b c called history may =
      asks_history a c
      (AsksOnly-trans (file_name names (History words.device) ∷ []) a b c history (one_name (file_name names (History words.device)) b c (subst (MayAppend b c) called may)))

  module _ (count : ℕ) (all : count ≡ length words.scripts) where
    own : (a b : Option (List (List ℕ))) → AsksOnly (map (file_name names) (own_files words.device count)) a b
        → AsksOnly (map (file_name (names_of words)) (own_files words.device (length words.scripts))) a b
    own a b asks =
        subst (λ (n : FileNames). AsksOnly (map (file_name n) (own_files words.device (length words.scripts))) a b) named
        (subst (λ (k : ℕ). AsksOnly (map (file_name names) (own_files words.device k)) a b) all asks)

    pub asks_member : (a b : Option (List (List ℕ))) → AsksOnly (map (file_name names) (own_files words.device count)) a b
        → AsksOnly (map (file_name (names_of words)) (client_files words.device (length words.scripts))) a b
    asks_member a b asks = asks_first (names_of words) (own_files words.device (length words.scripts)) (Leaf words.device ∷ History words.device ∷ []) a b (own a b asks)

    own_leaf : (a b : Option (List (List ℕ))) → AsksOnly (file_name names (Leaf words.device) ∷ []) a b → AsksOnly (file_name (names_of words) (Leaf words.device) ∷ []) a b
    own_leaf a b leaf = subst (λ (n : FileNames). AsksOnly (file_name n (Leaf words.device) ∷ []) a b) named leaf

    pub asks_leaf : (a b c : Option (List (List ℕ))) → AsksOnly (map (file_name names) (own_files words.device count)) a b → AsksOnly (file_name names (Leaf words.device) ∷ []) b c
        → AsksOnly (map (file_name (names_of words)) (client_files words.device (length words.scripts))) a c
    asks_leaf a b c asks leaf =
        asks_then (names_of words) (own_files words.device (length words.scripts)) (Leaf words.device ∷ History words.device ∷ []) a b c (own a b asks)
        (asks_first (names_of words) (Leaf words.device ∷ []) (History words.device ∷ []) b c (own_leaf b c leaf))

    pub asks_all : (a b c d : Option (List (List ℕ))) → AsksOnly (map (file_name names) (own_files words.device count)) a b → AsksOnly (file_name names (Leaf words.device) ∷ []) b c
        → AsksOnly (file_name (names_of words) (History words.device) ∷ []) c d → AsksOnly (map (file_name (names_of words)) (client_files words.device (length words.scripts))) a d
    asks_all a b c d asks leaf history =
        asks_then (names_of words) (own_files words.device (length words.scripts)) (Leaf words.device ∷ History words.device ∷ []) a b d (own a b asks)
        (asks_then (names_of words) (Leaf words.device ∷ []) (History words.device ∷ []) b c d (own_leaf b c leaf) history)

-- ---- a disk that is lent

-- a name was put before others, and taken off
pub taken_off : (old mid new : Option (List (List ℕ))) (name : List ℕ) → mid ≡ option_map (λ names. name ∷ names) old → new ≡ option_map (λ names. drop 1 names) mid → new ≡ old
taken_off None mid new name out back = back ∙ ap (option_map (λ names. drop 1 names)) out
taken_off (Some names) mid new name out back = back ∙ ap (option_map (λ names. drop 1 names)) out
