-- The names that a founding asks for.
use Rattle.std.proofs.Common.{◌≡◌, ℕ, zero, suc, ◌<◌, List, [], ◌∷◌, ◌++◌, length, map, get_or, Option, sym, subst, arith}
use Rattle.sporc_commands.proofs.Common.{map-append, AllByRecursion, Contains, NamedFile, Named, RingFile, IsFounding, in_order, numbers_of, ring_of, shared_keys, Participant, FileNames, file_name}
use Rattle.sporc_commands.proofs.Common.{AsksOnly, AsksOnly-among, AsksOnly-trans, asks_first, AreNamed, found_files, founding_files, key_read, keys_read, names_in, ring_of_founding, rings_written}
use Rattle.std.proofs.lemmas.List.Elements.{All-contains, All-contains_itself, All-from_recursion, All-weaker, Contains-append_left, Contains-append_right, recursion_from_All}
use Rattle.sporc_keys.specs.declared.founding.Founding.{Founding}
use Rattle.sporc_keys.specs.declared.pair.SharedKey.{SharedKey}
use Rattle.sporc_keys.proofs.Naming.{ordered_all}
use Rattle.sporc_files.specs.declared.file.File.TheVariants as files
use Rattle.sporc_commands.proofs.MayFound.{members_of, same_numbers}

-- ---- one of many

module _ (names : FileNames) where
  pub key_among : (ps : List Participant) (i : ℕ) (d : Participant) → i < length ps → (name : List ℕ)
      → Contains (map (file_name names) (key_read (get_or ps i d).member (get_or ps i d).standing)) name → Contains (map (file_name names) (keys_read ps)) name
  key_among [] i d within name is = absurd (omega (arith, within))
  key_among (p ∷ ps) zero d within name is =
      subst (λ (all : List (List ℕ)). Contains all name) (sym (map-append (file_name names) (key_read p.member p.standing) (keys_read ps)))
      (Contains-append_left (map (file_name names) (key_read p.member p.standing)) (map (file_name names) (keys_read ps)) name is)
  key_among (p ∷ ps) (suc i) d within name is =
      subst (λ (all : List (List ℕ)). Contains all name) (sym (map-append (file_name names) (key_read p.member p.standing) (keys_read ps)))
      (Contains-append_right (map (file_name names) (key_read p.member p.standing)) (map (file_name names) (keys_read ps)) name
      (key_among ps i d (omega (arith, within)) name is))

  ring_among : (rings : List RingFile) (i : ℕ) (d : RingFile) → i < length rings → (name : List ℕ)
      → Contains (file_name names (files.Ring (get_or rings i d).member) ∷ []) name → Contains (names_in (map (ring_of_founding names) rings)) name
  ring_among [] i d within name is = absurd (omega (arith, within))
  ring_among (r ∷ rs) zero d within name is =
      Contains-append_left (file_name names (files.Ring r.member) ∷ []) (names_in (map (ring_of_founding names) rs)) name is
  ring_among (r ∷ rs) (suc i) d within name is =
      Contains-append_right (file_name names (files.Ring r.member) ∷ []) (names_in (map (ring_of_founding names) rs)) name (ring_among rs i d (omega (arith, within)) name is)

  -- a ring file more
  pub asks_ring : (rings : List RingFile) (i : ℕ) (x : RingFile) (a b c : Option (List (List ℕ))) → i < length rings → x ≡ get_or rings i x
      → AsksOnly (names_in (map (ring_of_founding names) rings)) a b → AsksOnly (file_name names (files.Ring x.member) ∷ []) b c
      → AsksOnly (names_in (map (ring_of_founding names) rings)) a c
  asks_ring rings i x a b c within is asked then =
      AsksOnly-trans (names_in (map (ring_of_founding names) rings)) a b c asked
      (AsksOnly-among (file_name names (files.Ring (get_or rings i x).member) ∷ []) (names_in (map (ring_of_founding names) rings)) b c (ring_among rings i x within)
      (subst (λ (ring : RingFile). AsksOnly (file_name names (files.Ring ring.member) ∷ []) b c) is then))

-- ---- all of them

-- the rings of some who are named have the names of their numbers
rings_named : (P : List ℕ → Type 0) (names : FileNames) (key : List ℕ) (shared : List SharedKey) (all : List Named) → AllByRecursion (λ m. P (file_name names (files.Ring m))) (numbers_of all)
    → AllByRecursion P (names_in (map (ring_of_founding names) (map (ring_of key shared) all)))
rings_named P names key shared [] each = tt
rings_named P names key shared (n ∷ ns) (one, each) = (one, rings_named P names key shared ns each)

each_member : (P : List ℕ → Type 0) (names : FileNames) (ps : List Participant) → AllByRecursion P (map (file_name names) (rings_written ps))
    → AllByRecursion (λ m. P (file_name names (files.Ring m))) (members_of ps)
each_member P names [] each = tt
each_member P names (p ∷ ps) (one, each) = (one, each_member P names ps each)

-- the names of the files of a founding by these words
module _ (names : FileNames) (ps : List Participant) where
  abbrev all_names : List (List ℕ)
  all_names = map (file_name names) (found_files ps)

  parts : all_names ≡ map (file_name names) (keys_read ps) ++ (file_name names files.Genesis ∷ map (file_name names) (rings_written ps))
  parts = map-append (file_name names) (keys_read ps) (files.Genesis ∷ rings_written ps)

  among_last : (name : List ℕ) → Contains (file_name names files.Genesis ∷ map (file_name names) (rings_written ps)) name → Contains all_names name
  among_last name is =
      subst (λ (all : List (List ℕ)). Contains all name) (sym parts)
      (Contains-append_right (map (file_name names) (keys_read ps)) (file_name names files.Genesis ∷ map (file_name names) (rings_written ps)) name is)

  last_all : AllByRecursion (Contains all_names) (file_name names files.Genesis ∷ map (file_name names) (rings_written ps))
  last_all =
      recursion_from_All (Contains all_names) (file_name names files.Genesis ∷ map (file_name names) (rings_written ps))
      (All-weaker (Contains (file_name names files.Genesis ∷ map (file_name names) (rings_written ps))) (Contains all_names) among_last
      (file_name names files.Genesis ∷ map (file_name names) (rings_written ps)) (All-contains_itself (file_name names files.Genesis ∷ map (file_name names) (rings_written ps))))

  asks_keys : (a b : Option (List (List ℕ))) → AsksOnly (map (file_name names) (keys_read ps)) a b → AsksOnly all_names a b
  asks_keys a b asked =
      subst (λ (all : List (List ℕ)). AsksOnly all a b) (sym parts)
      (asks_first (map (file_name names) (keys_read ps)) (file_name names files.Genesis ∷ map (file_name names) (rings_written ps)) a b asked)

  module _ (told : Option (List NamedFile)) (named : List Named) (read : AreNamed told names ps named) where
    written_all : (before after : Option (List (List ℕ))) (founding : Founding) → IsFounding before after (in_order named) founding
        → AllByRecursion (Contains all_names) (names_in (founding_files names founding))
    written_all before after founding (first, key, words, len, draws, is) =
        let P : ℕ → Type 0 = λ m. Contains all_names (file_name names (files.Ring m)) in
        let numbers : AllByRecursion P (numbers_of named) =
        subst (AllByRecursion P) (sym (same_numbers told names ps named read)) (each_member (Contains all_names) names ps last_all.1) in
        subst (λ (f : Founding). AllByRecursion (Contains all_names) (names_in (founding_files names f))) (sym is)
        (last_all.0, rings_named (Contains all_names) names key (shared_keys (numbers_of (in_order named)) words) (in_order named) (ordered_all P named numbers))

    asks_all : (before after : Option (List (List ℕ))) (founding : Founding) (a b c : Option (List (List ℕ))) → IsFounding before after (in_order named) founding
        → AsksOnly (map (file_name names) (keys_read ps)) a b → AsksOnly (names_in (founding_files names founding)) b c → AsksOnly all_names a c
    asks_all before after founding a b c made asked then =
        AsksOnly-trans all_names a b c (asks_keys a b asked)
        (AsksOnly-among (names_in (founding_files names founding)) all_names b c
        (λ name. All-contains (Contains all_names) (names_in (founding_files names founding)) name (All-from_recursion (Contains all_names) (names_in (founding_files names founding)) (written_all before after founding made))) then)

-- ---- what `found` asked for, of names and participants that are said otherwise

module _ (n names : FileNames) (qs ps : List Participant) (a : Option (List (List ℕ))) (same : n ≡ names) (same_participants : qs ≡ ps) where
  said : (c : Option (List (List ℕ))) → AsksOnly (map (file_name n) (found_files qs)) a c → AsksOnly (map (file_name names) (found_files ps)) a c
  said c asked =
      subst (λ (m : FileNames). AsksOnly (map (file_name m) (found_files ps)) a c) same
      (subst (λ (rs : List Participant). AsksOnly (map (file_name n) (found_files rs)) a c) same_participants asked)

  pub found_asks_keys : (b : Option (List (List ℕ))) → AsksOnly (map (file_name n) (keys_read qs)) a b → AsksOnly (map (file_name names) (found_files ps)) a b
  found_asks_keys b asked = said b (asks_keys n qs a b asked)

  pub found_asks_all : (told : Option (List NamedFile)) (named : List Named) (before after : Option (List (List ℕ))) (founding : Founding) (b c : Option (List (List ℕ)))
      → AreNamed told n qs named → IsFounding before after (in_order named) founding → AsksOnly (map (file_name n) (keys_read qs)) a b
      → AsksOnly (names_in (founding_files n founding)) b c → AsksOnly (map (file_name names) (found_files ps)) a c
  found_asks_all told named before after founding b c read made asked then = said c (asks_all n qs told named read before after founding a b c made asked then)
