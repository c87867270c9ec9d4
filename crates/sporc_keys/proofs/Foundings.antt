-- What a document begins with has a spelling.
use Rattle.std.proofs.Common.{◌≡◌, ℕ, ◌+◌, ◌^◌, ◌<◌, ◌≤◌, Bool, true, false, cond, eqb, List, [], ◌∷◌, length, Option, Some, None, refl, sym, ap, ap₂, subst, ◌∙◌, arith, map}
use Rattle.sporc_keys.proofs.Common.{take, IfSome, ◌||◌, AllByRecursion, cons_option, list_any, zip, IsStrictlyIncreasing, nat_tests, length-map, length-take, IsMember, Named, SharedKey, PairKey}
use Rattle.sporc_keys.proofs.Common.{RingFile, IsKnownKey, SharesMore, numbers_in, epoch_key_of, founders_in, genesis_of, in_order, number_of, numbers_of, pair_keys_of, pairs_of, ring_of, shared_by}
use Rattle.sporc_keys.proofs.Common.{shared_keys, words_for, IsPairKey, IsRingFile, members_of, Ascends, ascends_below, ascends_increasing, all_append, MAX_MEMBERS, AppendsItem, DrawsWords}
use Rattle.sporc_keys.proofs.Common.{DrawsWordsUpTo}
use Rattle.sha2.proofs.Facts256.{length-sha256}
use Rattle.sporc_hash.specs.Chain.{commitment_string}
use Rattle.sporc_member.specs.declared.founder.Founder.{Founder}
use Rattle.sporc_member.specs.Role.{is_admin}
use Rattle.sporc_member.specs.Roster.{founder_numbers}
use Rattle.sporc_entry.specs.Genesis.{IsFounder, IsGenesis, bad_key, founders_fault}
use Rattle.sporc_entry.specs.declared.genesis.Genesis.{Genesis}
use Rattle.sporc_keys.specs.declared.founding.Founding.{Founding}
use Rattle.sporc_keys.specs.declared.named.Named.TheVariants as named
use Rattle.sporc_keys.specs.Founding.{CanFound, IsFounding, found_of, is_first_admin, row}
use Rattle.sporc_keys.proofs.Drawing.{draws_then, draws_two}
use Rattle.sporc_keys.proofs.Naming.{ordered_all, ordered_any, ordered_ascends, ordered_length}
use Rattle.sporc_keys.proofs.Sharing.{is_among, made_again, named_members}

-- those that a document can be founded by, in ascending order of their numbers
pub record AreInOrder (all : List Named) : Type 0 where
  pub count : length all ≤ MAX_MEMBERS
  pub members : AllByRecursion IsMember (numbers_of all)
  pub ascending : Ascends 0 (numbers_of all)
  pub admin : list_any is_first_admin all ≡ true

pub are_in_order : (all : List Named) → CanFound all → AreInOrder (in_order all)
are_in_order all can = record {
  count = omega (arith, ordered_length all, can.count);
  members = ordered_all IsMember all can.members;
  ascending = ordered_ascends all can.distinct;
  admin = ordered_any is_first_admin all can.admin;
}

-- ---- the genesis

founders_ascend : (least : ℕ) (all : List Named) → Ascends least (numbers_of all) → Ascends least (founder_numbers (founders_in all))
founders_ascend least [] is = tt
founders_ascend least (named.Founder member role key ∷ rest) is = (is.0, founders_ascend (member + 1) rest is.1)
founders_ascend least (named.Joiner member ∷ rest) is = ascends_below least (member + 1) (founder_numbers (founders_in rest)) (omega (arith, is.0)) (founders_ascend (member + 1) rest is.1)

are_founders : (all : List Named) → AllByRecursion IsMember (numbers_of all) → AllByRecursion IsKnownKey (founders_in all) → AllByRecursion IsFounder (founders_in all)
are_founders [] members keys = tt
are_founders (named.Founder member role key ∷ rest) members keys = (record { member = members.0; key = keys.0.len }, are_founders rest members.1 keys.1)
are_founders (named.Joiner member ∷ rest) members keys = are_founders rest members.1 keys

few_founders : (all : List Named) → length (founders_in all) ≤ length all
few_founders [] = omega arith
few_founders (named.Founder member role key ∷ rest) = omega (arith, few_founders rest)
few_founders (named.Joiner member ∷ rest) = omega (arith, few_founders rest)

admins_are : (all : List Named) → list_any (λ m. is_admin m.role) (founders_in all) ≡ list_any is_first_admin all
admins_are [] = refl
admins_are (named.Founder member role key ∷ rest) = ap (λ (b : Bool). is_admin role || b) (admins_are rest)
admins_are (named.Joiner member ∷ rest) = admins_are rest

not_empty : (ms : List Founder) → list_any (λ m. is_admin m.role) ms ≡ true → 1 ≤ length ms
not_empty [] e = absurd cc
not_empty (m ∷ ms) e = omega arith

no_bad_key : (ms : List Founder) → AllByRecursion IsKnownKey ms → bad_key ms ≡ None
no_bad_key [] keys = refl
no_bad_key (m ∷ ms) keys = rw keys.0.known (no_bad_key ms keys.1)

no_fault : (ms : List Founder) → list_any (λ m. is_admin m.role) ms ≡ true → bad_key ms ≡ None → founders_fault ms ≡ None
no_fault ms admin keys = rw (admin, keys) refl

pub genesis_is : (document key : List ℕ) (all : List Named) → length document ≡ 16 → AreInOrder all → AllByRecursion IsKnownKey (founders_in all) → IsGenesis (genesis_of document key all)
genesis_is document key all len is keys =
    let admin : list_any (λ m. is_admin m.role) (founders_in all) ≡ true = admins_are all ∙ is.admin in
    record {
      document = len;
      commitment = length-sha256 (commitment_string document 0 key);
      count = (not_empty (founders_in all) admin, omega (arith, few_founders all, is.count));
      founders = are_founders all is.members keys;
      ascending = ascends_increasing 0 (founder_numbers (founders_in all)) (founders_ascend 0 all is.ascending);
      accepted = no_fault (founders_in all) admin (no_bad_key (founders_in all) keys);
    }

-- ---- the rings

-- a shared key in range
pub record IsShared (s : SharedKey) : Type 0 where
  pub first : s.first < 2 ^ 16
  pub second : s.second < 2 ^ 16
  pub key : length s.key ≡ 32

abbrev IsSmallPair : ℕ × ℕ → Type 0
IsSmallPair p = (p.0 < 2 ^ 16) × (p.1 < 2 ^ 16)

row_small : (n : ℕ) (ns : List ℕ) → n < 2 ^ 16 → AllByRecursion IsMember ns → AllByRecursion IsSmallPair (row n ns)
unfolding row
row_small n [] small all = tt
row_small n (m ∷ ms) small all = ((small, all.0.1), row_small n ms small all.1)

pairs_small : (ns : List ℕ) → AllByRecursion IsMember ns → AllByRecursion IsSmallPair (pairs_of ns)
pairs_small [] all = tt
pairs_small (n ∷ ns) all = all_append IsSmallPair (row n (n ∷ ns)) (pairs_of ns) (row_small n (n ∷ ns) all.0.1 all) (pairs_small ns all.1)

are_shared : (ps : List (ℕ × ℕ)) (ws : List (List ℕ)) → AllByRecursion IsSmallPair ps → AllByRecursion (λ word. length word ≡ 32) ws → AllByRecursion IsShared (map shared_by (zip ps ws))
are_shared (p ∷ ps) (w ∷ ws) small sized = (record { first = small.0.0; second = small.0.1; key = sized.0 }, are_shared ps ws small.1 sized.1)
are_shared ps ws small sized = tt

are_pair_keys : (m : ℕ) (shared : List SharedKey) → AllByRecursion IsShared shared → AllByRecursion IsPairKey (pair_keys_of m shared)
are_pair_keys m [] all = tt
are_pair_keys m (s ∷ ss) all = go (eqb s.first m) (eqb s.second m) (are_pair_keys m ss all.1)
  where
    go : (a b : Bool) → AllByRecursion IsPairKey (pair_keys_of m ss)
        → AllByRecursion IsPairKey (cons_option (cond a (Some (record { member = s.second; key = s.key })) (cond b (Some (record { member = s.first; key = s.key })) None)) (pair_keys_of m ss))
    go true b later = (record { member = all.0.second; key = all.0.key }, later)
    go false true later = (record { member = all.0.first; key = all.0.key }, later)
    go false false later = later

key_sized : (key : List ℕ) (n : Named) → length key ≡ 32 → IfSome (epoch_key_of key n) (λ key. length key ≡ 32)
key_sized key (named.Founder member role public) len = len
key_sized key (named.Joiner member) len = tt

-- what the rings of those in order are made of
pub record AreMade (all : List Named) (key : List ℕ) (words : List (List ℕ)) : Type 0 where
  pub ordered : AreInOrder all
  pub epoch_key : length key ≡ 32
  pub sized : AllByRecursion (λ word. length word ≡ 32) words
  pub count : length words ≡ length (pairs_of (numbers_of all))

ring_is : (all : List Named) (key : List ℕ) (words : List (List ℕ)) (n : Named) → AreMade all key words → IsMember (number_of n) → is_among (number_of n) (numbers_of all) ≡ true
    → IsRingFile (ring_of key (shared_keys (numbers_of all) words) n)
ring_is all key words n made member among =
    let rises : IsStrictlyIncreasing (numbers_of all) = ascends_increasing 0 (numbers_of all) made.ordered.ascending in
    let pairs : List PairKey = pair_keys_of (number_of n) (shared_keys (numbers_of all) words) in
    let named : members_of pairs ≡ numbers_of all = named_members (numbers_of all) words (number_of n) rises made.count among in
    let many : length pairs ≡ length all = sym (length-map pairs (λ p. p.member)) ∙ ap length named ∙ length-map all number_of in
    let P : List ℕ → Type 0 = λ ns. IsStrictlyIncreasing ns in
    record {
      member = member.1;
      epoch_key = key_sized key n made.epoch_key;
      count = omega (arith, many, made.ordered.count);
      pairs = are_pair_keys (number_of n) (shared_keys (numbers_of all) words) (are_shared (pairs_of (numbers_of all)) words (pairs_small (numbers_of all) made.ordered.members) made.sized);
      ascending = subst P (sym named) rises;
    }

-- each is among all
each_among : (all : List ℕ) → AllByRecursion (λ n. is_among n all ≡ true) all
each_among [] = tt
each_among (n ∷ ns) = (here, later ns (each_among ns))
  where
    here : is_among n (n ∷ ns) ≡ true
    here = let same : eqb n n ≡ true = grind (arith, nat_tests) in rw same refl

    or_right : (a b : Bool) → b ≡ true → (a || b) ≡ true
    or_right true b e = refl
    or_right false b e = e

    later : (ks : List ℕ) → AllByRecursion (λ k. is_among k ns ≡ true) ks → AllByRecursion (λ k. is_among k (n ∷ ns) ≡ true) ks
    later [] h = tt
    later (k ∷ ks) h = (or_right (eqb n k) (is_among k ns) h.0, later ks h.1)

some_rings : (all rest : List Named) (key : List ℕ) (words : List (List ℕ)) → AreMade all key words → AllByRecursion IsMember (numbers_of rest) → AllByRecursion (λ n. is_among n (numbers_of all) ≡ true) (numbers_of rest)
    → AllByRecursion IsRingFile (map (ring_of key (shared_keys (numbers_of all) words)) rest)
some_rings all [] key words made members among = tt
some_rings all (n ∷ ns) key words made members among = (ring_is all key words n made members.0 among.0, some_rings all ns key words made members.1 among.1)

pub rings_are : (all : List Named) (key : List ℕ) (words : List (List ℕ)) → AreMade all key words → AllByRecursion IsRingFile (map (ring_of key (shared_keys (numbers_of all) words)) all)
rings_are all key words made = some_rings all all key words made made.ordered.members (each_among (numbers_of all))

-- ---- what the words make

-- the words that were drawn: the first two, and one for each pair of the numbers
pub record Words (before after : Option (List (List ℕ))) (all : List Named) (first key : List ℕ) (shared : List SharedKey) : Type 0 where
  pub two : (length first ≡ 32) × (length key ≡ 32)
  pub pairs : map numbers_in shared ≡ pairs_of (numbers_of all)
  pub drawn : DrawsWords before after (first ∷ key ∷ map (λ s. s.key) shared)

pub words_are : (a b c d : Option (List (List ℕ))) (all : List Named) (numbers first key : List ℕ) (shared : List SharedKey) → numbers ≡ numbers_of all → length first ≡ 32 → length key ≡ 32
    → AppendsItem a b first → AppendsItem b c key → SharesMore c d (pairs_of numbers) [] shared → Words a d all first key shared
words_are a b c d all numbers first key shared same len_first len_key told_first told_key more =
    let two : DrawsWords a c (first ∷ key ∷ []) = draws_two a b c first key len_first len_key told_first told_key in
    let P : List SharedKey → Type 0 = λ s. (map numbers_in s ≡ pairs_of numbers) × DrawsWords c d (map (λ s. s.key) s) in
    let m : P shared = subst P (sym more.1) (more.2, more.3) in
    record {
      two = (len_first, len_key);
      pairs = m.0 ∙ ap pairs_of same;
      drawn = draws_then a c d (first ∷ key ∷ []) (map (λ s. s.key) shared) two m.1;
    }

-- the keys that were drawn are those that their words make
drawn_again : (a d : Option (List (List ℕ))) (all : List Named) (first key : List ℕ) (shared : List SharedKey) → Words a d all first key shared
    → shared_keys (numbers_of all) (map (λ s. s.key) shared) ≡ shared
drawn_again a d all first key shared words =
    ap (λ (ps : List (ℕ × ℕ)). map shared_by (zip ps (map (λ s. s.key) shared))) (sym words.pairs) ∙ made_again shared

words_count : (a d : Option (List (List ℕ))) (all : List Named) (first key : List ℕ) (shared : List SharedKey) → Words a d all first key shared
    → length (map (λ s. s.key) shared) ≡ length (pairs_of (numbers_of all))
words_count a d all first key shared words = length-map shared (λ s. s.key) ∙ sym (length-map shared numbers_in) ∙ ap length words.pairs

-- all the words that a founding takes are drawn
pub all_drawn : (a b c d : Option (List (List ℕ))) (all : List Named) (numbers first key : List ℕ) (shared : List SharedKey) → numbers ≡ numbers_of all → length first ≡ 32 → length key ≡ 32
    → AppendsItem a b first → AppendsItem b c key → SharesMore c d (pairs_of numbers) [] shared → DrawsWordsUpTo (words_for all) a d
all_drawn a b c d all numbers first key shared same len_first len_key told_first told_key more =
    let words : Words a d all first key shared = words_are a b c d all numbers first key shared same len_first len_key told_first told_key more in
    (first ∷ key ∷ map (λ s. s.key) shared, omega (arith, words_count a d all first key shared words), words.drawn)

pub is_founding : (a d : Option (List (List ℕ))) (all : List Named) (first key : List ℕ) (shared : List SharedKey) (founding : Founding) → Words a d all first key shared
    → founding.genesis ≡ genesis_of (take 16 first) key all → founding.rings ≡ map (ring_of key shared) all → IsFounding a d all founding
is_founding a d all first key shared founding words genesis rings =
    let again : shared_keys (numbers_of all) (map (λ s. s.key) shared) ≡ shared = drawn_again a d all first key shared words in
    let made : founding ≡ found_of all first key (map (λ s. s.key) shared) =
    ap₂ (λ (g : Genesis) (r : List RingFile). record { genesis = g; rings = r }) genesis (rings ∙ ap (λ (s : List SharedKey). map (ring_of key s) all) (sym again)) in
    (first, key, map (λ s. s.key) shared, words_count a d all first key shared words, words.drawn, made)

pub are_ring_files : (a d : Option (List (List ℕ))) (all : List Named) (first key : List ℕ) (shared : List SharedKey) (rings : List RingFile) → Words a d all first key shared → AreInOrder all
    → rings ≡ map (ring_of key shared) all → AllByRecursion IsRingFile rings
are_ring_files a d all first key shared rings words ordered is =
    let again : shared_keys (numbers_of all) (map (λ s. s.key) shared) ≡ shared = drawn_again a d all first key shared words in
    let made : AreMade all key (map (λ s. s.key) shared) = record { ordered = ordered; epoch_key = words.two.1; sized = words.drawn.sized.1.1; count = words_count a d all first key shared words } in
    let P : List RingFile → Type 0 = λ rs. AllByRecursion IsRingFile rs in
    subst P (ap (λ (s : List SharedKey). map (ring_of key s) all) again ∙ sym is) (rings_are all key (map (λ s. s.key) shared) made)

pub is_genesis : (all : List Named) (first key : List ℕ) (genesis : Genesis) → length first ≡ 32 → AreInOrder all → genesis ≡ genesis_of (take 16 first) key all → AllByRecursion IsKnownKey genesis.founders
    → IsGenesis genesis
is_genesis all first key genesis len ordered is keys =
    let known : AllByRecursion IsKnownKey (founders_in all) = subst (λ (g : Genesis). AllByRecursion IsKnownKey g.founders) is keys in
    let sixteen : length (take 16 first) ≡ 16 = omega (arith, length-take 16 first, len) in
    subst (λ (g : Genesis). IsGenesis g) (sym is) (genesis_is (take 16 first) key all sixteen ordered known)
