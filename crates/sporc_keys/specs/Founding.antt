-- What a document begins with: its genesis, and a ring for each number that is named.
use Rattle.std.specs.Prelude.{◌≡◌, ℕ, ◌+◌, ◌==◌, ◌≤◌, nat_eq, Bool, true, false, List, []}
use Rattle.std.specs.Prelude.{◌∷◌, ◌++◌, length, take, map, fold, filter_map, find, option_map}
use Rattle.std.specs.Prelude.{is_none, Option, None, Some, if◌then◌else◌}
use Rattle.std.specs.List.{AllByRecursion, list_any, zip, IsDistinct}
use Rattle.lms_tree.specs.LmsPublic.{public_key_bytes, public_key_in}
use Rattle.sporc_hash.specs.Chain.{commitment_of}
use Rattle.sporc_member.specs.declared.founder.Founder.{Founder}
use Rattle.sporc_member.specs.declared.limits.TheConstants.{MAX_MEMBERS}
use Rattle.sporc_member.specs.Lists.{insert_by}
use Rattle.sporc_member.specs.Role.{is_admin}
use Rattle.sporc_member.specs.Device.{IsMember}
use Rattle.sporc_entry.specs.declared.genesis.Genesis.{Genesis}
use Rattle.sporc_keys.specs.declared.founding.Founding.{Founding}
use Rattle.sporc_keys.specs.declared.named.Named.{Named}
use Rattle.sporc_keys.specs.declared.named.Named.TheVariants as named
use Rattle.sporc_keys.specs.declared.pair.SharedKey.{SharedKey}
use Rattle.sporc_keys.specs.declared.ring_file.PairKey.{PairKey}
use Rattle.sporc_keys.specs.declared.ring_file.RingFile.{RingFile}
use Rattle.sporc_keys.specs.Drawn.{DrawsWords}

-- ---- the named

abbrev pub number_of : Named → ℕ
number_of (named.Founder member role key) = member
number_of (named.Joiner member) = member

abbrev pub numbers_of : List Named → List ℕ
numbers_of all = map number_of all

-- who is a member from the beginning
abbrev pub founder_in : Named → Option Founder
founder_in (named.Founder member role key) =
    Some (record { member = member; role = role; key = public_key_bytes key })
founder_in (named.Joiner member) = None

abbrev pub founders_in : List Named → List Founder
founders_in all = filter_map founder_in all

-- a founder whose key is of a known type
pub record IsKnownKey (m : Founder) : Type 0 where
  pub len : length m.key ≡ 56
  pub known : is_none (public_key_in m.key) ≡ false

-- whether it is an admin from the beginning
abbrev pub is_first_admin : Named → Bool
is_first_admin (named.Founder member role key) = is_admin role
is_first_admin (named.Joiner member) = false

-- one more, among some in ascending order of their numbers
abbrev pub insert_named : Named → List Named → List Named
insert_named n ms = insert_by number_of n ms

-- in ascending order of their numbers
abbrev pub in_order : List Named → List Named
in_order all = fold (λ ordered n. insert_named n ordered) [] all

-- those that a document can be founded by: at most 64, no number twice, an admin among them
pub record CanFound (all : List Named) : Type 0 where
  pub count : length all ≤ MAX_MEMBERS
  pub members : AllByRecursion IsMember (numbers_of all)
  pub distinct : IsDistinct nat_eq (numbers_of all)
  pub admin : list_any is_first_admin all ≡ true

-- ---- the keys that they share

-- the pairs of a number with others
unfoldable pub row : ℕ → List ℕ → List (ℕ × ℕ)
row n ms = map (λ m. (n, m)) ms

-- the pairs of ascending numbers, each number with itself and with those behind it
abbrev pub pairs_of : List ℕ → List (ℕ × ℕ)
pairs_of [] = []
pairs_of (n ∷ ns) = row n (n ∷ ns) ++ pairs_of ns

-- the key of a pair is a word
abbrev pub shared_by : (ℕ × ℕ) × List ℕ → SharedKey
shared_by (pair, word) = record { first = pair.0; second = pair.1; key = word }

-- a key for each pair, one word after another
abbrev pub shared_keys : List ℕ → List (List ℕ) → List SharedKey
shared_keys numbers words = map shared_by (zip (pairs_of numbers) words)

-- the numbers of the two that share a key
abbrev pub numbers_in : SharedKey → ℕ × ℕ
numbers_in s = (s.first, s.second)

-- more keys, for these pairs in their order, one drawn word after another
abbrev pub SharesMore : Option (List (List ℕ)) → Option (List (List ℕ)) → List (ℕ × ℕ)
    → List SharedKey → List SharedKey → Type 0
SharesMore before after pairs old new = (more : List SharedKey) × (new ≡ old ++ more)
    × (map numbers_in more ≡ pairs) × DrawsWords before after (map (λ s. s.key) more)

-- the key that a member has of a pair, if it is one of the two: under the number of the other
abbrev pub pair_key_of : ℕ → SharedKey → Option PairKey
pair_key_of member s =
    if s.first == member then Some (record { member = s.second; key = s.key })
    else if s.second == member then Some (record { member = s.first; key = s.key })
    else None

-- the keys that a member has of some pairs
abbrev pub pair_keys_of : ℕ → List SharedKey → List PairKey
pair_keys_of member shared = filter_map (pair_key_of member) shared

-- the key under a number
abbrev pub key_with : ℕ → List PairKey → Option (List ℕ)
key_with number pairs = option_map (λ p. p.key) (find (λ p. p.member == number) pairs)

-- ---- the document

-- a founder holds the key of epoch 0
abbrev pub epoch_key_of : List ℕ → Named → Option (List ℕ)
epoch_key_of key (named.Founder member role public) = Some key
epoch_key_of key (named.Joiner member) = None

abbrev pub ring_of : List ℕ → List SharedKey → Named → RingFile
ring_of key shared n = record {
  member = number_of n;
  epoch_key = epoch_key_of key n;
  pairs = pair_keys_of (number_of n) shared;
}

abbrev pub genesis_of : List ℕ → List ℕ → List Named → Genesis
genesis_of document key all = record {
  document = document;
  commitment = commitment_of document 0 key;
  founders = founders_in all;
}

-- what those in ascending order of their numbers begin with, by words: the document is the first 16
-- bytes of the first, the key of epoch 0 the second, and the pairs share the others
abbrev pub found_of : List Named → List ℕ → List ℕ → List (List ℕ) → Founding
found_of all first key words = record {
  genesis = genesis_of (take 16 first) key all;
  rings = map (ring_of key (shared_keys (numbers_of all) words)) all;
}

-- how many words that takes: two, and one for each pair
abbrev pub words_for : List Named → ℕ
words_for all = 2 + length (pairs_of (numbers_of all))

-- what was made of the words that a chance gave, one for each pair behind two
abbrev pub IsFounding : Option (List (List ℕ)) → Option (List (List ℕ)) → List Named
    → Founding → Type 0
IsFounding before after all founding = (first key : List ℕ) × (words : List (List ℕ))
    × (length words ≡ length (pairs_of (numbers_of all)))
    × DrawsWords before after (first ∷ key ∷ words) × (founding ≡ found_of all first key words)
