-- What a tree signs verifies.
use Rattle.std.proofs.Common.{◌≡◌, ℕ, zero, suc, ◌+◌, ◌-◌, ◌*◌, ◌/◌, ◌^◌, ◌<◌, ◌≤◌, List, [], ◌++◌, length, take, drop, refl, sym, ap, ◌∙◌, arith, append_assoc, w32, ◌∷◌, slice_index_or, inl, inr}
use Rattle.std.specs.Int.{to_be_bytes, from_be_bytes}
use Rattle.std.proofs.Math.Nat.{pow-le-pow_right}
use Rattle.std.proofs.lemmas.Nat.{from_be_bytes-to_be_bytes_4}
use Rattle.std.proofs.lemmas.List.{length-append, take_all, take_at, take-take, drop_at, get_or_append_left, get_or_push}
use Rattle.std.proofs.lemmas.Bool.{cases_lt}
use Rattle.sha2.proofs.Facts256.{length-sha256}
use Rattle.lms_ots.specs.OtsType.{ots_signature_len_of}
use Rattle.lms_ots.specs.Chains.{concatenated}
use Rattle.lms_ots.specs.Signatures.{ots_signature_of, ots_public_of, candidate_key, code_in}
use Rattle.lms_ots.proofs.ConcatenatedLemmas.{concatenated_part, concatenated_same, length-concatenated}
use Rattle.lms_ots.proofs.SignatureLemmas.{code_of_signature, key_of_signature, length-ots_signature_of}
use Rattle.lms_tree.specs.declared.public_key.LmsPublic.{LmsPublic}
use Rattle.lms_tree.specs.declared.lms_type.LmsType.{LmsType}
use Rattle.lms_tree.specs.declared.lms_type.LmsType.TheVariants.{H5}
use Rattle.lms_tree.specs.LmsType.{lms_code_of, height_of}
use Rattle.lms_tree.specs.Nodes.{node_of, leaf_value, sibling}
use Rattle.lms_tree.specs.LmsPrivate.{LmsPrivate, node_at, root_of, lms_public_of, sibling_value, path_of, value_at}
use Rattle.lms_tree.specs.Signatures.{lms_signature_of}
use Rattle.lms_tree.specs.Verification.{HasForm, lms_signature_len_of, leaf_in, ots_code_in, ots_signature_in, path_in, root_from, root_in}
use Rattle.lms_tree.specs.Laws.{SignaturesVerify}
use Rattle.lms_tree.proofs.SiblingLemmas.{ancestor_nodes, way_bits}

-- a node's value has 32 bytes
length-node_at : (key : LmsPrivate) (k r : ℕ) → length (node_at key k r) ≡ 32
unfolding node_of
length-node_at key zero r = length-sha256 _
length-node_at key (suc k) r = length-sha256 _

-- four fields in a row, read back
pub field_one : (a b c d : List ℕ) (n : ℕ) → length a ≡ n → take n (a ++ b ++ c ++ d) ≡ a
field_one a b c d n e = rw (append_assoc (a ++ b) c d, append_assoc a b (c ++ d)) (take_at a (b ++ (c ++ d)) n e)

pub field_two : (a b c d : List ℕ) (m n : ℕ) → length a ≡ m → length b ≡ n → take n (drop m (a ++ b ++ c ++ d)) ≡ b
field_two a b c d m n e f = rw (append_assoc (a ++ b) c d, append_assoc a b (c ++ d), drop_at a (b ++ (c ++ d)) m e) (take_at b (c ++ d) n f)

pub field_three : (a b c d : List ℕ) (m n : ℕ) → length (a ++ b) ≡ m → length c ≡ n → take n (drop m (a ++ b ++ c ++ d)) ≡ c
field_three a b c d m n e f = rw (append_assoc (a ++ b) c d, drop_at (a ++ b) (c ++ d) m e) (take_at c d n f)

pub field_four : (a b c d : List ℕ) (m n : ℕ) → length (a ++ b ++ c) ≡ m → length d ≡ n → take n (drop m (a ++ b ++ c ++ d)) ≡ d
field_four a b c d m n e f = rw (drop_at (a ++ b ++ c) d m e) (take_all n d (omega (arith, f)))

-- the way from a leaf leads to the root
way_up : (key : LmsPrivate) (q : ℕ) → q < 2 ^ height_of key.lms
    → root_from (lms_public_of key) q (concatenated (sibling_value key q) (height_of key.lms)) (ots_public_of key.ots key.id q key.seed)
    ≡ root_of key
unfolding node_of
way_up key q fits =
    let h = height_of key.lms in
    let r = 2 ^ h + q in
    let path = concatenated (sibling_value key q) h in
    let place : r - 2 ^ h ≡ q = omega arith in
    let leaf : leaf_value key.id r (ots_public_of key.ots key.id q key.seed) ≡ node_at key 0 r = rw place refl in
    let each : (i : ℕ) → i < h → take 32 (drop (32 * i) path) ≡ node_at key i (sibling (r / 2 ^ i)) =
    λ i below. concatenated_part (sibling_value key q) (λ n. length-node_at key n _) h i below in
    let all : h ≤ h = omega arith in
    let top : r / 2 ^ h ≡ 1 = rw div_one at (way_bits h q h 0 fits (omega arith)) in
    ancestor_nodes key r path _ h h leaf each all ∙ ap (node_at key h) top
  where
    div_one : (n : ℕ) → n / 1 ≡ n
    div_one n = omega arith

pub code_fits : (t : LmsType) → lms_code_of t < 2 ^ 32
code_fits H5 = omega arith
code_fits _ = omega arith

-- a leaf number is a u32
pub height_fits : (t : LmsType) → height_of t ≤ 25
height_fits H5 = omega arith
height_fits _ = omega arith

pub leaf_fits : (t : LmsType) (q : ℕ) → q < 2 ^ height_of t → q < 2 ^ 32
leaf_fits t q below =
    let two : 0 < 2 = omega arith in
    let most : 2 ^ height_of t ≤ 2 ^ 25 = pow-le-pow_right two (height_fits t) in
    omega (arith, below, most)

-- the one-time signature begins with the code that stands behind the leaf number
ots_code_of_fields : (key : LmsPublic) (signature : List ℕ)
    → ots_code_in signature ≡ code_in (ots_signature_in key signature)
ots_code_of_fields key signature =
    ap (from_be_bytes w32) (sym (take-take 4 (ots_signature_len_of key.ots) (drop 4 signature) (omega arith)))

-- a list with the fields of a signature leads to the root
leads_to_root : (key : LmsPrivate) (q : ℕ) (message signature ots_signature : List ℕ)
    → leaf_in signature ≡ q → q < 2 ^ height_of key.lms
    → ots_signature_in (lms_public_of key) signature ≡ ots_signature
    → path_in (lms_public_of key) signature ≡ concatenated (sibling_value key q) (height_of key.lms)
    → candidate_key key.ots key.id q message ots_signature ≡ ots_public_of key.ots key.id q key.seed
    → root_in (lms_public_of key) message signature ≡ root_of key
unfolding root_in
leads_to_root key q message signature ots_signature first fits cut rest leads = rw (first, cut, rest, leads) (way_up key q fits)

-- what a private key signs verifies under its public key
pub signatures_verify : SignaturesVerify
unfolding lms_signature_of
signatures_verify key q c message all fits =
    let a = to_be_bytes w32 q in
    let b = ots_signature_of key.ots key.id q key.seed c message in
    let d = to_be_bytes w32 (lms_code_of key.lms) in
    let h = height_of key.lms in
    let n = ots_signature_len_of key.ots in
    let p = concatenated (sibling_value key q) h in
    let middle = length-ots_signature_of key.ots key.id q key.seed c message all in
    let last = length-concatenated (sibling_value key q) (λ n. length-node_at key n _) h in
    let two : length (a ++ b) ≡ 4 + n = omega (arith, length-append a b, middle) in
    let three : length (a ++ b ++ d) ≡ 8 + n = omega (arith, length-append (a ++ b) d, two) in
    let whole : length (a ++ b ++ d ++ p) ≡ lms_signature_len_of (lms_public_of key) = omega (arith, length-append (a ++ b ++ d) p, three, last) in
    let signature = a ++ b ++ d ++ p in
    let public = lms_public_of key in
    let first = ap (from_be_bytes w32) (field_one a b d p 4 refl) ∙ from_be_bytes-to_be_bytes_4 q (leaf_fits key.lms q fits) in
    let cut = field_two a b d p 4 n refl middle in
    let form : HasForm public signature = record {
      size = whole;
      leaf = rw first fits;
      ots_code = ots_code_of_fields public signature ∙ ap code_in cut ∙ code_of_signature key.ots key.id q key.seed c message all;
      lms_code = ap (from_be_bytes w32) (field_three a b d p (4 + n) 4 two refl) ∙ from_be_bytes-to_be_bytes_4 (lms_code_of key.lms) (code_fits key.lms);
    } in
    let path = drop_at (a ++ b ++ d) p (8 + n) three in
    let leads = key_of_signature key.ots key.id q key.seed c message all in
    record { form = form; root = leads_to_root key q message signature b first fits cut path leads }

-- the values of a path
length-path_of : (key : LmsPrivate) (q n : ℕ) → length (path_of key q n) ≡ n
unfolding path_of
length-path_of key q zero = refl
length-path_of key q (suc n) = omega (arith, length-append (path_of key q n) (sibling_value key q n ∷ []), length-path_of key q n)

path_value : (key : LmsPrivate) (q n i : ℕ) (d : List ℕ) → i < n → slice_index_or (path_of key q n) i d ≡ sibling_value key q i
unfolding path_of
path_value key q zero i d h = absurd (omega arith)
path_value key q (suc n) i d h =
    let size = length-path_of key q n in
    elim (cases_lt i n) [
      | inl below ↦
          let inside : i < length (path_of key q n) = omega arith in
          get_or_append_left (path_of key q n) (sibling_value key q n ∷ []) d i inside ∙ path_value key q n i d below
      | inr above ↦
          let same : i ≡ n = omega arith in
          rw (same, get_or_push (path_of key q n) (sibling_value key q n) d n size) refl
    ]

-- the fields that a tree assembles are a signature of its private key
pub signature_is : (key inside : LmsPrivate) (q : ℕ) (c message lent held : List ℕ) (code : ℕ) (path : List (List ℕ)) (items : List ℕ)
    → inside ≡ key → lent ≡ held → held ≡ ots_signature_of inside.ots inside.id q inside.seed c message → code ≡ lms_code_of inside.lms
    → path ≡ path_of key q (height_of key.lms)
    → items ≡ to_be_bytes w32 q ++ lent ++ to_be_bytes w32 code ++ concatenated (value_at path) (length path)
    → items ≡ lms_signature_of key q c message
unfolding lms_signature_of
signature_is key inside q c message lent held code path items same whole signed coded way all =
    let h = height_of key.lms in
    let values = concatenated_same (value_at (path_of key q h)) (sibling_value key q) h (λ i below. path_value key q h i [] below) in
    let mine : ots_signature_of inside.ots inside.id q inside.seed c message ≡ ots_signature_of key.ots key.id q key.seed c message =
    ap (λ (k : LmsPrivate). ots_signature_of k.ots k.id q k.seed c message) same in
    let type : lms_code_of inside.lms ≡ lms_code_of key.lms = ap (λ (k : LmsPrivate). lms_code_of k.lms) same in
    rw (all, whole, signed, mine, coded, type, way, length-path_of key q h, values) refl
