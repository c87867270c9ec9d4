-- The keys of a good history meet their commitments, so that members with one good history read it alike.
use Rattle.std.proofs.Common.{◌≡◌, ℕ, suc, zero, ◌+◌, ◌<◌, ◌≤◌, Bool, true, false, List, [], ◌∷◌, ◌++◌, length, take, refl, ap, sym, ◌∙◌, subst, arith, Option, None, Some, Ok, inl, inr, length-append}
use Rattle.sporc_line.proofs.Common.{is_some, ◌||◌, Contains, slice_get, append_cancel_left, append-nil, and_parts, or_parts, cases_lt, bytes_eq-Decides, first_of, Device, removes, passes, Entry}
use Rattle.sporc_line.proofs.Common.{ChangeBody, Genesis, entry_of, change_of, NoKey, WrongKey, CommittedChange, change_in, changes, epoch_of, is_removed, changes_push, removed_push, removes_in}
use Rattle.sporc_line.proofs.Common.{change_in_read, Kit, key_after, epoch_key, Operation, operation_in, operations, forms_from, text_after, text_of, is_new_key, new_key_checks, key_checks_of, Good}
use Rattle.sporc_line.proofs.Common.{Meets, w32, to_be_bytes, Contains-append_left, Contains-append_right, commitment_of, commitment_string, from_end, Contains-first}
use Rattle.sporc_hash.specs.Strings.{chain_strings, key_string, key_strings, CollisionFree}
use Rattle.sporc_entry.specs.Genesis.{genesis_bytes}
use Rattle.sporc_line.specs.LineChecks.{key_checks}
use Rattle.sporc_line.specs.LineStrings.{line_strings}
use Rattle.sporc_line.specs.Commitments.{commitment_after, commitment_started}
use Rattle.sporc_suffix.proofs.Kept.{slice_get_front}
use Rattle.sporc_line.proofs.Lists.{slice_get_last, map_same}
use Rattle.sporc_line.proofs.Passes.{Passes}
use Rattle.sporc_line.proofs.Goods.{good_entry, good_take, good_front, last_passes}
use Rattle.sporc_line.proofs.MoreForms.{key_after_front, key_of_take, epoch_front, operation_same}

-- ---- the commitment that an epoch's key meets

-- each key after changes meets its commitment
abbrev KeysMeet : Genesis → Kit → List CommittedChange → Type 0
KeysMeet g kit cs = (e : ℕ) → e ≤ length cs → Meets g e (key_after g kit cs e) (commitment_after g cs e)

-- ---- the key that a change starts

-- what holds of it, for a device that the change doesn't remove
pub record NewKey (document : List ℕ) (epoch : ℕ) (c : ChangeBody) (old key : Option (List ℕ)) : Type 0 where
  pub bytes : List ℕ
  pub is : key ≡ Some bytes
  pub new : is_new_key document epoch c old key ≡ true

kept_or : (a b : Bool) → a ≡ false → (a || b) ≡ true → b ≡ true
kept_or true b h k = absurd cc
kept_or false b h k = k

some_of : {X : Type 0} (o : Option X) → is_some o ≡ true → (x : X) × (o ≡ Some x)
some_of None h = absurd cc
some_of (Some x) h = (x, refl)

pub new_key : (document : List ℕ) (me : Device) (epoch : ℕ) (c : ChangeBody) (old key : Option (List ℕ)) → removes me c.change ≡ false → first_of (new_key_checks document me epoch c old key) ≡ None → NewKey document epoch c old key
new_key document me epoch c old key kept h =
    let a = passes (removes me c.change || is_some key) NoKey _ h in
    let b = passes (removes me c.change || is_new_key document epoch c old key) WrongKey [] a.1 in
    let k = some_of key (kept_or (removes me c.change) (is_some key) kept a.0) in
    record { bytes = k.0; is = k.1; new = kept_or (removes me c.change) (is_new_key document epoch c old key) kept b.0 }

meets_new : (g : Genesis) (epoch : ℕ) (c : ChangeBody) (old key : Option (List ℕ)) → is_new_key g.document epoch c old key ≡ true → Meets g epoch key c.commitment
meets_new g epoch c (Some old) (Some key) h = (bytes_eq-Decides (commitment_of g.document epoch key) c.commitment).0 (and_parts _ _ h).0
meets_new g epoch c old key h = absurd cc

-- the change under the header of its entry
abbrev pub committed : Entry → ChangeBody → CommittedChange
committed e c = record { header = e.header; body = c }

-- the key of the epoch that a change starts, where it passed and doesn't remove the device
pub change_key : (g : Genesis) (kit : Kit) (A : List (List ℕ)) (pos : ℕ) (e : Entry) (c : ChangeBody) → Passes g kit A pos e → change_of e ≡ Some c → removes kit.me c.change ≡ false
    → NewKey g.document (epoch_of A + 1) c (epoch_key g kit A (epoch_of A)) (key_after g kit (changes A ++ committed e c ∷ []) (epoch_of A + 1))
unfolding key_checks
change_key g kit A pos e c p is kept =
    new_key g.document kit.me (epoch_of A + 1) c (epoch_key g kit A (epoch_of A)) (key_after g kit (changes A ++ committed e c ∷ []) (epoch_of A + 1)) kept
    (ap (λ (o : Option ChangeBody). first_of (key_checks_of g kit A e o)) (sym is) ∙ p.keys)

-- ---- all keys of a good history

commitment_at_front : (g : Genesis) (cs ds : List CommittedChange) (e : ℕ) → e ≤ length cs → commitment_after g (cs ++ ds) e ≡ commitment_after g cs e
commitment_at_front g cs ds zero h = refl
commitment_at_front g cs ds (suc e) h = ap (commitment_started g) (slice_get_front cs ds e h)

-- one change more, whose key meets its commitment
meets_more : (g : Genesis) (kit : Kit) (cs : List CommittedChange) (c : CommittedChange) → KeysMeet g kit cs
    → Meets g (length cs + 1) (key_after g kit (cs ++ c ∷ []) (length cs + 1)) c.body.commitment → KeysMeet g kit (cs ++ c ∷ [])
meets_more g kit cs c old new e h = elim (cases_lt (length cs) e) [
  | inr l ↦ rw (key_after_front g kit cs (c ∷ []) e l, commitment_at_front g cs (c ∷ []) e l) (old e l)
  | inl l ↦
      let n : e ≡ suc (length cs) = omega (arith, length-append cs (c ∷ []), h, l) in
      let m : length cs + 1 ≡ suc (length cs) = omega arith in
      let at : commitment_after g (cs ++ c ∷ []) (suc (length cs)) ≡ c.body.commitment = ap (commitment_started g) (slice_get_last cs c) in
      subst (λ e. Meets g e (key_after g kit (cs ++ c ∷ []) e) (commitment_after g (cs ++ c ∷ []) e)) (sym n)
      (subst (λ k. Meets g (suc (length cs)) (key_after g kit (cs ++ c ∷ []) (suc (length cs))) k) (sym at)
      (subst (λ e. Meets g e (key_after g kit (cs ++ c ∷ []) e) c.body.commitment) m new))
]

-- a device that is still there was there before
pub not_removed_before : (me : Device) (A : List (List ℕ)) (b : List ℕ) (o : Option CommittedChange) → change_in b ≡ o → is_removed me (A ++ b ∷ []) ≡ false → (is_removed me A ≡ false) × (removes_in me o ≡ false)
not_removed_before me A b o is h = or_parts (is_removed me A) (removes_in me o) (sym (removed_push me A b o is) ∙ h)

abbrev IfThere : Genesis → Kit → List (List ℕ) → Type 0
IfThere g kit A = Good g kit A → is_removed kit.me A ≡ false → KeysMeet g kit (changes A)

meet_none : (g : Genesis) (kit : Kit) → IfThere g kit []
meet_none g kit good kept zero h = good.opens
meet_none g kit good kept (suc e) h = absurd (omega arith)

meet_push : (g : Genesis) (kit : Kit) (A : List (List ℕ)) (b : List ℕ) → IfThere g kit A → IfThere g kit (A ++ b ∷ [])
meet_push g kit A b ih good kept =
    let p = last_passes g kit A b good in
    go p.0 p.1 p.2 (change_of p.0) refl
  where
    go : (e : Entry) → entry_of b ≡ Ok e → Passes g kit A (length A + 1) e → (o : Option ChangeBody) → change_of e ≡ o → KeysMeet g kit (changes (A ++ b ∷ []))
    go e is p None c =
        let none : change_in b ≡ None = change_in_read b e None is (sym c) in
        let before = not_removed_before kit.me A b None none kept in
        let same : changes (A ++ b ∷ []) ≡ changes A = changes_push A b None none ∙ append-nil (changes A) in
        subst (KeysMeet g kit) (sym same) (ih (good_front g kit A b good) before.0)
    go e is p (Some c) h =
        let some : change_in b ≡ Some (committed e c) = change_in_read b e (Some c) is (sym h) in
        let before = not_removed_before kit.me A b (Some (committed e c)) some kept in
        let key = change_key g kit A (length A + 1) e c p h before.1 in
        subst (KeysMeet g kit) (sym (changes_push A b (Some (committed e c)) some))
        (meets_more g kit (changes A) (committed e c) (ih (good_front g kit A b good) before.0) (meets_new g (epoch_of A + 1) c _ _ key.new))

-- the keys of a good history that doesn't remove the device meet their commitments
pub keys_meet : (g : Genesis) (kit : Kit) (A : List (List ℕ)) → Good g kit A → is_removed kit.me A ≡ false → (e : ℕ) → e ≤ epoch_of A → Meets g e (epoch_key g kit A e) (commitment_after g (changes A) e)
keys_meet g kit A = from_end (IfThere g kit) (meet_none g kit) (meet_push g kit) A

-- ---- two members

-- keys that meet one commitment, where no two strings have one digest, are one
pub same_key : (g : Genesis) (epoch : ℕ) (ss : List (List ℕ)) (k l : Option (List ℕ)) (commitment : List ℕ) → CollisionFree ss
    → ((x : List ℕ) → Contains (key_string g.document epoch k) x → Contains ss x) → ((x : List ℕ) → Contains (key_string g.document epoch l) x → Contains ss x)
    → Meets g epoch k commitment → Meets g epoch l commitment → k ≡ l
same_key g epoch ss None l commitment apart a b m n = absurd m
same_key g epoch ss (Some k) None commitment apart a b m n = absurd n
same_key g epoch ss (Some k) (Some l) commitment apart a b m n =
    let e : commitment_string g.document epoch k ≡ commitment_string g.document epoch l =
    apart _ _ (a _ (Contains-first (commitment_string g.document epoch k) [])) (b _ (Contains-first (commitment_string g.document epoch l) [])) (m ∙ sym n) in
    let f : (g.document ++ to_be_bytes w32 epoch) ++ k ≡ (g.document ++ to_be_bytes w32 epoch) ++ l = cc in
    ap Some (append_cancel_left (g.document ++ to_be_bytes w32 epoch) k l f)

-- the commitment string of an epoch is among those of the first n
key_string_in : (document : List ℕ) (keys : ℕ → Option (List ℕ)) (n e : ℕ) (x : List ℕ) → e < n → Contains (key_string document e (keys e)) x → Contains (key_strings document keys n) x
key_string_in document keys zero e x l h = absurd (omega arith)
key_string_in document keys (suc n) e x l h = elim (cases_lt e n) [
  | inl m ↦ Contains-append_left (key_strings document keys n) (key_string document n (keys n)) x (key_string_in document keys n e x m h)
  | inr m ↦
      let same : e ≡ n = omega (arith, l, m) in
      Contains-append_right (key_strings document keys n) (key_string document n (keys n)) x (subst (λ e. Contains (key_string document e (keys e)) x) same h)
]

-- ss has the commitment strings of a history's keys
abbrev pub HasKeys : Genesis → Kit → List (List ℕ) → List (List ℕ) → Type 0
HasKeys g kit A ss = (e : ℕ) (x : List ℕ) → e ≤ epoch_of A → Contains (key_string g.document e (epoch_key g kit A e)) x → Contains ss x

pub has_keys : (g : Genesis) (kit : Kit) (A ss : List (List ℕ)) → ((x : List ℕ) → Contains (line_strings g kit A) x → Contains ss x) → HasKeys g kit A ss
has_keys g kit A ss all e x l h =
    let m : e < epoch_of A + 1 = omega (arith, l) in
    all x (Contains-append_right (chain_strings (genesis_bytes g) A) (key_strings g.document (epoch_key g kit A) (epoch_of A + 1)) x (key_string_in g.document (epoch_key g kit A) (epoch_of A + 1) e x m h))

pub has_left : (g : Genesis) (kit : Kit) (A ss : List (List ℕ)) → HasKeys g kit A (line_strings g kit A ++ ss)
has_left g kit A ss = has_keys g kit A (line_strings g kit A ++ ss) (λ x h. Contains-append_left (line_strings g kit A) ss x h)

pub has_right : (g : Genesis) (kit : Kit) (A ss : List (List ℕ)) → HasKeys g kit A (ss ++ line_strings g kit A)
has_right g kit A ss = has_keys g kit A (ss ++ line_strings g kit A) (λ x h. Contains-append_right ss (line_strings g kit A) x h)

-- two members with one good history, which removes neither, have one key of each epoch
pub same_epoch_keys : (g : Genesis) (kit kit' : Kit) (A ss : List (List ℕ)) (e : ℕ) → Good g kit A → Good g kit' A → CollisionFree ss → HasKeys g kit A ss → HasKeys g kit' A ss
    → is_removed kit.me A ≡ false → is_removed kit'.me A ≡ false → e ≤ epoch_of A → epoch_key g kit A e ≡ epoch_key g kit' A e
same_epoch_keys g kit kit' A ss e good good' apart a b there there' le =
    same_key g e ss (epoch_key g kit A e) (epoch_key g kit' A e) (commitment_after g (changes A) e) apart (λ x h. a e x le h) (λ x h. b e x le h)
    (keys_meet g kit A good there e le) (keys_meet g kit' A good' there' e le)

-- they have one key for each of its entries, also where it removes them later
pub same_entry_keys : (g : Genesis) (kit kit' : Kit) (A ss : List (List ℕ)) (i : ℕ) (b : List ℕ) (e : Entry) → Good g kit A → Good g kit' A → CollisionFree ss → HasKeys g kit A ss → HasKeys g kit' A ss
    → slice_get A i ≡ Some b → entry_of b ≡ Ok e → epoch_key g kit A e.header.epoch ≡ epoch_key g kit' A e.header.epoch
same_entry_keys g kit kit' A ss i b e good good' apart a b' at is =
    let p = good_entry g kit A i b good at in
    let q = good_entry g kit' A i b good' at in
    let pe : p.0 ≡ e = cc in
    let qe : q.0 ≡ e = cc in
    let pp : Passes g kit (take i A) (i + 1) e = subst (Passes g kit (take i A) (i + 1)) pe p.2 in
    let qq : Passes g kit' (take i A) (i + 1) e = subst (Passes g kit' (take i A) (i + 1)) qe q.2 in
    let le : e.header.epoch ≤ epoch_of (take i A) = omega (arith, pp.epoch) in
    let le' : e.header.epoch ≤ epoch_of A = omega (arith, le, epoch_front A i) in
    let m = keys_meet g kit (take i A) (good_take g kit A i good) pp.not_removed e.header.epoch le in
    let n = keys_meet g kit' (take i A) (good_take g kit' A i good') qq.not_removed e.header.epoch le in
    let s = key_of_take g kit A i e.header.epoch le in
    let t = key_of_take g kit' A i e.header.epoch le in
    same_key g e.header.epoch ss (epoch_key g kit A e.header.epoch) (epoch_key g kit' A e.header.epoch) (commitment_after g (changes (take i A)) e.header.epoch) apart
    (λ x h. a e.header.epoch x le' h) (λ x h. b' e.header.epoch x le' h) (rw s m) (rw t n)

-- and so they read the same operations
pub same_operations : (g : Genesis) (kit kit' : Kit) (A ss : List (List ℕ)) → Good g kit A → Good g kit' A → CollisionFree ss → HasKeys g kit A ss → HasKeys g kit' A ss → operations g kit A ≡ operations g kit' A
same_operations g kit kit' A ss good good' apart a b =
    map_same (operation_in (epoch_key g kit A)) (operation_in (epoch_key g kit' A)) A (λ i x at.
    let p = good_entry g kit A i x good at in
    operation_same (epoch_key g kit A) (epoch_key g kit' A) x p.0 p.1 (same_entry_keys g kit kit' A ss i x p.0 good good' apart a b at p.1))

-- what two members with one good history read
pub one_reading : (g : Genesis) (kit kit' : Kit) (A : List (List ℕ)) → Good g kit A → Good g kit' A → CollisionFree (line_strings g kit A ++ line_strings g kit' A) → operations g kit A ≡ operations g kit' A
one_reading g kit kit' A good good' apart =
    same_operations g kit kit' A (line_strings g kit A ++ line_strings g kit' A) good good' apart (has_left g kit A (line_strings g kit' A)) (has_right g kit' A (line_strings g kit A))

pub one_text : (g : Genesis) (kit kit' : Kit) (A : List (List ℕ)) → Good g kit A → Good g kit' A → CollisionFree (line_strings g kit A ++ line_strings g kit' A) → text_of g kit A ≡ text_of g kit' A
one_text g kit kit' A good good' apart = ap (λ (os : List Operation). text_after (forms_from [] os)) (one_reading g kit kit' A good good' apart)

pub one_key : (g : Genesis) (kit kit' : Kit) (A : List (List ℕ)) (e : ℕ) → Good g kit A → Good g kit' A → CollisionFree (line_strings g kit A ++ line_strings g kit' A)
    → is_removed kit.me A ≡ false → is_removed kit'.me A ≡ false → e ≤ epoch_of A → epoch_key g kit A e ≡ epoch_key g kit' A e
one_key g kit kit' A e good good' apart there there' le =
    same_epoch_keys g kit kit' A (line_strings g kit A ++ line_strings g kit' A) e good good' apart (has_left g kit A (line_strings g kit' A)) (has_right g kit' A (line_strings g kit A)) there there' le
