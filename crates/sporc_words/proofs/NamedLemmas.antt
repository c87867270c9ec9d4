-- Participants, read one after another.
use Rattle.std.proofs.Common.{◌≡◌, ℕ, ◌+◌, ◌<◌, ◌≤◌, List, [], ◌∷◌, ◌++◌, length, drop, get_or, Option, Some, None, option_map, refl, sym, ap, ap₂, ◌∙◌, arith, append_assoc, append-nil}
use Rattle.sporc_words.proofs.Common.{drop_more, same_Some, Text, texts, member_of, then_read, all_participants}
use Rattle.std.specs.Borrow.{Bor}
use Rattle.std.specs.List.{after_first, before_first, position_or_len}
use Rattle.std.proofs.Math.ListN.{drop_of_length-le}
use Rattle.std.proofs.lemmas.Str.Pattern.{IsSplitOnceResult, split_once_first}
use Rattle.sporc_script.specs.Plain.{role_of}
use Rattle.sporc_words.specs.declared.standing.Participant.{Participant}
use Rattle.sporc_words.specs.Values.{is_colon, participant_by, participant_of, standing_of}

-- ---- one word

never : {A B : Type 0} (o : Option A) (f : A → Option B) → ((a : A) → f a ≡ None) → None ≡ then_read o f
never None f each = refl
never (Some a) f each = sym (each a)

no_name : standing_of [] ≡ None
unfolding role_of
no_name = refl

-- without a colon there is no role
no_colon : (word : Text) → position_or_len is_colon word ≡ length word → None ≡ participant_of word
unfolding participant_of
no_colon word none =
    let past : after_first is_colon word ≡ [] = drop_of_length-le word (omega (arith, none)) in
    never (member_of (before_first is_colon word)) _ (λ member. ap (option_map (λ standing. record { member = member; standing = standing })) (ap standing_of past ∙ no_name))

pub at_none : (word : Text) (r : Option (Bor Text × Bor Text)) → IsSplitOnceResult 58 word r → r ≡ None → None ≡ participant_of word
at_none word None split is = no_colon word (split_once_first 58 word None split (omega arith))
at_none word (Some p) split is = cc

pub at_some : (word : Text) (r : Option (Bor Text × Bor Text)) (number name : Bor Text) → IsSplitOnceResult 58 word r → r ≡ Some (number, name)
    → participant_by number.now name.now ≡ participant_of word
unfolding participant_of
at_some word None number name split is = cc
at_some word (Some p) number name split is =
    let parts = split_once_first 58 word (Some p) split (omega arith) in
    let same : p ≡ (number, name) = same_Some p (number, name) is in
    ap₂ participant_by (ap (λ (q : Bor Text × Bor Text). q.0.now) (sym same) ∙ parts.1) (ap (λ (q : Bor Text × Bor Text). q.1.now) (sym same) ∙ parts.2)

-- ---- all words

-- those that were read, and those that are left
abbrev pub behind : List Participant → Option (List Participant) → Option (List Participant)
behind read rest = option_map (λ ps. read ++ ps) rest

joined : (read : List Participant) (p : Participant) (rest : Option (List Participant)) → behind read (option_map (λ ps. p ∷ ps) rest) ≡ behind (read ++ p ∷ []) rest
joined read p None = refl
joined read p (Some ps) = ap Some (sym (append_assoc read (p ∷ []) ps))

-- a word, and those after it
abbrev next : Option Participant → Option (List Participant) → Option (List Participant)
next found rest = then_read found (λ p. option_map (λ ps. p ∷ ps) rest)

pub first_left : (all : Option (List Participant)) → all ≡ behind [] all
first_left None = refl
first_left (Some ps) = refl

left : (words : List (Bor Text)) (i : ℕ) (d : Bor Text) → i < length words
    → all_participants (texts (drop i words)) ≡ next (participant_of (get_or words i d).now) (all_participants (texts (drop (i + 1) words)))
left words i d low = ap (λ (ws : List (Bor Text)). all_participants (texts ws)) (drop_more words i d low)

pub one_read : (words : List (Bor Text)) (read : List Participant) (i : ℕ) (d : Bor Text) (p : Participant) (all : Option (List Participant))
    → i < length words → Some p ≡ participant_of (get_or words i d).now → all ≡ behind read (all_participants (texts (drop i words)))
    → all ≡ behind (read ++ p ∷ []) (all_participants (texts (drop (i + 1) words)))
one_read words read i d p all low found so_far =
    let rest = all_participants (texts (drop (i + 1) words)) in
    so_far ∙ ap (behind read) (left words i d low) ∙ ap (λ (o : Option Participant). behind read (next o rest)) (sym found) ∙ joined read p rest

pub one_bad : (words : List (Bor Text)) (read : List Participant) (i : ℕ) (d : Bor Text) (all : Option (List Participant))
    → i < length words → None ≡ participant_of (get_or words i d).now → all ≡ behind read (all_participants (texts (drop i words))) → None ≡ all
one_bad words read i d all low bad so_far =
    let rest = all_participants (texts (drop (i + 1) words)) in
    sym (so_far ∙ ap (behind read) (left words i d low) ∙ ap (λ (o : Option Participant). behind read (next o rest)) (sym bad))

pub all_read : (words : List (Bor Text)) (read : List Participant) (i : ℕ) (all : Option (List Participant)) → length words ≤ i
    → all ≡ behind read (all_participants (texts (drop i words))) → Some read ≡ all
all_read words read i all past so_far =
    sym (so_far ∙ ap (λ (ws : List (Bor Text)). behind read (all_participants (texts ws))) (drop_of_length-le words past) ∙ ap Some (append-nil read))
