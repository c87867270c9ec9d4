-- The values of a command are in their ranges.
use Rattle.std.proofs.Common.{◌≡◌, ◌≤◌, ◌==◌, ℕ, Bool, true, false, nat_le, nat_lt, ◌^◌, List, [], ◌∷◌, length, Option, Some, None, find, option_map, refl, sym, ap, ◌∙◌, subst, inl, inr, if◌then◌else◌, codes, arith, slice_get}
use Rattle.sporc_top.proofs.Common.{AllByRecursion, after_first, before_first, Client, Command, Keygen, MayFound, and_parts, leb-true, ltb-true, Serve, ServeAll, cond_some, same_Some, IsKeyWidth}
use Rattle.sporc_top.proofs.Common.{Found}
use Rattle.clap.specs.Walk.{Row, Text, first_of}
use Rattle.lms_leaf.specs.LeafFile.{IsLeafHeight}
use Rattle.lms_ots.specs.declared.ots_type.OtsType.{OtsType}
use Rattle.lms_ots.specs.declared.ots_type.OtsType.TheVariants.{W4, W8}
use Rattle.lms_ots.specs.OtsType.{width_of}
use Rattle.lms_tree.specs.declared.lms_type.LmsType.{LmsType}
use Rattle.lms_tree.specs.declared.lms_type.LmsType.TheVariants.{H5, H10, H15}
use Rattle.lms_tree.specs.LmsType.{height_of}
use Rattle.sporc_member.specs.Device.{IsMember}
use Rattle.sporc_script.specs.declared.limits.TheConstants.{MAX_EDITORS, MAX_GENERATED}
use Rattle.sporc_script.specs.Readers.{device_of, is_member, passing, then_read, member_of, u32_of}
use Rattle.sporc_script.specs.Words.{number_of}
use Rattle.sporc_script.proofs.Exact.{map_some, then_some}
use Rattle.sporc_wire.specs.declared.limits.TheConstants.{MAX_DOCUMENTS, MAX_SESSIONS}
use Rattle.sporc_words.specs.declared.command.Command.TheVariants as commands
use Rattle.sporc_words.specs.declared.command.Verb.{Verb}
use Rattle.sporc_words.specs.declared.command.Verb.TheVariants as verbs
use Rattle.sporc_words.specs.declared.standing.Participant.{Participant}
use Rattle.sporc_words.specs.declared.defaults.TheConstants.{DEFAULT_ROUNDS, DEFAULT_TIMES, DEFAULT_UNTIL}
use Rattle.sporc_words.specs.Arguments.{taken}
use Rattle.sporc_words.specs.Commands.{command_by, command_of, found_or, work_in}
use Rattle.sporc_words.specs.Help.{help_in}
use Rattle.sporc_words.specs.Verbs.{app_for, client_in, command_in, documents_of, found_in, keygen_in, play_by, scripts_of, serve_all_in, serve_in, verb_of}
use Rattle.sporc_words.proofs.HelpLines.{told_by_help}
use Rattle.sporc_words.specs.Values.{all_participants, is_between, is_colon, may_found, number_between, participant_by, participant_of, participants_of, standing_of, read_or, times_of, tree_of, value_of, value_or, values_of, width_named}
use Rattle.sporc_top.specs.Ranges.{IsInRange}

-- ---- values that were read

passed_of : {A : Type 0} (test : A → Bool) (found : Option A) (b : A) → passing test found ≡ Some b → (found ≡ Some b) × (test b ≡ true)
passed_of {A} test None b is = absurd cc
passed_of {A} test (Some a) b is =
    let kept = cond_some (test a) a b is in
    (ap Some kept.1, subst (λ (x : A). test x ≡ true) kept.1 kept.0)

-- ---- numbers and types

within : (least most n : ℕ) → is_between least most n ≡ true → (least ≤ n) × (n ≤ most)
within least most n is =
    let sides = and_parts (nat_le least n) (nat_le n most) is in
    (leb-true least n sides.0, leb-true n most sides.1)

pub in_bounds : (least most n : ℕ) (word : Text) → number_between least most word ≡ Some n → (least ≤ n) × (n ≤ most)
in_bounds least most n word is = within least most n (passed_of (is_between least most) (number_of word) n is).1

a_member : (word : Text) (n : ℕ) → member_of word ≡ Some n → IsMember n
a_member word n is =
    let passed = passed_of is_member (number_of word) n (unfold member_of in is) in
    let sides = and_parts (nat_lt 0 n) (nat_lt n (2 ^ 16)) passed.1 in
    (ltb-true 0 n sides.0, ltb-true n (2 ^ 16) sides.1)

one_of_three : (x y z : Bool) (t : LmsType) → (if x then Some H5 else if y then Some H10 else if z then Some H15 else None) ≡ Some t → IsLeafHeight (height_of t)
one_of_three true y z t is = inl (ap height_of (sym (same_Some H5 t is)))
one_of_three false true z t is = inr (inl (ap height_of (sym (same_Some H10 t is))))
one_of_three false false true t is = inr (inr (ap height_of (sym (same_Some H15 t is))))
one_of_three false false false t is = absurd cc

pub leaf_height : (word : Text) (t : LmsType) → tree_of word ≡ Some t → IsLeafHeight (height_of t)
leaf_height word t is =
    let read = then_some (number_of word) (λ n. find (λ t. height_of t == n) (H5 ∷ H10 ∷ H15 ∷ [])) t is in
    one_of_three (height_of H5 == read.0) (height_of H10 == read.0) (height_of H15 == read.0) t read.2

one_of_two : (x y : Bool) (t : OtsType) → (if x then Some W4 else if y then Some W8 else None) ≡ Some t → IsKeyWidth t
one_of_two true y t is = inl (sym (same_Some W4 t is))
one_of_two false true t is = inr (sym (same_Some W8 t is))
one_of_two false false t is = absurd cc

pub key_width : (word : Text) (t : OtsType) → width_named word ≡ Some t → IsKeyWidth t
key_width word t is =
    let read = then_some (number_of word) (λ n. find (λ t. width_of t == n) (W4 ∷ W8 ∷ [])) t is in
    one_of_two (width_of W4 == read.0) (width_of W8 == read.0) t read.2

-- ---- commands

keygen_ranges : (rows : List Row) (asked : Keygen) → keygen_in rows ≡ Some asked → IsLeafHeight (height_of asked.height) × IsKeyWidth asked.width
keygen_ranges rows asked is =
    let name = then_some (first_of (codes "NAME") rows) _ asked is in
    let device = then_some (value_of (codes "M") device_of rows) _ asked name.2 in
    let height = then_some (value_of (codes "HEIGHT") tree_of rows) _ asked device.2 in
    let width = then_some (value_of (codes "W") width_named rows) _ asked height.2 in
    let same = same_Some _ asked width.2 in
    let tree = then_some (first_of (codes "HEIGHT") rows) tree_of height.0 height.1 in
    let bits = then_some (first_of (codes "W") rows) width_named width.0 width.1 in (
      subst (λ (k : Keygen). IsLeafHeight (height_of k.height)) same (leaf_height tree.0 height.0 tree.2),
      subst (λ (k : Keygen). IsKeyWidth k.width) same (key_width bits.0 width.0 bits.2),
    )

-- one time at least
some_times : (found : Option Text) (n : ℕ) → read_or DEFAULT_TIMES times_of found ≡ Some n → 1 ≤ n
some_times None n is = omega (arith, same_Some DEFAULT_TIMES n is)
some_times (Some word) n is = leb-true 1 n (passed_of (nat_le 1) (u32_of word) n is).1

serve_ranges : (rows : List Row) (asked : Serve) → serve_in rows ≡ Some asked → (1 ≤ asked.sessions) × (asked.sessions ≤ MAX_SESSIONS) × (1 ≤ asked.times)
serve_ranges rows asked is =
    let name = then_some (first_of (codes "NAME") rows) _ asked is in
    let address = then_some (first_of (codes "ADDRESS") rows) _ asked name.2 in
    let sessions = then_some (value_of (codes "sessions") (number_between 1 MAX_SESSIONS) rows) _ asked address.2 in
    let times = then_some (value_or (codes "times") DEFAULT_TIMES times_of rows) _ asked sessions.2 in
    let same = same_Some _ asked times.2 in
    let number = then_some (first_of (codes "sessions") rows) (number_between 1 MAX_SESSIONS) sessions.0 sessions.1 in
    let bounds = in_bounds 1 MAX_SESSIONS sessions.0 number.0 number.2 in
    subst (λ (s : Serve). (1 ≤ s.sessions) × (s.sessions ≤ MAX_SESSIONS) × (1 ≤ s.times)) same (bounds.0, bounds.1, some_times (first_of (codes "times") rows) times.0 times.1)

few_documents : (words names : List Text) → documents_of words ≡ Some names → length names ≤ MAX_DOCUMENTS
few_documents words names is =
    let kept = cond_some (is_between 1 MAX_DOCUMENTS (length words)) words names is in
    subst (λ (w : List Text). length w ≤ MAX_DOCUMENTS) kept.1 (within 1 MAX_DOCUMENTS (length words) kept.0).1

serve_all_ranges : (rows : List Row) (asked : ServeAll) → serve_all_in rows ≡ Some asked
    → (length asked.names ≤ MAX_DOCUMENTS) × (1 ≤ asked.sessions) × (asked.sessions ≤ MAX_SESSIONS) × (1 ≤ asked.times)
serve_all_ranges rows asked is =
    let address = then_some (first_of (codes "ADDRESS") rows) _ asked is in
    let sessions = then_some (value_of (codes "sessions") (number_between 1 MAX_SESSIONS) rows) _ asked address.2 in
    let times = then_some (value_or (codes "times") DEFAULT_TIMES times_of rows) _ asked sessions.2 in
    let names = then_some (documents_of (values_of (codes "NAME") rows)) _ asked times.2 in
    let same = same_Some _ asked names.2 in
    let number = then_some (first_of (codes "sessions") rows) (number_between 1 MAX_SESSIONS) sessions.0 sessions.1 in
    let bounds = in_bounds 1 MAX_SESSIONS sessions.0 number.0 number.2 in
    subst (λ (s : ServeAll). (length s.names ≤ MAX_DOCUMENTS) × (1 ≤ s.sessions) × (s.sessions ≤ MAX_SESSIONS) × (1 ≤ s.times)) same
    (few_documents (values_of (codes "NAME") rows) names.0 names.1, bounds.0, bounds.1, some_times (first_of (codes "times") rows) times.0 times.1)

few_scripts : (words scripts : List Text) → scripts_of words ≡ Some scripts → length scripts ≤ MAX_EDITORS
few_scripts words scripts is =
    let kept = cond_some (nat_le (length words) MAX_EDITORS) words scripts is in
    subst (λ (w : List Text). length w ≤ MAX_EDITORS) kept.1 (leb-true (length words) MAX_EDITORS kept.0)

client_ranges : (rows : List Row) (asked : Client) → client_in rows ≡ Some asked → length asked.scripts ≤ MAX_EDITORS
client_ranges rows asked is =
    let name = then_some (first_of (codes "NAME") rows) _ asked is in
    let device = then_some (value_of (codes "M") device_of rows) _ asked name.2 in
    let address = then_some (first_of (codes "ADDRESS") rows) _ asked device.2 in
    let rounds = then_some (value_or (codes "rounds") DEFAULT_ROUNDS u32_of rows) _ asked address.2 in
    let until = then_some (value_or (codes "until") DEFAULT_UNTIL u32_of rows) _ asked rounds.2 in
    let scripts = then_some (scripts_of (values_of (codes "SCRIPT") rows)) _ asked until.2 in
    let same = same_Some _ asked scripts.2 in
    subst (λ (c : Client). length c.scripts ≤ MAX_EDITORS) same (few_scripts (values_of (codes "SCRIPT") rows) scripts.0 scripts.1)

-- those who are named have numbers of members
named_member : (number name : Text) (p : Participant) → participant_by number name ≡ Some p → IsMember p.member
named_member number name p is =
    let read = then_some (member_of number) (λ member. option_map (λ standing. record { member = member; standing = standing }) (standing_of name)) p is in
    let made = map_some (standing_of name) (λ standing. record { member = read.0; standing = standing }) p read.2 in
    subst (λ (q : Participant). IsMember q.member) made.2 (a_member number read.0 read.1)

one_named : (word : Text) (p : Participant) → participant_of word ≡ Some p → IsMember p.member
one_named word p is = named_member (before_first is_colon word) (after_first is_colon word) p (unfold participant_of in is)

all_named : (words : List Text) (all : List Participant) → all_participants words ≡ Some all → AllByRecursion (λ p. IsMember p.member) all
all_named [] all is = subst (AllByRecursion (λ p. IsMember p.member)) (same_Some [] all is) tt
all_named (word ∷ words) all is =
    let read = then_some (participant_of word) (λ p. option_map (λ ps. p ∷ ps) (all_participants words)) all is in
    let made = map_some (all_participants words) (λ ps. read.0 ∷ ps) all read.2 in
    subst (AllByRecursion (λ p. IsMember p.member)) made.2 (one_named word read.0 read.1, all_named words made.0 made.1)

may_found_of : (words : List Text) (all : List Participant) (name : Text) → participants_of words ≡ Some all → MayFound (record { name = name; participants = all })
may_found_of words all name is =
    let passed = passed_of may_found (all_participants words) all (unfold participants_of in is) in
    record { may = passed.1; members = all_named words all passed.0 }

found_ranges : (rows : List Row) (asked : Found) → found_in rows ≡ Some asked → MayFound asked
found_ranges rows asked is =
    let name = then_some (first_of (codes "NAME") rows) _ asked is in
    let participants = then_some (participants_of (values_of (codes "M:ROLE") rows)) _ asked name.2 in
    let same = same_Some _ asked participants.2 in
    subst MayFound same (may_found_of (values_of (codes "M:ROLE") rows) participants.0 name.0 participants.1)

play_ranges : (option : Option Text) (c : Command) → play_by option ≡ Some c → IsInRange c
play_ranges None c is = subst IsInRange (same_Some commands.Play c is) tt
play_ranges (Some word) c is =
    let made = map_some (number_between 1 MAX_GENERATED word) commands.Generate c is in
    subst IsInRange made.2 (in_bounds 1 MAX_GENERATED made.0 word made.1).1

-- the values of what was read of a command's words
module _ {A : Type 0} (read : List Row → Option A) (as_command : A → Command) (ranges : (rows : List Row) (asked : A) → read rows ≡ Some asked → IsInRange (as_command asked)) where
  read_ranges : (rows : List Row) (c : Command) → option_map as_command (read rows) ≡ Some c → IsInRange c
  read_ranges rows c is =
      let made = map_some (read rows) as_command c is in
      subst IsInRange made.2 (ranges rows made.0 made.1)

-- where none is told
unranged : {A : Type 0} (found : Option A) (as_command : A → Command) (c : Command) → option_map as_command found ≡ Some c → ((asked : A) → IsInRange (as_command asked)) → IsInRange c
unranged found as_command c is any =
    let made = map_some found as_command c is in
    subst IsInRange made.2 (any made.0)

rows_ranges : (verb : Verb) (rows : List Row) (c : Command) → command_in verb rows ≡ Some c → IsInRange c
rows_ranges verbs.Play rows c is = play_ranges (first_of (codes "generate") rows) c is
rows_ranges verbs.Keygen rows c is = read_ranges keygen_in commands.Keygen keygen_ranges rows c is
rows_ranges verbs.Found rows c is = read_ranges found_in commands.Found found_ranges rows c is
rows_ranges verbs.Serve rows c is = read_ranges serve_in commands.Serve serve_ranges rows c is
rows_ranges verbs.Client rows c is = read_ranges client_in commands.Client client_ranges rows c is
rows_ranges verbs.ServeAll rows c is = read_ranges serve_all_in commands.ServeAll serve_all_ranges rows c is
rows_ranges verb rows c is = unranged _ _ c is (λ asked. tt)

verb_ranges : (verb : Verb) (words : List Text) (c : Command) → command_by verb words ≡ Some c → IsInRange c
verb_ranges verb words c is =
    let rows = then_some (taken (app_for verb) words) (command_in verb) c (unfold command_by in is) in
    rows_ranges verb rows.0 c rows.2

-- the command that the first word names
work_ranges : (words : List Text) (c : Command) → work_in words ≡ Some c → IsInRange c
work_ranges words c is =
    let first = then_some (slice_get words 0) (λ first. then_read (verb_of first) (λ verb. command_by verb words)) c (unfold work_in in is) in
    let verb = then_some (verb_of first.0) (λ verb. command_by verb words) c first.2 in
    verb_ranges verb.0 words c verb.2

-- a page, or the version
help_ranges : (words : List Text) (c : Command) → help_in words ≡ Some c → IsInRange c
help_ranges words c is = elim (told_by_help words c is) [
  | inl (page, same) ↦ subst IsInRange (sym same) tt
  | inr same ↦ subst IsInRange (sym same) tt
]

either_ranges : (words : List Text) (help work : Option Command) (c : Command) → help_in words ≡ help → work_in words ≡ work → found_or help work ≡ Some c → IsInRange c
either_ranges words None work c by_help by_work is = work_ranges words c (by_work ∙ is)
either_ranges words (Some told) work c by_help by_work is = help_ranges words c (by_help ∙ is)

-- the values of a command that words ask for are in their ranges
pub in_range : (words : List Text) (c : Command) → command_of words ≡ Some c → IsInRange c
in_range words c is = either_ranges words (help_in words) (work_in words) c refl refl (unfold command_of in is)
