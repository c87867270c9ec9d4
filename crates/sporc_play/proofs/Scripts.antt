-- What the grammar gives of a script: who is declared, and whom its commands name.
use Rattle.std.proofs.Common.{◌≡◌, ◌≢◌, ℕ, zero, suc, ◌+◌, ◌<◌, Bool, true, false, eq-eqb, List, [], ◌∷◌, ◌++◌, length, take, get_or, fold, refl, sym, ap, ◌∙◌, subst, arith, append_assoc, append-nil}
use Rattle.std.proofs.Common.{Option, None, Some, inl, inr}
use Rattle.sporc_play.proofs.Common.{not-true, ◌==◌, ◌&&◌, ◌||◌, not, nat_lt, Contains, filter_map, AllByRecursion, cons_option, list_any, and_parts, eqb-true, filter_map-append, Device, first_device}
use Rattle.sporc_play.proofs.Common.{same_device, one_same, same_one, InRange, declared_after, declarations, is_client, is_declared, is_rogue, may_declare, may_follow, none_declared, IsNext}
use Rattle.sporc_play.proofs.Common.{IsPlayScript, play_line, FurtherInRange, Command, PlayLine, declared_member, device_by, rogue_by, all_append, ReadsAs, lines_of}
use Rattle.sporc_script.specs.Declarations.{Declared, is_among, is_joiner}
use Rattle.sporc_script.specs.declared.command.Command.TheVariants as commands
use Rattle.sporc_play.proofs.Places.{AreDistinct, IsNotIn, among_cases, among_front, among_here, among_more, not_in_append}
use Rattle.std.proofs.lemmas.Map.Views.{Contains-from_any}

-- ---- each line may follow those before it

abbrev pub Follows : List PlayLine → List PlayLine → Type 0
Follows before [] = Unit {0}
Follows before (l ∷ ls) = (may_follow (declarations before) l.command ≡ true) × InRange l.command × Follows (before ++ l ∷ []) ls

follows : (before : List PlayLine) (n : ℕ) (lines : List (List ℕ)) (script : List PlayLine) → ReadsAs play_line IsNext before n lines script → Follows before script
follows before n [] script reads = subst (Follows before) (sym reads) tt
follows before n (line ∷ lines) script reads = elim reads [
  | inl skipped ↦ follows before (n + 1) lines script skipped.1
  | inr next ↦ subst (Follows before) (sym next.3) (next.2.1, next.2.0.0, follows (before ++ play_line n next.0 ∷ []) (n + 1) lines next.1 next.4)
]

pub script_follows : (text : List ℕ) (script : List PlayLine) → IsPlayScript text script → Follows [] script
script_follows text script is = follows [] 1 (lines_of text) script is

-- what it says of one line
pub record IsLine (before : List PlayLine) (l : PlayLine) : Type 0 where
  pub may : may_follow (declarations before) l.command ≡ true
  pub in_range : InRange l.command

line_from : (before script : List PlayLine) (i : ℕ) (l : PlayLine) → Follows before script → i < length script → l ≡ get_or script i l → IsLine (before ++ take i script) l
line_from before [] i l all low is = absurd (omega (arith, low))
line_from before (x ∷ xs) zero l all low is =
    subst (λ (b : List PlayLine). IsLine b l) (sym (append-nil before)) (subst (IsLine before) (sym is) (record { may = all.0; in_range = all.1 }))
line_from before (x ∷ xs) (suc i) l all low is =
    subst (λ (b : List PlayLine). IsLine b l) (append_assoc before (x ∷ []) (take i xs)) (line_from (before ++ x ∷ []) xs i l all.2 (omega (arith, low)) is)

pub line_at : (text : List ℕ) (script : List PlayLine) (i : ℕ) (l : PlayLine) → IsPlayScript text script → i < length script → l ≡ get_or script i l → IsLine (take i script) l
line_at text script i l is low at = line_from [] script i l (script_follows text script is) low at

-- ---- what is declared, as lists that are read off the lines

-- of their commands
abbrev read_off : {A : Type 0} → (Command → Option A) → List PlayLine → List A
read_off read lines = filter_map (λ (l : PlayLine). read l.command) lines

pub read_push : {A : Type 0} (read : Command → Option A) (before : List PlayLine) (l : PlayLine)
    → filter_map (λ (l : PlayLine). read l.command) (before ++ l ∷ []) ≡ filter_map (λ (l : PlayLine). read l.command) before ++ cons_option (read l.command) []
read_push read before l = filter_map-append (λ (l : PlayLine). read l.command) before (l ∷ [])

abbrev pub numbers : List PlayLine → List ℕ
numbers lines = filter_map (λ (l : PlayLine). declared_member l.command) lines

-- the devices that have a client or may get one
abbrev devices : List PlayLine → List Device
devices lines = read_off device_by lines

abbrev rogue_number : Command → Option ℕ
rogue_number (commands.Rogue m) = Some m.member
rogue_number c = None

abbrev rogues : List PlayLine → List ℕ
rogues lines = read_off rogue_number lines

option_append : {A : Type 0} (o : Option A) (xs : List A) → cons_option o [] ++ xs ≡ cons_option o xs
option_append o xs = grind arith

-- a list that each line adds to
fold_read : {A : Type 0} (part : Declared → List A) (read : Command → Option A) → ((d : Declared) (c : Command) → part (declared_after d c) ≡ part d ++ cons_option (read c) [])
    → (d : Declared) (lines : List PlayLine) → part (fold (λ (d : Declared) (l : PlayLine). declared_after d l.command) d lines) ≡ part d ++ read_off read lines
fold_read part read adds d [] = sym (append-nil (part d))
fold_read {A = A} part read adds d (l ∷ ls) =
    fold_read part read adds (declared_after d l.command) ls ∙ ap (λ (xs : List A). xs ++ read_off read ls) (adds d l.command)
    ∙ append_assoc (part d) (cons_option (read l.command) []) (read_off read ls) ∙ ap (λ (xs : List A). part d ++ xs) (option_append (read l.command) (read_off read ls))

adds_number : (d : Declared) (c : Command) → (declared_after d c).numbers ≡ d.numbers ++ cons_option (declared_member c) []
adds_number d c = grind (arith, append-nil)

adds_client : (d : Declared) (c : Command) → (declared_after d c).clients ≡ d.clients ++ cons_option (device_by c) []
adds_client d c = grind (arith, append-nil)

adds_rogue : (d : Declared) (c : Command) → (declared_after d c).rogues ≡ d.rogues ++ cons_option (rogue_number c) []
adds_rogue d c = grind (arith, append-nil)

pub numbers_are : (lines : List PlayLine) → (declarations lines).numbers ≡ filter_map (λ (l : PlayLine). declared_member l.command) lines
numbers_are lines = fold_read (λ (d : Declared). d.numbers) declared_member adds_number none_declared lines

clients_are : (lines : List PlayLine) → (declarations lines).clients ≡ devices lines
clients_are lines = fold_read (λ (d : Declared). d.clients) device_by adds_client none_declared lines

rogues_are : (lines : List PlayLine) → (declarations lines).rogues ≡ rogues lines
rogues_are lines = fold_read (λ (d : Declared). d.rogues) rogue_number adds_rogue none_declared lines

-- ---- what a test of a list says

-- a test of whether two are one
record IsTest {A : Type 0} (same : A → A → Bool) : Type 0 where
  one : (a b : A) → same a b ≡ true → a ≡ b
  is : (a b : A) → a ≡ b → same a b ≡ true

of_numbers : IsTest (λ (a b : ℕ). a == b)
of_numbers = record { one = eqb-true; is = eq-eqb }

of_devices : IsTest same_device
of_devices = record { one = same_one; is = λ a b same. subst (λ (d : Device). same_device a d ≡ true) same (one_same a) }

among : {A : Type 0} (same : A → A → Bool) → IsTest same → (xs : List A) (x : A) → list_any (λ y. same y x) xs ≡ true → Contains xs x
among same test xs x is = Contains-from_any {eq = λ y x. same x y} (λ a b h. sym (test.one b a h)) x xs is

not_among : {A : Type 0} (same : A → A → Bool) → IsTest same → (xs : List A) (x : A) → list_any (λ y. same y x) xs ≡ false → IsNotIn x xs
not_among same test [] x is = tt
not_among {A = A} same test (y ∷ ys) x is = go (same y x) refl is (not_among same test ys x)
  where
    go : (b : Bool) → same y x ≡ b → (b || list_any (λ z. same z x) ys) ≡ false → (list_any (λ z. same z x) ys ≡ false → IsNotIn x ys) → (y ≢ x) × IsNotIn x ys
    go true at is rest = absurd cc
    go false at is rest = ((λ one. let no : true ≡ false = sym (test.is y x one) ∙ at in cc), rest is)

-- ---- numbers apart

-- a number that may be declared is none of those before
new_number : (before : List PlayLine) (n : ℕ) → may_declare (declarations before) n ≡ true → IsNotIn n (numbers before)
new_number before n may =
    let d = declarations before in
    let a = and_parts (not d.begun) (nat_lt (length d.numbers) _ && not (is_declared d n)) may in
    let b = and_parts (nat_lt (length d.numbers) _) (not (is_declared d n)) a.1 in
    subst (IsNotIn n) (numbers_are before) (not_among (λ (a b : ℕ). a == b) of_numbers d.numbers n (not-true (is_declared d n) b.1))

new_by : (before : List PlayLine) (c : Command) (n : ℕ) → may_follow (declarations before) c ≡ true → declared_member c ≡ Some n → IsNotIn n (numbers before)
new_by before (commands.Member m) n may is = let same : m.member ≡ n = cc in subst (λ (k : ℕ). IsNotIn k (numbers before)) same (new_number before m.member may)
new_by before (commands.Rogue m) n may is = let same : m.member ≡ n = cc in subst (λ (k : ℕ). IsNotIn k (numbers before)) same (new_number before m.member may)
new_by before (commands.Joiner m) n may is = let same : m ≡ n = cc in subst (λ (k : ℕ). IsNotIn k (numbers before)) same (new_number before m may)
new_by before c n may is = absurd cc

not_in_both : {A : Type 0} (n : A) (xs ys : List A) → IsNotIn n xs → IsNotIn n ys → IsNotIn n (xs ++ ys)
not_in_both n [] ys a b = b
not_in_both n (x ∷ xs) ys a b = (a.0, not_in_both n xs ys a.1 b)

apart_push : {A : Type 0} (ns : List A) (n : A) → AreDistinct ns → IsNotIn n ns → AreDistinct (ns ++ n ∷ [])
apart_push [] n apart new = (tt, tt)
apart_push (m ∷ ms) n apart new = (not_in_both m ms (n ∷ []) apart.0 ((λ same. new.0 (sym same)), tt), apart_push ms n apart.1 new.1)

apart_more : (before : List PlayLine) (l : PlayLine) (o : Option ℕ) → declared_member l.command ≡ o → may_follow (declarations before) l.command ≡ true → AreDistinct (numbers before) → AreDistinct (numbers before ++ cons_option o [])
apart_more before l None is may apart = subst (λ (ns : List ℕ). AreDistinct ns) (sym (append-nil (numbers before))) apart
apart_more before l (Some n) is may apart = apart_push (numbers before) n apart (new_by before l.command n may is)

numbers_apart : (before script : List PlayLine) → Follows before script → AreDistinct (numbers before) → AreDistinct (numbers (before ++ script))
numbers_apart before [] all apart = subst (λ (ls : List PlayLine). AreDistinct (numbers ls)) (sym (append-nil before)) apart
numbers_apart before (l ∷ ls) all apart =
    subst (λ (xs : List PlayLine). AreDistinct (numbers xs)) (append_assoc before (l ∷ []) ls)
    (numbers_apart (before ++ l ∷ []) ls all.2 (subst (λ (ns : List ℕ). AreDistinct ns) (sym (read_push declared_member before l)) (apart_more before l (declared_member l.command) refl all.0 apart)))

pub script_numbers_apart : (script : List PlayLine) → Follows [] script → AreDistinct (filter_map (λ (l : PlayLine). declared_member l.command) script)
script_numbers_apart script all = numbers_apart [] script all tt

-- ---- devices apart

abbrev AreInRange : List PlayLine → Type 0
AreInRange lines = AllByRecursion (λ (l : PlayLine). InRange l.command) lines

in_range : (before lines : List PlayLine) → Follows before lines → AreInRange lines
in_range before [] all = tt
in_range before (l ∷ ls) all = (all.1, in_range (before ++ l ∷ []) ls all.2)

-- a further device is no first one
no_first : (x : Device) (n : ℕ) → FurtherInRange x → x ≢ first_device n
no_first x n fits same = omega (arith, ap (λ (d : Device). d.number) same, fits.1.0)

-- one that is not declared has no device
no_device : (n : ℕ) (lines : List PlayLine) → AreInRange lines → IsNotIn n (numbers lines) → IsNotIn (first_device n) (devices lines)
no_device n [] fits apart = tt
no_device n (l ∷ ls) fits apart = go l.command fits.0 apart (no_device n ls fits.1)
  where
    go : (c : Command) → InRange c → IsNotIn n (cons_option (declared_member c) (numbers ls)) → (IsNotIn n (numbers ls) → IsNotIn (first_device n) (devices ls)) → IsNotIn (first_device n) (cons_option (device_by c) (devices ls))
    go (commands.Member m) is apart rest = ((λ same. apart.0 (ap (λ (d : Device). d.member) same)), rest apart.1)
    go (commands.Rogue m) is apart rest = rest apart.1
    go (commands.Joiner m) is apart rest = ((λ same. apart.0 (ap (λ (d : Device). d.member) same)), rest apart.1)
    go (commands.Device x) is apart rest = (no_first x n is, rest apart)
    go c is apart rest = rest apart

no_rogue : (n : ℕ) (lines : List PlayLine) → IsNotIn n (numbers lines) → IsNotIn (first_device n) (read_off rogue_by lines)
no_rogue n [] apart = tt
no_rogue n (l ∷ ls) apart = go l.command apart (no_rogue n ls)
  where
    go : (c : Command) → IsNotIn n (cons_option (declared_member c) (numbers ls)) → (IsNotIn n (numbers ls) → IsNotIn (first_device n) (read_off rogue_by ls)) → IsNotIn (first_device n) (cons_option (rogue_by c) (read_off rogue_by ls))
    go (commands.Member m) apart rest = rest apart.1
    go (commands.Rogue m) apart rest = ((λ same. apart.0 (ap (λ (d : Device). d.member) same)), rest apart.1)
    go (commands.Joiner m) apart rest = rest apart.1
    go c apart rest = rest apart

-- a further device is no rogue's
further_no_rogue : (x : Device) (lines : List PlayLine) → FurtherInRange x → IsNotIn x (read_off rogue_by lines)
further_no_rogue x [] fits = tt
further_no_rogue x (l ∷ ls) fits = go l.command (further_no_rogue x ls fits)
  where
    go : (c : Command) → IsNotIn x (read_off rogue_by ls) → IsNotIn x (cons_option (rogue_by c) (read_off rogue_by ls))
    go (commands.Rogue m) rest = ((λ same. no_first x m.member fits (sym same)), rest)
    go c rest = rest

-- a device that a line declares is none of those before
devices_more : (before : List PlayLine) (c : Command) → may_follow (declarations before) c ≡ true → AreInRange before → AreDistinct (devices before) → AreDistinct (devices before ++ cons_option (device_by c) [])
devices_more before (commands.Member m) may fits apart = apart_push (devices before) (first_device m.member) apart (no_device m.member before fits (new_number before m.member may))
devices_more before (commands.Joiner m) may fits apart = apart_push (devices before) (first_device m) apart (no_device m before fits (new_number before m may))
devices_more before (commands.Device x) may fits apart =
    let d = declarations before in
    let a = and_parts (not d.begun) (is_client d (first_device x.member) && not (is_client d x)) may in
    let b = and_parts (is_client d (first_device x.member)) (not (is_client d x)) a.1 in
    apart_push (devices before) x apart (subst (IsNotIn x) (clients_are before) (not_among same_device of_devices d.clients x (not-true (is_client d x) b.1)))
devices_more before c may fits apart = subst (λ (ds : List Device). AreDistinct ds) (sym (append-nil (devices before))) apart

devices_apart : (before lines : List PlayLine) → Follows before lines → AreInRange before → AreDistinct (devices before) → AreDistinct (devices (before ++ lines))
devices_apart before [] all fits apart = subst (λ (ls : List PlayLine). AreDistinct (devices ls)) (sym (append-nil before)) apart
devices_apart before (l ∷ ls) all fits apart =
    subst (λ (xs : List PlayLine). AreDistinct (devices xs)) (append_assoc before (l ∷ []) ls)
    (devices_apart (before ++ l ∷ []) ls all.2 (all_append (λ (l : PlayLine). InRange l.command) before (l ∷ []) fits (all.1, tt)) (subst (λ (ds : List Device). AreDistinct ds) (sym (read_push device_by before l)) (devices_more before l.command all.0 fits apart)))

apart_insert : {A : Type 0} (xs : List A) (n : A) (ys : List A) → AreDistinct (xs ++ ys) → IsNotIn n xs → IsNotIn n ys → AreDistinct (xs ++ n ∷ ys)
apart_insert [] n ys apart a b = (b, apart)
apart_insert (x ∷ xs) n ys apart a b =
    let p = not_in_append x xs ys apart.0 in
    (not_in_both x xs (n ∷ ys) p.0 ((λ same. a.0 (sym same)), p.1), apart_insert xs n ys apart.1 a.1 b)

-- those of clients and those of rogues
all_apart : (lines : List PlayLine) → AreInRange lines → AreDistinct (numbers lines) → AreDistinct (devices lines) → AreDistinct (devices lines ++ read_off rogue_by lines)
all_apart [] fits apart clients = tt
all_apart (l ∷ ls) fits apart clients = go l.command fits.0 apart clients (all_apart ls fits.1)
  where
    go : (c : Command) → InRange c → AreDistinct (cons_option (declared_member c) (numbers ls)) → AreDistinct (cons_option (device_by c) (devices ls))
        → (AreDistinct (numbers ls) → AreDistinct (devices ls) → AreDistinct (devices ls ++ read_off rogue_by ls)) → AreDistinct (cons_option (device_by c) (devices ls) ++ cons_option (rogue_by c) (read_off rogue_by ls))
    go (commands.Member m) is apart clients rest =
        (not_in_both (first_device m.member) (devices ls) (read_off rogue_by ls) clients.0 (no_rogue m.member ls apart.0), rest apart.1 clients.1)
    go (commands.Rogue m) is apart clients rest =
        apart_insert (devices ls) (first_device m.member) (read_off rogue_by ls) (rest apart.1 clients) (no_device m.member ls fits.1 apart.0) (no_rogue m.member ls apart.0)
    go (commands.Joiner m) is apart clients rest =
        (not_in_both (first_device m) (devices ls) (read_off rogue_by ls) clients.0 (no_rogue m ls apart.0), rest apart.1 clients.1)
    go (commands.Device x) is apart clients rest =
        (not_in_both x (devices ls) (read_off rogue_by ls) clients.0 (further_no_rogue x ls is), rest apart clients.1)
    go c is apart clients rest = rest apart clients

pub script_apart : (script : List PlayLine) → Follows [] script → AreDistinct (filter_map (λ (l : PlayLine). device_by l.command) script ++ filter_map (λ (l : PlayLine). rogue_by l.command) script)
script_apart script all = all_apart script (in_range [] script all) (script_numbers_apart script all) (devices_apart [] script all tt tt)

-- ---- those whom a command names

client_before : (before : List PlayLine) (who : Device) → is_client (declarations before) who ≡ true → Contains (devices before) who
client_before before who is = subst (λ (ds : List Device). Contains ds who) (clients_are before) (among same_device of_devices (declarations before).clients who is)

pub client_named : (script : List PlayLine) (i : ℕ) (who : Device) → is_client (declarations (take i script)) who ≡ true → Contains (filter_map (λ (l : PlayLine). device_by l.command) script) who
client_named script i who is = among_front (λ (l : PlayLine). device_by l.command) who script i (client_before (take i script) who is)

rogue_among : (n : ℕ) (lines : List PlayLine) → Contains (rogues lines) n → Contains (read_off rogue_by lines) (first_device n)
rogue_among n [] is = absurd (omega (arith, is.1))
rogue_among n (l ∷ ls) is = go l.command is (rogue_among n ls)
  where
    go : (c : Command) → Contains (cons_option (rogue_number c) (rogues ls)) n → (Contains (rogues ls) n → Contains (read_off rogue_by ls) (first_device n)) → Contains (cons_option (rogue_by c) (read_off rogue_by ls)) (first_device n)
    go (commands.Rogue m) is rest = elim (among_cases n (Some m.member) (rogues ls) is) [
      | inl here ↦ among_here (first_device n) (Some (first_device m.member)) (read_off rogue_by ls) (let same : m.member ≡ n = cc in ap (λ (k : ℕ). Some (first_device k)) same)
      | inr there ↦ among_more (first_device n) (Some (first_device m.member)) (read_off rogue_by ls) (rest there)
    ]
    go c is rest = rest is

pub rogue_named : (script : List PlayLine) (i n : ℕ) → is_rogue (declarations (take i script)) n ≡ true → Contains (filter_map (λ (l : PlayLine). rogue_by l.command) script) (first_device n)
rogue_named script i n is =
    let before = take i script in
    among_front (λ (l : PlayLine). rogue_by l.command) (first_device n) script i
    (rogue_among n before (subst (λ (ns : List ℕ). Contains ns n) (rogues_are before) (among (λ (a b : ℕ). a == b) of_numbers (declarations before).rogues n is)))

joiner_is_client : (before : List PlayLine) (who : Device) → is_joiner (declarations before) who ≡ true → is_client (declarations before) who ≡ true
joiner_is_client before who is = let d = declarations before in (and_parts (is_among d.joiners who.member) (is_client d who) is).1

pub joiner_named : (script : List PlayLine) (i : ℕ) (who : Device) → is_joiner (declarations (take i script)) who ≡ true → Contains (filter_map (λ (l : PlayLine). device_by l.command) script) who
joiner_named script i who is = client_named script i who (joiner_is_client (take i script) who is)

-- one who is to join is a client of the whole script
pub joiner_before : (before lines : List PlayLine) (who : Device) → is_joiner (declarations before) who ≡ true → Contains (filter_map (λ (l : PlayLine). device_by l.command) (before ++ lines)) who
joiner_before before lines who is = front_among before lines (client_before before who (joiner_is_client before who is))
  where
    front_among : (before lines : List PlayLine) → Contains (devices before) who → Contains (devices (before ++ lines)) who
    front_among [] lines is = absurd (omega (arith, is.1))
    front_among (l ∷ ls) lines is = elim (among_cases who (device_by l.command) (devices ls) is) [
      | inl here ↦ among_here who (device_by l.command) (devices (ls ++ lines)) here
      | inr there ↦ among_more who (device_by l.command) (devices (ls ++ lines)) (front_among ls lines there)
    ]
