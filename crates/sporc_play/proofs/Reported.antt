-- A report, line by line.
use Rattle.std.proofs.Common.{◌≡◌, ℕ, ◌+◌, ◌<◌, ◌≤◌, List, [], ◌∷◌, ◌++◌, length, take, get_or, Option, refl, sym, ap, ◌∙◌, subst, append-nil, append_assoc, Bool, cond, arith, None, Some, Result, Ok}
use Rattle.std.proofs.Common.{Err, IfOk, inl, inr}
use Rattle.sporc_play.proofs.Common.{take_all, Appends, Setup, Command, PlayLine, setup_of, IsWriteCause, Reports, ReportsFrom, ReportsPrefix, Writes, Scene, after, after_each, commands_of, opening}
use Rattle.sporc_play.proofs.Common.{◌↔◌, OnOk, lt-ltb, Device, AnswersUnless, Accept, PlainClient, shown_after, TextEdit, given_events, event_line, delta_by, marks_of, cases_lt, PlayFault}
use Rattle.sporc_play.proofs.Common.{more_taken, fold_push, nat_tests}
use Rattle.sporc_outside.proofs.Prefixes.{AppendsPrefix-all, AppendsPrefix-none, AppendsPrefix-then}
use Rattle.sporc_play.specs.Lines.{WritesPrefix}
use Rattle.sporc_client.specs.declared.fault.AcceptFault.{AcceptFault}
use Rattle.sporc_client.specs.declared.fault.EditFault.{EditFault}
use Rattle.sporc_client.specs.Answers.{accept_fault}
use Rattle.sporc_play.specs.declared.fault.PlayFault.TheVariants as faults
use Rattle.sporc_client.specs.declared.fault.EditFault.TheVariants as edits

pub take_more : (lines : List PlayLine) (i : ℕ) (l : PlayLine) → i < length lines → l ≡ get_or lines i l → take (i + 1) lines ≡ take i lines ++ l ∷ []
take_more lines i l low is = more_taken lines i l low ∙ ap (λ (y : PlayLine). take i lines ++ y ∷ []) (sym is)

-- ---- scenes

commands_push : (ls : List PlayLine) (l : PlayLine) → commands_of (ls ++ l ∷ []) ≡ commands_of ls ++ (λ scene. l.command) ∷ []
commands_push [] l = refl
commands_push (x ∷ xs) l = ap (λ (cs : List (Scene → Command)). (λ scene. x.command) ∷ cs) (commands_push xs l)

pub after_push : (s : Setup) (scene : Scene) (commands : List (Scene → Command)) (command : Scene → Command)
    → after_each s scene (commands ++ command ∷ []) ≡ after s (after_each s scene commands) (command (after_each s scene commands))
after_push s scene commands command = fold_push (λ (now : Scene) (c : Scene → Command). after s now (c now)) scene commands command

-- the scene after the first n lines of a script
abbrev pub scene_at : List PlayLine → ℕ → Scene
scene_at script n = after_each (setup_of script) (opening script) (commands_of (take n script))

pub scene_more : (lines : List PlayLine) (i : ℕ) (l : PlayLine) → i < length lines → l ≡ get_or lines i l → scene_at lines (i + 1) ≡ after (setup_of lines) (scene_at lines i) l.command
scene_more lines i l low is =
    ap (λ (ls : List PlayLine). after_each (setup_of lines) (opening lines) (commands_of ls)) (take_more lines i l low is)
    ∙ ap (after_each (setup_of lines) (opening lines)) (commands_push (take i lines) l)
    ∙ after_push (setup_of lines) (opening lines) (commands_of (take i lines)) (λ scene. l.command)

-- ---- reports

reports_push : (s : Setup) (ls : List PlayLine) (scene : Scene) (l : PlayLine) (report line : List ℕ) → ReportsFrom s scene ls report → Writes s (after_each s scene (commands_of ls)) l.command line → ReportsFrom s scene (ls ++ l ∷ []) (report ++ line)
reports_push s [] scene l report line is writes = (line, [], writes, refl, ap (λ (t : List ℕ). t ++ line) is ∙ sym (append-nil line))
reports_push s (x ∷ xs) scene l report line r writes =
    (r.0, r.1 ++ line, r.2, reports_push s xs (after s scene x.command) l r.1 line r.3 writes, ap (λ (t : List ℕ). t ++ line) r.4 ∙ append_assoc r.0 r.1 line)

pub reports_more : (lines : List PlayLine) (i : ℕ) (l : PlayLine) (report line : List ℕ) → i < length lines → l ≡ get_or lines i l
    → ReportsFrom (setup_of lines) (opening lines) (take i lines) report → Writes (setup_of lines) (scene_at lines i) l.command line → ReportsFrom (setup_of lines) (opening lines) (take (i + 1) lines) (report ++ line)
reports_more lines i l report line low is so_far writes =
    subst (λ (ls : List PlayLine). ReportsFrom (setup_of lines) (opening lines) ls (report ++ line)) (sym (take_more lines i l low is))
    (reports_push (setup_of lines) (take i lines) (opening lines) l report line so_far writes)

pub reports_all : (lines : List PlayLine) (i : ℕ) (a b : Option (List ℕ)) → length lines ≤ i
    → (report : List ℕ) × ReportsFrom (setup_of lines) (opening lines) (take i lines) report × Appends a b report → Reports lines a b
reports_all lines i a b low r = (r.0, subst (λ (ls : List PlayLine). ReportsFrom (setup_of lines) (opening lines) ls r.0) (take_all i lines low) r.1, r.2)

-- nothing is a prefix of each report
pub reports_none : (lines : List PlayLine) (a : Option (List ℕ)) → ReportsPrefix lines a a
reports_none lines a = (0, [], refl, AppendsPrefix-none a [])

-- the report of the lines so far, and the same with a prefix of the next line
reports_so_far : (lines : List PlayLine) (i : ℕ) (a b : Option (List ℕ))
    → (report : List ℕ) × ReportsFrom (setup_of lines) (opening lines) (take i lines) report × Appends a b report → ReportsPrefix lines a b
reports_so_far lines i a b r = (i, r.0, r.1, AppendsPrefix-all a b r.0 r.2)

reports_prefix : (lines : List PlayLine) (i : ℕ) (l : PlayLine) (a b c : Option (List ℕ)) → i < length lines → l ≡ get_or lines i l
    → (report : List ℕ) × ReportsFrom (setup_of lines) (opening lines) (take i lines) report × Appends a b report → WritesPrefix (setup_of lines) (scene_at lines i) l.command b c → ReportsPrefix lines a c
reports_prefix lines i l a b c low is r w =
    (i + 1, r.0 ++ w.0, reports_more lines i l r.0 w.0 low is r.1 w.1, AppendsPrefix-then a b c r.0 w.0 r.2 w.2)

-- after a fault of the next line
pub reports_failed : (lines : List PlayLine) (i : ℕ) (l : PlayLine) (a b c : Option (List ℕ)) (before after : ℕ) (fault : PlayFault) → i < length lines → l ≡ get_or lines i l
    → (report : List ℕ) × ReportsFrom (setup_of lines) (opening lines) (take i lines) report × Appends a b report → IsWriteCause before after fault
    → (fault ≡ faults.Memory → c ≡ b) → (fault ≡ faults.WriteFault → WritesPrefix (setup_of lines) (scene_at lines i) l.command b c) → ReportsPrefix lines a c
reports_failed lines i l a b c before after faults.Memory low is r cause memory prefix = subst (λ (o : Option (List ℕ)). ReportsPrefix lines a o) (sym (memory refl)) (reports_so_far lines i a b r)
reports_failed lines i l a b c before after faults.WriteFault low is r cause memory prefix = reports_prefix lines i l a b c low is r (prefix refl)
reports_failed lines i l a b c before after fault low is r cause memory prefix = absurd cause

-- ---- what the calls of a client tell, and what they add

-- the line of a call that adds an event
pub event_told : {X F : Type 0} (r : Result X F) (old new : List ℕ) (who : Device) (word : List ℕ) (answer : Result ℕ EditFault) (events : ℕ) (fault : Option EditFault)
    → OnOk r ((events : ℕ) (fault : Option EditFault) → AnswersUnless edits.Memory answer fault → IfOk answer (λ n. n ≡ events) → new ≡ old ++ event_line who word events fault)
    → AnswersUnless edits.Memory answer fault → IfOk answer (λ n. n ≡ events) → OnOk r (new ≡ old ++ event_line who word events fault)
event_told (Ok x) old new who word answer events fault line answers count = line events fault answers count
event_told (Err e) old new who word answer events fault line answers count = tt

-- ---- entries that are handed out

pub taken_event : (c : PlainClient) (position : ℕ) (bytes : List ℕ) → accept_fault c position bytes ≡ None → given_events c position bytes ≡ Accept 0 bytes ∷ []
unfolding accept_fault
taken_event c position bytes none = grind arith

pub left_event : (c : PlainClient) (position : ℕ) (bytes : List ℕ) (fault : AcceptFault) → accept_fault c position bytes ≡ Some fault → given_events c position bytes ≡ []
unfolding accept_fault
left_event c position bytes fault some = grind arith

-- ---- edits

pub ahead : (c : PlainClient) (seen : ℕ) (edit : TextEdit) → length c.shown < seen → delta_by c seen edit ≡ Some []
ahead c seen edit more = ap (λ (b : Bool). cond b (Some []) (marks_of edit (length (shown_after seen c)))) (lt-ltb (length c.shown) seen more)

pub within : (c : PlainClient) (seen : ℕ) (edit : TextEdit) → seen ≤ length c.shown → delta_by c seen edit ≡ marks_of edit (length (shown_after seen c))
within c seen edit low = grind (arith, nat_tests)

pub not_below : (P : Type 0) (a b : ℕ) → P ↔ (a < b) → (P → ⊥) → b ≤ a
not_below P a b same none = elim (cases_lt a b) [
  | inl low ↦ absurd (none (same.1 low))
  | inr high ↦ high
]
