-- Worked examples of the definitions: the acts of a round, the message that is due, what a line asks for, and points of a log.
use Rattle.std.proofs.Common.{◌≡◌, ◌≤◌, ℕ, List, [], ◌∷◌, Ok, refl, arith}
use Rattle.sporc_session.proofs.Common.{Mark, Keep, Remove, Refusal, Accept, Edit, Opening, Item, Opened, Happened, Look, Pull, Take, Submit, Send, Ordered, Asked, Edits, Changes, asked_by, IsPoint}
use Rattle.sporc_session.proofs.Common.{Between, Pulling, Taking, Sending, Submits, Drains, Leads, always, looks, pulls, takes, submits_entry, sends, message_due}
use Rattle.sporc_script.specs.declared.editor_line.EditorCommand.TheVariants as commands
use Rattle.sporc_wire.specs.declared.to_server.ToServer.TheVariants as to_server
use Rattle.sporc_client.specs.declared.submitted.Submitted.TheVariants as submitted

-- ---- a round

-- one item is pending; an entry comes and is accepted; then the one that the item was made into is sent, and ordered as the second
one_round : (e mine first second : List ℕ)
    → Leads always (Between 0) (Look 2 0 1 ∷ Pull 0 (e ∷ []) ∷ Take 1 e ∷ Submit 3 first second (Ok (submitted.Entry mine)) ∷ Send mine (Ordered 2) ∷ []) (Between 1)
one_round e mine first second =
    (Pulling 0 0, looks refl, (Taking 0 0 (e ∷ []) Submits, pulls, (Taking 0 1 [] Submits, takes, (Sending 0 1 mine, submits_entry, (Between 1, sends, refl)))))

-- ---- the message that is due

after_seven_entries : message_due (Pulling 0 7) ≡ to_server.Pull 7 ∷ []
after_seven_entries = refl

-- none while an entry that came isn't accepted
while_one_waits : (e : List ℕ) → message_due (Taking 0 7 (e ∷ []) Submits) ≡ []
while_one_waits e = refl

-- a further pull after an entry was rejected
after_a_rejection : (e : List ℕ) (refusal : Refusal) → message_due (Taking 0 7 [] (Drains e refusal)) ≡ to_server.Pull 7 ∷ []
after_a_rejection e refusal = refl

-- ---- what a line asks for

-- on a text of so many characters
abbrev marks_on : ℕ → Asked → List Mark
marks_on len (Edits edit) = edit len
marks_on len (Changes change) = []

-- nine characters are to go from the second one on, and there are five
count_cut_down : marks_on 5 (asked_by (commands.Remove (record { at = 1; count = 9 }))) ≡ Keep ∷ Remove ∷ Remove ∷ Remove ∷ Remove ∷ []
count_cut_down = refl

place_cut_down : marks_on 2 (asked_by (commands.Remove (record { at = 3; count = 1 }))) ≡ Keep ∷ Keep ∷ []
place_cut_down = refl

-- ---- points of a log

two_of_three : 2 ≤ 3
two_of_three = omega arith

all_three : 3 ≤ 3
all_three = omega arith

one_of_three : 1 ≤ 3
one_of_three = omega arith

one_of_two : 1 ≤ 2
one_of_two = omega arith

-- an accept of the receiver, and then an edit of the first editor
abbrev two_events : Opening → List ℕ → List Mark → List Item
two_events opening e marks = Opened opening 0 ∷ Happened (Accept 0 e) ∷ Happened (Edit 1 1 marks) ∷ []

after_the_accept : (opening : Opening) (e : List ℕ) (marks : List Mark) → IsPoint (two_events opening e marks) 1 0 (Happened (Accept 0 e) ∷ []) 2
after_the_accept opening e marks = record { after_start = one_of_two; within = two_of_three; mine_are = refl }

-- the editor's event is none of the receiver's
after_the_edit : (opening : Opening) (e : List ℕ) (marks : List Mark) → IsPoint (two_events opening e marks) 1 0 (Happened (Accept 0 e) ∷ []) 3
after_the_edit opening e marks = record { after_start = one_of_three; within = all_three; mine_are = refl }

-- before it had accepted the entry, the receiver saw no later moment than the first
not_before_the_accept : (opening : Opening) (e : List ℕ) (marks : List Mark) → ¬ IsPoint (two_events opening e marks) 1 0 [] 2
not_before_the_accept opening e marks p = let mine : Happened (Accept 0 e) ∷ [] ≡ [] = p.mine_are in absurd cc
