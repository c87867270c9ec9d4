-- Worked examples of the definitions: names of files, which files stand, and the rows of the table of statuses in docs/MANUAL.md.
use Rattle.std.proofs.Common.{◌≡◌, ℕ, List, [], ◌∷◌, Some, inl, inr, codes, refl}
use Rattle.sporc_files.proofs.Common.{NamedFile, Fault, fault_among, fault_line, status_of, FileNames, file_name, names_of_documents, first_device}
use Rattle.std.specs.Fmt.{digits}
use Rattle.sporc_client.specs.declared.fault.EditFault.TheVariants as edits
use Rattle.sporc_epoch.specs.declared.fault.HintFault.TheVariants as hints
use Rattle.sporc_head.specs.declared.refusal.Refusal.TheVariants as refusals
use Rattle.sporc_line.specs.declared.fault.LineOpenFault.TheVariants as opens
use Rattle.sporc_member.specs.declared.change.ChangeFault.TheVariants as changes
use Rattle.sporc_files.specs.declared.fault.Fault.TheVariants as faults
use Rattle.sporc_files.specs.declared.file.File.TheVariants as files
use Rattle.sporc_files.specs.Writing.{StoresFirst, file_with}

-- a document, and the scripts of two editors
abbrev trip : FileNames
trip = record { document = codes "/home/ann/trip"; others = codes "monday" ∷ codes "more things" ∷ [] }

-- ---- names of files

genesis_of_trip : file_name trip files.Genesis ≡ codes "/home/ann/trip.genesis"
genesis_of_trip = refl

key_of_7 : file_name trip (files.Key (first_device 7)) ≡ codes "/home/ann/trip.7.key"
unfolding digits
key_of_7 = refl

key_of_its_second_device : file_name trip (files.Key (record { member = 7; number = 1 })) ≡ codes "/home/ann/trip.7.1.key"
unfolding digits
key_of_its_second_device = refl

leaves_of_65535 : file_name trip (files.Leaf (first_device 65535)) ≡ codes "/home/ann/trip.65535.leaf"
unfolding digits
leaves_of_65535 = refl

ring_of_10 : file_name trip (files.Ring 10) ≡ codes "/home/ann/trip.10.ring"
unfolding digits
ring_of_10 = refl

history_of_2 : file_name trip (files.History (first_device 2)) ≡ codes "/home/ann/trip.2.history"
unfolding digits
history_of_2 = refl

history_of_a_last_device : file_name trip (files.History (record { member = 2; number = 255 })) ≡ codes "/home/ann/trip.2.255.history"
unfolding digits
history_of_a_last_device = refl

log_of_trip : file_name trip files.Log ≡ codes "/home/ann/trip.log"
log_of_trip = refl

tail_of_trip : file_name trip files.Tail ≡ codes "/home/ann/trip.tail"
tail_of_trip = refl

-- the word itself, of an editor that has one
second_script : file_name trip (files.Script 2) ≡ codes "more things"
second_script = refl

no_third_script : file_name trip (files.Script 3) ≡ []
no_third_script = refl

-- ---- files that stand when the first of some were written

-- a file of two bytes, and another of one
abbrev key : NamedFile
key = file_with trip (files.Key (first_device 7)) (1 ∷ 2 ∷ [])

abbrev leaves : NamedFile
leaves = file_with trip (files.Leaf (first_device 7)) (0 ∷ [])

neither : StoresFirst (key ∷ leaves ∷ []) (Some []) (Some [])
neither = inl refl

one_of_two : StoresFirst (key ∷ leaves ∷ []) (Some []) (Some (key ∷ []))
one_of_two = inr (inl refl)

-- the first byte alone does not stand
no_part : ¬ (StoresFirst (key ∷ []) (Some []) (Some (file_with trip (files.Key (first_device 7)) (1 ∷ []) ∷ [])))
no_part (inl same) = cc
no_part (inr never) = never

-- ---- statuses and lines

-- the status and the line of a fault
abbrev told_by : FileNames → Fault → ℕ × List ℕ
told_by names fault = (status_of fault, fault_line names fault)

abbrev told : Fault → ℕ × List ℕ
told fault = told_by trip fault

out_of_memory : told faults.Memory ≡ (1, codes "fault memory\n")
out_of_memory = refl

no_command : told faults.Words ≡ (2, codes "fault words\n")
no_command = refl

no_key_file : told (faults.Missing (files.Key (first_device 7))) ≡ (3, codes "fault missing /home/ann/trip.7.key\n")
unfolding digits
no_key_file = refl

-- what `keygen trip 1` left, in place of `trip.1.1.key`
a_key_file_of_another_device : told (faults.Malformed (files.Key (record { member = 1; number = 1 })) 0) ≡ (3, codes "fault malformed /home/ann/trip.1.1.key 0\n")
unfolding digits
a_key_file_of_another_device = refl

a_leaf_file_before_keygen : told (faults.Exists (files.Leaf (first_device 1))) ≡ (3, codes "fault exists /home/ann/trip.1.leaf\n")
unfolding digits
a_leaf_file_before_keygen = refl

a_long_log : told (faults.TooLong files.Log) ≡ (3, codes "fault too long /home/ann/trip.log\n")
a_long_log = refl

a_history_of_another_document : told (faults.Malformed (files.History (first_device 2)) 0) ≡ (3, codes "fault malformed /home/ann/trip.2.history 0\n")
unfolding digits
a_history_of_another_document = refl

a_line_of_an_editor : told (faults.EditorLine 2 14) ≡ (3, codes "fault line more things 14\n")
unfolding digits
a_line_of_an_editor = refl

a_line_of_a_play : told (faults.Line 14) ≡ (3, codes "fault line 14\n")
unfolding digits
a_line_of_a_play = refl

a_bad_signature : told (faults.Refused 3 refusals.BadSignature) ≡ (4, codes "fault refused 3 bad-signature\n")
unfolding digits
a_bad_signature = refl

a_malformed_entry : told (faults.Refused 16384 (refusals.Malformed 40)) ≡ (4, codes "fault refused 16384 malformed 40\n")
unfolding digits
a_malformed_entry = refl

a_change_of_no_member : told (faults.Rejected (refusals.BadChange changes.NotMember)) ≡ (4, codes "fault rejected bad-change not-member\n")
a_change_of_no_member = refl

hints_without_a_key : told (faults.Hints (hints.NoPairKey 3)) ≡ (4, codes "fault hints no-pair-key 3\n")
unfolding digits
hints_without_a_key = refl

a_key_that_does_not_open : told (faults.Opening opens.WrongKey) ≡ (4, codes "fault hints wrong-key\n")
a_key_that_does_not_open = refl

two_edits_wait : told (faults.Unsettled 2 17) ≡ (5, codes "fault unsettled 2 17\n")
unfolding digits
two_edits_wait = refl

a_link_that_ended : told (faults.LinkEnded 5) ≡ (6, codes "fault link ended 5\n")
unfolding digits
a_link_that_ended = refl

something_outside : told faults.Outside ≡ (6, codes "fault outside\n")
something_outside = refl

no_leaf_left : told (faults.Leaf 32) ≡ (7, codes "fault leaf 32\n")
unfolding digits
no_leaf_left = refl

a_full_history : told faults.FullHistory ≡ (8, codes "fault full history\n")
a_full_history = refl

no_message : told (faults.Message 1000000) ≡ (9, codes "fault message 1000000\n")
unfolding digits
no_message = refl

an_edit_without_a_right : told (faults.Edit 1 4 edits.NoRight) ≡ (10, codes "fault edit 1 4 no-right\n")
unfolding digits
an_edit_without_a_right = refl

-- `text --at` above the end of a history of 17 entries
no_such_position : told (faults.Ahead 17) ≡ (3, codes "fault ahead 17\n")
unfolding digits
no_such_position = refl

-- `serve-all`: its documents are named by their words
abbrev plan_and_menu : FileNames
plan_and_menu = names_of_documents (codes "plan" ∷ codes "menu" ∷ [])

a_document_named_twice : told_by plan_and_menu (faults.Exists (files.Document 2)) ≡ (3, codes "fault exists menu\n")
a_document_named_twice = refl

a_log_of_several : fault_line plan_and_menu (fault_among 2 (faults.Malformed files.Log 0)) ≡ codes "fault malformed menu.log 0\n"
unfolding digits
a_log_of_several = refl

a_tail_of_several : fault_line plan_and_menu (fault_among 2 (faults.Malformed files.Tail 0)) ≡ codes "fault malformed menu.tail 0\n"
unfolding digits
a_tail_of_several = refl
