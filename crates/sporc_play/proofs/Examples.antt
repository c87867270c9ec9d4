-- Worked examples: lines of a report, as docs/FORMATS.md has them, and what stands in a rogue's header.
use Rattle.std.proofs.Common.{◌≡◌, true, false, [], ◌∷◌, None, Some, Ok, Err, codes, refl}
use Rattle.sporc_play.proofs.Common.{Device, first_device, device_in, version_by, accept_line, cut_line, event_line, flip_line, join_line, NotOpened, restart_answer, submit_line}
use Rattle.std.specs.Fmt.{digits}
use Rattle.sporc_head.specs.declared.refusal.Refusal.TheVariants.{WrongPosition}
use Rattle.sporc_line.specs.declared.fault.LineOpenFault.TheVariants as opens
use Rattle.sporc_client.specs.declared.fault.AcceptFault.TheVariants as accepts
use Rattle.sporc_client.specs.declared.fault.EditFault.TheVariants as edits
use Rattle.sporc_client.specs.declared.fault.SubmitFault.TheVariants as submits
use Rattle.sporc_client.specs.declared.submitted.Submitted.TheVariants as submitted
use Rattle.sporc_script.specs.declared.sign.Suffix.TheVariants as suffixes

abbrev second : Device
second = record { member = 2; number = 1 }

-- of calls that add an event or an entry
what_a_client_adds : (event_line (first_device 1) (codes "edit") 10 None ≡ codes "1 edit event 10\n")
    × (event_line second (codes "edit") 3 None ≡ codes "2.1 edit event 3\n")
    × (event_line (first_device 1) (codes "change") 10 (Some edits.NoRight) ≡ codes "1 change refused no-right\n")
    × (submit_line (first_device 2) 5 3 (Ok (submitted.Entry [])) ≡ codes "2 submit entry 5\n")
    × (submit_line (first_device 2) 5 3 (Ok submitted.Waiting) ≡ codes "2 submit waiting 3\n")
    × (submit_line (first_device 2) 5 3 (Err (submits.NoPairKey 4)) ≡ codes "2 submit refused no-pair-key 4\n")
unfolding digits
what_a_client_adds = (refl, refl, refl, refl, refl, refl)

-- of what is handed out, a way back to six entries of four, and a ring that doesn't open
what_a_client_is_given : (accept_line (first_device 3) 7 None ≡ codes "3 accept 7 ok\n")
    × (accept_line (first_device 3) 7 (Some (accepts.Refused WrongPosition)) ≡ codes "3 accept 7 refused wrong-position\n")
    × (restart_answer true (first_device 1) 6 4 ≡ codes "1 restart 6 ahead 4\n")
    × (join_line (first_device 4) (NotOpened opens.WrongKey) ≡ codes "4 join refused wrong-key\n")
unfolding digits
what_a_client_is_given = (refl, refl, refl, refl)

-- entry 2, of three bytes, is made into entry 6; and there is no entry 9
what_is_made_of_another : (flip_line 6 2 2 (Some (0 ∷ 0 ∷ 0 ∷ [])) ≡ codes "entry 6\n")
    × (flip_line 6 2 3 (Some (0 ∷ 0 ∷ 0 ∷ [])) ≡ codes "no byte 3\n")
    × (cut_line 6 9 None ≡ codes "no entry 9\n")
unfolding digits
what_is_made_of_another = (refl, refl, refl)

-- a rogue's header: without an Upgrade it has version 1, which names no device
what_a_header_says : (version_by None false ≡ 1) × (version_by (Some (suffixes.Version 2)) false ≡ 2) × (version_by (Some (suffixes.Device 3)) true ≡ 2)
    × (device_in (Some (suffixes.Device 3)) 2 ≡ 3) × (device_in (Some (suffixes.Device 3)) 1 ≡ 0)
what_a_header_says = (refl, refl, refl, refl, refl)
