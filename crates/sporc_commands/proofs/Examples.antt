-- Worked examples of the definitions: the lines of `check` and `compare`, as docs/MANUAL.md has them, and which fault comes first.
use Rattle.std.proofs.Common.{◌≡◌, ◌≢◌, List, ℕ, [], ◌∷◌, None, Some, Ok, Err, codes, refl, arith}
use Rattle.sporc_commands.proofs.Common.{Genesis, chain, last_value, next_value, read_to, Kit, first_device, Device, IsCheckedLine, checked_in, line_of_whole, text_at, text_in, Chains, IsVerdictLine}
use Rattle.sporc_commands.proofs.Common.{chains_in}
use Rattle.std.specs.Fmt.{digits}
use Rattle.sporc_hash.specs.Chain.{chain_after, value_after}
use Rattle.sporc_hash.specs.declared.verdict.Verdict.TheVariants.{Same, Prefix, Longer, ForkedAfter}
use Rattle.sporc_head.specs.declared.refusal.Refusal.TheVariants.{BadSignature}
use Rattle.sporc_store.specs.declared.stop.Stop.TheVariants.{Cut, End, Foreign, Refused}
use Rattle.sporc_files.specs.declared.fault.Fault.TheVariants as faults
use Rattle.sporc_files.specs.declared.file.File.TheVariants as files
use Rattle.sporc_line.specs.Document.{forms_from}

-- the second device of member 2
abbrev phone : Device
phone = record { member = 2; number = 1 }

-- ---- check

seventeen_entries : IsCheckedLine 17 (codes "checked 17\n")
unfolding digits
seventeen_entries = refl

-- both entries of member 2's history were accepted, and it ends behind them
two_entries : (g : Genesis) (kit : Kit) (a b : List ℕ) → line_of_whole (first_device 2) g kit (read_to (a ∷ b ∷ []) End) ≡ Ok (record { genesis = g; kit = kit; entries = a ∷ b ∷ [] })
two_entries g kit a b = refl

third_is_forged : (g : Genesis) (kit : Kit) (a b : List ℕ) → line_of_whole (first_device 2) g kit (read_to (a ∷ b ∷ []) (Refused 3 BadSignature)) ≡ Err (faults.Refused 3 BadSignature)
third_is_forged g kit a b = refl

second_is_cut : (g : Genesis) (kit : Kit) (a : List ℕ) → line_of_whole phone g kit (read_to (a ∷ []) (Cut 34)) ≡ Err (faults.Malformed (files.History phone) 34)
second_is_cut g kit a = refl

of_another_document : (g : Genesis) (kit : Kit) → line_of_whole phone g kit (read_to [] Foreign) ≡ Err (faults.Malformed (files.History phone) 0)
of_another_document g kit = refl

-- no file is there: the genesis is read first
no_files : checked_in (first_device 2) (record { genesis = None; key = None; ring = None; history = None }) ≡ Err (faults.Missing files.Genesis)
no_files = refl

-- ---- text and entries

-- after nothing the text is empty, and after the second of one entry there is none
no_text_yet : (g : Genesis) (kit : Kit) (a : List ℕ) → text_at (Some 0) (record { genesis = g; kit = kit; entries = a ∷ [] }) ≡ Ok []
unfolding forms_from
no_text_yet g kit a = refl

one_of_two : (g : Genesis) (kit : Kit) (a : List ℕ) → text_at (Some 2) (record { genesis = g; kit = kit; entries = a ∷ [] }) ≡ Err (faults.Ahead 1)
one_of_two g kit a = refl

no_genesis_no_text : text_in phone None (record { genesis = None; key = None; ring = None; history = None }) ≡ Err (faults.Missing files.Genesis)
no_genesis_no_text = refl

-- ---- compare

module _ (genesis a b c : List ℕ) where
  -- the chains of two histories
  abbrev both : List (List ℕ) → List (List ℕ) → Chains
  both x y = record { first = chain genesis x; second = chain genesis y }

  nothing_yet : IsVerdictLine (first_device 1) (first_device 2) (both [] []) (codes "1 2 same\n")
  unfolding chain_after digits
  nothing_yet = (Same, (refl, refl), refl)

  one_history : IsVerdictLine (first_device 1) (first_device 2) (both (a ∷ b ∷ []) (a ∷ b ∷ [])) (codes "1 2 same\n")
  unfolding chain_after digits
  one_history = (Same, (refl, refl), refl)

  one_entry_behind : IsVerdictLine (first_device 1) (first_device 2) (both (a ∷ []) (a ∷ b ∷ [])) (codes "1 2 prefix\n")
  unfolding chain_after digits
  one_entry_behind = (Prefix, (omega arith, refl), refl)

  one_entry_ahead : IsVerdictLine (first_device 7) (first_device 10) (both (a ∷ b ∷ []) (a ∷ [])) (codes "7 10 longer\n")
  unfolding chain_after digits
  one_entry_ahead = (Longer, (omega arith, refl), refl)

  -- both devices of one member
  two_devices : IsVerdictLine (first_device 2) phone (both (a ∷ b ∷ []) (a ∷ [])) (codes "2 2.1 longer\n")
  unfolding chain_after digits
  two_devices = (Longer, (omega arith, refl), refl)

  -- a server told two stories after the first entry
  two_stories : next_value (last_value genesis (a ∷ [])) b ≢ next_value (last_value genesis (a ∷ [])) c
      → IsVerdictLine (first_device 1) (first_device 2) (both (a ∷ b ∷ []) (a ∷ c ∷ [])) (codes "1 2 forked after 1\n")
  unfolding chain_after value_after digits
  two_stories differ = (ForkedAfter 1, (omega arith, omega arith, refl, λ same. differ cc), refl)

no_genesis : (history : List ℕ) → chains_in (first_device 1) (first_device 2) (record { genesis = None; first = Some history; second = None }) ≡ Err (faults.Missing files.Genesis)
no_genesis history = refl
