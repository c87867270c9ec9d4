-- What an examination found in files, step by step.
use Rattle.std.proofs.Common.{◌≡◌, ℕ, List, Option, Result, Ok, Err, subst}
use Rattle.sporc_commands.proofs.Common.{◌>>=◌, Rose, Use, FolderTold, NamedFile, Genesis, Device, Kit, LineModel, Taken, ring_file_of_member, RingFile, Fault, File, FileNames, file_name, IsFileFault, SaysFile}
use Rattle.sporc_commands.proofs.Common.{any_bytes, genesis_file, own_key_file, AnswersOfFile, AnswersUnlessOutside, IsFileAt, bytes_in, said, CheckedLine, FindsLine, checked_line, examined, kit_in, line_of_whole}
use Rattle.sporc_commands.proofs.Common.{tells_behind, LmsPrivate, a_member, loaded}
use Rattle.sporc_files.specs.declared.file.File.TheVariants as files
use Rattle.sporc_files.proofs.ReadFiles.{is_there, reads_none, reads_value, says, there}

-- a history was loaded behind the opening of its line
pub accepted : (genesis shown : Genesis) (device : Device) (ring : RingFile) (history : List ℕ) (line : LineModel) (kit : Kit) (taken : Taken) (r : Result LineModel Fault)
    → kit_in genesis device ring history ≡ Ok line.kit → line.genesis ≡ genesis → shown ≡ line.genesis → kit ≡ line.kit
    → taken ≡ loaded (a_member line.genesis line.kit) line.genesis.document history → AnswersUnlessOutside checked_line ⊥ r (line_of_whole device shown kit taken)
    → AnswersUnlessOutside checked_line ⊥ r (examined genesis device ring history)
accepted genesis shown device ring history line kit taken r given own same same_kit is tells =
    tells_behind checked_line ⊥ r (kit_in genesis device ring history) line.kit (λ k. line_of_whole device genesis k (loaded (a_member genesis k) genesis.document history)) given
    (subst (λ (g : Genesis). AnswersUnlessOutside checked_line ⊥ r (line_of_whole device g line.kit (loaded (a_member g line.kit) g.document history))) own
    (subst (λ (g : Genesis). AnswersUnlessOutside checked_line ⊥ r (line_of_whole device g line.kit (loaded (a_member line.genesis line.kit) line.genesis.document history))) same
    (subst (λ (k : Kit). AnswersUnlessOutside checked_line ⊥ r (line_of_whole device shown k (loaded (a_member line.genesis line.kit) line.genesis.document history))) same_kit
    (subst (λ (t : Taken). AnswersUnlessOutside checked_line ⊥ r (line_of_whole device shown kit t)) is tells))))

module _ (folder : Use FolderTold) (names : FileNames) (m : Device) where
  abbrev told : Option (List NamedFile)
  told = folder.before.files

  abbrev Failed : Type 0
  Failed = Rose folder.before.faults folder.after.faults

  -- what is answered of the files from one on
  abbrev with_history : Genesis → RingFile → Option (List ℕ) → Result CheckedLine Fault
  with_history g ring history = bytes_in (files.History m) history >>= λ bytes. examined g m ring bytes

  abbrev with_ring : Genesis → Option (List ℕ) → Option (List ℕ) → Result CheckedLine Fault
  with_ring g ring history = said (ring_file_of_member m.member) (files.Ring m.member) ring >>= λ file. with_history g file history

  abbrev with_key : Genesis → Option (List ℕ) → Option (List ℕ) → Option (List ℕ) → Result CheckedLine Fault
  with_key g key ring history = said (own_key_file g.founders m) (files.Key m) key >>= λ k. with_ring g ring history

  abbrev ring_there : Option (List ℕ)
  ring_there = there told (file_name names (files.Ring m.member))

  abbrev history_there : Option (List ℕ)
  history_there = there told (file_name names (files.History m))

  -- a file that holds this, and what is answered from it on
  abbrev Holds : File → (Option (List ℕ) → Result CheckedLine Fault) → Result LineModel Fault → Type 0
  Holds file rest r = AnswersOfFile checked_line folder (file_name names file) r rest

  -- the files before it say something
  module _ (g : Genesis) (says_g : SaysFile genesis_file told (file_name names files.Genesis) g) (r : Result LineModel Fault) where
    from_key : (ring history : Option (List ℕ)) → IsFileAt told (file_name names (files.Ring m.member)) ring → IsFileAt told (file_name names (files.History m)) history
        → Holds (files.Key m) (λ key. with_key g key ring history) r → FindsLine folder names m r
    from_key ring history ring_at history_at (key, key_at, tells) =
        let (gc, g_at, g_is) = says genesis_file told (file_name names files.Genesis) files.Genesis g says_g in (
          record { genesis = gc; key = key; ring = ring; history = history },
          record { genesis = g_at; key = key_at; ring = ring_at; history = history_at },
          tells_behind checked_line Failed r (said genesis_file files.Genesis gc) g (λ h. with_key h key ring history) g_is tells,
        )

    module _ (key : LmsPrivate) (says_key : SaysFile (own_key_file g.founders m) told (file_name names (files.Key m)) key) where
      from_ring : (history : Option (List ℕ)) → IsFileAt told (file_name names (files.History m)) history → Holds (files.Ring m.member) (λ ring. with_ring g ring history) r → FindsLine folder names m r
      from_ring history history_at (ring, ring_at, tells) =
          let (kc, k_at, k_is) = says (own_key_file g.founders m) told (file_name names (files.Key m)) (files.Key m) key says_key in
          from_key ring history ring_at history_at (kc, k_at, tells_behind checked_line Failed r (said (own_key_file g.founders m) (files.Key m) kc) key (λ k. with_ring g ring history) k_is tells)

      from_history : (ring : RingFile) → SaysFile (ring_file_of_member m.member) told (file_name names (files.Ring m.member)) ring → Holds (files.History m) (with_history g ring) r
          → FindsLine folder names m r
      from_history ring says_ring (history, history_at, tells) =
          let (rc, r_at, r_is) = says (ring_file_of_member m.member) told (file_name names (files.Ring m.member)) (files.Ring m.member) ring says_ring in
          from_ring history history_at (rc, r_at, tells_behind checked_line Failed r (said (ring_file_of_member m.member) (files.Ring m.member) rc) ring (λ file. with_history g file history) r_is tells)

      -- ---- one of the files fails

      pub history_fails : (ring : RingFile) (fault : Fault) → r ≡ Err fault → SaysFile (ring_file_of_member m.member) told (file_name names (files.Ring m.member)) ring
          → IsFileFault any_bytes folder names (files.History m) fault → FindsLine folder names m r
      history_fails ring fault is says_ring why =
          from_history ring says_ring (reads_none any_bytes checked_line folder names (files.History m) (examined g m ring) fault r is why)

      pub all_read : (ring : RingFile) (bytes : List ℕ) → SaysFile (ring_file_of_member m.member) told (file_name names (files.Ring m.member)) ring
          → SaysFile any_bytes told (file_name names (files.History m)) bytes → AnswersUnlessOutside checked_line ⊥ r (examined g m ring bytes) → FindsLine folder names m r
      all_read ring bytes says_ring says_bytes tells =
          from_history ring says_ring (reads_value any_bytes checked_line folder names (files.History m) (examined g m ring) bytes r says_bytes tells)

      pub ring_fails : (fault : Fault) → r ≡ Err fault → IsFileFault (ring_file_of_member m.member) folder names (files.Ring m.member) fault → FindsLine folder names m r
      ring_fails fault is why =
          from_ring history_there (is_there told (file_name names (files.History m)))
          (reads_none (ring_file_of_member m.member) checked_line folder names (files.Ring m.member) (λ file. with_history g file history_there) fault r is why)

    pub key_fails : (fault : Fault) → r ≡ Err fault → IsFileFault (own_key_file g.founders m) folder names (files.Key m) fault → FindsLine folder names m r
    key_fails fault is why =
        from_key ring_there history_there (is_there told (file_name names (files.Ring m.member))) (is_there told (file_name names (files.History m)))
        (reads_none (own_key_file g.founders m) checked_line folder names (files.Key m) (λ k. with_ring g ring_there history_there) fault r is why)

  pub genesis_fails : (fault : Fault) (r : Result LineModel Fault) → r ≡ Err fault → IsFileFault genesis_file folder names files.Genesis fault → FindsLine folder names m r
  genesis_fails fault r is why =
      let key = there told (file_name names (files.Key m)) in
      let (content, at, tells) = reads_none genesis_file checked_line folder names files.Genesis (λ (g : Genesis). with_key g key ring_there history_there) fault r is why in (
        record { genesis = content; key = key; ring = ring_there; history = history_there },
        record {
          genesis = at;
          key = is_there told (file_name names (files.Key m));
          ring = is_there told (file_name names (files.Ring m.member));
          history = is_there told (file_name names (files.History m));
        },
        tells,
      )
