-- What each command of the program leaves of a leaf file.
use Rattle.std.proofs.Common.{◌≡◌, ◌⊎◌, inl, inr, ℕ, ◌+◌, List, [], ◌∷◌, Bool, true, false, Option, Some, None, IsSome, option_map, Result, Ok, Err, refl, ap, sym, subst, ◌∙◌, IfSome}
use Rattle.sporc_top.proofs.Common.{⊤, AllByRecursion, ChangesFile, HasNoFile, IsDiskOf, with_file, NamedFile, StreamTold, DiskTold, Device, Client, Command, Keygen, Fault, FileNames}
use Rattle.sporc_top.proofs.Common.{file_name, names_of_document, FoundOutcome, IsStoreFault, founding_files, by_command, file_at, if_over, leaf_name, over_its_disk, Performs, OutsideUse, client_use}
use Rattle.sporc_top.proofs.Common.{bytes_eq, bytes_eq-Decides, Use, FolderTold, key_file_bytes, Found, StoresFirst, StoresPrefix, file_with, IsLife, LeafLife, disk_images, needs_of}
use Rattle.std.proofs.lemmas.Bool.{cases_Bool}
use Rattle.sporc_outside.specs.Chances.{ChanceTold}
use Rattle.sporc_outside.specs.Nets.{NetTold}
use Rattle.sporc_keys.specs.declared.founding.Founding.{Founding}
use Rattle.sporc_keys.specs.declared.new_key.NewKey.{NewKey}
use Rattle.sporc_order.specs.OrderModel.{OrderModel}
use Rattle.sporc_shared.specs.Items.{Past}
use Rattle.sporc_words.specs.declared.command.Command.TheVariants as commands
use Rattle.sporc_files.specs.declared.fault.Fault.TheVariants as faults
use Rattle.sporc_files.specs.declared.file.File.{File}
use Rattle.sporc_files.specs.declared.file.File.TheVariants as files
use Rattle.sporc_commands.specs.KeyMaking.{IsFilesFault, IsThere, KeygenOutcome, Makes, StoresKey, StoresKeyFile, key_files}
use Rattle.std.specs.List.{AllZip}
use Rattle.sporc_hosting.specs.Moments.{Moment, at_end, folder_between, sink_between}
use Rattle.sporc_hosting.specs.Outcomes.{IsRound, KeepsLog, ServeOutcome}
use Rattle.sporc_hosting.specs.Rounds.{GoWell, Round, Standing}
use Rattle.sporc_hosting.specs.Tails.{GivesBack, KeepsTail, RemovesTail}
use Rattle.sporc_hosting.specs.Hosting.{GivesAllBack, IsRoundOfAll, ServeAllOutcome}
use Rattle.sporc_hosting.specs.Loading.{ChangesTails, IsNoTail, with_tail_made, with_tails_made}
use Rattle.sporc_hosting.specs.OpenLogModel.{OpenLogModel}
use Rattle.sporc_hosting.specs.Saving.{KeepsLogs}
use Rattle.sporc_clients.specs.Concluding.{SaveOutcome}
use Rattle.sporc_device.specs.declared.member_files.MemberFiles.{MemberFiles}
use Rattle.sporc_clients.specs.Lives.{signed_in}
use Rattle.sporc_clients.proofs.Lives.{run_is_life}
use Rattle.sporc_clients.specs.Outcome.{ClientOutcome, ClientUse, DiskOutcome, names_of, no_disk, no_member, not_worked, over_disk, with_folder, worked}
use Rattle.sporc_top.proofs.LeafFiles.{Keeps, kept_back, kept_changes, kept_first, kept_made, kept_prefix, kept_removed, kept_stores, kept_taken, kept_with, not_genesis, not_history, not_key, not_log, not_tail, own_back, own_is, own_tells, rings_others, told_by}

-- ---- told files stay told

told_changes : (before after : Option (List NamedFile)) (name : List ℕ) → IsSome before → ChangesFile before after name → IsSome after
told_changes None after name told changes = absurd cc
told_changes (Some fs) None name told changes = absurd changes
told_changes (Some fs) (Some more) name told changes = refl

told_same : (before after : Option (List NamedFile)) → IsSome before → after ≡ before → IsSome after
told_same before after told is = rw is told

one_lent : (lent : Option (List (List ℕ))) → IsSome lent → (rest : List (List ℕ)) × (lent ≡ Some rest)
one_lent None told = absurd cc
one_lent (Some rest) told = (rest, refl)

module _ (document : List ℕ) (device : Device) where
  abbrev name : List ℕ
  name = leaf_name document device

  -- the leaf file is kept, and what is told of files stays told
  abbrev Stays : Option (List NamedFile) → Option (List NamedFile) → Type 0
  Stays before after = Keeps name before after × IsSome after

  same_stays : (before after : Option (List NamedFile)) → IsSome before → after ≡ before → Stays before after
  same_stays before after told is = (ap (file_at name) is, told_same before after told is)

  with_stays : (before after : Option (List NamedFile)) (other bytes : List ℕ) → IsSome before → bytes_eq other name ≡ false
      → after ≡ option_map (λ old. with_file old other bytes) before → Stays before after
  with_stays before after other bytes told differs is = (kept_with name before after other bytes differs is, told_by (λ old. with_file old other bytes) before after told is)

  changes_stays : (before after : Option (List NamedFile)) (other : List ℕ) → IsSome before → bytes_eq other name ≡ false → ChangesFile before after other → Stays before after
  changes_stays before after other told differs changes = (kept_changes name before after other told differs changes, told_changes before after other told changes)

  -- ---- keygen

  -- what stood before, or the leaf file is made by this key, and there was none, or something outside failed
  abbrev pub KeysLeave : Keygen → Option (List NamedFile) → Option (List NamedFile) → Result ⊤ Fault → Type 0
  KeysLeave words before after answer =
      Keeps name before after ⊎ ((leaf_name words.name words.device ≡ name) × (HasNoFile before name ⊎ (answer ≡ Err faults.Outside)))

  key_file_kept : (names : FileNames) (key : NewKey) (before after : Option (List NamedFile)) → StoresKeyFile names key before after → Keeps name before after
  key_file_kept names key before after stores = kept_stores name before after (file_with names (files.Key key.file.device) (key_file_bytes key.file) ∷ []) (not_key names document device key.file.device, tt) stores.stored

  -- by a name that is that of the key's leaf file, or not
  module _ (words : Keygen) (key : NewKey) (before after : Option (List NamedFile)) (answer : Result ⊤ Fault) (same : key.file.device ≡ words.device) where
    abbrev leaf_of_key : List ℕ
    leaf_of_key = file_name (names_of_document words.name) (files.Leaf key.file.device)

    named : bytes_eq leaf_of_key name ≡ true → leaf_name words.name words.device ≡ name
    named e = ap (λ (d : Device). leaf_name words.name d) (sym same) ∙ (bytes_eq-Decides leaf_of_key name).0 e

    keys_stored : StoresKey (names_of_document words.name) key before after → KeysLeave words before after answer
    keys_stored stores = elim (cases_Bool (bytes_eq leaf_of_key name)) [
      | inl e ↦ inr (named e, inl (subst (λ (n : List ℕ). HasNoFile before n) ((bytes_eq-Decides leaf_of_key name).0 e) stores.new_leaves))
      | inr e ↦ inl (kept_stores name before after (key_files (names_of_document words.name) key) (not_key (names_of_document words.name) document device key.file.device, (e, tt)) stores.stored)
    ]

    keys_failed : (between : Option (List NamedFile)) → IsSome before → answer ≡ Err faults.Outside → StoresKeyFile (names_of_document words.name) key before between
        → ChangesFile between after leaf_of_key → KeysLeave words before after answer
    keys_failed between told outside stores changes = elim (cases_Bool (bytes_eq leaf_of_key name)) [
      | inl e ↦ inr (named e, inr outside)
      | inr e ↦
          inl (kept_changes name between after leaf_of_key (told_by _ before between told stores.stored) e changes
          ∙ key_file_kept (names_of_document words.name) key before between stores)
    ]

  there_kept : (names : FileNames) (key : NewKey) (before after : Option (List NamedFile)) (file : File) → IsThere names key before after file → Keeps name before after
  there_kept names key before after (files.Key m) there = ap (file_at name) there.2
  there_kept names key before after (files.Leaf m) there = key_file_kept names key before after there.2
  there_kept names key before after file never = absurd never

  keys_by_fault : (words : Keygen) (key : NewKey) (folder : Use FolderTold) → key.file.device ≡ words.device → IsSome folder.before.files
      → (fault : Fault) → IsFilesFault (names_of_document words.name) key folder fault → KeysLeave words folder.before.files folder.after.files (Err fault)
  keys_by_fault words key folder same told faults.Memory (inl is) = inl (ap (file_at name) is)
  keys_by_fault words key folder same told faults.Memory (inr stores) = inl (key_file_kept (names_of_document words.name) key folder.before.files folder.after.files stores)
  keys_by_fault words key folder same told faults.Outside (rose, inl changes) =
      inl (kept_changes name folder.before.files folder.after.files _ told (not_key (names_of_document words.name) document device key.file.device) changes)
  keys_by_fault words key folder same told faults.Outside (rose, inr (between, stores, changes)) =
      keys_failed words key folder.before.files folder.after.files (Err faults.Outside) same between told refl stores changes
  keys_by_fault words key folder same told (faults.Exists f) there = inl (there_kept (names_of_document words.name) key folder.before.files folder.after.files f there)
  keys_by_fault words key folder same told fault never = absurd never

  of_its_device : (words : Keygen) (chance : Use ChanceTold) (key : NewKey) → Makes words chance key → key.file.device ≡ words.device
  of_its_device words chance key (first, second, draws, is) = ap (λ (k : NewKey). k.file.device) is

  keygen_leaves : (words : Keygen) (folder : Use FolderTold) (chance : Use ChanceTold) (out : Use StreamTold) (answer : Result ⊤ Fault) → IsSome folder.before.files
      → KeygenOutcome words folder chance out answer → KeysLeave words folder.before.files folder.after.files answer
  keygen_leaves words folder chance out (Ok done) told made =
      keys_stored words made.key folder.before.files folder.after.files (Ok done) (of_its_device words chance made.key made.makes) made.stores
  keygen_leaves words folder chance out (Err fault) told (inl fails) = inl (ap (file_at name) fails.untouched.stand)
  keygen_leaves words folder chance out (Err fault) told (inr (inl fails)) =
      keys_by_fault words fails.key folder (of_its_device words chance fails.key fails.makes) told fault fails.cause
  keygen_leaves words folder chance out (Err fault) told (inr (inr fails)) =
      keys_stored words fails.key folder.before.files folder.after.files (Err fault) (of_its_device words chance fails.key fails.makes) fails.stores

  -- ---- found

  stores_kept : (new : List NamedFile) (folder : Use FolderTold) → (StoresFirst new folder.before.files folder.after.files → Keeps name folder.before.files folder.after.files)
      → (StoresPrefix new folder.before.files folder.after.files → Keeps name folder.before.files folder.after.files)
      → (fault : Fault) → IsStoreFault new folder fault → Keeps name folder.before.files folder.after.files
  stores_kept new folder first prefix faults.Memory stores = first stores
  stores_kept new folder first prefix faults.Outside (rose, stores) = prefix stores
  stores_kept new folder first prefix fault never = absurd never

  founding_others : (names : FileNames) (founding : Founding) → AllByRecursion (λ f. bytes_eq f.name name ≡ false) (founding_files names founding)
  founding_others names founding = (not_genesis names document device, rings_others names document device founding.rings)

  found_keeps : (words : Found) (folder : Use FolderTold) (chance : Use ChanceTold) (answer : Result ⊤ Fault) → IsSome folder.before.files → FoundOutcome words folder chance answer
      → Keeps name folder.before.files folder.after.files
  found_keeps words folder chance (Ok done) told founds =
      let names = names_of_document words.name in
      kept_stores name folder.before.files folder.after.files (founding_files names founds.founding) (founding_others names founds.founding) founds.stores
  found_keeps words folder chance (Err fault) told (inl fails) = ap (file_at name) fails.stand
  found_keeps words folder chance (Err fault) told (inr (inl fails)) = ap (file_at name) fails.stand
  found_keeps words folder chance (Err fault) told (inr (inr fails)) =
      let names = names_of_document words.name in
      let others = founding_others names fails.founding in
      stores_kept (founding_files names fails.founding) folder
      (kept_first name folder.before.files folder.after.files (founding_files names fails.founding) others)
      (kept_prefix name folder.before.files folder.after.files (founding_files names fails.founding) told others) fault fails.cause

  -- ---- serve

  log_stays : (names : FileNames) (folder : Use FolderTold) (out : Use StreamTold) (order : OrderModel) (line : List ℕ) (kept : Result ⊤ Fault) → IsSome folder.before.files
      → KeepsLog names folder out order line kept → Stays folder.before.files folder.after.files
  log_stays names folder out order line (Ok done) told (saves, wrote) = with_stays folder.before.files folder.after.files _ _ told (not_log names document device) saves.files
  log_stays names folder out order line (Err faults.Memory) told kept = same_stays folder.before.files folder.after.files told kept.0
  log_stays names folder out order line (Err faults.FullFile) told (full, same, none) = same_stays folder.before.files folder.after.files told same
  log_stays names folder out order line (Err faults.Outside) told (inl (rose, changes, none)) =
      changes_stays folder.before.files folder.after.files _ told (not_log names document device) changes
  log_stays names folder out order line (Err faults.Outside) told (inr (saves, rose, wrote)) =
      with_stays folder.before.files folder.after.files _ _ told (not_log names document device) saves.files
  log_stays names folder out order line (Err fault) told never = absurd never

  -- rounds that each keep it, one behind another
  rounds_stay : {A : Type 0} (R : Standing A → Round A → Type 0)
      → ((a : Standing A) (r : Round A) → IsSome a.moment.folder.files → R a r → Stays a.moment.folder.files r.after.moment.folder.files)
      → (a : Standing A) (rs : List (Round A)) (b : Standing A) → IsSome a.moment.folder.files → GoWell R a rs b → Stays a.moment.folder.files b.moment.folder.files
  rounds_stay {A} R one a [] b told same = same_stays a.moment.folder.files b.moment.folder.files told (ap (λ (s : Standing A). s.moment.folder.files) same)
  rounds_stay R one a (r ∷ rs) b told (is, good, others) =
      let first = one a r told is in
      let rest = rounds_stay R one r.after rs b first.1 others in
      (rest.0 ∙ first.0, rest.1)

  round_stays : (names : FileNames) (sessions : ℕ) (a : Standing OrderModel) (r : Round OrderModel) → IsSome a.moment.folder.files → IsRound names sessions a r
      → Stays a.moment.folder.files r.after.moment.folder.files
  round_stays names sessions a r told is =
      log_stays names (folder_between a.moment r.after.moment) (sink_between a.moment r.after.moment) r.after.held _ r.saved told is.keeps

  tail_removed : (names : FileNames) (folder : Use FolderTold) (given : Result ⊤ Fault) → RemovesTail (file_name names files.Tail) folder given → Keeps name folder.before.files folder.after.files
  tail_removed names folder (Ok done) gone = kept_removed name folder.before.files folder.after.files _ (not_tail names document device) gone
  tail_removed names folder (Err faults.Outside) (rose, inl gone) = kept_removed name folder.before.files folder.after.files _ (not_tail names document device) gone
  tail_removed names folder (Err faults.Outside) (rose, inr (stored, back)) = kept_taken name folder.before.files folder.after.files stored _ (not_tail names document device) back
  tail_removed names folder (Err fault) never = absurd never

  tail_kept : (names : FileNames) (folder : Use FolderTold) (logged : ℕ) (bytes : List ℕ) (entries : List (List ℕ)) (given : Result ⊤ Fault)
      → KeepsTail (file_name names files.Tail) folder logged bytes entries given → Keeps name folder.before.files folder.after.files
  tail_kept names folder logged bytes entries (Ok done) (stored, back, gives) = kept_taken name folder.before.files folder.after.files stored _ (not_tail names document device) back
  tail_kept names folder logged bytes entries (Err (faults.Malformed file at)) (same, zero, (stored, back)) =
      kept_taken name folder.before.files folder.after.files stored _ (not_tail names document device) back
  tail_kept names folder logged bytes entries (Err fault) never = absurd never

  tail_given : (names : FileNames) (folder : Use FolderTold) (logged : ℕ) (bytes : List ℕ) (entries : List (List ℕ)) (saved given : Result ⊤ Fault)
      → GivesBack (file_name names files.Tail) folder logged bytes entries saved given → Keeps name folder.before.files folder.after.files
  tail_given names folder logged bytes entries (Ok done) given gone = tail_removed names folder given gone
  tail_given names folder logged bytes entries (Err fault) given kept = tail_kept names folder logged bytes entries given kept

  serve_keeps : (names : FileNames) (sessions times : ℕ) (folder : Use FolderTold) (out : Use StreamTold)
      (old new : NetTold) (answer : Result ⊤ Fault) → IsSome folder.before.files → ServeOutcome names sessions times folder out old new answer
      → Keeps name folder.before.files folder.after.files
  serve_keeps names sessions times folder out old new answer told (inl none) =
      kept_changes name folder.before.files folder.after.files _ told (not_tail names document device) none.changes
  serve_keeps names sessions times folder out old new answer told (inr served) =
      let start : Standing OrderModel = record { held = served.before; moment = served.opened; net = old } in
      let made = kept_made name folder.before.files served.opened.folder.files _ (not_tail names document device) served.is_opened.files in
      let told_then = told_by _ folder.before.files served.opened.folder.files told served.is_opened.files in
      let one = round_stays names sessions in
      let rounds = rounds_stay (IsRound names sessions) one start served.rounds.rounds served.rounds.before told_then served.rounds.well in
      let last = one served.rounds.before served.last rounds.1 served.rounds.last_is in
      tail_given names (folder_between served.last.after.moment (at_end folder out)) served.logged served.last.after.held.genesis.document served.last.after.held.entries
      served.last.saved served.given served.gives
      ∙ last.0 ∙ rounds.0 ∙ made

  -- ---- serve-all

  logs_keep : (names : List (List ℕ)) (orders : List OrderModel) (a b : Moment) (kept : Result ⊤ Fault) → IsSome a.folder.files → KeepsLogs names orders a b kept
      → Stays a.folder.files b.folder.files
  logs_keep [] [] a b kept told (same, answer) = same_stays a.folder.files b.folder.files told (ap (λ (m : Moment). m.folder.files) same)
  logs_keep (n ∷ ns) (o ∷ os) a b kept told (mid, one, others, behind, keeps, rest, answer) =
      let first = log_stays (names_of_document n) (folder_between a mid) (sink_between a mid) o _ one told keeps in
      let left = logs_keep ns os mid b others first.1 rest in
      (left.0 ∙ first.0, left.1)
  logs_keep names orders a b kept told never = absurd never

  -- no tail is a leaf file
  no_tail : (names : List (List ℕ)) → IsNoTail names name
  no_tail [] = tt
  no_tail (n ∷ ns) = (not_tail (names_of_document n) document device, no_tail ns)

  tails_changed : (names : List (List ℕ)) (before after : Option (List NamedFile)) → IsSome before → ChangesTails names before after → Keeps name before after
  tails_changed names None after told changes = absurd cc
  tails_changed names (Some fs) None told changes = absurd changes
  tails_changed names (Some fs) (Some more) told changes = changes name (no_tail names)

  tails_made : (names : List (List ℕ)) (before after : Option (List NamedFile)) → IsSome before → after ≡ with_tails_made names before → Stays before after
  tails_made [] before after told is = same_stays before after told is
  tails_made (n ∷ ns) before after told is =
      let one = kept_made name before (with_tail_made n before) _ (not_tail (names_of_document n) document device) refl in
      let told_then = told_by _ before (with_tail_made n before) told refl in
      let rest = tails_made ns (with_tail_made n before) after told_then is in
      (rest.0 ∙ one, rest.1)

  tails_given : (names : List (List ℕ)) (number : ℕ) (logs : List OpenLogModel) (orders : List OrderModel) (saved given : Result ⊤ Fault) (a b : FolderTold)
      → AllZip (λ n log. log.name ≡ file_name (names_of_document n) files.Tail) names logs
      → GivesAllBack number logs orders saved a b given → Keeps name a.files b.files
  tails_given [] number [] [] saved given a b named (same, answer) = ap (λ (t : FolderTold). file_at name t.files) same
  tails_given [] number (l ∷ ls) orders saved given a b named gives = absurd named
  tails_given (n ∷ ns) number [] orders saved given a b named gives = absurd named
  tails_given (n ∷ ns) number (l ∷ ls) (o ∷ os) saved given a b named (mid, others, one, rest, gives, answer) =
      tail_given (names_of_document n) (record { before = mid; after = b }) l.logged o.genesis.document o.entries saved one
      (subst (λ (m : List ℕ). GivesBack m (record { before = mid; after = b }) l.logged o.genesis.document o.entries saved one) named.0 gives)
      ∙ tails_given ns (number + 1) ls os saved others a mid named.1 rest
  tails_given names number logs orders saved given a b named never = absurd never

  all_stay : (names : List (List ℕ)) (sessions : ℕ) (a : Standing (List OrderModel)) (r : Round (List OrderModel)) → IsSome a.moment.folder.files
      → IsRoundOfAll names sessions a r → Stays a.moment.folder.files r.after.moment.folder.files
  all_stay names sessions a r told is = logs_keep names r.after.held a.moment r.after.moment r.saved told is.keeps

  serve_all_keeps : (names : List (List ℕ)) (sessions times : ℕ) (folder : Use FolderTold)
      (out : Use StreamTold) (old new : NetTold) (answer : Result ⊤ Fault) → IsSome folder.before.files
      → ServeAllOutcome names sessions times folder out old new answer → Keeps name folder.before.files folder.after.files
  serve_all_keeps names sessions times folder out old new answer told (inl none) =
      tails_changed names folder.before.files folder.after.files told none.changes
  serve_all_keeps names sessions times folder out old new answer told (inr served) =
      let start : Standing (List OrderModel) = record { held = served.before; moment = served.opened; net = old } in
      let made = tails_made names folder.before.files served.opened.folder.files told served.is_opened.files in
      let one = all_stay names sessions in
      let rounds = rounds_stay (IsRoundOfAll names sessions) one start served.rounds.rounds served.rounds.before made.1 served.rounds.well in
      let last = one served.rounds.before served.last rounds.1 served.rounds.last_is in
      tails_given names 1 served.logs served.last.after.held served.last.saved served.given served.last.after.moment.folder folder.after served.named served.gives
      ∙ last.0 ∙ rounds.0 ∙ made.0

  -- ---- client

  -- its history is saved, and nothing else changes while the disk is out
  saved_stays : (past : Past) (other : List ℕ) (folder : Use FolderTold) (saved : Result ⊤ Fault) → IsSome folder.before.files → bytes_eq other name ≡ false → SaveOutcome past other folder saved
      → Stays folder.before.files folder.after.files
  saved_stays past other folder (Ok done) told differs is = with_stays folder.before.files folder.after.files other _ told differs is
  saved_stays past other folder (Err faults.Outside) told differs (rose, changes) = changes_stays folder.before.files folder.after.files other told differs changes
  saved_stays past other folder (Err faults.FullFile) told differs (long, same) = same_stays folder.before.files folder.after.files told same
  saved_stays past other folder (Err faults.Memory) told differs same = same_stays folder.before.files folder.after.files told same
  saved_stays past other folder (Err fault) told differs never = absurd never

  module _ {D : Type 0} (disks : D → DiskTold) where
    over_stays : (words : Client) (m : MemberFiles) (did : ClientUse) (first last : D) (answer : Result ⊤ Fault) → IsSome did.folder.before.files
        → DiskOutcome disks words m did first last answer → Stays did.folder.before.files did.folder.after.files
    over_stays words m did first last answer told (worked w) =
        saved_stays w.past (file_name (names_of words) (files.History words.device)) did.folder w.saved told (not_history (names_of words) document device words.device) w.saves
    over_stays words m did first last answer told (not_worked why untouched same kept) = same_stays did.folder.before.files did.folder.after.files told untouched.files

    -- over another leaf file, or over none
    client_keeps : (words : Client) (did : ClientUse) (answer : Result ⊤ Fault) (outcome : ClientOutcome disks words did answer)
        → IsSome did.folder.before.files → IsSome did.folder.before.lent → if_over disks name (over_its_disk disks words did answer outcome) ≡ None
        → Keeps name did.folder.before.files did.folder.after.files
    client_keeps words did answer (no_member why same untouched) told lent none = ap (file_at name) untouched.files
    client_keeps words did answer (no_disk m say why same untouched) told lent none = ap (file_at name) untouched.files
    client_keeps words did answer (over_disk m first last during say lends over) told lent none = elim (cases_Bool (bytes_eq (leaf_name words.name words.device) name)) [
      | inl e ↦ let clash = rw e at none in absurd cc
      | inr e ↦
          let (rest, is) = one_lent did.folder.before.lent lent in
          let stays = over_stays words m (with_folder did during) first last answer (told_same _ _ told lends.unchanged) over in
          kept_back name during.after.lent during.after.files did.folder.after.files (disks last).stored (leaf_name words.name words.device) rest
          (lends.lent ∙ ap (option_map (λ names. leaf_name words.name words.device ∷ names)) is) stays.1 e lends.back ∙ stays.0 ∙ ap (file_at name) lends.unchanged
    ]

    -- over this one: the disk that was handed out had the file's bytes, and the file those of the one that came back
    pub record HasBeenOver (before after : Option (List NamedFile)) (life : LeafLife D) : Type 0 where
      pub tells : IsSome (disks life.lent).stored
      pub first : (disks life.lent).stored ≡ file_at name before
      pub last : IsSome (disks life.last).stored → file_at name after ≡ (disks life.last).stored
      pub is_life : ((disk : D) → IfSome (disks disk).stored (disk_images (disks disk))) → IsLife disks life

    client_has : (words : Client) (did : ClientUse) (answer : Result ⊤ Fault) (outcome : ClientOutcome disks words did answer) (life : LeafLife D)
        → IsSome did.folder.before.files → IsSome did.folder.before.lent → if_over disks name (over_its_disk disks words did answer outcome) ≡ Some life
        → HasBeenOver did.folder.before.files did.folder.after.files life
    client_has words did answer (over_disk m first last during say lends over) life told lent some = go (bytes_eq (leaf_name words.name words.device) name) refl
      where
        own : LeafLife D
        own = record { lent = first; last = last; given = signed_in disks words m (with_folder did during) over }

        has : leaf_name words.name words.device ≡ name → HasBeenOver did.folder.before.files did.folder.after.files own
        has called =
            let (rest, is) = one_lent did.folder.before.lent lent in
            let stays = over_stays words m (with_folder did during) first last answer (told_same _ _ told lends.unchanged) over in
            let is_disk = subst (λ (n : List ℕ). IsDiskOf did.folder.before.files n (disks first).stored) called lends.is in
            let tells = own_tells name did.folder.before.files (disks first).stored told is_disk in
            record {
              tells = tells;
              first = own_is name did.folder.before.files (disks first).stored told is_disk;
              last = λ tells. own_back name during.after.lent during.after.files did.folder.after.files (disks last).stored rest
                  (lends.lent ∙ ap (option_map (λ names. leaf_name words.name words.device ∷ names)) is ∙ ap (λ (n : List ℕ). Some (n ∷ rest)) called) stays.1 tells lends.back;
              is_life = λ images. run_is_life disks images words m (with_folder did during) first last answer over tells;
            }

        go : (b : Bool) → bytes_eq (leaf_name words.name words.device) name ≡ b → HasBeenOver did.folder.before.files did.folder.after.files life
        go true e =
            let both = rw e at some in
            let same : own ≡ life = cc in
            subst (HasBeenOver did.folder.before.files did.folder.after.files) same (has ((bytes_eq-Decides (leaf_name words.name words.device) name).0 e))
        go false e = let clash = rw e at some in absurd cc
    client_has words did answer outcome life told lent some = absurd cc

    -- ---- commands

    -- what stands of the leaf file behind a command that did not have its disk handed out
    abbrev pub CommandLeaves : Command → Option (List NamedFile) → Option (List NamedFile) → Result ⊤ Fault → Type 0
    CommandLeaves asked before after answer =
        Keeps name before after
        ⊎ ((words : Keygen) × (asked ≡ commands.Keygen words) × (leaf_name words.name words.device ≡ name) × (HasNoFile before name ⊎ (answer ≡ Err faults.Outside)))

    by_key : (words : Keygen) (before after : Option (List NamedFile)) (answer : Result ⊤ Fault) → KeysLeave words before after answer
        → CommandLeaves (commands.Keygen words) before after answer
    by_key words before after answer (inl kept) = inl kept
    by_key words before after answer (inr (called, new)) = inr (words, refl, called, new)

    pub command_leaves : (asked : Command) (outside : OutsideUse) (answer : Result ⊤ Fault) (did : Performs disks asked outside answer)
        → ((needs_of asked).files ≡ false → outside.folder.after.files ≡ outside.folder.before.files)
        → IsSome outside.folder.before.files → IsSome outside.folder.before.lent → if_over disks name (by_command disks asked outside answer did) ≡ None
        → CommandLeaves asked outside.folder.before.files outside.folder.after.files answer
    command_leaves commands.Play outside answer did unused told lent none = inl (ap (file_at name) (unused refl))
    command_leaves (commands.Generate edits) outside answer did unused told lent none = inl (ap (file_at name) (unused refl))
    command_leaves (commands.Help page) outside answer did unused told lent none = inl (ap (file_at name) (unused refl))
    command_leaves commands.Version outside answer did unused told lent none = inl (ap (file_at name) (unused refl))
    command_leaves (commands.Keygen words) outside answer did unused told lent none =
        by_key words outside.folder.before.files outside.folder.after.files answer (keygen_leaves words outside.folder outside.chance outside.out answer told did.outcome)
    command_leaves (commands.Found words) outside answer did unused told lent none = inl (found_keeps words outside.folder outside.chance answer told did.outcome)
    command_leaves (commands.Serve words) outside answer did unused told lent none =
        inl (serve_keeps (names_of_document words.name) words.sessions words.times outside.folder outside.out _ _ answer told did.outcome)
    command_leaves (commands.ServeAll words) outside answer did unused told lent none =
        inl (serve_all_keeps words.names words.sessions words.times outside.folder outside.out _ _ answer told did.outcome)
    command_leaves (commands.Client words) outside answer did unused told lent none = inl (client_keeps words (client_use outside) answer did.outcome told lent none)
    -- the others only read
    command_leaves asked outside answer did unused told lent none = inl (ap (file_at name) did.reads.files)

    pub command_has : (asked : Command) (outside : OutsideUse) (answer : Result ⊤ Fault) (did : Performs disks asked outside answer) (life : LeafLife D)
        → IsSome outside.folder.before.files → IsSome outside.folder.before.lent → if_over disks name (by_command disks asked outside answer did) ≡ Some life
        → HasBeenOver outside.folder.before.files outside.folder.after.files life
    command_has (commands.Client words) outside answer did life told lent some = client_has words (client_use outside) answer did.outcome life told lent some
    command_has asked outside answer did life told lent some = absurd cc
