-- Which documents are open, behind those that were.
use Rattle.std.proofs.Common.{◌≡◌, ℕ, ◌+◌, ◌≤◌, List, [], ◌∷◌, ◌++◌, length, Option, Result, Ok, Err, refl, sym, ap, ◌∙◌, subst, append-nil, append_assoc}
use Rattle.sporc_hosting.proofs.Common.{OnErr, OnOk, length-append, Rose, NamedFile, OrderModel, Fault, AnswersUnlessOutside, fault_among, FileNames, file_name, names_of_document, AreServedFiles}
use Rattle.sporc_hosting.proofs.Common.{HasLogged, ServedFiles, KeepsBehind, LogTailModel, AreFilesOfAll, AreOpen, AreOpenTo, FindsUnlessHeld, OpenLogModel, OpensMore, OpensOne, added, opened_in}
use Rattle.sporc_hosting.proofs.Common.{opened_to, orders_in, with_document, with_tail_made, both_more, AppendTold, ◌>>=◌, fault_as, fails_first, tells_alone, tells_behind, tells_later, is_there}
use Rattle.sporc_hosting.proofs.Common.{there}
use Rattle.sporc_outside.specs.Folders.{FolderTold}
use Rattle.sporc_files.specs.declared.fault.Fault.TheVariants as faults
use Rattle.sporc_files.specs.declared.file.File.TheVariants as files
use Rattle.sporc_hosting.proofs.Loaded.{among_tells}

-- ---- files that were not read

abbrev pub content_there : Option (List NamedFile) → List ℕ → ServedFiles
content_there told name = record {
  genesis = there told (file_name (names_of_document name) files.Genesis);
  log = there told (file_name (names_of_document name) files.Log);
  tail = there told (file_name (names_of_document name) files.Tail);
}

is_content : (told : Option (List NamedFile)) (name : List ℕ) → AreServedFiles told (names_of_document name) (content_there told name)
is_content told name = record {
  genesis = is_there told (file_name (names_of_document name) files.Genesis);
  log = is_there told (file_name (names_of_document name) files.Log);
  tail = is_there told (file_name (names_of_document name) files.Tail);
}

abbrev pub contents_there : Option (List NamedFile) → List (List ℕ) → List ServedFiles
contents_there told [] = []
contents_there told (n ∷ ns) = content_there told n ∷ contents_there (with_tail_made n told) ns

are_there : (told : Option (List NamedFile)) (names : List (List ℕ)) → AreFilesOfAll told names (contents_there told names)
are_there told [] = tt
are_there told (n ∷ ns) = (is_content told n, are_there (with_tail_made n told) ns)

-- ---- one document more

module _ {D : Type 0} (file_told : D → AppendTold) where
  pub one_more : (names : List (List ℕ)) (contents : List ServedFiles) (orders : List OrderModel) (tails : List (LogTailModel D)) (logs : List OpenLogModel) (name : List ℕ)
      (content : ServedFiles) (order : OrderModel) (tail : LogTailModel D) (log : OpenLogModel)
      → AreOpen file_told names contents orders tails logs → KeepsBehind file_told tail order.entries → HasLogged content log.logged
      → log.name ≡ file_name (names_of_document name) files.Tail
      → AreOpen file_told (names ++ name ∷ []) (contents ++ content ∷ []) (orders ++ order ∷ []) (tails ++ tail ∷ []) (logs ++ log ∷ [])
  one_more names contents orders tails logs name content order tail log opens keeps has named = record {
    kept = both_more (λ (t : LogTailModel D) (o : OrderModel). ∥ KeepsBehind file_told t o.entries ∥₁) tails orders tail order opens.kept (∣ keeps ∣₁);
    logged = both_more (λ (c : ServedFiles) (l : OpenLogModel). HasLogged c l.logged) contents logs content log opens.logged has;
    named = both_more (λ (n : List ℕ) (l : OpenLogModel). l.name ≡ file_name (names_of_document n) files.Tail) names logs name log opens.named named;
    each = length-append logs (log ∷ []) ∙ ap (λ (n : ℕ). n + 1) opens.each ∙ sym (length-append orders (order ∷ []));
  }

  -- nothing changed
  pub still_open : (names : List (List ℕ)) (contents : List ServedFiles) (orders now : List OrderModel) (tails tails' : List (LogTailModel D)) (logs logs' : List OpenLogModel)
      → now ≡ orders → tails' ≡ tails → logs' ≡ logs → AreOpen file_told names contents orders tails logs → AreOpen file_told names contents now tails' logs'
  still_open names contents orders now tails tails' logs logs' now_is tails_are logs_are opens = rw (now_is, tails_are, logs_are) opens

  -- it is open if it was added
  pub added_open : (r : Result (Unit {0}) Fault) (old new : List OrderModel) (tails tails' : List (LogTailModel D)) (logs logs' : List OpenLogModel) (order : OrderModel)
      (tail : LogTailModel D) (log : OpenLogModel) (name : List ℕ) (first : List (List ℕ)) (begun : List ServedFiles) → OnOk r (new ≡ old ++ order ∷ [])
      → OnOk r (tails' ≡ tails ++ tail ∷ []) → OnOk r (logs' ≡ logs ++ log ∷ []) → OnErr r ((new ≡ old) × (tails' ≡ tails) × (logs' ≡ logs))
      → AreOpen file_told first begun old tails logs → KeepsBehind file_told tail order.entries → log.name ≡ file_name (names_of_document name) files.Tail
      → (content : ServedFiles) → HasLogged content log.logged → AreOpenTo file_told r name content new tails' logs' first begun
  added_open (Ok done) old new tails tails' logs logs' order tail log name first begun docs_are tails_are logs_are same opens keeps named content has =
      rw (docs_are, tails_are, logs_are) (one_more first begun old tails logs name content order tail log opens keeps has named)
  added_open (Err fault) old new tails tails' logs logs' order tail log name first begun docs_are tails_are logs_are (docs_same, tails_same, logs_same) opens keeps named content has =
      rw (docs_same, tails_same, logs_same) opens

  module _ (a c : FolderTold) (name : List ℕ) (number : ℕ) (old new : List OrderModel) (tails : List (LogTailModel D)) (logs : List OpenLogModel)
      (first : List (List ℕ)) (begun : List ServedFiles) where
    -- memory ran out first
    pub none_tried : (r : Result (Unit {0}) Fault) → r ≡ Err faults.Memory → AreOpen file_told first begun new tails logs
        → OpensOne file_told (record { before = a; after = c }) name number r old new tails logs first begun
    none_tried r is opens =
        subst (λ (o : Result (Unit {0}) Fault). OpensOne file_told (record { before = a; after = c }) name number o old new tails logs first begun) (sym is) (record {
          content = content_there a.files name;
          are = is_content a.files name;
          found = tt;
          are_open = opens;
        })

    module _ {X : Type 0} (view : X → OrderModel) (len : X → ℕ) (names : FileNames) (held : List OrderModel) (same : names ≡ names_of_document name) (held_is : held ≡ old) where
      -- its files are found by its own names, behind those that are held
      own : (b : FolderTold) (o : Result X Fault) → FindsUnlessHeld view len (record { before = a; after = b }) names number held o
          → FindsUnlessHeld view len (record { before = a; after = b }) (names_of_document name) number old o
      own b o found =
          subst (λ (n : FileNames). FindsUnlessHeld view len (record { before = a; after = b }) n number old o) same
          (subst (λ (h : List OrderModel). FindsUnlessHeld view len (record { before = a; after = b }) names number h o) held_is found)

      pub document_fails : (fault among : Fault) (r : Result (Unit {0}) Fault) → r ≡ Err among → among ≡ fault_among number fault
          → FindsUnlessHeld view len (record { before = a; after = c }) names number held (Err fault) → AreOpen file_told first begun new tails logs
          → OpensOne file_told (record { before = a; after = c }) name number r old new tails logs first begun
      document_fails fault among r failed is found opens =
          let (content, are, tells, none) = own c (Err fault) found in
          let why : AnswersUnlessOutside (λ (os : List OrderModel). os) (Rose a.faults c.faults) (Err (fault_among number fault)) (with_document number old content) =
          fails_first (λ (o : OrderModel). o) (λ (os : List OrderModel). os) (Rose a.faults c.faults) (fault_among number fault) (fault_as (fault_among number) (opened_in number old content))
          (added number old) (among_tells view (Rose a.faults c.faults) number fault (opened_in number old content) tells) in
          subst (λ (o : Result (Unit {0}) Fault). OpensOne file_told (record { before = a; after = c }) name number o old new tails logs first begun) (sym (failed ∙ ap Err is)) (record {
            content = content;
            are = are;
            found = why;
            are_open = opens;
          })

      pub document_adds : (b : FolderTold) (it : X) (r : Result (Unit {0}) Fault) → FindsUnlessHeld view len (record { before = a; after = b }) names number held (Ok it)
          → AnswersUnlessOutside (λ (os : List OrderModel). os) ⊥ (opened_to r new) (added number old (view it))
          → ((content : ServedFiles) → HasLogged content (len it) → AreOpenTo file_told r name content new tails logs first begun)
          → OpensOne file_told (record { before = a; after = c }) name number r old new tails logs first begun
      document_adds b it r found value opens =
          let (content, are, tells, has) = own b (Ok it) found in
          record {
            content = content;
            are = are;
            found =
                tells_behind (λ (os : List OrderModel). os) (Rose a.faults c.faults) (opened_to r new) (fault_as (fault_among number) (opened_in number old content)) (view it) (added number old)
                (ap (fault_as (fault_among number)) tells)
                (tells_alone (λ (os : List OrderModel). os) (Rose a.faults c.faults) (opened_to r new) (added number old (view it)) value);
            are_open = opens content has;
          }

  -- ---- several documents

  module _ (a : FolderTold) (names : List (List ℕ)) (number : ℕ) (old : List OrderModel) (first : List (List ℕ)) (begun : List ServedFiles) where
    pub none_opened : (b : FolderTold) (tails : List (LogTailModel D)) (logs : List OpenLogModel) → length names ≡ 0 → AreOpen file_told first begun old tails logs
        → OpensMore file_told (record { before = a; after = b }) names number (Ok tt) old old tails logs first begun
    none_opened b tails logs none opens = by names none
      where
        by : (ns : List (List ℕ)) → length ns ≡ 0 → OpensMore file_told (record { before = a; after = b }) ns number (Ok tt) old old tails logs first begun
        by [] none = record {
          contents = [];
          are = tt;
          found = refl;
          opened = [];
          held = [];
          rest = [];
          names_are = refl;
          are_open = rw (append-nil first, append-nil begun) opens;
          all = (refl, refl);
        }
        by (n ∷ ns) none = absurd cc

    pub first_fails : (b : FolderTold) (new : List OrderModel) (tails : List (LogTailModel D)) (logs : List OpenLogModel) (name : List ℕ) (others : List (List ℕ)) (fault : Fault)
        (r : Result (Unit {0}) Fault) → names ≡ name ∷ others → r ≡ Err fault → OpensOne file_told (record { before = a; after = b }) name number (Err fault) old new tails logs first begun
        → OpensMore file_told (record { before = a; after = b }) names number r old new tails logs first begun
    first_fails b new tails logs name others fault r is failed one =
        subst (λ (ns : List (List ℕ)). OpensMore file_told (record { before = a; after = b }) ns number r old new tails logs first begun) (sym is)
        (subst (λ (o : Result (Unit {0}) Fault). OpensMore file_told (record { before = a; after = b }) (name ∷ others) number o old new tails logs first begun) (sym failed) (record {
          contents = one.content ∷ contents_there (with_tail_made name a.files) others;
          are = (one.are, are_there (with_tail_made name a.files) others);
          found =
              fails_first (λ (os : List OrderModel). os) (λ (os : List OrderModel). os) (Rose a.faults b.faults) fault (with_document number old one.content)
              (λ (more : List OrderModel). orders_in (number + 1) more (contents_there (with_tail_made name a.files) others)) one.found;
          opened = [];
          held = [];
          rest = name ∷ others;
          names_are = refl;
          are_open = rw (append-nil first, append-nil begun) one.are_open;
          all = tt;
        }))

    all_more : (name : List ℕ) (content : ServedFiles) (opened others : List (List ℕ)) (held contents : List ServedFiles) (r : Result (Unit {0}) Fault)
        → OnOk r ((opened ≡ others) × (held ≡ contents)) → OnOk r ((name ∷ opened ≡ name ∷ others) × (content ∷ held ≡ content ∷ contents))
    all_more name content opened others held contents (Ok done) all = (ap (λ (ns : List (List ℕ)). name ∷ ns) all.0, ap (λ (cs : List ServedFiles). content ∷ cs) all.1)
    all_more name content opened others held contents (Err fault) all = tt

    pub others_opened : (b c : FolderTold) (mid new : List OrderModel) (tails tails' : List (LogTailModel D)) (logs logs' : List OpenLogModel)
        (name : List ℕ) (others : List (List ℕ)) (r : Result (Unit {0}) Fault) → names ≡ name ∷ others → b.files ≡ with_tail_made name a.files → a.faults ≤ b.faults
        → OpensOne file_told (record { before = a; after = b }) name number (Ok tt) old mid tails logs first begun
        → ((f : List (List ℕ)) (s : List ServedFiles) → AreOpen file_told f s mid tails logs
        → OpensMore file_told (record { before = b; after = c }) others (number + 1) r mid new tails' logs' f s)
        → OpensMore file_told (record { before = a; after = c }) names number r old new tails' logs' first begun
    others_opened b c mid new tails tails' logs logs' name others r is same low one then =
        let more : OpensMore file_told (record { before = b; after = c }) others (number + 1) r mid new tails' logs' (first ++ name ∷ []) (begun ++ one.content ∷ []) =
        then (first ++ name ∷ []) (begun ++ one.content ∷ []) one.are_open in
        let opens : AreOpen file_told (first ++ name ∷ more.opened) (begun ++ one.content ∷ more.held) new tails' logs' =
        subst (λ (ns : List (List ℕ)). AreOpen file_told ns (begun ++ one.content ∷ more.held) new tails' logs') (append_assoc first (name ∷ []) more.opened)
        (subst (λ (cs : List ServedFiles). AreOpen file_told ((first ++ name ∷ []) ++ more.opened) cs new tails' logs') (append_assoc begun (one.content ∷ []) more.held) more.are_open) in
        subst (λ (ns : List (List ℕ)). OpensMore file_told (record { before = a; after = c }) ns number r old new tails' logs' first begun) (sym is) (record {
          contents = one.content ∷ more.contents;
          are = (one.are, subst (λ (t : Option (List NamedFile)). AreFilesOfAll t others more.contents) same more.are);
          found =
              tells_later (λ (os : List OrderModel). os) a.faults b.faults c.faults (opened_to r new)
              (with_document number old one.content >>= λ (ms : List OrderModel). orders_in (number + 1) ms more.contents) low
              (tells_behind (λ (os : List OrderModel). os) (Rose b.faults c.faults) (opened_to r new) (with_document number old one.content) mid
              (λ (ms : List OrderModel). orders_in (number + 1) ms more.contents) one.found more.found);
          opened = name ∷ more.opened;
          held = one.content ∷ more.held;
          rest = more.rest;
          names_are = ap (λ (ns : List (List ℕ)). name ∷ ns) more.names_are;
          are_open = opens;
          all = all_more name one.content more.opened others more.held more.contents r more.all;
        })
