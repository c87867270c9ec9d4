-- What is found in the files of a document among several.
use Rattle.std.proofs.Common.{◌≡◌, ◌≢◌, ℕ, ◌≤◌, Bool, true, false, List, [], ◌∷◌, ◌++◌, length, Option, None, Some, Result, Ok, Err, refl, sym, ap, subst}
use Rattle.sporc_hosting.proofs.Common.{Rose, Use, OrderModel, Fault, AnswersUnlessOutside, fault_among, FileNames, file_name, FindsOrderBehind, ServedFiles, log_in, logged, order_behind}
use Rattle.sporc_hosting.proofs.Common.{FindsHeld, FindsUnlessHeld, added, is_held, opened_in, order_unless_held, unless_held, ◌>>=◌, fault_as, fails_first, tells_behind, tells_later}
use Rattle.sporc_hosting.proofs.Opened.{at_before, has_logged}
use Rattle.sporc_hosting.proofs.Common.{fails, is_there, says, there}
use Rattle.std.specs.Str.{bytes_eq}
use Rattle.sporc_outside.specs.Folders.{FolderTold}
use Rattle.sporc_entry.specs.declared.genesis.Genesis.{Genesis}
use Rattle.sporc_docs.specs.Lists.{place_of}
use Rattle.sporc_docs.specs.declared.fault.DocsFault.{DocsFault}
use Rattle.sporc_docs.specs.declared.fault.DocsFault.TheVariants as adding
use Rattle.sporc_files.specs.declared.fault.Fault.TheVariants as faults
use Rattle.sporc_files.specs.declared.file.File.TheVariants as files
use Rattle.sporc_files.specs.Reading.{IsFileFault, SaysFile, genesis_file}
use Rattle.sporc_files.specs.Contents.{AnswersOfFile, genesis_in}

-- ---- whether a document is held

module _ (orders : List OrderModel) (document : List ℕ) where
  pub none_held : length orders ≡ 0 → false ≡ is_held orders document
  none_held none = by orders none
    where
      by : (os : List OrderModel) → length os ≡ 0 → false ≡ is_held os document
      by [] none = refl
      by (o ∷ os) none = absurd cc

  pub first_held : (o : OrderModel) (os : List OrderModel) → orders ≡ o ∷ os → bytes_eq document o.genesis.document ≡ true → true ≡ is_held orders document
  first_held o os is here = rw (is, here) refl

  pub later_held : (o : OrderModel) (os : List OrderModel) (b : Bool) → orders ≡ o ∷ os → bytes_eq document o.genesis.document ≡ false → b ≡ is_held os document
      → b ≡ is_held orders document
  later_held o os b is other rest = rw (is, other) rest

-- ---- one document

-- a fault tells the same of any value
pub other_view : {X Y Z : Type 0} (one : X → Z) (other : Y → Z) (P : Type 0) (fault : Fault) (r : Result Z Fault) → AnswersUnlessOutside one P (Err fault) r
    → AnswersUnlessOutside other P (Err fault) r
other_view one other P faults.Memory r told = tt
other_view one other P fault r told = told

-- a fault of it is one among several
pub among_tells : {X : Type 0} (view : X → OrderModel) (P : Type 0) (number : ℕ) (fault : Fault) (r : Result OrderModel Fault) → AnswersUnlessOutside view P (Err fault) r
    → AnswersUnlessOutside (λ (o : OrderModel). o) P (Err (fault_among number fault)) (fault_as (fault_among number) r)
among_tells view P number faults.Memory r told = tt
among_tells view P number faults.Outside r told = told
among_tells view P number fault r told = ap (fault_as (fault_among number)) told

module _ (folder : Use FolderTold) (name : List ℕ) (number : ℕ) (g : Genesis) where
  -- that it is held is the fault once its log was loaded
  pub held_last : (order : OrderModel) → AnswersOfFile (λ (o : OrderModel). o) folder name (Ok order) (logged g) → FindsHeld folder name number g (faults.Exists (files.Document number))
  held_last order (log, at, is) =
      (log, at, ap (λ (x : Result OrderModel Fault). ◌>>=◌ {B = OrderModel} x (λ (o : OrderModel). Err (faults.Exists (files.Document number)))) is)

  pub log_first : (fault : Fault) → AnswersOfFile (λ (o : OrderModel). o) folder name (Err fault) (logged g) → FindsHeld folder name number g fault
  log_first fault (log, at, tells) = (
    log,
    at,
    fails_first (λ (o : OrderModel). o) (λ (o : OrderModel). o) (Rose folder.before.faults folder.after.faults) fault (logged g log)
        (λ (o : OrderModel). Err (faults.Exists (files.Document number))) tells,
  )

-- what is found of it
module _ {X : Type 0} (view : X → OrderModel) (len : X → ℕ) (a : FolderTold) (names : FileNames) (number : ℕ) (held : List OrderModel) where
  pub genesis_fails : (b : FolderTold) (fault : Fault) (r : Result X Fault) → r ≡ Err fault → IsFileFault genesis_file (record { before = a; after = b }) names files.Genesis fault
      → FindsUnlessHeld view len (record { before = a; after = b }) names number held r
  genesis_fails b fault r is why =
      let log = there a.files (file_name names files.Log) in
      let tail = there a.files (file_name names files.Tail) in
      let (gc, at, tells) = fails genesis_file (λ (g : Genesis). g) (record { before = a; after = b }) names files.Genesis fault why in
      let content : ServedFiles = record { genesis = gc; log = log; tail = tail } in
      subst (λ (o : Result X Fault). FindsUnlessHeld view len (record { before = a; after = b }) names number held o) (sym is) (
        content,
        record { genesis = at; log = is_there a.files (file_name names files.Log); tail = is_there a.files (file_name names files.Tail) },
        fails_first (λ (g : Genesis). g) view (Rose a.faults b.faults) fault (genesis_in gc) (λ (g : Genesis). order_unless_held number (is_held held g.document) content) tells,
        tt,
      )

  module _ (b c : FolderTold) (g : Genesis) (same : b.files ≡ a.files) (low : a.faults ≤ b.faults) (says_g : SaysFile genesis_file a.files (file_name names files.Genesis) g) where
    -- behind its genesis
    behind : (r : Result X Fault) (gc log tail : Option (List ℕ)) (is_one : Bool) → genesis_in gc ≡ Ok g → is_held held g.document ≡ is_one
        → AnswersUnlessOutside view (Rose b.faults c.faults) r (order_unless_held number is_one (record { genesis = gc; log = log; tail = tail }))
        → AnswersUnlessOutside view (Rose a.faults c.faults) r (opened_in number held (record { genesis = gc; log = log; tail = tail }))
    behind r gc log tail is_one g_is is tells =
        let content : ServedFiles = record { genesis = gc; log = log; tail = tail } in
        tells_later view a.faults b.faults c.faults r (opened_in number held content) low
        (tells_behind view (Rose b.faults c.faults) r (genesis_in gc) g (λ (h : Genesis). order_unless_held number (is_held held h.document) content) g_is
        (subst (λ (o : Bool). AnswersUnlessOutside view (Rose b.faults c.faults) r (order_unless_held number o content)) (sym is) tells))

    pub held_found : (fault : Fault) → is_held held g.document ≡ true → FindsHeld (record { before = b; after = c }) (file_name names files.Log) number g fault
        → FindsUnlessHeld view len (record { before = a; after = c }) names number held (Err fault)
    held_found fault is (log, at, tells) =
        let tail = there a.files (file_name names files.Tail) in
        let (gc, g_at, g_is) = says genesis_file a.files (file_name names files.Genesis) files.Genesis g says_g in
        let logs : log_in (record { genesis = gc; log = log; tail = tail }) ≡ logged g log = ap (λ (x : Result Genesis Fault). x >>= λ (h : Genesis). logged h log) g_is in (
          record { genesis = gc; log = log; tail = tail },
          record { genesis = g_at; log = at_before b.files a.files (file_name names files.Log) log same at; tail = is_there a.files (file_name names files.Tail) },
          behind (Err fault) gc log tail true g_is is
              (subst (λ (x : Result OrderModel Fault). AnswersUnlessOutside view (Rose b.faults c.faults) (Err fault) (x >>= λ (o : OrderModel). Err (faults.Exists (files.Document number)))) (sym logs)
              (other_view (λ (o : OrderModel). o) view (Rose b.faults c.faults) fault (logged g log >>= λ (o : OrderModel). Err (faults.Exists (files.Document number))) tells)),
          tt,
        )

    pub free_found : (r : Result X Fault) → is_held held g.document ≡ false → FindsOrderBehind view len (record { before = b; after = c }) names g r
        → FindsUnlessHeld view len (record { before = a; after = c }) names number held r
    free_found r is (log, tail, log_at, tail_at, tells, has) =
        let (gc, g_at, g_is) = says genesis_file a.files (file_name names files.Genesis) files.Genesis g says_g in (
          record { genesis = gc; log = log; tail = tail },
          record {
            genesis = g_at;
            log = at_before b.files a.files (file_name names files.Log) log same log_at;
            tail = at_before b.files a.files (file_name names files.Tail) tail same tail_at;
          },
          behind r gc log tail false g_is is
              (tells_behind view (Rose b.faults c.faults) r (genesis_in gc) g (λ (h : Genesis). order_behind h log tail) g_is tells),
          has_logged view len a names gc log tail g r g_is has,
        )

-- ---- adding

-- why one is not added, if there is room
pub not_added : (number : ℕ) (held : List OrderModel) (order : OrderModel) (cause : DocsFault) (fault : Fault) → cause ≢ adding.Full
    → (cause ≡ adding.Exists → place_of held order.genesis.document ≢ None) → (cause ≡ adding.Exists → fault ≡ faults.Exists (files.Document number))
    → (cause ≡ adding.Memory → fault ≡ faults.Memory) → AnswersUnlessOutside (λ (docs : List OrderModel). docs) ⊥ (Err fault) (added number held order)
not_added number held order adding.Exists fault room there exists memory =
    subst (λ (f : Fault). AnswersUnlessOutside (λ (docs : List OrderModel). docs) ⊥ (Err f) (added number held order)) (sym (exists refl))
    (by (place_of held order.genesis.document) (there refl))
  where
    by : (place : Option ℕ) → place ≢ None → unless_held number place (held ++ order ∷ []) ≡ Err (faults.Exists (files.Document number))
    by None none = absurd (none refl)
    by (Some at) none = refl
not_added number held order adding.Full fault room there exists memory = absurd (room refl)
not_added number held order adding.Memory fault room there exists memory =
    subst (λ (f : Fault). AnswersUnlessOutside (λ (docs : List OrderModel). docs) ⊥ (Err f) (added number held order)) (sym (memory refl)) tt
