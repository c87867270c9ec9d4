-- What a server begins with: its genesis, the file of its tail, its log, and the tail.
use Rattle.std.proofs.Common.{◌≡◌, ◌≤◌, ◌<◌, ◌⊎◌, inl, inr, ℕ, false, List, [], length, Option, Some, None, Result, Ok, Err, refl, sym, ap, ◌∙◌, subst, arith}
use Rattle.sporc_hosting.proofs.Common.{IfSome, IfOk, option_map, ◌>>=◌, fault_as, Rose, Use, count_of_both, AppendTold, ChangesFile, IsAppendedTo, TakesFile, file_in, made_in, or_empty, with_bytes}
use Rattle.sporc_hosting.proofs.Common.{NamedFile, Genesis, OrderModel, Taken, Fault, File, FileNames, file_name, IsAppendingFault, IsFileFault, SaysFile, any_bytes, genesis_file}
use Rattle.sporc_hosting.proofs.Common.{AnswersUnlessOutside, unless_stopped, IsFileAt, bytes_in, genesis_in, FindsOrder, FindsOrderBehind, HasLogged, fault_of_tail, logged, order_behind}
use Rattle.sporc_hosting.proofs.Common.{order_of_whole, order_with, tail_in, with_tail, tells_behind, tells_later, accepted_from, an_order, bytes_eq, false_from_ne_true, MAX_FILE}
use Rattle.std.proofs.lemmas.Slice.Eq.{bytes_eq-Decides}
use Rattle.sporc_outside.specs.Folders.{FolderTold}
use Rattle.sporc_outside.proofs.Files.{file_in-other}
use Rattle.sporc_store.specs.declared.tail_fault.TailFault.{TailFault}
use Rattle.sporc_store.specs.declared.tail_fault.TailFault.TheVariants as tails
use Rattle.sporc_store.specs.declared.stop.Stop.{Stop}
use Rattle.sporc_store.specs.declared.stop.Stop.TheVariants.{End}
use Rattle.sporc_store.specs.TailBytes.{TailTaken, tail_behind}
use Rattle.sporc_store.specs.TailReadings.{AreTold, IsFaultOfRead, TakesRead}
use Rattle.sporc_files.specs.declared.fault.Fault.TheVariants as faults
use Rattle.sporc_files.specs.declared.file.File.TheVariants as files
use Rattle.sporc_files.proofs.NamesApart.{names_apart}
use Rattle.sporc_hosting.specs.Opening.{FindsBehind, FindsTail, IsToldIn, RoseIn}
use Rattle.sporc_files.proofs.ReadFiles.{has_at, is_there, reads_none, said_long, said_short, says, there}

-- ---- the tail of a file, behind the order of a log

short : (bytes : List ℕ) → length bytes ≤ MAX_FILE → bytes_in files.Tail (Some bytes) ≡ Ok bytes
short bytes within = said_short any_bytes files.Tail bytes (Ok bytes) within refl

-- what is taken of a tail that reads so
abbrev taken_of : OrderModel → Result TailTaken TailFault → Result OrderModel Fault
taken_of order r =
    fault_as fault_of_tail r >>= λ taken. order_of_whole files.Tail order.genesis (accepted_from (an_order order.genesis) order.entries taken.entries End)

within_tail : (order : OrderModel) (bytes : List ℕ) (r : Result TailTaken TailFault) → length bytes ≤ MAX_FILE → tail_behind order.entries order.genesis.document bytes ≡ r
    → (bytes_in files.Tail (Some bytes) >>= with_tail order) ≡ taken_of order r
within_tail order bytes r within reads = ap (λ (x : Result (List ℕ) Fault). x >>= with_tail order) (short bytes within) ∙ ap (taken_of order) reads

pub tail_taken : {X D : Type 0} (view : X → OrderModel) (stored : Option (List ℕ)) (file_told : D → AppendTold) (order : OrderModel) (it : X)
    → TakesRead order.genesis order.entries stored (view it).entries → (view it).genesis ≡ order.genesis → FindsTail {X = X} {D = D} view stored file_told order (Ok it)
tail_taken view stored file_told order it read same = (
  read.bytes,
  read.told,
  within_tail order read.bytes (Ok read.takes.taken) read.within read.takes.reads
      ∙ ap (λ (t : Taken). order_of_whole files.Tail order.genesis t) read.takes.accepted
      ∙ ap (λ (g : Genesis). Ok (order_with g (view it).entries)) (sym same),
)

-- the bytes that a file tells, if it tells any
told_or : (stored : Option (List ℕ)) → AreTold stored (or_empty stored)
told_or None = tt
told_or (Some bytes) = refl

pub tail_fails : {X D : Type 0} (view : X → OrderModel) (stored : Option (List ℕ)) (file_told : D → AppendTold) (order : OrderModel) (before : ℕ) (cause : TailFault) (fault : Fault) (file : D)
    → fault ≡ fault_of_tail cause → IsFaultOfRead order.genesis order.entries stored before (file_told file).faults cause → FindsTail {X = X} {D = D} view stored file_told order (Err (fault, file))
tail_fails {X} {D} view stored file_told order before cause fault file is why =
    subst (λ (f : Fault). FindsTail {X = X} {D = D} view stored file_told order (Err (f, file))) (sym is) (by cause why)
  where
    by : (cause : TailFault) → IsFaultOfRead order.genesis order.entries stored before (file_told file).faults cause
        → FindsTail {X = X} {D = D} view stored file_told order (Err (fault_of_tail cause, file))
    by tails.Failed rose = (or_empty stored, told_or stored, omega (arith, rose))
    by (tails.TooLong len) (bytes, told, long) = (bytes, told, ap (λ (x : Result (List ℕ) Fault). x >>= with_tail order) (said_long any_bytes files.Tail bytes long))
    by (tails.Malformed at) (bytes, told, within, is) = (bytes, told, within_tail order bytes (Err (tails.Malformed at)) within is)
    by (tails.Refused position refusal) (bytes, told, within, (taken, reads, stop)) = (
      bytes,
      told,
      within_tail order bytes (Ok taken) within reads
          ∙ ap (λ (s : Stop). unless_stopped files.Tail s (accepted_from (an_order order.genesis) order.entries taken.entries End).entries >>= λ es. Ok (order_with order.genesis es)) stop,
    )
    by tails.Memory any = (or_empty stored, told_or stored, tt)

-- ---- behind a genesis

in_told : (told : Option (List NamedFile)) (stored : Option (List ℕ)) (bytes : List ℕ) → AreTold stored bytes → IsToldIn told stored bytes
in_told None stored bytes same = tt
in_told (Some fs) stored bytes same = same

-- what does not succeed gives nothing
no_ok : {X : Type 0} (r : Result X Fault) (fault : Fault) (P : X → Type 0) → r ≡ Err fault → IfOk r P
no_ok {X} r fault P is = subst (λ (o : Result X Fault). IfOk o P) (sym is) tt

module _ {X D : Type 0} (view : X → OrderModel) (len : X → ℕ) (folder : Use FolderTold) (name : List ℕ) (stored : Option (List ℕ)) (file_told : D → AppendTold) (g : Genesis)
    (log : Option (List ℕ)) (at : IsFileAt folder.before.files name log) where
  of_log : (order : OrderModel) (bytes : List ℕ) → logged g log ≡ Ok order
      → (bytes_in files.Tail (Some bytes) >>= λ tail. logged g log >>= λ o. with_tail o tail) ≡ (bytes_in files.Tail (Some bytes) >>= with_tail order)
  of_log order bytes is = ap (λ (r : Result OrderModel Fault). bytes_in files.Tail (Some bytes) >>= λ tail. r >>= λ o. with_tail o tail) is

  pub behind_log : (order : OrderModel) (r : Result X (Fault × D)) → logged g log ≡ Ok order → FindsTail view stored file_told order r → IfOk r (λ it. len it ≡ length order.entries)
      → FindsBehind view len folder name stored file_told g r
  behind_log order (Ok it) is (bytes, same, tells) has = (log, at, bytes, in_told folder.before.files stored bytes same, of_log order bytes is ∙ tells, (order, is, sym has))
  behind_log order (Err (faults.Memory, file)) is (bytes, same, tells) has = (log, at, bytes, in_told folder.before.files stored bytes same, tt, tt)
  behind_log order (Err (faults.Outside, file)) is (bytes, same, tells) has = (log, at, bytes, in_told folder.before.files stored bytes same, inr tells, tt)
  behind_log order (Err (fault, file)) is (bytes, same, tells) has = (log, at, bytes, in_told folder.before.files stored bytes same, of_log order bytes is ∙ tells, tt)

  -- bytes that are short, as the file tells them if the folder tells its files
  short_told : (told : Option (List NamedFile)) → IfSome told (λ fs. IfSome stored (λ bytes. length bytes ≤ MAX_FILE))
      → (bytes : List ℕ) × IsToldIn told stored bytes × (length bytes ≤ MAX_FILE)
  short_told None within = ([], tt, omega arith)
  short_told (Some fs) within = (or_empty stored, told_or stored, fits stored within)
    where
      fits : (stored : Option (List ℕ)) → IfSome stored (λ bytes. length bytes ≤ MAX_FILE) → length (or_empty stored) ≤ MAX_FILE
      fits None any = omega arith
      fits (Some bytes) within = within

  pub behind_fails : (fault : Fault) (file : D) → IfSome folder.before.files (λ fs. IfSome stored (λ bytes. length bytes ≤ MAX_FILE))
      → AnswersUnlessOutside (λ (order : OrderModel). order) (Rose folder.before.faults folder.after.faults) (Err fault) (logged g log)
      → FindsBehind {X = X} {D = D} view len folder name stored file_told g (Err (fault, file))
  behind_fails fault file within tells = (log, at, (short_told folder.before.files within).0, (short_told folder.before.files within).1, by fault tells, tt)
    where
      bytes : List ℕ
      bytes = (short_told folder.before.files within).0

      alone : (bytes_in files.Tail (Some bytes) >>= λ tail. logged g log >>= λ order. with_tail order tail) ≡ (logged g log >>= λ order. with_tail order bytes)
      alone = ap (λ (x : Result (List ℕ) Fault). x >>= λ tail. logged g log >>= λ order. with_tail order tail) (short bytes (short_told folder.before.files within).2)

      by : (fault : Fault) → AnswersUnlessOutside (λ (order : OrderModel). order) (Rose folder.before.faults folder.after.faults) (Err fault) (logged g log)
          → AnswersUnlessOutside view (Rose folder.before.faults folder.after.faults ⊎ RoseIn {X = X} {D = D} file_told (Err (fault, file))) (Err fault)
          (bytes_in files.Tail (Some bytes) >>= λ tail. logged g log >>= λ order. with_tail order tail)
      by faults.Memory tells = tt
      by faults.Outside tells = inl tells
      by fault tells = alone ∙ ap (λ (x : Result OrderModel Fault). x >>= λ order. with_tail order bytes) tells

-- ---- names and files

tail_apart : (names : FileNames) → bytes_eq (file_name names files.Tail) (file_name names files.Log) ≡ false
tail_apart names = false_from_ne_true (bytes_eq (file_name names files.Tail) (file_name names files.Log)) (λ is.
    let same : files.Tail ≡ files.Log = names_apart names files.Tail files.Log tt tt ((bytes_eq-Decides (file_name names files.Tail) (file_name names files.Log)).0 is) in
    cc)

pub made_other : (fs : List NamedFile) (name other : List ℕ) → bytes_eq name other ≡ false → file_in (made_in fs name) other ≡ file_in fs other
made_other fs name other apart = by (file_in fs name) refl
  where
    by : (found : Option (List ℕ)) → file_in fs name ≡ found → file_in (made_in fs name) other ≡ file_in fs other
    by None none = rw none (file_in-other fs name [] other apart)
    by (Some bytes) there = rw there refl

pub put_other : (fs : List NamedFile) (name bytes other : List ℕ) → bytes_eq name other ≡ false → file_in (with_bytes (file_in fs name) fs name bytes) other ≡ file_in fs other
put_other fs name bytes other apart = by (file_in fs name)
  where
    by : (found : Option (List ℕ)) → file_in (with_bytes found fs name bytes) other ≡ file_in fs other
    by None = refl
    by (Some old) = file_in-other fs name bytes other apart

-- the log stands as before the tail's file was made
log_stays : (names : FileNames) (told now : Option (List NamedFile)) (log : Option (List ℕ)) → now ≡ option_map (λ fs. made_in fs (file_name names files.Tail)) told
    → IsFileAt now (file_name names files.Log) log → IsFileAt told (file_name names files.Log) log
log_stays names None now log is at = tt
log_stays names (Some fs) now log is at =
    sym (made_other fs (file_name names files.Tail) (file_name names files.Log) (tail_apart names))
    ∙ subst (λ (t : Option (List NamedFile)). IsFileAt t (file_name names files.Log) log) is at

-- a file stands as it stood before
pub at_before : (now told : Option (List NamedFile)) (name : List ℕ) (content : Option (List ℕ)) → now ≡ told → IsFileAt now name content → IsFileAt told name content
at_before now told name content same at = subst (λ (t : Option (List NamedFile)). IsFileAt t name content) same at

-- a tail's file that was made and taken back is all that may have changed
pub changes_back : (told now last : Option (List NamedFile)) (name : List ℕ) (stored : Option (List ℕ)) → now ≡ option_map (λ fs. made_in fs name) told → TakesFile name stored now last
    → ChangesFile told last name
changes_back None now last name stored is back = tt
changes_back (Some fs) now last name stored is back = by stored (subst (λ (t : Option (List NamedFile)). TakesFile name stored t last) is back)
  where
    by : (stored : Option (List ℕ)) → TakesFile name stored (Some (made_in fs name)) last → ChangesFile (Some fs) last name
    by None same = subst (λ (t : Option (List NamedFile)). ChangesFile (Some fs) t name) (sym same) (λ other apart. made_other fs name other apart)
    by (Some bytes) same =
        subst (λ (t : Option (List NamedFile)). ChangesFile (Some fs) t name) (sym same)
        (λ other apart. put_other (made_in fs name) name bytes other apart ∙ made_other fs name other apart)

pub changes_same : (told now : Option (List NamedFile)) (name : List ℕ) → now ≡ told → ChangesFile told now name
changes_same None now name same = tt
changes_same (Some fs) now name same = subst (λ (t : Option (List NamedFile)). ChangesFile (Some fs) t name) (sym same) (λ other apart. refl)

-- a file that is handed out has no more bytes than a file may have
pub within_file : (told now : Option (List NamedFile)) (name : List ℕ) (stored : Option (List ℕ)) → now ≡ option_map (λ fs. made_in fs name) told → IsAppendedTo told name stored
    → IfSome now (λ fs. IfSome stored (λ bytes. length bytes ≤ MAX_FILE))
within_file None now name stored made is = subst (λ (t : Option (List NamedFile)). IfSome t (λ fs. IfSome stored (λ bytes. length bytes ≤ MAX_FILE))) (sym made) tt
within_file (Some fs) now name stored made is = subst (λ (t : Option (List NamedFile)). IfSome t (λ fs. IfSome stored (λ bytes. length bytes ≤ MAX_FILE))) (sym made) (by stored is)
  where
    by : (stored : Option (List ℕ)) → IsAppendedTo (Some fs) name stored → IfSome stored (λ bytes. length bytes ≤ MAX_FILE)
    by None is = tt
    by (Some bytes) is = is.1

-- ---- all files

module _ {X : Type 0} (view : X → OrderModel) (len : X → ℕ) (a : FolderTold) (names : FileNames) where
  pub genesis_fails : (b : FolderTold) (fault : Fault) (r : Result X Fault) → r ≡ Err fault → IsFileFault genesis_file (record { before = a; after = b }) names files.Genesis fault
      → FindsOrder view len (record { before = a; after = b }) names r
  genesis_fails b fault r is why =
      let log = there a.files (file_name names files.Log) in
      let tail = there a.files (file_name names files.Tail) in
      let (content, at, tells) =
      reads_none genesis_file view (record { before = a; after = b }) names files.Genesis (λ (g : Genesis). tail_in tail >>= λ t. logged g log >>= λ order. with_tail order t) fault r is why in (
        record { genesis = content; log = log; tail = tail },
        record { genesis = at; log = is_there a.files (file_name names files.Log); tail = is_there a.files (file_name names files.Tail) },
        tells,
        no_ok r fault (λ (it : X). HasLogged (record { genesis = content; log = log; tail = tail }) (len it)) is,
      )

  pub taking_fails : (b : FolderTold) (g : Genesis) (fault : Fault) (r : Result X Fault) → r ≡ Err fault → IsAppendingFault (record { before = a; after = b }) names files.Tail fault
      → FindsOrderBehind view len (record { before = a; after = b }) names g r
  taking_fails b g fault r is why =
      let (tail, tail_at, tells) = by fault why in (
        log,
        tail,
        is_there a.files (file_name names files.Log),
        tail_at,
        subst (λ (o : Result X Fault). AnswersUnlessOutside view (Rose a.faults b.faults) o (order_behind g log tail)) (sym is) tells,
        no_ok r fault (λ (it : X). (order : OrderModel) × (logged g log ≡ Ok order) × (length order.entries ≡ len it)) is,
      )
    where
      log : Option (List ℕ)
      log = there a.files (file_name names files.Log)

      name : List ℕ
      name = file_name names files.Tail

      by : (fault : Fault) → IsAppendingFault (record { before = a; after = b }) names files.Tail fault
          → (tail : Option (List ℕ)) × IsFileAt a.files name tail × AnswersUnlessOutside view (Rose a.faults b.faults) (Err fault) (order_behind g log tail)
      by faults.Memory why = (there a.files name, is_there a.files name, tt)
      by faults.Outside why = (there a.files name, is_there a.files name, why)
      by (faults.TooLong other) (same, len, (above, bytes, len_is, has)) = (
        Some bytes,
        has_at a.files name bytes has,
        ap (λ x. x >>= λ t. logged g log >>= λ order. with_tail order t)
            (said_long any_bytes files.Tail bytes (omega (arith, above, len_is)) ∙ ap (λ (f : File). Err (faults.TooLong f)) (sym same)),
      )
      by fault why = absurd why

  -- the tail's file as the folder holds it
  tail_at : (stored : Option (List ℕ)) (bytes : List ℕ) → IsAppendedTo a.files (file_name names files.Tail) stored → IsToldIn a.files stored bytes
      → (tail : Option (List ℕ)) × IsFileAt a.files (file_name names files.Tail) tail × (or_empty tail ≡ bytes)
  tail_at stored bytes is same = by a.files stored is same
    where
      by : (told : Option (List NamedFile)) (stored : Option (List ℕ)) → IsAppendedTo told (file_name names files.Tail) stored → IsToldIn told stored bytes
          → (tail : Option (List ℕ)) × IsFileAt told (file_name names files.Tail) tail × (or_empty tail ≡ bytes)
      by None stored is same = (Some bytes, tt, refl)
      by (Some fs) None is same = absurd is
      by (Some fs) (Some own) is same = (file_in fs (file_name names files.Tail), refl, sym is.0 ∙ same)

  told_before : (told now : Option (List NamedFile)) (stored : Option (List ℕ)) (bytes : List ℕ) → now ≡ option_map (λ fs. made_in fs (file_name names files.Tail)) told
      → IsToldIn now stored bytes → IsToldIn told stored bytes
  told_before None now stored bytes made same = tt
  told_before (Some fs) now stored bytes made same = subst (λ (t : Option (List NamedFile)). IsToldIn t stored bytes) made same

  -- the bytes of a tail, as the folder holds its file
  behind_tail : (g : Genesis) (log tail : Option (List ℕ)) (bytes : List ℕ) → or_empty tail ≡ bytes
      → order_behind g log tail ≡ (bytes_in files.Tail (Some bytes) >>= λ t. logged g log >>= λ order. with_tail order t)
  behind_tail g log tail bytes is = ap (λ (b : List ℕ). bytes_in files.Tail (Some b) >>= λ t. logged g log >>= λ order. with_tail order t) is

  -- the order was found
  pub order_found : {Y D : Type 0} (it : Y) (own : Y → OrderModel) (logs : Y → ℕ) (x : X) (b c : FolderTold) (stored : Option (List ℕ)) (file_told : D → AppendTold) (g : Genesis)
      → own it ≡ view x → logs it ≡ len x → b.files ≡ option_map (λ fs. made_in fs (file_name names files.Tail)) a.files → IsAppendedTo a.files (file_name names files.Tail) stored
      → FindsBehind {D = D} own logs (record { before = b; after = c }) (file_name names files.Log) stored file_told g (Ok it)
      → FindsOrderBehind view len (record { before = a; after = c }) names g (Ok x)
  order_found it own logs x b c stored file_told g order_is len_is made is (log, log_at, bytes, same, tells, (order, logged_is, size)) =
      let (tail, at, bytes_are) = tail_at stored bytes is (told_before a.files b.files stored bytes made same) in (
        log,
        tail,
        log_stays names a.files b.files log made log_at,
        at,
        behind_tail g log tail bytes bytes_are ∙ tells ∙ ap Ok order_is,
        (order, logged_is, size ∙ len_is),
      )

  -- why there is none
  pub order_fails : {Y D : Type 0} (own : Y → OrderModel) (logs : Y → ℕ) (fault : Fault) (file : D) (b c d : FolderTold) (stored : Option (List ℕ)) (file_told : D → AppendTold) (g : Genesis)
      → (Rose b.faults c.faults ⊎ (0 < (file_told file).faults) → Rose a.faults d.faults) → b.files ≡ option_map (λ fs. made_in fs (file_name names files.Tail)) a.files
      → IsAppendedTo a.files (file_name names files.Tail) stored
      → FindsBehind {X = Y} own logs (record { before = b; after = c }) (file_name names files.Log) stored file_told g (Err (fault, file))
      → FindsOrderBehind view len (record { before = a; after = d }) names g (Err fault)
  order_fails own logs fault file b c d stored file_told g rose made is (log, log_at, bytes, same, tells, none) =
      let (tail, at, bytes_are) = tail_at stored bytes is (told_before a.files b.files stored bytes made same) in (
        log,
        tail,
        log_stays names a.files b.files log made log_at,
        at,
        subst (AnswersUnlessOutside view (Rose a.faults d.faults) (Err fault)) (sym (behind_tail g log tail bytes bytes_are)) (by fault _ tells),
        tt,
      )
    where
      by : (fault : Fault) (r : Result OrderModel Fault) → AnswersUnlessOutside own (Rose b.faults c.faults ⊎ (0 < (file_told file).faults)) (Err fault) r
          → AnswersUnlessOutside view (Rose a.faults d.faults) (Err fault) r
      by faults.Memory r told = tt
      by faults.Outside r told = rose told
      by fault r told = told

  -- how many entries are in the log alone
  pub has_logged : (gc log tail : Option (List ℕ)) (g : Genesis) (r : Result X Fault) → genesis_in gc ≡ Ok g
      → IfOk r (λ it. (order : OrderModel) × (logged g log ≡ Ok order) × (length order.entries ≡ len it))
      → IfOk r (λ it. HasLogged (record { genesis = gc; log = log; tail = tail }) (len it))
  has_logged gc log tail g (Ok it) g_is (order, is, size) = (order, ap (λ (x : Result Genesis Fault). x >>= λ h. logged h log) g_is ∙ is, size)
  has_logged gc log tail g (Err fault) g_is none = tt

  -- what is found behind the genesis that the files have
  pub order_of_genesis : (b c : FolderTold) (g : Genesis) (r : Result X Fault) → b.files ≡ a.files → a.faults ≤ b.faults → SaysFile genesis_file a.files (file_name names files.Genesis) g
      → FindsOrderBehind view len (record { before = b; after = c }) names g r → FindsOrder view len (record { before = a; after = c }) names r
  order_of_genesis b c g r same low says_g (log, tail, log_at, tail_at, tells, has) =
      let (gc, g_at, g_is) = says genesis_file a.files (file_name names files.Genesis) files.Genesis g says_g in (
        record { genesis = gc; log = log; tail = tail },
        record {
          genesis = g_at;
          log = at_before b.files a.files (file_name names files.Log) log same log_at;
          tail = at_before b.files a.files (file_name names files.Tail) tail same tail_at;
        },
        tells_behind view (Rose a.faults c.faults) r (genesis_in gc) g (λ (h : Genesis). order_behind h log tail) g_is
            (tells_later view a.faults b.faults c.faults r (order_behind g log tail) low tells),
        has_logged gc log tail g r g_is has,
      )

-- a count rose before a file was taken back, or the file's did
pub rose_back : (c0 c2 c3 f c4 : ℕ) → c0 ≤ c2 → c2 ≤ c3 → count_of_both c3 f ≤ c4 → Rose c2 c3 ⊎ (0 < f) → Rose c0 c4
rose_back c0 c2 c3 f c4 low mid high (inl rose) = omega (arith, low, mid, high, rose)
rose_back c0 c2 c3 f c4 low mid high (inr rose) = omega (arith, low, mid, high, rose)
