-- Nothing that was ordered is lost in a run of a server over one log and its tail, and an order can always begin again.
use Rattle.std.proofs.Common.{◌≡◌, ℕ, zero, suc, ◌+◌, ◌^◌, ◌<◌, ◌≤◌, ◌⊎◌, inl, inr, false, List, [], ◌∷◌, ◌++◌, length, take, Option, Some, None, Result, Ok, Err, refl, sym, ap, ◌∙◌, subst, arith, append-nil, append_assoc}
use Rattle.std.proofs.lemmas.List.{take-take}
use Rattle.sporc_store.proofs.Common.{IfSome, length-append, length-take, ok_is, Genesis, AppendTold, IsFileFound, file_images, AreAccepted, IsPrefix, FitsRecord, GivesBehind, GivesSame, IsTail, Recovers}
use Rattle.sporc_store.proofs.Common.{TailTaken, record_bytes, tail_behind, tail_bytes, Between, Keeps, OpensBehind, Puts, RecoversAt, StaysFound, TailFileModel, TakesTail}
use Rattle.sporc_order.specs.declared.tail.Unkept.{Unkept}
use Rattle.sporc_store.specs.TailRuns.{TailMove, Open, OpenFailed, OpenCut, Put, PutCut, Save, End, Remake, Stop, TailState, after_move, after_moves, held_then, MayOpen, MayMove, IsTailRun, IsChecked, IsCheckedRun, CanBegin, Begins}
use Rattle.sporc_store.proofs.Loads.{accepted_more, takes_behind}
use Rattle.sporc_store.proofs.TailReads.{at_least, gives, head_gives, is_prefix, prefix_same, tail_more}
use Rattle.sporc_store.proofs.TailRecords.{record_len}

-- ---- prefixes

prefix_fits : (xs ys : List (List ℕ)) → IsPrefix xs ys → length xs ≤ length ys
prefix_fits xs ys h = omega (arith, ap length h, length-take (length xs) ys)

pub prefix_then : (xs ys zs : List (List ℕ)) → IsPrefix xs ys → IsPrefix ys zs → IsPrefix xs zs
prefix_then xs ys zs h k = h ∙ ap (take (length xs)) k ∙ take-take (length xs) (length ys) zs (prefix_fits xs ys h)

-- what is given is what is read
pub gives_taken : (log entries : List (List ℕ)) (document bytes : List ℕ) (taken : TailTaken) → GivesBehind log document bytes entries → tail_behind log document bytes ≡ Ok taken
    → log ++ taken.entries ≡ entries
gives_taken log entries document bytes taken found reads =
    ap (λ (t : TailTaken). log ++ t.entries) (ok_is taken found.taken (sym reads ∙ found.reads)) ∙ found.all

-- ---- bytes that grow by a call, whatever a crash leaves

-- if they are what they were, there are none
none_left : (images : List ℕ → Type 0) (more : List ℕ) → 0 < length more → ((image : List ℕ) → images image → (before : List ℕ) × images before × (image ≡ before ++ more))
    → (n : ℕ) (image : List ℕ) → length image ≤ n → images image → ⊥
none_left images more some grows zero image le there =
    let was = grows image there in
    absurd (omega (arith, le, some, ap length was.2, length-append was.0 more))
none_left images more some grows (suc n) image le there =
    let was = grows image there in
    none_left images more some grows n was.0 (omega (arith, le, some, ap length was.2, length-append was.0 more)) was.1

-- ---- what is put goes on what an order has

module _ {D : Type 0} (P : List (List ℕ) → Type 0) where
  -- if P holds of what the order has, it does so with the entry that is put
  abbrev pub GoesOn : TailState D → TailMove D → Type 0
  GoesOn s (Put entry result t) = P s.held → P (s.held ++ entry ∷ [])
  GoesOn s (PutCut entry result t at found) = P s.held → P (s.held ++ entry ∷ [])
  GoesOn s move = Unit {0}

  abbrev pub AllGoOn : TailState D → List (TailMove D) → Type 0
  AllGoOn s [] = Unit {0}
  AllGoOn s (move ∷ moves) = GoesOn s move × AllGoOn (after_move s move) moves

module _ {D : Type 0} (file_told : D → AppendTold) (genesis : Genesis) (P : List (List ℕ) → Type 0)
    (is_image : (file : D) → IfSome (file_told file).stored (file_images (file_told file))) (is16 : length genesis.document ≡ 16) where
  -- behind a log the bytes give what begins with these entries, and P holds of it
  abbrev Starts : List (List ℕ) → List (List ℕ) → List ℕ → Type 0
  Starts log held bytes = (entries : List (List ℕ)) × GivesBehind log genesis.document bytes entries × IsPrefix held entries × P entries

  abbrev pub StartsAt : List (List ℕ) → List (List ℕ) → D → ℕ → Type 0
  StartsAt log held file at = (image : List ℕ) → (file_told file).images at image → Starts log held image

  -- the tail of these entries, and of nothing behind them, or of one more with which P holds, or a part of it
  abbrev HoldsNext : List (List ℕ) → ℕ → List (List ℕ) → List ℕ → Type 0
  HoldsNext held from behind image =
      (next : List ℕ) × (kept : ℕ) × IsTail genesis.document from behind next kept image × ((kept ≡ 0) ⊎ P (held ++ next ∷ []))

  -- a tail that is open
  record HoldsAll (t : TailFileModel D) (log held : List (List ℕ)) : Type 0 where
    before : List (List ℕ)
    behind : List (List ℕ)
    front : List (List ℕ)
    more : List (List ℕ)
    keeps : Keeps file_told t held before behind
    between : Between log before behind front more
    next : (image : List ℕ) → file_images (file_told t.file) image → HoldsNext held (length before) behind image
    has : P held
    document : t.document ≡ genesis.document

  -- what is found again now is all that any order had
  abbrev SoundBy : Option (TailFileModel D) → List (List ℕ) → List (List ℕ) → D → Type 0
  SoundBy None log held file = StartsAt log held file (file_told file).moment
  SoundBy (Some t) log held file = HoldsAll t log held × (file ≡ t.file)

  abbrev Sound : TailState D → Type 0
  Sound s = P s.log × SoundBy s.tail s.log s.held s.file

  -- of such a tail
  starts_tail : (log held before behind front more : List (List ℕ)) (image : List ℕ) → held ≡ before ++ behind → Between log before behind front more → P held
      → HoldsNext held (length before) behind image → Starts log held image
  starts_tail log held before behind front more image parts between has (next, kept, tail, more_has) =
      by (gives log before behind front more genesis.document next kept image is16 between tail) more_has
    where
      by : GivesBehind log genesis.document image (before ++ behind) ⊎ ((0 < kept) × GivesBehind log genesis.document image ((before ++ behind) ++ next ∷ []))
          → (kept ≡ 0) ⊎ P (held ++ next ∷ []) → Starts log held image
      by (inl found) more_has = (held, subst (GivesBehind log genesis.document image) (sym parts) found, prefix_same held, has)
      by (inr (some, found)) (inl none) = absurd (omega (arith, some, none))
      by (inr (some, found)) (inr more_has) =
          (held ++ next ∷ [], subst (λ (l : List (List ℕ)). GivesBehind log genesis.document image (l ++ next ∷ [])) (sym parts) found, is_prefix held (next ∷ []), more_has)

  found_by : (o : Option (TailFileModel D)) (log held : List (List ℕ)) (file : D) → SoundBy o log held file → StartsAt log held file (file_told file).moment
  found_by None log held file h = h
  found_by (Some t) log held file (h, is) =
      subst (λ (f : D). StartsAt log held f (file_told f).moment) (sym is)
      (λ image there. starts_tail log held h.before h.behind h.front h.more image h.keeps.parts h.between h.has (h.next image there))

  -- after a stop
  found_after : (log held : List (List ℕ)) (file found : D) (at : ℕ) → IsFileFound file_told file at found
      → StartsAt log held file at → StartsAt log held found (file_told found).moment
  found_after log held file found at is h image there = h image (is.among image there)

  -- ---- an entry that is put

  -- one entry more behind a log
  between_more : (log before behind front more : List (List ℕ)) (entry : List ℕ) → Between log before behind front more
      → Between log before (behind ++ entry ∷ []) front (more ++ entry ∷ [])
  between_more log before behind front more entry b = record {
    log_is = b.log_is;
    behind_is = ap (λ (l : List (List ℕ)). l ++ entry ∷ []) b.behind_is ∙ append_assoc front more (entry ∷ []);
  }

  module _ (log held : List (List ℕ)) (entry : List ℕ) (result : Result (Unit {0}) Unkept) (old new : TailFileModel D)
      (puts : Puts file_told old (length held + 1) entry result new) (h : HoldsAll old log held) where
    place : length held + 1 ≡ length h.before + length h.behind + 1
    place = omega (arith, ap length h.keeps.parts, length-append h.before h.behind)

    -- what a crash leaves behind what was kept: a part of the record
    part_tail : old.is_faulty ≡ false → FitsRecord entry → length held + 1 < 2 ^ 31 → (was image : List ℕ) (k : ℕ) → file_images (file_told old.file) was
        → image ≡ was ++ take k (record_bytes (length held + 1) entry) → IsTail genesis.document (length h.before) h.behind entry k image
    part_tail sound fits below was image k there is =
        let from = length h.before in
        let whole : was ≡ tail_bytes old.document from h.behind = h.keeps.whole sound was there in
        record {
          bytes_are =
              is ∙ (λ i. whole i ++ take k (record_bytes (place i) entry))
              ∙ ap (λ (d : List ℕ). tail_bytes d from h.behind ++ take k (record_bytes (from + length h.behind + 1) entry)) h.document;
          fit = (h.keeps.holds was there).2.fit;
          next_fits = fits;
          positions = omega (arith, below, place);
        }

    -- or all of it
    whole_tail : old.is_faulty ≡ false → Keeps file_told new (held ++ entry ∷ []) h.before (h.behind ++ entry ∷ []) → (was image : List ℕ)
        → file_images (file_told old.file) was → file_images (file_told new.file) image → image ≡ was ++ record_bytes (length held + 1) entry
        → IsTail genesis.document (length h.before) (h.behind ++ entry ∷ []) [] 0 image
    whole_tail sound keeps was image old_there there is =
        let from = length h.before in
        let all = h.behind ++ entry ∷ [] in
        let whole : was ≡ tail_bytes old.document from h.behind = h.keeps.whole sound was old_there in
        let tail = (keeps.holds image there).2 in
        record {
          bytes_are =
              is ∙ (λ i. whole i ++ record_bytes (place i) entry) ∙ sym (tail_more old.document from h.behind entry)
              ∙ ap (λ (d : List ℕ). tail_bytes d from all) h.document ∙ sym (append-nil (tail_bytes genesis.document from all));
          fit = tail.fit;
          next_fits = omega arith;
          positions = tail.positions;
        }

    -- at each moment of the put
    put_found : (P held → P (held ++ entry ∷ [])) → (at : ℕ) → (file_told old.file).moment ≤ at → at ≤ (file_told new.file).moment → (image : List ℕ) → (file_told new.file).images at image
        → HoldsNext held (length h.before) h.behind image
    put_found goes at low high image there = by puts.acts
      where
        by : (new ≡ old) ⊎ ((old.is_faulty ≡ false) × FitsRecord entry × (length held + 1 < 2 ^ 31)) → HoldsNext held (length h.before) h.behind image
        by (inl unmoved) =
            let end : (file_told new.file).moment ≡ (file_told old.file).moment = ap (λ (t : TailFileModel D). (file_told t.file).moment) unmoved in
            let now : at ≡ (file_told old.file).moment = omega (arith, low, high, end) in
            h.next image (subst (λ (m : ℕ). (file_told old.file).images m image) now (subst (λ (t : TailFileModel D). (file_told t.file).images at image) unmoved there))
        by (inr (sound, fits, below)) =
            let step = puts.writes.step.during at image low high there in
            (entry, step.2.0, part_tail sound fits below step.0 image step.2.0 step.1 step.2.1, inr (goes h.has))

  put_holds : (log held : List (List ℕ)) (entry : List ℕ) (result : Result (Unit {0}) Unkept) (old new : TailFileModel D) → (P held → P (held ++ entry ∷ []))
      → Puts file_told old (length held + 1) entry result new → HoldsAll old log held → HoldsAll new log (held_then result entry held) × IsPrefix held (held_then result entry held)
  put_holds log held entry (Ok done) old new goes puts h = (
    record {
      before = h.before;
      behind = h.behind ++ entry ∷ [];
      front = h.front;
      more = h.more ++ entry ∷ [];
      keeps = keeps;
      between = between_more log h.before h.behind h.front h.more entry h.between;
      next = λ image there. ([], 0, by puts.acts image there, inl refl);
      has = goes h.has;
      document = puts.document ∙ h.document;
    },
    is_prefix held (entry ∷ []),
  )
    where
      keeps : Keeps file_told new (held ++ entry ∷ []) h.before (h.behind ++ entry ∷ [])
      keeps = puts.ok held h.before h.behind h.keeps refl

      by : (new ≡ old) ⊎ ((old.is_faulty ≡ false) × FitsRecord entry × (length held + 1 < 2 ^ 31)) → (image : List ℕ) → file_images (file_told new.file) image
          → IsTail genesis.document (length h.before) (h.behind ++ entry ∷ []) [] 0 image
      by (inl unmoved) image there =
          let bytes = record_bytes (length held + 1) entry in
          let grows : (image : List ℕ) → file_images (file_told old.file) image → (before : List ℕ) × file_images (file_told old.file) before × (image ≡ before ++ bytes) =
          subst (λ (t : TailFileModel D). (image : List ℕ) → file_images (file_told t.file) image → (before : List ℕ) × file_images (file_told old.file) before × (image ≡ before ++ bytes))
          unmoved puts.writes.all in
          absurd (none_left (file_images (file_told old.file)) bytes (omega (arith, record_len (length held + 1) entry)) grows (length image) image (omega arith)
          (subst (λ (t : TailFileModel D). file_images (file_told t.file) image) unmoved there))
      by (inr (sound, fits, below)) image there =
          let was = puts.writes.all image there in
          whole_tail log held entry (Ok done) old new puts h sound keeps was.0 image was.1 there was.2
  put_holds log held entry (Err e) old new goes puts h = (
    record {
      before = h.before;
      behind = h.behind;
      front = h.front;
      more = h.more;
      keeps = puts.err held h.before h.behind h.keeps refl;
      between = h.between;
      next = put_found log held entry (Err e) old new puts h goes (file_told new.file).moment puts.writes.step.later (omega arith);
      has = h.has;
      document = puts.document ∙ h.document;
    },
    prefix_same held,
  )

  -- a put that was cut off
  cut_found : (log held : List (List ℕ)) (entry : List ℕ) (result : Result (Unit {0}) Unkept) (old new : TailFileModel D) (at : ℕ) → (P held → P (held ++ entry ∷ []))
      → Puts file_told old (length held + 1) entry result new → HoldsAll old log held → (file_told old.file).moment ≤ at → at ≤ (file_told new.file).moment → StartsAt log held new.file at
  cut_found log held entry result old new at goes puts h low high image there =
      starts_tail log held h.before h.behind h.front h.more image h.keeps.parts h.between h.has (put_found log held entry result old new puts h goes at low high image there)

  -- ---- each move

  -- a tail that was opened
  open_holds : (t : TailFileModel D) (log entries : List (List ℕ)) → OpensBehind file_told log t entries → t.document ≡ genesis.document → t.is_faulty ≡ false → P entries
      → HoldsAll t log entries
  open_holds t log entries (before, behind, front, more, keeps, between) same sound has = record {
    before = before;
    behind = behind;
    front = front;
    more = more;
    keeps = keeps;
    between = between;
    next = λ image there.
        let tail = (keeps.holds image there).2 in (
          [],
          0,
          record {
            bytes_are =
                keeps.whole sound image there ∙ ap (λ (d : List ℕ). tail_bytes d (length before) behind) same
                ∙ sym (append-nil (tail_bytes genesis.document (length before) behind));
            fit = tail.fit;
            next_fits = omega arith;
            positions = tail.positions;
          },
          inl refl,
        );
    has = has;
    document = same;
  }

  opened : (s : TailState D) (t : TailFileModel D) (entries : List (List ℕ)) → Sound s → MayOpen file_told genesis s t entries
      → HoldsAll t s.log entries × IsPrefix s.held entries
  opened s t entries sound may = by (found_by s.tail s.log s.held s.file sound.1 may.bytes here)
    where
      here : file_images (file_told s.file) may.bytes
      here = subst (λ (o : Option (List ℕ)). IfSome o (file_images (file_told s.file))) may.told (is_image s.file)

      by : Starts s.log s.held may.bytes → HoldsAll t s.log entries × IsPrefix s.held entries
      by (all, found, prefix, has) =
          let same : all ≡ entries = sym (gives_taken s.log all genesis.document may.bytes may.takes.taken found may.takes.reads) ∙ sym may.takes.all in
          (open_holds t s.log entries may.behind may.document may.sound (subst P same has), subst (IsPrefix s.held) same prefix)

  starts_as : (log held : List (List ℕ)) (old new : List ℕ) → GivesSame log genesis.document old new → Starts log held old → Starts log held new
  starts_as log held old new same (entries, found, prefix, has) = (entries, same entries found, prefix, has)

  stays : (s : TailState D) (file : D) (at : ℕ) → Sound s → StaysFound file_told s.log genesis.document s.file file → (file_told s.file).moment ≤ at → at ≤ (file_told file).moment
      → StartsAt s.log s.held file at
  stays s file at sound keep low high image there =
      let was = keep.during at image low high there in
      starts_as s.log s.held was.0 image was.2 (found_by s.tail s.log s.held s.file sound.1 was.0 was.1)

  -- a file with nothing in it, behind a log that has all
  new_starts : (log held : List (List ℕ)) (image : List ℕ) → log ≡ held → P log → image ≡ [] → Starts log held image
  new_starts log held image all has none = (
    log,
    subst (λ (i : List ℕ). GivesBehind log genesis.document i log) (sym none) (head_gives log genesis.document 0 is16 (omega arith)),
    subst (λ (l : List (List ℕ)). IsPrefix l log) all (prefix_same log),
    has,
  )

  -- the tail that is open
  open_is : (o : Option (TailFileModel D)) (t : TailFileModel D) (log held : List (List ℕ)) (file : D) → o ≡ Some t → SoundBy o log held file
      → HoldsAll t log held × (file ≡ t.file)
  open_is o t log held file is h = subst (λ (x : Option (TailFileModel D)). SoundBy x log held file) is h

  -- its log is saved
  saved : (t : TailFileModel D) (log held : List (List ℕ)) (file : D) → SoundBy (Some t) log held file → P held × SoundBy (Some t) held held file
  saved t log held file (h, is) = (
    h.has,
    (
      record {
        before = h.before;
        behind = h.behind;
        front = h.behind;
        more = [];
        keeps = h.keeps;
        between = record { log_is = h.keeps.parts; behind_is = sym (append-nil h.behind) };
        next = h.next;
        has = h.has;
        document = h.document;
      },
      is,
    ),
  )

  moves : (s : TailState D) (move : TailMove D) → Sound s → GoesOn P s move → MayMove file_told genesis s move
      → Sound (after_move s move) × IsPrefix s.held (after_move s move).held
  moves s (Open t entries) sound goes may = let now = opened s t entries sound may in ((sound.0, (now.0, refl)), now.1)
  moves s (OpenFailed file) sound goes (rests, keep) = ((sound.0, stays s file (file_told file).moment sound keep keep.later (omega arith)), prefix_same s.held)
  moves s (OpenCut file at found) sound goes (rests, keep, stop) =
      ((sound.0, found_after s.log s.held file found at stop.is_found (stays s file at sound keep stop.begun stop.before_end)), prefix_same s.held)
  moves s (Put entry result t) sound goes (old, is, puts) =
      let was = open_is s.tail old s.log s.held s.file is sound.1 in
      let put = put_holds s.log s.held entry result old t goes puts was.0 in
      ((sound.0, (put.0, refl)), put.1)
  moves s (PutCut entry result t at found) sound goes (old, is, puts, stop) =
      let was = open_is s.tail old s.log s.held s.file is sound.1 in (
        (sound.0, found_after s.log s.held t.file found at stop.is_found (cut_found s.log s.held entry result old t at goes puts was.0 stop.begun stop.before_end)),
        prefix_same s.held,
      )
  moves s Save sound goes (t, is) = (
    subst (λ (x : Option (TailFileModel D)). SoundBy x s.log s.held s.file → P s.held × SoundBy x s.held s.held s.file) (sym is)
        (saved t s.log s.held s.file) sound.1,
    prefix_same s.held,
  )
  moves s End sound goes may = ((sound.0, found_by s.tail s.log s.held s.file sound.1), prefix_same s.held)
  moves s (Remake file) sound goes (all, fresh) = (
    (sound.0, λ image there. new_starts s.log s.held image all sound.0 (fresh.only image there)),
    prefix_same s.held,
  )
  moves s (Stop found) sound goes is =
      ((sound.0, found_after s.log s.held s.file found (file_told s.file).moment is (found_by s.tail s.log s.held s.file sound.1)), prefix_same s.held)

  -- ---- and all of them

  runs : (s : TailState D) (run : List (TailMove D)) → Sound s → AllGoOn P s run → IsTailRun file_told genesis s run
      → Sound (after_moves s run) × IsPrefix s.held (after_moves s run).held
  runs s [] sound goes may = (sound, prefix_same s.held)
  runs s (move ∷ run) sound (goes, all) (may, more) =
      let one = moves s move sound goes may in
      let rest = runs (after_move s move) run one.0 all more in
      (rest.0, prefix_then s.held (after_move s move).held (after_moves (after_move s move) run).held one.1 rest.1)

  begun : (s : TailState D) → Begins file_told genesis s → P s.log → Sound s
  begun s b has = (
    has,
    subst (λ (o : Option (TailFileModel D)). SoundBy o s.log s.held s.file) (sym b.rests) (λ image there.
        new_starts s.log s.held image (sym b.saved) has (b.is_new.only image there)),
  )

  -- what is found at the end of a run
  pub run_starts : (s : TailState D) (run : List (TailMove D)) → Begins file_told genesis s → P s.log → AllGoOn P s run → IsTailRun file_told genesis s run
      → P (after_moves s run).log × StartsAt (after_moves s run).log (after_moves s run).held (after_moves s run).file (file_told (after_moves s run).file).moment
  run_starts s run b has goes may =
      let end = after_moves s run in
      let sound = (runs s run (begun s b has) goes may).0 in
      (sound.0, found_by end.tail end.log end.held end.file sound.1)

  -- a run in two parts
  parts : (s : TailState D) (before after : List (TailMove D)) → IsTailRun file_told genesis s (before ++ after)
      → IsTailRun file_told genesis s before × IsTailRun file_told genesis (after_moves s before) after
      × (after_moves s (before ++ after) ≡ after_moves (after_moves s before) after)
  parts s [] after run = (tt, run, refl)
  parts s (move ∷ before) after (may, run) =
      let rest = parts (after_move s move) before after run in
      ((may, rest.0), rest.1, rest.2)

  pub run_keeps : (s : TailState D) (before after : List (TailMove D)) → Begins file_told genesis s → P s.log → AllGoOn P s before → AllGoOn P (after_moves s before) after
      → IsTailRun file_told genesis s (before ++ after) → IsPrefix (after_moves s before).held (after_moves s (before ++ after)).held
  run_keeps s before after b has goes later_goes run =
      let both = parts s before after run in
      let first = runs s before (begun s b has) goes both.0 in
      let later = runs (after_moves s before) after first.0 later_goes both.1 in
      subst (λ (z : TailState D). IsPrefix (after_moves s before).held z.held) (sym both.2) later.1

-- ---- the law

-- what holds of any entries goes on
abbrev Any : List (List ℕ) → Type 0
Any entries = Unit {0}

any_goes : {D : Type 0} (s : TailState D) (run : List (TailMove D)) → AllGoOn Any s run
any_goes s [] = tt
any_goes {D} s (move ∷ run) = (one move, any_goes (after_move s move) run)
  where
    one : (move : TailMove D) → GoesOn Any s move
    one (Put entry result t) = λ held. tt
    one (PutCut entry result t at found) = λ held. tt
    one move = tt

module _ {D : Type 0} (file_told : D → AppendTold) (genesis : Genesis)
    (is_image : (file : D) → IfSome (file_told file).stored (file_images (file_told file))) (is16 : length genesis.document ≡ 16) where
  checked_goes : (s : TailState D) (run : List (TailMove D)) → IsCheckedRun file_told genesis s run → AllGoOn (AreAccepted genesis) s run
  checked_goes s [] checked = tt
  checked_goes s (move ∷ run) (checked, more) = (one move checked, checked_goes (after_move s move) run more)
    where
      one : (move : TailMove D) → IsChecked file_told genesis s move → GoesOn (AreAccepted genesis) s move
      one (Put entry result t) checked = λ held. accepted_more genesis s.held entry held checked
      one (PutCut entry result t at found) checked = λ held. accepted_more genesis s.held entry held checked
      one move checked = tt

  pub nothing_lost : (s : TailState D) (before after : List (TailMove D)) → Begins file_told genesis s → IsTailRun file_told genesis s (before ++ after)
      → IsPrefix (after_moves s before).held (after_moves s (before ++ after)).held
  nothing_lost s before after b run =
      run_keeps file_told genesis Any is_image is16 s before after b tt (any_goes s before) (any_goes (after_moves s before) after) run

  pub found_again : (s : TailState D) (run : List (TailMove D)) → Begins file_told genesis s → IsTailRun file_told genesis s run
      → RecoversAt file_told (after_moves s run).log genesis.document (after_moves s run).file (file_told (after_moves s run).file).moment (after_moves s run).held
  found_again s run b may image there = by ((run_starts file_told genesis Any is_image is16 s run b tt (any_goes s run) may).1 image there)
    where
      end : TailState D
      end = after_moves s run

      by : (entries : List (List ℕ)) × GivesBehind end.log genesis.document image entries × IsPrefix end.held entries × Any entries → Recovers end.log genesis.document image end.held
      by (entries, found, prefix, any) = at_least end.log end.held entries genesis.document image found prefix

  pub begins_again : (s : TailState D) (run : List (TailMove D)) → Begins file_told genesis s → AreAccepted genesis s.log → IsTailRun file_told genesis s run
      → IsCheckedRun file_told genesis s run → CanBegin file_told genesis (after_moves s run)
  begins_again s run b accepted may checked = record { log = starts.0; tail = λ image there. by image (starts.1 image there) }
    where
      end : TailState D
      end = after_moves s run

      starts : AreAccepted genesis end.log × StartsAt file_told genesis (AreAccepted genesis) is_image is16 end.log end.held end.file (file_told end.file).moment
      starts = run_starts file_told genesis (AreAccepted genesis) is_image is16 s run b accepted (checked_goes s run checked) may

      by : (image : List ℕ) → (entries : List (List ℕ)) × GivesBehind end.log genesis.document image entries × IsPrefix end.held entries × AreAccepted genesis entries
          → (entries : List (List ℕ)) × TakesTail genesis end.log image entries × IsPrefix end.held entries
      by image (entries, found, prefix, all) = (
        entries,
        record {
          taken = found.taken;
          reads = found.reads;
          accepted = takes_behind genesis end.log found.taken.entries entries found.all all;
          all = sym found.all;
        },
        prefix,
      )
