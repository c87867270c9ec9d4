-- A tail's file that was read behind a log, and is made one that is appended to.
use Rattle.std.proofs.Common.{◌≡◌, ℕ, zero, suc, ◌+◌, ◌-◌, ◌^◌, ◌<◌, ◌≤◌, ◌⊎◌, inl, inr, Bool, true, false, cond, leb, List, [], ◌∷◌, ◌++◌, length, take, drop, eqb, Result, Ok, Err, refl, sym, ap, ◌∙◌, subst, arith, append-nil, append_assoc}
use Rattle.sporc_store.proofs.Common.{◌&&◌, OnOk, cases_lt, leb-true, and_parts, Decides-eqb, length-append, length-drop, length-take, take_all, take_at, drop_at, take-append-drop, take-nil, All-nil}
use Rattle.sporc_store.proofs.Common.{starts_is, All, starts_with, w32, IsBytes, Reading, number_at, ok_is, MAX_ENTRIES, AppendTold, GrowsBy, MayBeCut, FileSteps, file_images, MAX_FILE, TailFault}
use Rattle.sporc_store.proofs.Common.{Malformed, HEAD_LEN, Agree, FitsRecord, GivesBehind, GivesSame, IsTail, TailTaken, behind_head, records_behind, records_bytes, records_of, tail_head, taken_to}
use Rattle.sporc_store.proofs.Common.{AreSynced, Between, Cuts, OpensBehind, Settles, StaysFound, Writes, counting, counting_of, head_behind, tail_on, IsBytes-drop, IsSame, use_of}
use Rattle.sporc_store.specs.TailBytes.{tail_behind, tail_bytes}
use Rattle.sporc_store.proofs.TailReads.{gives_whole, head_gives, head_len, head_reads}
use Rattle.sporc_store.proofs.TailRecords.{TakesRecords, records_few, records_take}
use Rattle.sporc_store.proofs.TailRunning.{gives_taken}
use Rattle.sporc_store.proofs.TailWrites.{step_then}

-- ---- what stays found from one moment to another

-- bytes that give all that others gave
pub gives_more : (log : List (List ℕ)) (document old new : List ℕ) (taken : TailTaken) → tail_behind log document old ≡ Ok taken
    → GivesBehind log document new (log ++ taken.entries) → GivesSame log document old new
gives_more log document old new taken reads found entries was = subst (GivesBehind log document new) (gives_taken log entries document old taken was reads) found

module _ {D : Type 0} (file_told : D → AppendTold) (log : List (List ℕ)) (document : List ℕ) where
  pub step_stays : (old new : D) (step : List ℕ → List ℕ → Type 0) → FileSteps (use_of file_told old new) step
      → ((before after : List ℕ) → file_images (file_told old) before → step before after → GivesSame log document before after) → StaysFound file_told log document old new
  step_stays old new step crash same = record {
    later = crash.later;
    earlier = crash.earlier;
    during = λ m image low high there.
        let before = crash.during m image low high there in
        (before.0, before.1, same before.0 image before.1 before.2);
  }

  pub same_stays : (old new : D) → FileSteps (use_of file_told old new) IsSame → StaysFound file_told log document old new
  same_stays old new crash = step_stays old new IsSame crash (λ before after there same entries found. subst (λ (l : List ℕ). GivesBehind log document l entries) (sym same) found)

  pub stays_then : (a b c : D) → StaysFound file_told log document a b → StaysFound file_told log document b c → StaysFound file_told log document a c
  stays_then a b c one two =
      step_then _ _ _ _ _ _ (GivesSame log document) (GivesSame log document) (λ x y z first second entries found. second entries (first entries found)) one two

-- ---- a file that begins behind a part of a log

-- the tail of what a log lacks, and of the last entries that it has
pub record Stands (log : List (List ℕ)) (document : List ℕ) (taken : TailTaken) (bytes : List ℕ) : Type 0 where
  pub before : List (List ℕ)
  pub front : List (List ℕ)
  pub log_is : log ≡ before ++ front
  pub bytes_are : bytes ≡ tail_bytes document (length before) (front ++ taken.entries)
  pub fit : All FitsRecord (front ++ taken.entries)
  pub positions : length before + length (front ++ taken.entries) < 2 ^ 31

stands_all : (log : List (List ℕ)) (document bytes : List ℕ) (taken : TailTaken) (s : Stands log document taken bytes) → log ++ taken.entries ≡ s.before ++ (s.front ++ taken.entries)
stands_all log document bytes taken s = ap (λ (l : List (List ℕ)). l ++ taken.entries) s.log_is ∙ append_assoc s.before s.front taken.entries

stands_tail : (log : List (List ℕ)) (document bytes : List ℕ) (taken : TailTaken) (s : Stands log document taken bytes)
    → IsTail document (length s.before) (s.front ++ taken.entries) [] 0 bytes
stands_tail log document bytes taken s = record {
  bytes_are = s.bytes_are ∙ sym (append-nil (tail_bytes document (length s.before) (s.front ++ taken.entries)));
  fit = s.fit;
  next_fits = omega arith;
  positions = s.positions;
}

stands_between : (log : List (List ℕ)) (document bytes : List ℕ) (taken : TailTaken) (s : Stands log document taken bytes)
    → Between log s.before (s.front ++ taken.entries) s.front taken.entries
stands_between log document bytes taken s = record { log_is = s.log_is; behind_is = refl }

pub stands_gives : (log : List (List ℕ)) (document bytes : List ℕ) (taken : TailTaken) → length document ≡ 16 → Stands log document taken bytes
    → GivesBehind log document bytes (log ++ taken.entries)
stands_gives log document bytes taken is s =
    subst (GivesBehind log document bytes) (sym (stands_all log document bytes taken s))
    (gives_whole log s.before (s.front ++ taken.entries) s.front taken.entries document bytes is (stands_between log document bytes taken s) (stands_tail log document bytes taken s))

pub stands_opens : {D : Type 0} (file_told : D → AppendTold) (file : D) (log : List (List ℕ)) (document bytes : List ℕ) (taken : TailTaken)
    → AreSynced file_told file bytes → Stands log document taken bytes → OpensBehind file_told log (tail_on file document) (log ++ taken.entries)
stands_opens file_told file log document bytes taken synced s = (
  s.before,
  s.front ++ taken.entries,
  s.front,
  taken.entries,
  record {
    parts = stands_all log document bytes taken s;
    holds = λ image there. ([], 0, subst (IsTail document (length s.before) (s.front ++ taken.entries) [] 0) (sym (synced image there)) (stands_tail log document bytes taken s));
    whole = λ sound image there. synced image there ∙ s.bytes_are;
  },
  stands_between log document bytes taken s,
)

-- a head and nothing else
head_stands : (log : List (List ℕ)) (document : List ℕ) (taken : TailTaken) → taken.entries ≡ [] → length log ≤ MAX_ENTRIES → Stands log document taken (tail_head document)
unfolding tail_bytes
head_stands log document taken none few = record {
  before = log;
  front = [];
  log_is = sym (append-nil log);
  bytes_are = sym (append-nil (tail_head document)) ∙ ap (λ (es : List (List ℕ)). tail_head document ++ records_bytes (length log + 1) es) (sym none);
  fit = subst (All FitsRecord) (sym none) (All-nil FitsRecord);
  positions = omega (arith, few, ap length none);
}

-- any first part of it
pub part_gives : (log : List (List ℕ)) (document : List ℕ) (k : ℕ) → length document ≡ 16 → length log ≤ MAX_ENTRIES
    → GivesBehind log document (take k (tail_head document)) (log ++ [])
part_gives log document k is few = elim (cases_lt k HEAD_LEN) [
  | inl short ↦ rw append-nil (head_gives log document k is short)
  | inr all ↦
      rw (take_all k (tail_head document) (omega (arith, head_len document is, all)))
      (stands_gives log document (tail_head document) (taken_to [] 0) is (head_stands log document (taken_to [] 0) refl few))
]

-- ---- what is kept of a file that was read

agree_splits : (ahead all : List (List ℕ)) → Agree ahead all → length ahead ≤ length all → all ≡ ahead ++ drop (length ahead) all
agree_splits [] all agree le = refl
agree_splits (a ∷ ahead) [] agree le = absurd (omega (arith, le))
agree_splits (a ∷ ahead) (e ∷ es) agree le =
    ap (λ (x : List ℕ). x ∷ es) (sym agree.0) ∙ ap (λ (l : List (List ℕ)). a ∷ l) (agree_splits ahead es agree.1 (omega (arith, le)))

-- what counts is the tail of what the log lacks, or nothing counts, and the log has all
abbrev pub Counted : List (List ℕ) → List ℕ → List ℕ → TailTaken → Type 0
Counted log document bytes taken =
    ((counting taken ≡ 0) × (taken.entries ≡ [])) ⊎ ((n : ℕ) × (counting taken ≡ suc n) × Stands log document taken (take (counting taken) bytes))

-- the first bytes of a list that begins with these
front_of : (xs rest bytes : List ℕ) (n : ℕ) → bytes ≡ xs ++ rest → length xs ≡ n → take n bytes ≡ xs
front_of xs rest bytes n is len = ap (take n) is ∙ take_at xs rest n len

module _ (log : List (List ℕ)) (document bytes : List ℕ) (is16 : length document ≡ 16) (few : length log ≤ MAX_ENTRIES) (small : length bytes ≤ MAX_FILE) (fits : IsBytes bytes) where
  -- the head counts, and the log has all
  only_head : (rest : List ℕ) (taken : TailTaken) → bytes ≡ tail_head document ++ rest → taken.entries ≡ [] → HEAD_LEN ≤ taken.whole → Counted log document bytes taken
  only_head rest taken is none le =
      let counts : counting taken ≡ suc (HEAD_LEN - 1) = ap (λ (es : List (List ℕ)). counting_of es taken.whole) none ∙ omega (arith, le) in
      let front : take (counting taken) bytes ≡ tail_head document =
      front_of (tail_head document) rest bytes (counting taken) is (head_len document is16 ∙ sym counts) in
      inr (HEAD_LEN - 1, counts, subst (Stands log document taken) (sym front) (head_stands log document taken none few))

  -- records count
  records_count : (first : ℕ) (all : List (List ℕ)) (rest behind : List ℕ) (taken : TailTaken) (e : List ℕ) (es : List (List ℕ)) → bytes ≡ tail_head document ++ behind
      → 1 ≤ first → first ≤ length log + 1 → TakesRecords (drop (first - 1) log) first (record { rest = behind; at = HEAD_LEN }) taken all rest
      → taken.entries ≡ e ∷ es → Counted log document bytes taken
  unfolding tail_bytes
  records_count first all rest behind taken e es is low high t some =
      let from = first - 1 in
      let ahead = drop from log in
      let records = records_bytes first all in
      let place : from + 1 ≡ first = omega (arith, low) in
      let longer : length ahead ≤ length all = omega (arith, ap length (sym t.lacking ∙ some), length-drop (length ahead) all) in
      let split : all ≡ ahead ++ taken.entries = agree_splits ahead all t.agree longer ∙ ap (λ (l : List (List ℕ)). ahead ++ l) (sym t.lacking) in
      let size : length (take from log) ≡ from = omega (arith, length-take from log, high, low) in
      let whole : counting taken ≡ taken.whole = ap (λ (l : List (List ℕ)). counting_of l taken.whole) some in
      let counts : counting taken ≡ suc (HEAD_LEN - 1 + length records) = omega (arith, whole, t.whole) in
      let parts : bytes ≡ (tail_head document ++ records) ++ rest =
      is ∙ ap (λ (l : List ℕ). tail_head document ++ l) t.parts ∙ sym (append_assoc (tail_head document) records rest) in
      let len : length (tail_head document ++ records) ≡ counting taken = omega (arith, length-append (tail_head document) records, head_len document is16, counts) in
      let front : take (counting taken) bytes ≡ tail_head document ++ records = front_of (tail_head document ++ records) rest bytes (counting taken) parts len in
      let count : length all ≤ MAX_FILE =
      omega (arith, small, records_few first all, ap length parts, length-append (tail_head document ++ records) rest, length-append (tail_head document) records) in
      inr (
        HEAD_LEN - 1 + length records,
        counts,
        record {
          before = take from log;
          front = ahead;
          log_is = sym (take-append-drop from log);
          bytes_are =
              front ∙ (λ i. tail_head document ++ records_bytes (sym place i) (split i))
              ∙ ap (λ (n : ℕ). tail_head document ++ records_bytes (n + 1) (ahead ++ taken.entries)) (sym size);
          fit = subst (All FitsRecord) split t.fit;
          positions = omega (arith, size, ap length split, count, high, few);
        },
      )

  -- behind a head
  behind_counts : (behind : List ℕ) (taken : TailTaken) (found : Result (ℕ × Reading) ℕ) → bytes ≡ tail_head document ++ behind
      → records_of log (record { rest = behind; at = HEAD_LEN }) found ≡ Ok taken → Counted log document bytes taken
  behind_counts behind taken (Err at) is e =
      let same : taken_to [] HEAD_LEN ≡ taken = ok_is (taken_to [] HEAD_LEN) taken e in
      only_head behind taken is (ap (λ (t : TailTaken). t.entries) (sym same)) (omega (arith, ap (λ (t : TailTaken). t.whole) same))
  behind_counts behind taken (Ok first) is e = by (leb 1 first.0 && leb first.0 (length log + 1)) refl e
    where
      r : Reading
      r = record { rest = behind; at = HEAD_LEN }

      some : (all : List (List ℕ)) (rest : List ℕ) → 1 ≤ first.0 → first.0 ≤ length log + 1 → TakesRecords (drop (first.0 - 1) log) first.0 r taken all rest
          → (es : List (List ℕ)) → taken.entries ≡ es → Counted log document bytes taken
      some all rest low high t [] none = only_head behind taken is none (omega (arith, t.whole))
      some all rest low high t (x ∷ es) more = records_count first.0 all rest behind taken x es is low high t more

      by : (b : Bool) → (leb 1 first.0 && leb first.0 (length log + 1)) ≡ b
          → cond b (records_behind (length behind) (drop (first.0 - 1) log) first.0 r) (Err (Malformed HEAD_LEN)) ≡ Ok taken → Counted log document bytes taken
      by false not e = absurd cc
      by true holds e =
          let both = and_parts (leb 1 first.0) (leb first.0 (length log + 1)) holds in
          let own : IsBytes behind = subst IsBytes (ap (drop (length (tail_head document))) is ∙ drop_at (tail_head document) behind (length (tail_head document)) refl)
          (IsBytes-drop (length (tail_head document)) bytes fits) in
          let t = records_take (length behind) (drop (first.0 - 1) log) first.0 r taken own e in
          some t.0 t.1 (leb-true 1 first.0 both.0) (leb-true first.0 (length log + 1) both.1) t.2 taken.entries refl

  pub counted : (taken : TailTaken) → tail_behind log document bytes ≡ Ok taken → Counted log document bytes taken
  unfolding tail_behind
  counted taken e = by (starts_with eqb bytes (tail_head document)) (starts_with eqb (tail_head document) bytes) refl e
    where
      answer : Bool → Bool → Result TailTaken TailFault
      answer whole part = cond whole (records_of log (behind_head bytes) (number_at w32 (behind_head bytes))) (cond part (Ok (taken_to [] 0)) (Err (Malformed 0)))

      by : (whole part : Bool) → starts_with eqb bytes (tail_head document) ≡ whole → answer whole part ≡ Ok taken → Counted log document bytes taken
      by true part is e =
          let begins = (starts_is Decides-eqb bytes (tail_head document) (starts_with eqb bytes (tail_head document)) refl).0 is in
          let behind : bytes ≡ tail_head document ++ drop HEAD_LEN bytes =
          begins ∙ ap (λ (n : ℕ). tail_head document ++ drop n bytes) (head_len document is16) in
          behind_counts (drop HEAD_LEN bytes) taken (number_at w32 (behind_head bytes)) behind e
      by false true is e =
          let same : taken_to [] 0 ≡ taken = ok_is (taken_to [] 0) taken e in
          inl (ap counting (sym same), ap (λ (t : TailTaken). t.entries) (sym same))
      by false false is e = absurd cc

  -- ---- settled

  -- what is left of such a file, with a head if nothing counted
  pub kept_stands : (taken : TailTaken) → Counted log document bytes taken → Stands log document taken (take (counting taken) bytes ++ head_behind document (counting taken))
  kept_stands taken (inl (none, all)) =
      rw none (head_stands log document taken all few)
  kept_stands taken (inr (n, some, stands)) =
      let nothing : head_behind document (counting taken) ≡ [] = ap (head_behind document) some in
      subst (Stands log document taken) (sym (ap (λ (l : List ℕ). take (counting taken) bytes ++ l) nothing ∙ append-nil (take (counting taken) bytes))) stands

  -- and before the head is there
  kept_gives : (taken : TailTaken) → Counted log document bytes taken → GivesBehind log document (take (counting taken) bytes) (log ++ taken.entries)
  kept_gives taken (inl (none, all)) =
      rw (none, all) (part_gives log document 0 is16 few)
  kept_gives taken (inr (n, some, stands)) = stands_gives log document (take (counting taken) bytes) taken is16 stands

  module _ {D : Type 0} (file_told : D → AppendTold) where
    pub cut_stays : (taken : TailTaken) (old new : D) → tail_behind log document bytes ≡ Ok taken → AreSynced file_told old bytes
        → FileSteps (use_of file_told old new) (MayBeCut (counting taken)) → StaysFound file_told log document old new
    cut_stays taken old new reads synced crash = step_stays file_told log document old new (MayBeCut (counting taken)) crash by
      where
        by : (before after : List ℕ) → file_images (file_told old) before → (after ≡ before) ⊎ (after ≡ take (counting taken) before) → (entries : List (List ℕ))
            → GivesBehind log document before entries → GivesBehind log document after entries
        by before after there (inl same) entries found = subst (λ (l : List ℕ). GivesBehind log document l entries) (sym same) found
        by before after there (inr cut) entries found =
            let was : before ≡ bytes = synced before there in
            let now : after ≡ take (counting taken) bytes = cut ∙ ap (take (counting taken)) was in
            subst (λ (l : List ℕ). GivesBehind log document l entries) (sym now)
            (gives_more log document bytes (take (counting taken) bytes) taken reads (kept_gives taken (counted taken reads)) entries
            (subst (λ (l : List ℕ). GivesBehind log document l entries) was found))

    pub head_stays : (kept : ℕ) (mid new : D) → AreSynced file_told mid (take kept bytes)
        → FileSteps (use_of file_told mid new) (GrowsBy (head_behind document kept)) → StaysFound file_told log document mid new
    head_stays (suc n) mid new synced crash = step_stays file_told log document mid new (GrowsBy []) crash
        (λ before after there grown entries found.
        let same : after ≡ before = grown.1 ∙ ap (λ (l : List ℕ). before ++ l) (take-nil grown.0) ∙ append-nil before in
        subst (λ (l : List ℕ). GivesBehind log document l entries) (sym same) found)
    head_stays zero mid new synced crash = step_stays file_told log document mid new (GrowsBy (tail_head document)) crash
        (λ before after there grown entries found.
        let was : before ≡ [] = synced before there in
        let now : after ≡ take grown.0 (tail_head document) = grown.1 ∙ ap (λ (l : List ℕ). l ++ take grown.0 (tail_head document)) was in
        let none : tail_behind log document [] ≡ Ok (taken_to [] 0) = head_reads log document 0 is16 (omega arith) in
        subst (λ (l : List ℕ). GivesBehind log document l entries) (sym now)
        (gives_more log document [] (take grown.0 (tail_head document)) (taken_to [] 0) none (part_gives log document grown.0 is16 few) entries
        (subst (λ (l : List ℕ). GivesBehind log document l entries) was found)))

    pub settled : {E : Type 0} (taken : TailTaken) (old mid new : D) (result : Result (Unit {0}) E) → tail_behind log document bytes ≡ Ok taken → AreSynced file_told old bytes
        → (done : Unit {0}) → Cuts file_told {E = E} (counting taken) old mid (Ok done) → Writes file_told (head_behind document (counting taken)) mid new result
        → Settles file_told log document taken old new result
    settled {E = E} taken old mid new result reads synced done cut head =
        let kept = counting taken in
        let middle : AreSynced file_told mid (take kept bytes) = λ image there.
        let was = cut.all image there in
        was.2 ∙ ap (take kept) (synced was.0 was.1) in
        record {
          stays = stays_then file_told log document old mid new (cut_stays taken old mid reads synced cut.step) (head_stays kept mid new middle head.step);
          opens = open_by result middle head.all;
        }
      where
        open_by : (r : Result (Unit {0}) E) → AreSynced file_told mid (take (counting taken) bytes)
            → OnOk r ((image : List ℕ) → file_images (file_told new) image → (before : List ℕ) × file_images (file_told mid) before × (image ≡ before ++ head_behind document (counting taken)))
            → OnOk r (OpensBehind file_told log (tail_on new document) (log ++ taken.entries))
        open_by (Ok u) middle all =
            let last = take (counting taken) bytes ++ head_behind document (counting taken) in
            let synced : AreSynced file_told new last = λ image there.
            let was = all image there in
            was.2 ∙ ap (λ (l : List ℕ). l ++ head_behind document (counting taken)) (middle was.0 was.1) in
            stands_opens file_told new log document last taken synced (kept_stands taken (counted taken reads))
        open_by (Err e) middle all = tt

    pub uncut : {E : Type 0} (taken : TailTaken) (old new : D) (e : E) → tail_behind log document bytes ≡ Ok taken → AreSynced file_told old bytes
        → Cuts file_told (counting taken) old new (Err e) → Settles file_told log document taken old new (Err e)
    uncut taken old new e reads synced cut = record { stays = cut_stays taken old new reads synced cut.step; opens = tt }

-- what is known of any log and bytes, at those that were read
pub settles_with : {D E : Type 0} (file_told : D → AppendTold) (log : List (List ℕ)) (document own bytes read : List ℕ) (taken : TailTaken) (mid new : D)
    (result : Result (Unit {0}) E) → own ≡ document → read ≡ bytes → tail_behind log document read ≡ Ok taken → IsBytes read → length bytes ≤ MAX_FILE → length log ≤ MAX_ENTRIES
    → AreSynced file_told mid bytes
    → ((log : List (List ℕ)) (bytes : List ℕ) → IsBytes bytes → length bytes ≤ MAX_FILE → length log ≤ MAX_ENTRIES → AreSynced file_told mid bytes
    → tail_behind log own bytes ≡ Ok taken → Settles file_told log own taken mid new result)
    → Settles file_told log document taken mid new result
settles_with file_told log document own bytes read taken mid new result same is reads fits small few synced settles =
    subst (λ (d : List ℕ). Settles file_told log d taken mid new result) same
    (settles log bytes (subst IsBytes is fits) small few synced (ap (λ (d : List ℕ). tail_behind log d bytes) same ∙ ap (tail_behind log document) (sym is) ∙ reads))
