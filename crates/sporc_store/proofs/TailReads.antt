-- A tail that was written is read again behind a log, also where its last record is cut.
use Rattle.std.proofs.Common.{◌≡◌, ℕ, ◌+◌, ◌-◌, ◌^◌, ◌<◌, ◌≤◌, ◌⊎◌, inl, inr, true, false, leb, eqb, List, [], ◌∷◌, ◌++◌, length, take, drop, Ok, refl, sym, ap, ◌∙◌, subst, arith, append-nil, append_assoc}
use Rattle.sporc_store.proofs.Common.{le-leb, cases_lt, Decides-eqb, length-append, length-take, take_all, take_at, drop_at, take-append-drop, All-append, All-cons, All-nil, starts_is}
use Rattle.sporc_store.proofs.Common.{take-append-add, All, starts_with, w32, to_be_bytes, number_at, u32_again, HEAD_LEN, IsPrefix, Agree, FitsRecord, GivesBehind, IsTail, Recovers}
use Rattle.sporc_store.proofs.Common.{record_bytes, records_bytes, records_of, tail_head, taken_to, Between, drop-nil}
use Rattle.std.proofs.lemmas.Bool.{false_from_ne_true}
use Rattle.sporc_store.specs.TailBytes.{tail_behind, tail_bytes}
use Rattle.sporc_store.proofs.TailRecords.{number_short, reading, record_len, records_again, records_and, records_few, records_more}

pub head_len : (document : List ℕ) → length document ≡ 16 → length (tail_head document) ≡ HEAD_LEN
head_len document is = omega (arith, is)

begins : (xs rest : List ℕ) → starts_with eqb (xs ++ rest) xs ≡ true
begins xs rest = (starts_is Decides-eqb (xs ++ rest) xs (starts_with eqb (xs ++ rest) xs) refl).1 rest refl

-- records of entries and a prefix of the next one begin with their first position, unless they end before it does
first_number : (position : ℕ) (all : List (List ℕ)) (next : List ℕ) (k : ℕ)
    → ((length (records_and position all next k) < 4) × (all ≡ [])) ⊎ ((rest : List ℕ) × (records_and position all next k ≡ to_be_bytes w32 position ++ rest))
first_number position (e ∷ es) next k =
    let more = take k (record_bytes (position + length (e ∷ es)) next) in
    let entry = to_be_bytes w32 (length e) ++ e in
    inr (
      entry ++ (records_bytes (position + 1) es ++ more),
      append_assoc (record_bytes position e) (records_bytes (position + 1) es) more
          ∙ append_assoc (to_be_bytes w32 position) entry (records_bytes (position + 1) es ++ more),
    )
first_number position [] next k =
    let same : position + 0 ≡ position = omega arith in
    elim (cases_lt k 4) [
      | inl few ↦ inl (omega (arith, length-take k (record_bytes (position + 0) next), few), refl)
      | inr four ↦
          let entry = to_be_bytes w32 (length next) ++ next in
          let split : k ≡ 4 + (k - 4) = omega (arith, four) in
          inr (
            take (k - 4) entry,
            ap (λ (n : ℕ). take k (record_bytes n next)) same ∙ ap (λ (n : ℕ). take n (record_bytes position next)) split
                ∙ take-append-add (to_be_bytes w32 position) entry (k - 4),
          )
    ]

-- what is behind the head
records_found : (log all : List (List ℕ)) (from : ℕ) (next : List ℕ) (k : ℕ) → from ≤ length log → Agree (drop from log) all → All FitsRecord all → FitsRecord next
    → from + length all + 1 < 2 ^ 32 → k < length (record_bytes (from + 1 + length all) next)
    → records_of log (reading (records_and (from + 1) all next k) HEAD_LEN) (number_at w32 (reading (records_and (from + 1) all next k) HEAD_LEN))
    ≡ Ok (taken_to (drop (length (drop from log)) all) (HEAD_LEN + length (records_bytes (from + 1) all)))
records_found log all from next k within agree fit next_fits below short =
    let bytes = records_and (from + 1) all next k in
    elim (first_number (from + 1) all next k) [
      | inl few ↦
          rw (number_short bytes HEAD_LEN few.0) (
          ap (λ (l : List (List ℕ)). Ok (taken_to l HEAD_LEN)) (sym (drop-nil (length (drop from log))))
          ∙ ap (λ (l : List (List ℕ)). Ok (taken_to (drop (length (drop from log)) l) (HEAD_LEN + length (records_bytes (from + 1) l)))) (sym few.1)
          )
      | inr first ↦
          let size : length all ≤ length bytes = omega (arith, records_few (from + 1) all, length-append (records_bytes (from + 1) all) (take k (record_bytes (from + 1 + length all) next))) in
          let number : number_at w32 (reading bytes HEAD_LEN) ≡ Ok (from + 1, reading first.0 (HEAD_LEN + 4)) =
          ap (λ (bs : List ℕ). number_at w32 (reading bs HEAD_LEN)) first.1 ∙ u32_again (from + 1) HEAD_LEN first.0 (omega (arith, below)) in
          let back : from + 1 - 1 ≡ from = omega arith in
          rw (number, le-leb 1 (from + 1) (omega arith), le-leb (from + 1) (length log + 1) (omega (arith, within)), back)
          (records_again all (drop from log) (length bytes) (from + 1) HEAD_LEN next k agree fit next_fits (omega (arith, below)) short size)
    ]

pub tail_again : (log all : List (List ℕ)) (document : List ℕ) (from : ℕ) (next : List ℕ) (k : ℕ) → length document ≡ 16 → from ≤ length log
    → Agree (drop from log) all → All FitsRecord all → FitsRecord next → from + length all + 1 < 2 ^ 32 → k < length (record_bytes (from + length all + 1) next)
    → tail_behind log document (tail_bytes document from all ++ take k (record_bytes (from + length all + 1) next))
    ≡ Ok (taken_to (drop (length (drop from log)) all) (length (tail_bytes document from all)))
unfolding tail_behind tail_bytes
tail_again log all document from next k is within agree fit next_fits below short =
    let place : from + length all + 1 ≡ from + 1 + length all = omega arith in
    let short' : k < length (record_bytes (from + 1 + length all) next) = subst (λ (p : ℕ). k < length (record_bytes p next)) place short in
    let bytes = records_and (from + 1) all next k in
    let grouped : (tail_head document ++ records_bytes (from + 1) all) ++ take k (record_bytes (from + length all + 1) next) ≡ tail_head document ++ bytes =
    append_assoc (tail_head document) (records_bytes (from + 1) all) (take k (record_bytes (from + length all + 1) next))
    ∙ ap (λ (p : ℕ). tail_head document ++ (records_bytes (from + 1) all ++ take k (record_bytes p next))) place in
    let size : HEAD_LEN + length (records_bytes (from + 1) all) ≡ length (tail_head document ++ records_bytes (from + 1) all) =
    omega (arith, length-append (tail_head document) (records_bytes (from + 1) all), head_len document is) in
    ap (tail_behind log document) grouped
    ∙ rw (begins (tail_head document) bytes, drop_at (tail_head document) bytes HEAD_LEN (head_len document is))
    (records_found log all from next k within agree fit next_fits below short'
    ∙ ap (λ (w : ℕ). Ok (taken_to (drop (length (drop from log)) all) w)) size)

-- ---- what is found again

-- what a list begins with agrees with it
pub prefix_agrees : (front more : List (List ℕ)) → Agree front (front ++ more)
prefix_agrees [] more = tt
prefix_agrees (e ∷ es) more = (refl, prefix_agrees es more)

pub is_prefix : (es more : List (List ℕ)) → IsPrefix es (es ++ more)
is_prefix es more = sym (take_at es more (length es) refl)

pub prefix_same : (es : List (List ℕ)) → IsPrefix es es
prefix_same es = sym (take_all (length es) es (omega arith))

-- of bytes that give these entries
pub at_least : (log entries all : List (List ℕ)) (document bytes : List ℕ) → GivesBehind log document bytes all → IsPrefix entries all → Recovers log document bytes entries
at_least log entries all document bytes found prefix = record {
  taken = found.taken;
  reads = found.reads;
  all = subst (IsPrefix entries) (sym found.all) prefix;
}

gives_short : (log before behind front more : List (List ℕ)) (document next : List ℕ) (kept : ℕ) (image : List ℕ) → length document ≡ 16
    → Between log before behind front more → image ≡ tail_bytes document (length before) behind ++ take kept (record_bytes (length before + length behind + 1) next)
    → All FitsRecord behind → FitsRecord next → length before + length behind + 1 < 2 ^ 32
    → kept < length (record_bytes (length before + length behind + 1) next) → GivesBehind log document image (before ++ behind)
gives_short log before behind front more document next kept image is b bytes fit next_fits below short =
    let from = length before in
    let rest : drop from log ≡ front = ap (drop from) b.log_is ∙ drop_at before front from refl in
    let within : from ≤ length log = omega (arith, ap length b.log_is, length-append before front) in
    let agree : Agree (drop from log) behind = subst (λ (l : List (List ℕ)). Agree l behind) (sym rest) (subst (Agree front) (sym b.behind_is) (prefix_agrees front more)) in
    let lacking : drop (length (drop from log)) behind ≡ more =
    ap (λ (l : List (List ℕ)). drop (length l) behind) rest ∙ ap (drop (length front)) b.behind_is ∙ drop_at front more (length front) refl in
    let read = ap (tail_behind log document) bytes ∙ tail_again log behind document from next kept is within agree fit next_fits below short in
    let all : log ++ more ≡ before ++ behind =
    ap (λ (l : List (List ℕ)). l ++ more) b.log_is ∙ append_assoc before front more ∙ ap (λ (l : List (List ℕ)). before ++ l) (sym b.behind_is) in
    record {
      taken = taken_to (drop (length (drop from log)) behind) (length (tail_bytes document from behind));
      reads = read;
      all = ap (λ (l : List (List ℕ)). log ++ l) lacking ∙ all;
    }

-- a record that is whole is one entry more
pub tail_more : (document : List ℕ) (from : ℕ) (entries : List (List ℕ)) (next : List ℕ)
    → tail_bytes document from (entries ++ next ∷ []) ≡ tail_bytes document from entries ++ record_bytes (from + length entries + 1) next
unfolding tail_bytes
tail_more document from entries next =
    let place : from + 1 + length entries ≡ from + length entries + 1 = omega arith in
    ap (λ (l : List ℕ). tail_head document ++ l) (records_more (from + 1) entries next)
    ∙ sym (append_assoc (tail_head document) (records_bytes (from + 1) entries) (record_bytes (from + 1 + length entries) next))
    ∙ ap (λ (p : ℕ). (tail_head document ++ records_bytes (from + 1) entries) ++ record_bytes p next) place

-- they give what the tail is of, and the next entry as well if its record is whole
pub gives : (log before behind front more : List (List ℕ)) (document next : List ℕ) (kept : ℕ) (image : List ℕ) → length document ≡ 16
    → Between log before behind front more → IsTail document (length before) behind next kept image
    → GivesBehind log document image (before ++ behind) ⊎ ((0 < kept) × GivesBehind log document image ((before ++ behind) ++ next ∷ []))
gives log before behind front more document next kept image is b t =
    let from = length before in
    elim (cases_lt kept (length (record_bytes (length before + length behind + 1) next))) [
      | inl short ↦ inl (gives_short log before behind front more document next kept image is b t.bytes_are t.fit t.next_fits (omega (arith, t.positions)) short)
      | inr whole ↦
          let all = behind ++ next ∷ [] in
          let size : length all ≡ length behind + 1 = length-append behind (next ∷ []) in
          let bytes : image ≡ tail_bytes document from all ++ take 0 (record_bytes (from + length all + 1) []) =
          t.bytes_are ∙ ap (λ (l : List ℕ). tail_bytes document from behind ++ l) (take_all kept (record_bytes (from + length behind + 1) next) whole)
          ∙ sym (tail_more document from behind next) ∙ sym (append-nil (tail_bytes document from all)) in
          let fit : All FitsRecord all = All-append FitsRecord behind (next ∷ []) t.fit (All-cons FitsRecord next [] t.next_fits (All-nil FitsRecord)) in
          let between : Between log before all front (more ++ next ∷ []) = record {
            log_is = b.log_is;
            behind_is = ap (λ (l : List (List ℕ)). l ++ next ∷ []) b.behind_is ∙ append_assoc front more (next ∷ []);
          } in
          let found = gives_short log before all front (more ++ next ∷ []) document [] 0 image is between bytes fit (omega arith) (omega (arith, t.positions, size))
          (omega (arith, record_len (from + length all + 1) [])) in
          let longer : before ++ all ≡ (before ++ behind) ++ next ∷ [] = sym (append_assoc before behind (next ∷ [])) in
          inr (omega (arith, whole, record_len (from + length behind + 1) next), subst (GivesBehind log document image) longer found)
    ]

-- a tail with nothing behind it
pub gives_whole : (log before behind front more : List (List ℕ)) (document image : List ℕ) → length document ≡ 16
    → Between log before behind front more → IsTail document (length before) behind [] 0 image → GivesBehind log document image (before ++ behind)
gives_whole log before behind front more document image is b t =
    gives_short log before behind front more document [] 0 image is b t.bytes_are t.fit t.next_fits (omega (arith, t.positions))
    (omega (arith, record_len (length before + length behind + 1) []))

pub recovers : (log before behind front more : List (List ℕ)) (document next : List ℕ) (kept : ℕ) (image : List ℕ) → length document ≡ 16
    → Between log before behind front more → IsTail document (length before) behind next kept image → Recovers log document image (before ++ behind)
recovers log before behind front more document next kept image is b t = elim (gives log before behind front more document next kept image is b t) [
  | inl found ↦ at_least log (before ++ behind) (before ++ behind) document image found (prefix_same (before ++ behind))
  | inr (some, found) ↦ at_least log (before ++ behind) ((before ++ behind) ++ next ∷ []) document image found (is_prefix (before ++ behind) (next ∷ []))
]

-- ---- a head that is cut

no_start : (xs head : List ℕ) → length xs < length head → starts_with eqb xs head ≡ false
no_start xs head short = false_from_ne_true (starts_with eqb xs head) (λ is.
    let parts = (starts_is Decides-eqb xs head (starts_with eqb xs head) refl).0 is in
    omega (arith, short, ap length parts, length-append head (drop (length head) xs)))

pub head_reads : (log : List (List ℕ)) (document : List ℕ) (k : ℕ) → length document ≡ 16 → k < HEAD_LEN
    → tail_behind log document (take k (tail_head document)) ≡ Ok (taken_to [] 0)
unfolding tail_behind
head_reads log document k is short =
    let head = tail_head document in
    let part = take k head in
    let size : length part < length head = omega (arith, length-take k head, head_len document is, short) in
    rw (no_start part head size, ap (λ (l : List ℕ). starts_with eqb l part) (sym (take-append-drop k head)) ∙ begins part (drop k head)) refl

pub head_gives : (log : List (List ℕ)) (document : List ℕ) (k : ℕ) → length document ≡ 16 → k < HEAD_LEN → GivesBehind log document (take k (tail_head document)) log
head_gives log document k is short = record { taken = taken_to [] 0; reads = head_reads log document k is short; all = append-nil log }
