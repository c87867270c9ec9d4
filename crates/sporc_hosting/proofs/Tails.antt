-- What the tail of a log keeps, and what its bytes give.
use Rattle.std.proofs.Common.{◌≡◌, ◌≤◌, ℕ, ◌+◌, List, [], ◌∷◌, ◌++◌, length, take, drop, Option, None, Some, Result, Ok, Err, OnOk, OnErr, refl, sym, ap, ◌∙◌, subst, arith, append_assoc}
use Rattle.sporc_hosting.proofs.Common.{IfSome, append_cancel_left, length-append, take-append-drop, take_at, AppendTold, file_images, IsPrefix, GivesAll, KeepsBehind, KeepsLast, LogTailModel}
use Rattle.sporc_hosting.proofs.Common.{take-take}
use Rattle.sporc_order.specs.declared.tail.Unkept.{Unkept}
use Rattle.sporc_store.specs.TailBytes.{IsTail, Recovers}
use Rattle.sporc_store.specs.TailFiles.{Between, Keeps, OpensBehind, Puts, TailFileModel}
use Rattle.sporc_store.proofs.TailReads.{recovers}

-- ---- an entry is put

module _ {D : Type 0} (file_told : D → AppendTold) (old new : LogTailModel D) (position : ℕ) (entry : List ℕ)
    (document : new.document ≡ old.document) (logged : new.logged ≡ old.logged) where
  -- what was kept is kept by the same tail, with other entries behind the first few
  keeps_on : (entries more before behind : List (List ℕ)) (result : Result (Unit {0}) Unkept) → Puts file_told old.tail position entry result new.tail
      → KeepsLast file_told old entries before behind → (all : List (List ℕ)) → Keeps file_told new.tail more before all → KeepsBehind file_told new more
  keeps_on entries more before behind result puts last all keeps = (
    before,
    all,
    record {
      document = puts.document ∙ last.document ∙ sym document;
      logged = subst (λ (n : ℕ). length before ≤ n) (sym logged) last.logged;
      keeps = keeps;
    },
  )

  pub put_keeps : (result : Result (Unit {0}) Unkept) → Puts file_told old.tail position entry result new.tail
      → OnOk result ((entries : List (List ℕ)) → KeepsBehind file_told old entries → position ≡ length entries + 1 → KeepsBehind file_told new (entries ++ entry ∷ []))
  put_keeps (Ok done) puts = λ entries kept at.
      keeps_on entries (entries ++ entry ∷ []) kept.0 kept.1 (Ok done) puts kept.2 (kept.1 ++ entry ∷ []) (puts.ok entries kept.0 kept.1 kept.2.keeps at)
  put_keeps (Err e) puts = tt

  pub put_leaves : (result : Result (Unit {0}) Unkept) → Puts file_told old.tail position entry result new.tail
      → OnErr result ((entries : List (List ℕ)) → KeepsBehind file_told old entries → position ≡ length entries + 1 → KeepsBehind file_told new entries)
  put_leaves (Ok done) puts = tt
  put_leaves (Err e) puts = λ entries kept at. keeps_on entries entries kept.0 kept.1 (Err e) puts kept.2 kept.1 (puts.err entries kept.0 kept.1 kept.2.keeps at)

-- ---- a tail that was opened

pub opened_keeps : {D : Type 0} (file_told : D → AppendTold) (t : TailFileModel D) (document : List ℕ) (logged : ℕ) (log entries : List (List ℕ))
    → t.document ≡ document → logged ≡ length log → OpensBehind file_told log t entries
    → KeepsBehind file_told (record { tail = t; document = document; logged = logged }) entries
opened_keeps file_told t document logged log entries same len (before, behind, front, more, keeps, between) = (
  before,
  behind,
  record {
    document = same;
    logged = omega (arith, len, ap length between.log_is, length-append before front);
    keeps = keeps;
  },
)

-- ---- what its bytes give

-- of two prefixes of a list, the shorter one is a prefix of the longer
prefix_parts : (before behind log entries : List (List ℕ)) → entries ≡ before ++ behind → IsPrefix log entries → length before ≤ length log
    → (front : List (List ℕ)) × (more : List (List ℕ)) × Between log before behind front more
prefix_parts before behind log entries parts prefix within =
    let n = length before in
    let front = drop n log in
    let start : take n log ≡ before =
    ap (take n) prefix ∙ take-take n (length log) entries within ∙ ap (take n) parts ∙ take_at before behind n refl in
    let log_is : log ≡ before ++ front = sym (take-append-drop n log) ∙ ap (λ (l : List (List ℕ)). l ++ front) start in
    let more = drop (length log) entries in
    let whole : log ++ more ≡ entries = ap (λ (l : List (List ℕ)). l ++ more) prefix ∙ take-append-drop (length log) entries in
    let joined : before ++ (front ++ more) ≡ before ++ behind =
    sym (append_assoc before front more) ∙ ap (λ (l : List (List ℕ)). l ++ more) (sym log_is) ∙ whole ∙ parts in
    (front, more, record { log_is = log_is; behind_is = sym (append_cancel_left before (front ++ more) behind joined) })

pub gives_all : {D : Type 0} (file_told : D → AppendTold) (t : LogTailModel D) (document : List ℕ) (logged : ℕ)
    (entries : List (List ℕ)) → IfSome (file_told t.tail.file).stored (file_images (file_told t.tail.file)) → length document ≡ 16 → t.document ≡ document → t.logged ≤ logged
    → KeepsBehind file_told t entries → IfSome (file_told t.tail.file).stored (λ bytes. GivesAll logged document bytes entries)
gives_all file_told t document logged entries is_image is16 own within (before, behind, last) = by (file_told t.tail.file).stored is_image
  where
    by : (o : Option (List ℕ)) → IfSome o (file_images (file_told t.tail.file)) → IfSome o (λ bytes. GivesAll logged document bytes entries)
    by None image = tt
    by (Some bytes) image = λ log enough prefix.
        let tail = last.keeps.holds bytes image in
        let same : t.tail.document ≡ document = last.document ∙ own in
        let own_tail : IsTail document (length before) behind tail.0 tail.1 bytes =
        subst (λ (d : List ℕ). IsTail d (length before) behind tail.0 tail.1 bytes) same tail.2 in
        let parts = prefix_parts before behind log entries last.keeps.parts prefix (omega (arith, last.logged, within, enough)) in
        subst (Recovers log document bytes) (sym last.keeps.parts) (recovers log before behind parts.0 parts.1 document tail.0 tail.1 bytes is16 parts.2 own_tail)
