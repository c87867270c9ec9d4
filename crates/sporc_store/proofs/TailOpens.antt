-- What is read of a tail's file and taken behind an order's entries, and why it is not.
use Rattle.std.proofs.Common.{◌≡◌, ℕ, zero, suc, ◌+◌, ◌<◌, List, [], ◌∷◌, ◌++◌, length, Option, Some, None, Result, Ok, Err, refl, sym, ap, ◌∙◌, subst, arith, append-nil, length-append}
use Rattle.sporc_store.proofs.Common.{IfSome, IsSome, OnErr, take_all, AppendTold, IsWholeFault, file_images, MAX_FILE, Stop, End, RefusedAt, TailFault, AppendsPart, Checker}
use Rattle.sporc_store.proofs.Common.{accepted_behind, accepted_from, Taken, read_to, GivesBehind, AreSynced, IsFaultOf, IsRefusal, StaysFound, TellsStill}
use Rattle.sporc_outside.specs.declared.file_fault.FileFault.TheVariants as files
use Rattle.sporc_store.specs.declared.tail_fault.TailFault.TheVariants.{TooLong}
use Rattle.sporc_store.specs.TailReadings.{AreTold, IsReadingFault, StaysTold}
use Rattle.sporc_store.proofs.Prefixes.{is_longest}
use Rattle.sporc_store.proofs.Taking.{ends_empty}

-- ---- entries that are taken

pub parts_end : (checker : Checker) (before part after : List (List ℕ)) → AppendsPart checker before part None after → accepted_from checker before part End ≡ read_to after End
parts_end checker before part after a =
    ap (λ (l : List (List ℕ)). accepted_from checker before l End) (sym (append-nil part)) ∙ a.taken [] End ∙ sym (ends_empty checker after [] End refl)

pub takes_all : (checker : Checker) (before part after : List (List ℕ)) → AppendsPart checker before part None after → after ≡ before ++ part
takes_all checker before part after a =
    let behind = accepted_behind checker before part End in
    let whole : before ++ behind.entries ≡ after = ap (λ (t : Taken). t.entries) (parts_end checker before part after a) in
    let size : length behind.entries ≡ length part = omega (arith, ap length whole, length-append before behind.entries, a.count) in
    let all : behind.entries ≡ part = (is_longest checker before part End).prefix ∙ take_all (length behind.entries) part (omega (arith, size)) in
    sym whole ∙ ap (λ (l : List (List ℕ)). before ++ l) all

pub refused_at : (checker : Checker) (before part after : List (List ℕ)) (refused : Option Stop) (stop : Stop) (fault : TailFault) → refused ≡ Some stop
    → AppendsPart checker before part refused after → IsFaultOf stop fault → IsRefusal (accepted_from checker before part End) fault
refused_at checker before part after refused (RefusedAt position refusal) fault is a same =
    let stopped : (accepted_from checker before part End).stop ≡ RefusedAt position refusal =
    ap (λ (l : List (List ℕ)). (accepted_from checker before l End).stop) (sym (append-nil part))
    ∙ ap (λ (t : Taken). t.stop) ((subst (λ (r : Option Stop). AppendsPart checker before part r after) is a).taken [] End) in
    subst (IsRefusal (accepted_from checker before part End)) (sym same) stopped
refused_at checker before part after refused stop fault is a same = absurd same

-- ---- faults

some_long : (n : ℕ) → (bytes : List ℕ) × (n < length bytes)
some_long zero = (0 ∷ [], omega arith)
some_long (suc n) =
    let shorter = some_long n in
    (0 ∷ shorter.0, omega (arith, shorter.1))

pub too_long : (stored : Option (List ℕ)) (before after len : ℕ) → IsWholeFault stored before after (files.TooLong len) → IsReadingFault stored before after (TooLong len)
too_long None before after len h = let long = some_long MAX_FILE in (long.0, tt, long.1)
too_long (Some bytes) before after len h = (bytes, refl, omega (arith, h.0, h.1))

-- ---- what is told

pub told_still : {D : Type 0} (file_told : D → AppendTold)
    (is_image : (file : D) → IfSome (file_told file).stored (file_images (file_told file))) (log : List (List ℕ)) (document bytes : List ℕ) (old new : D) (first : Option (List ℕ))
    → (file_told old).stored ≡ first → AreTold first bytes → AreSynced file_told old bytes → TellsStill (file_told old).stored (file_told new).stored → StaysFound file_told log document old new
    → StaysTold log document first (file_told new).stored
told_still file_told is_image log document bytes old new None is told synced still stays = tt
told_still file_told is_image log document bytes old new (Some first) is told synced still stays =
    by (file_told new).stored refl (subst (λ (o : Option (List ℕ)). TellsStill o (file_told new).stored) is still refl)
  where
    by : (o : Option (List ℕ)) → (file_told new).stored ≡ o → IsSome (file_told new).stored → StaysTold log document (Some first) o
    by None none some = let clash : IsSome {T = List ℕ} None = subst IsSome none some in absurd cc
    by (Some last) there some = λ entries found.
        let here : file_images (file_told new) last = subst (λ (o : Option (List ℕ)). IfSome o (file_images (file_told new))) there (is_image new) in
        let was = stays.during (file_told new).moment last stays.later (omega arith) here in
        was.2 entries (subst (λ (l : List ℕ). GivesBehind log document l entries) (told ∙ sym (synced was.0 was.1)) found)

pub on_err : {T E : Type 0} {P : Type 0} (r : Result T E) → P → OnErr r P
on_err (Ok x) p = tt
on_err (Err e) p = p
