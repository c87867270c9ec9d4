-- Answers of one step behind another.
use Rattle.std.proofs.Common.{◌≡◌, ℕ, ◌≤◌, Result, Ok, Err, ap, arith}
use Rattle.sporc_files.proofs.Common.{Rose, Fault, AnswersUnlessOutside}
use Rattle.sporc_bytes.specs.Fields.{◌>>=◌}
use Rattle.sporc_files.specs.declared.fault.Fault.TheVariants as faults

-- a fault of what comes first is one of what comes behind it
pub fails_first : {X Y A B : Type 0} (one : X → A) (other : Y → B) (Failed : Type 0) (fault : Fault) (r : Result A Fault) (k : A → Result B Fault) → AnswersUnlessOutside one Failed (Err fault) r
    → AnswersUnlessOutside other Failed (Err fault) (r >>= k)
fails_first one other Failed faults.Memory r k why = tt
fails_first one other Failed faults.Outside r k why = why
fails_first one other Failed fault r k why = ap (λ s. s >>= k) why

-- what may fail in more ways, or over a longer time, tells the same
pub tells_as : {X Y : Type 0} (view : X → Y) (P Q : Type 0) (r : Result X Fault) (s : Result Y Fault) → (P → Q) → AnswersUnlessOutside view P r s → AnswersUnlessOutside view Q r s
tells_as view P Q (Ok x) s then told = told
tells_as view P Q (Err faults.Memory) s then told = tt
tells_as view P Q (Err faults.Outside) s then told = then told
tells_as view P Q (Err fault) s then told = told

-- a value that no outside is asked for
pub tells_alone : {X Y : Type 0} (view : X → Y) (P : Type 0) (r : Result X Fault) (s : Result Y Fault) → AnswersUnlessOutside view ⊥ r s → AnswersUnlessOutside view P r s
tells_alone view P r s told = tells_as view ⊥ P r s (λ no. absurd no) told

-- out of memory tells nothing
pub tells_memory : {X Y : Type 0} (view : X → Y) (P : Type 0) (r : Result X Fault) (s : Result Y Fault) → r ≡ Err faults.Memory → AnswersUnlessOutside view P r s
tells_memory view P r s is = rw is tt

-- a count that rose later rose
pub tells_later : {X Y : Type 0} (view : X → Y) (before mid after : ℕ) (r : Result X Fault) (s : Result Y Fault) → before ≤ mid → AnswersUnlessOutside view (Rose mid after) r s → AnswersUnlessOutside view (Rose before after) r s
tells_later view before mid after r s le told = tells_as view (Rose mid after) (Rose before after) r s (λ rose. omega (arith, le, rose)) told

-- what is answered behind a value
pub tells_behind : {A X Y : Type 0} (view : X → Y) (Failed : Type 0) (r : Result X Fault) (first : Result A Fault) (a : A) (k : A → Result Y Fault) → first ≡ Ok a → AnswersUnlessOutside view Failed r (k a)
    → AnswersUnlessOutside view Failed r (first >>= k)
tells_behind view Failed r first a k is told = rw is told
