use Rattle.std.proofs.Common.{◌≡◌, ℕ, List, [], ◌∷◌, Option, Ok, Err}
use Rattle.sporc_session.proofs.Common.{Result, ⊤, Known, known_of, Accept, Item, Happened, Past, key_at, SessionFault, KnowsMore, TookOne}
use Rattle.sporc_session.proofs.Knowing.{knows_then}
use Rattle.sporc_session.proofs.Taking.{took_none}
use Rattle.sporc_session.proofs.Telling.{told, told_knows, was_told, worn_is, worn_knows, worn_read}
use Rattle.sporc_session.proofs.receiver.take_one.Goals as goal

-- the key was asked for, and then the entry was taken
took_then : (k k1 k' : Known Item) (at : ℕ) (entry : List ℕ) (result : Result ⊤ SessionFault) → KnowsMore k k1 [] → TookOne k1 k' at entry result → TookOne k k' at entry result
took_then k k1 k' at entry (Ok x) knows t = (knows_then k k1 k' [] (Happened (Accept 0 entry) ∷ []) knows t.0, t.1)
took_then k k1 k' at entry (Err fault) knows t = (knows_then k k1 k' [] [] knows t.0, t.1)

pub returns-in-Ok-clause-took : goal.returns-in-Ok-clause-took
returns-in-Ok-clause-took g c =
    let P : Past → Option (List ℕ) → Type 0 = λ before key. key ≡ key_at before c.as_slice.result.now in
    took_then (known_of c.args.pass) (known_of c.plain-answer.result.1) (known_of c.take_under.result.1) c.args.at c.args.entry c.take_under.result.0
    (told_knows (was_told c.in-Ok.is (told P c.key_for.result c.plain-answer.ensures c.key_for.ensures.call c.key_for.ensures.worn))) c.take_under.ensures.took

pub returns-in-Err-clause-took : goal.returns-in-Err-clause-took
returns-in-Err-clause-took g c =
    let P : Past → Option (List ℕ) → Type 0 = λ before key. key ≡ key_at before c.as_slice.result.now in
    let key = told P c.key_for.result c.plain-answer.ensures c.key_for.ensures.call c.key_for.ensures.worn in
    took_none (known_of c.args.pass) (known_of c.plain-answer.result.1) c.args.at c.args.entry c.in-Err.fault (worn_knows c.in-Err.is key) (worn_is c.in-Err.is key)

pub returns-in-Err-clause-read : goal.returns-in-Err-clause-read
returns-in-Err-clause-read g c =
    let P : Past → Option (List ℕ) → Type 0 = λ before key. key ≡ key_at before c.as_slice.result.now in
    worn_read c.in-Err.is (told P c.key_for.result c.plain-answer.ensures c.key_for.ensures.call c.key_for.ensures.worn)
