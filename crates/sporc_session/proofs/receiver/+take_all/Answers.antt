use Rattle.std.proofs.Common.{ℕ, List, ◌∷◌, Vec, Global, ap, map, sym, ◌∙◌}
use Rattle.sporc_session.proofs.Common.{into_iter_items, known_of}
use Rattle.sporc_session.proofs.Taking.{took_first, took_rest}
use Rattle.sporc_session.proofs.Wearing.{worn_at}
use Rattle.sporc_session.proofs.receiver.+take_all.Goals as goal

abbrev bytes_of : List (Vec ℕ Global) → List (List ℕ)
bytes_of entries = map (λ v. v.items) entries

pub returns-in-Ok-clause-took : goal.returns-in-Ok-clause-took
returns-in-Ok-clause-took g c' c =
    let rest = bytes_of (into_iter_items c.next.new.self) in
    took_rest (known_of c.args.pass) (known_of c.take_one-one.result.1) (known_of c.take_all.result.1) c.args.at (bytes_of (into_iter_items c.args.entries)) c.new.result rest c.in-Ok.field-0 c.take_one-one.result.0 c.take_all.result.0
    c.in-Ok.is (ap bytes_of c.in-Some.ensures.items ∙ ap (λ (e : List ℕ). e ∷ rest) (sym c.new.ensures.value)) c.take_one-one.ensures.took c.take_all.ensures.took

pub returns-in-Err-clause-took : goal.returns-in-Err-clause-took
returns-in-Err-clause-took g c' c =
    let rest = bytes_of (into_iter_items c.next.new.self) in
    took_first (known_of c.args.pass) (known_of c.take_one-one.result.1) c.args.at (bytes_of (into_iter_items c.args.entries)) c.new.result rest c.in-Err.fault c.take_one-one.result.0
    c.in-Err.is (ap bytes_of c.in-Some.ensures.items ∙ ap (λ (e : List ℕ). e ∷ rest) (sym c.new.ensures.value)) c.take_one-one.ensures.took

pub returns-in-Err-clause-read : goal.returns-in-Err-clause-read
returns-in-Err-clause-read g c' c =
    worn_at c.take_one-one.result.1 c.take_one-one.result.0 c.in-Err.fault c.in-Err.is c.take_one-one.ensures.read
