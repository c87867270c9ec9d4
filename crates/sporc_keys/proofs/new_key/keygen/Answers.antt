use Rattle.std.proofs.Common.{◌≡◌, ℕ, List, [], ◌∷◌, length, ap, ◌∙◌, arith}
use Rattle.sporc_keys.proofs.Common.{err_from_is_err_and}
use Rattle.sporc_keys.specs.NewKey.{made_of}
use Rattle.sporc_keys.proofs.Drawing.{draws_nothing, draws_one, draws_two}
use Rattle.sporc_keys.proofs.new_key.keygen.Goals as goal

pub returns-clause-ok : goal.returns-clause-ok
returns-clause-ok g c =
    let first : List ℕ = c.in_ok-first.first in
    let seed : List ℕ = c.in_ok-seed.seed in
    let len_first : length c.in_ok-first.first ≡ 32 = omega arith in
    let len_seed : length c.in_ok-seed.seed ≡ 32 = omega arith in (
      first,
      seed,
      draws_two (g.C.Chance.told c.args.chance.now).given (g.C.Chance.told c.fill32.new.self).given (g.C.Chance.told c.fill32-2.new.self).given first seed len_first len_seed c.in_ok-first.ensures.ok c.in_ok-seed.ensures.ok,
      c.in_ok-key.ensures ∙ ap (λ (id : List ℕ). made_of (record { device = c.args.device; lms = c.args.lms; ots = c.args.ots; id = id; seed = seed })) c.prefix_of.ensures,
    )

pub returns-in_err-first-clause-drawn : goal.returns-in_err-first-clause-drawn
returns-in_err-first-clause-drawn g c =
    let p = err_from_is_err_and c.from_residual.result c.from_residual.ensures.1 in
    rw (p.1, c.in_err-first.ensures.err) ([], omega arith, draws_nothing (g.C.Chance.told c.args.chance.now).given)

pub returns-in_err-seed-clause-drawn : goal.returns-in_err-seed-clause-drawn
returns-in_err-seed-clause-drawn g c =
    let len_first : length c.in_ok-first.first ≡ 32 = omega arith in
    let p = err_from_is_err_and c.from_residual-in_err-seed.result c.from_residual-in_err-seed.ensures.1 in
    rw (p.1, c.in_err-seed.ensures.err)
    (c.in_ok-first.first ∷ [], omega arith, draws_one (g.C.Chance.told c.args.chance.now).given (g.C.Chance.told c.fill32.new.self).given c.in_ok-first.first len_first c.in_ok-first.ensures.ok)

pub returns-in_err-key-clause-drawn : goal.returns-in_err-key-clause-drawn
returns-in_err-key-clause-drawn g c =
    let len_first : length c.in_ok-first.first ≡ 32 = omega arith in
    let len_seed : length c.in_ok-seed.seed ≡ 32 = omega arith in
    let p = err_from_is_err_and c.from_residual-in_err-key.result c.from_residual-in_err-key.ensures.1 in
    rw p.1 (
      c.in_ok-first.first ∷ c.in_ok-seed.seed ∷ [],
      omega arith,
      draws_two (g.C.Chance.told c.args.chance.now).given (g.C.Chance.told c.fill32.new.self).given (g.C.Chance.told c.fill32-2.new.self).given c.in_ok-first.first c.in_ok-seed.seed len_first len_seed c.in_ok-first.ensures.ok c.in_ok-seed.ensures.ok,
    )
