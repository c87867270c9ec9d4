use Rattle.std.proofs.Common.{◌≡◌, ℕ, List, [], ◌∷◌, length, map, take, ap, ap₂, ◌∙◌, arith}
use Rattle.sporc_keys.proofs.Common.{err_from_is_err_and, Named, SharedKey, genesis_of, in_order, numbers_of, pairs_of, ring_of, words_for}
use Rattle.sporc_keys.proofs.Drawing.{draws_nothing, draws_one, draws_two, made_not_failed, up_to_then}
use Rattle.sporc_keys.proofs.Foundings.{AreInOrder, Words, all_drawn, are_in_order, are_ring_files, is_founding, is_genesis, words_are}
use Rattle.sporc_keys.proofs.founding.found.Goals as goal

pub returns : goal.returns
returns g c =
    let all : List Named = in_order c.args.named.now in
    let first : List ℕ = c.in_ok-first.first in
    let key : List ℕ = c.in_ok-key.key in
    let shared : List SharedKey = c.in_ok-shared.shared.items in
    let ordered : AreInOrder all = are_in_order c.args.named.now c.requires.named in
    let named : c.in_ok-named.named.items ≡ all = c.in_ok-named.ensures in
    let numbers : c.as_slice-2.result.now ≡ numbers_of all = c.as_slice-2.ensures.value ∙ c.in_ok-numbers.ensures ∙ ap numbers_of (c.as_slice.ensures.value ∙ named) in
    let len_first : length c.in_ok-first.first ≡ 32 = omega arith in
    let len_key : length c.in_ok-key.key ≡ 32 = omega arith in
    let words : Words (g.C.Chance.told c.args.chance.now).given (g.C.Chance.told c.draw_pairs.new.chance).given all first key shared =
    words_are (g.C.Chance.told c.args.chance.now).given (g.C.Chance.told c.fill32.new.self).given (g.C.Chance.told c.fill32-2.new.self).given (g.C.Chance.told c.draw_pairs.new.chance).given all c.as_slice-2.result.now first key shared numbers len_first len_key c.in_ok-first.ensures.ok c.in_ok-key.ensures.ok c.in_ok-shared.ensures.ok in
    let genesis : c.in_ok-genesis.genesis ≡ genesis_of (take 16 first) key all =
    c.in_ok-genesis.ensures.value ∙ ap₂ (λ (d : List ℕ) (ns : List Named). genesis_of d key ns) c.prefix_of.ensures (c.as_slice-3.ensures.value ∙ named) in
    let rings : c.new.result ≡ map (ring_of key shared) all =
    c.new.ensures.value ∙ c.in_ok-rings.ensures ∙ ap₂ (λ (s : List SharedKey) (ns : List Named). map (ring_of key s) ns) c.as_slice-4.ensures.value (c.as_slice-5.ensures.value ∙ named) in
    record {
      ok = is_founding (g.C.Chance.told c.args.chance.now).given (g.C.Chance.told c.draw_pairs.new.chance).given all first key shared (record { genesis = c.in_ok-genesis.genesis; rings = c.new.result }) words genesis rings;
      genesis = is_genesis all first key c.in_ok-genesis.genesis len_first ordered genesis c.in_ok-genesis.ensures.keys;
      rings = are_ring_files (g.C.Chance.told c.args.chance.now).given (g.C.Chance.told c.draw_pairs.new.chance).given all first key shared c.new.result words ordered rings;
      chance = λ e. made_not_failed e;
      drawn = tt;
      kept = omega (arith, c.in_ok-first.ensures.count.kept, c.in_ok-key.ensures.count.kept, c.in_ok-shared.ensures.kept);
    }

pub returns-in_err-named-clause-drawn : goal.returns-in_err-named-clause-drawn
returns-in_err-named-clause-drawn g c =
    let p = err_from_is_err_and c.from_residual.result c.from_residual.ensures.1 in
    rw p.1 ([], omega arith, draws_nothing (g.C.Chance.told c.args.chance.now).given)

pub returns-in_err-numbers-clause-drawn : goal.returns-in_err-numbers-clause-drawn
returns-in_err-numbers-clause-drawn g c =
    let p = err_from_is_err_and c.from_residual-in_err-numbers.result c.from_residual-in_err-numbers.ensures.1 in
    rw p.1 ([], omega arith, draws_nothing (g.C.Chance.told c.args.chance.now).given)

pub returns-in_err-first-clause-drawn : goal.returns-in_err-first-clause-drawn
returns-in_err-first-clause-drawn g c =
    let p = err_from_is_err_and c.from_residual-in_err-first.result c.from_residual-in_err-first.ensures.1 in
    rw (p.1, c.in_err-first.ensures.err) ([], omega arith, draws_nothing (g.C.Chance.told c.args.chance.now).given)

pub returns-in_err-key-clause-drawn : goal.returns-in_err-key-clause-drawn
returns-in_err-key-clause-drawn g c =
    let len_first : length c.in_ok-first.first ≡ 32 = omega arith in
    let p = err_from_is_err_and c.from_residual-in_err-key.result c.from_residual-in_err-key.ensures.1 in
    rw (p.1, c.in_err-key.ensures.err)
    (c.in_ok-first.first ∷ [], omega arith, draws_one (g.C.Chance.told c.args.chance.now).given (g.C.Chance.told c.fill32.new.self).given c.in_ok-first.first len_first c.in_ok-first.ensures.ok)

pub returns-in_err-shared-clause-drawn : goal.returns-in_err-shared-clause-drawn
returns-in_err-shared-clause-drawn g c =
    let all : List Named = in_order c.args.named.now in
    let numbers : c.as_slice-2.result.now ≡ numbers_of all = c.as_slice-2.ensures.value ∙ c.in_ok-numbers.ensures ∙ ap numbers_of (c.as_slice.ensures.value ∙ c.in_ok-named.ensures) in
    let len_first : length c.in_ok-first.first ≡ 32 = omega arith in
    let len_key : length c.in_ok-key.key ≡ 32 = omega arith in
    let p = err_from_is_err_and c.from_residual-in_err-shared.result c.from_residual-in_err-shared.ensures.1 in
    rw p.1 (up_to_then (length (pairs_of c.as_slice-2.result.now)) (words_for all) (g.C.Chance.told c.args.chance.now).given (g.C.Chance.told c.fill32-2.new.self).given (g.C.Chance.told c.draw_pairs.new.chance).given
    (c.in_ok-first.first ∷ c.in_ok-key.key ∷ []) (omega (arith, ap (λ (ns : List ℕ). length (pairs_of ns)) numbers))
    (draws_two (g.C.Chance.told c.args.chance.now).given (g.C.Chance.told c.fill32.new.self).given (g.C.Chance.told c.fill32-2.new.self).given c.in_ok-first.first c.in_ok-key.key len_first len_key c.in_ok-first.ensures.ok c.in_ok-key.ensures.ok)
    c.in_err-shared.ensures.drawn)

pub returns-in_err-genesis-clause-drawn : goal.returns-in_err-genesis-clause-drawn
returns-in_err-genesis-clause-drawn g c =
    let all : List Named = in_order c.args.named.now in
    let numbers : c.as_slice-2.result.now ≡ numbers_of all = c.as_slice-2.ensures.value ∙ c.in_ok-numbers.ensures ∙ ap numbers_of (c.as_slice.ensures.value ∙ c.in_ok-named.ensures) in
    let len_first : length c.in_ok-first.first ≡ 32 = omega arith in
    let len_key : length c.in_ok-key.key ≡ 32 = omega arith in
    let p = err_from_is_err_and c.from_residual-in_err-genesis.result c.from_residual-in_err-genesis.ensures.1 in
    rw p.1 (all_drawn (g.C.Chance.told c.args.chance.now).given (g.C.Chance.told c.fill32.new.self).given (g.C.Chance.told c.fill32-2.new.self).given (g.C.Chance.told c.draw_pairs.new.chance).given all c.as_slice-2.result.now
    c.in_ok-first.first c.in_ok-key.key c.in_ok-shared.shared.items numbers len_first len_key c.in_ok-first.ensures.ok c.in_ok-key.ensures.ok c.in_ok-shared.ensures.ok)

pub returns-in_err-rings-clause-drawn : goal.returns-in_err-rings-clause-drawn
returns-in_err-rings-clause-drawn g c =
    let all : List Named = in_order c.args.named.now in
    let numbers : c.as_slice-2.result.now ≡ numbers_of all = c.as_slice-2.ensures.value ∙ c.in_ok-numbers.ensures ∙ ap numbers_of (c.as_slice.ensures.value ∙ c.in_ok-named.ensures) in
    let len_first : length c.in_ok-first.first ≡ 32 = omega arith in
    let len_key : length c.in_ok-key.key ≡ 32 = omega arith in
    let p = err_from_is_err_and c.from_residual-in_err-rings.result c.from_residual-in_err-rings.ensures.1 in
    rw p.1 (all_drawn (g.C.Chance.told c.args.chance.now).given (g.C.Chance.told c.fill32.new.self).given (g.C.Chance.told c.fill32-2.new.self).given (g.C.Chance.told c.draw_pairs.new.chance).given all c.as_slice-2.result.now
    c.in_ok-first.first c.in_ok-key.key c.in_ok-shared.shared.items numbers len_first len_key c.in_ok-first.ensures.ok c.in_ok-key.ensures.ok c.in_ok-shared.ensures.ok)
