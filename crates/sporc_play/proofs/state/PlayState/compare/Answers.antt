use Rattle.std.proofs.Common.{◌<◌, ℕ, List, length, ap, ◌∙◌, sym, subst}
use Rattle.sporc_play.proofs.Common.{slice_get, Stands, hashes_of, state_of}
use Rattle.sporc_play.proofs.Becoming.{ok_then}
use Rattle.sporc_play.proofs.Kept.{begun_chain, chain_is, compare_tells, first_missing, second_missing, one_beginning, stands}
use Rattle.sporc_play.proofs.state.PlayState.compare.Goals as goal

pub compare-verdict-requires-clause-positive : goal.compare-verdict-requires-clause-positive
compare-verdict-requires-clause-positive c = subst (λ (xs : List (List ℕ)). 0 < length xs) (sym c.hashes.ensures.value) (begun_chain _ (state_of c.in-Some.first.now).entries)

pub compare-verdict-requires-clause-one_genesis : goal.compare-verdict-requires-clause-one_genesis
compare-verdict-requires-clause-one_genesis c =
    let state = c.args.self.now in
    ap (λ (xs : List (List ℕ)). slice_get xs 0) c.hashes.ensures.value
    ∙ one_beginning state c.args.pair.now.first c.args.pair.now.second c.in-Some.first.now c.in-Some-client.second.now c.requires.one_document c.in-Some.ensures.value c.in-Some-client.ensures.value
    ∙ ap (λ (xs : List (List ℕ)). slice_get xs 0) (sym c.hashes-2.ensures.value)

pub returns : goal.returns
returns c =
    let state = c.args.self.now in
    let a = c.in-Some.first.now in
    let b = c.in-Some-client.second.now in
    let v = c.compare-verdict.result in
    let is = c.compare-verdict.ensures in
    let stand : Stands (hashes_of (state_of a)) (hashes_of (state_of b)) v =
    subst (λ (xs : List (List ℕ)). Stands xs (hashes_of (state_of b)) v) (c.hashes.ensures.value ∙ chain_is a)
    (subst (λ (xs : List (List ℕ)). Stands c.hashes.result.now xs v) (c.hashes-2.ensures.value ∙ chain_is b) (stands c.hashes.result.now c.hashes-2.result.now v is.same is.prefix is.longer is.forked)) in
    ok_then c.push_verdict.result _ _ c.push_verdict.ensures.ok
    (λ is. compare_tells state c.args.pair.now a b v _ _ c.in-Some.ensures.value c.in-Some-client.ensures.value stand is)

pub returns-in_default : goal.returns-in_default
returns-in_default c =
    let state = c.args.self.now in
    ok_then c.push_not_open.result _ _ c.push_not_open.ensures.ok (first_missing state c.args.pair.now _ _ c.in_default.ensures.value)

pub returns-in_default-client : goal.returns-in_default-client
returns-in_default-client c =
    let state = c.args.self.now in
    ok_then c.push_not_open-in_default-client.result _ _ c.push_not_open-in_default-client.ensures.ok
    (second_missing state c.args.pair.now c.in-Some.first.now _ _ c.in-Some.ensures.value c.in_default-client.ensures.value)
