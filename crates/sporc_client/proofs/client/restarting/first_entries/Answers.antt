use Rattle.std.proofs.Common.{◌<◌, ◌++◌, ◌∷◌, [], List, ℕ, length, take, ap, sym, ◌∙◌, arith}
use Rattle.sporc_client.proofs.Common.{length-map}
use Rattle.sporc_client.proofs.AcceptedHistories.{take_read}
use Rattle.sporc_client.proofs.client.restarting.first_entries.Goals as goal

pub bounds-entries-i : goal.bounds-entries-i
bounds-entries-i c =
    omega (arith, c.loop-i-test.true, c.requires, ap length c.entries-entries.ensures.value, length-map c.entries-entries.result.now (λ v. v.items))

pub loop-i-preserved : goal.loop-i-preserved
loop-i-preserved c =
    let loop = c.loop-i in
    let did = c.in-Ok.ensures in
    let vs = c.entries-entries.result.now in
    let within : loop.i < length vs =
    omega (arith, c.loop-i-test.true, c.requires, ap length c.entries-entries.ensures.value, length-map vs (λ v. v.items)) in
    let more = take_read (λ v. v.items) vs c.args.line.now.entries loop.i c.index-entries-i.result c.entries-entries.ensures.value within c.index-entries-i.is in
    record {
      genesis = did.genesis ∙ loop.invariant.genesis;
      kit = did.kit ∙ loop.invariant.kit;
      entries =
          did.entries
          ∙ ap (λ (es : List (List ℕ)). es ++ c.as_slice.result.now ∷ []) loop.invariant.entries
          ∙ ap (λ (b : List ℕ). take loop.i c.args.line.now.entries ++ b ∷ []) c.as_slice.ensures.value
          ∙ sym more;
    }
