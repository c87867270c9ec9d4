use Rattle.std.proofs.Common.{◌+◌, ℕ, eqb, ap, ◌∙◌, arith, Some}
use Rattle.sporc_head.proofs.Common.{cond, nat_eq, get, Tally, rank_of}
use Rattle.sporc_head.proofs.OnceChecked.{ok_of}
use Rattle.sporc_head.proofs.tables.record_entry.Goals as goal

pub returns : goal.returns
returns c q =
    let put = ok_of c.insert.result _ c.insert.ensures.updates (c.insert.ensures.succeeds (omega (arith, c.requires.room))) in
    let old = get nat_eq c.args.tallies.now q in
    put.0 q
    ∙ ap (λ (r : ℕ). cond (eqb r q) (Some (record { count = c.tally_of-tally.result.count + 1; last = c.args.position })) old) c.rank_of-rank.ensures
    ∙ ap (λ (t : Tally). cond (eqb (rank_of c.args.device) q) (Some (record { count = t.count + 1; last = c.args.position })) old) c.tally_of-tally.ensures
