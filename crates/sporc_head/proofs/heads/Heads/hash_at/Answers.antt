use Rattle.std.proofs.Common.{arith, length, ◌≤◌, ap, sym, subst}
use Rattle.sporc_head.proofs.Common.{genesis_bytes, HeadsModel, entries_in}
use Rattle.sporc_head.proofs.Grows.{length-chain, chain_read}
use Rattle.sporc_head.proofs.heads.Heads.hash_at.Goals as goal

pub index-requires : goal.index-requires
index-requires c =
    let h : c.args.i ≤ length (entries_in c.self.inside) = subst (λ (m : HeadsModel). c.args.i ≤ length m.entries) (sym c.self.view_is) c.requires in
    omega (arith, ap length c.self.invariant.chained, length-chain (genesis_bytes c.self.inside.genesis) (entries_in c.self.inside))

pub returns : goal.returns
returns c = record {
  value =
      let h : c.args.i ≤ length (entries_in c.self.inside) = subst (λ (m : HeadsModel). c.args.i ≤ length m.entries) (sym c.self.view_is) c.requires in
      rw (← c.self.view_is) (chain_read c.self.inside.genesis (entries_in c.self.inside) c.self.inside.hashes.items c.args.i c.index.result.now c.self.invariant.chained h c.index.ensures);
}
