use Rattle.std.proofs.Common.{◌≡◌, map, take}
use Rattle.sporc_commands.proofs.Common.{chain, last_value, genesis_bytes}
use Rattle.sporc_commands.proofs.chains.chain_of.Given as goal

abbrev pub invariant-loop-entry : goal.invariant-loop-entry
invariant-loop-entry l = record {
  hash : l.hash ≡ last_value (genesis_bytes l.genesis) (map (λ entry. entry.items) (take l.entry-index l.entries));
  hashes : l.hashes.items ≡ chain (genesis_bytes l.genesis) (map (λ entry. entry.items) (take l.entry-index l.entries));
}
