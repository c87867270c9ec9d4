use Rattle.std.proofs.Common.{◌≡◌, List, ℕ, [], ◌∷◌, ◌++◌, ap, ◌∙◌, sym, take}
use Rattle.sporc_commands.proofs.Common.{chain, genesis_value, last_value, next_value, genesis_bytes}
use Rattle.sporc_hash.specs.Chain.{chain_after, value_after}
use Rattle.sporc_hash.proofs.ChainLemmas.{chain_push, value_push}
use Rattle.sporc_commands.proofs.Taken.{bytes_of, taken_more}
use Rattle.sporc_commands.proofs.chains.chain_of.Goals as goal

pub loop-entry-init : goal.loop-entry-init
unfolding chain_after value_after
loop-entry-init c =
    let bytes = c.as_slice.ensures.value ∙ c.in_ok-bytes.ensures.ok in
    let first : c.genesis_hash-hash.result ≡ genesis_value (genesis_bytes c.args.genesis.now) = c.genesis_hash-hash.ensures.value ∙ ap genesis_value bytes in
    record { hash = first; hashes = c.in_ok-hashes.ensures.items ∙ ap (λ (v : List ℕ). v ∷ []) first }

pub loop-entry-preserved : goal.loop-entry-preserved
loop-entry-preserved c =
    let g = genesis_bytes c.args.genesis.now in
    let more = taken_more c.args.entries.now c.loop-entry.entry-index c.entry-item.result c.loop-entry-test.true c.entry-item.is in
    let e = c.entry-item.result.items in
    let before = bytes_of (take c.loop-entry.entry-index c.args.entries.now) in
    let value : c.next_hash-hash.result ≡ next_value (last_value g before) e =
    c.next_hash-hash.ensures.value ∙ ap (λ (v : List ℕ). next_value v c.as_slice-in-loop-entry.result.now) c.loop-entry.invariant.hash ∙ ap (next_value (last_value g before)) c.as_slice-in-loop-entry.ensures.value in
    record {
      hash = value ∙ sym (value_push (genesis_value g) before e) ∙ ap (last_value g) (sym more);
      hashes = c.in_ok-push.ensures.items ∙ ap (λ (vs : List (List ℕ)). vs ++ c.next_hash-hash.result ∷ []) c.loop-entry.invariant.hashes
          ∙ ap (λ (v : List ℕ). chain g before ++ v ∷ []) value ∙ sym (chain_push (genesis_value g) before e) ∙ ap (chain g) (sym more);
    }
