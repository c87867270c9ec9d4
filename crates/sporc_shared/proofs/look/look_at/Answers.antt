use Rattle.std.proofs.Common.{◌≡◌, ℕ, List, length, take, ap, ◌∙◌, arith}
use Rattle.sporc_shared.proofs.Common.{take_all, hash_of, state_of}
use Rattle.sporc_entry.specs.declared.genesis.Genesis.{Genesis}
use Rattle.sporc_shared.proofs.look.look_at.Goals as goal

hash_is : (found opened : Genesis) (entries all : List (List ℕ)) (n : ℕ) (hash : List ℕ) → hash ≡ hash_of found (take n entries) → found ≡ opened → entries ≡ all → n ≡ length entries
    → hash ≡ hash_of opened all
hash_is found opened entries all n hash is same same_entries whole =
    is ∙ ap (λ (o : Genesis). hash_of o (take n entries)) same ∙ ap (hash_of opened) (take_all n entries (omega arith) ∙ same_entries)

pub returns : goal.returns
returns g c =
    let client = c.args.client.now in
    let heads = c.heads-heads.result.now in
    record {
      at = c.len-at.ensures.value ∙ ap length c.heads-heads.ensures.entries;
      few = c.len-at.ensures.within;
      pending = c.pending.ensures.value;
      len = c.shown_len.ensures.value;
      front = c.shown_len.ensures.front;
      short = c.shown_len.ensures.within;
      hash = hash_is heads.genesis client.opening.genesis heads.entries (state_of client).entries c.len-at.result c.hash_at.result c.hash_at.ensures.value c.heads-heads.ensures.genesis c.heads-heads.ensures.entries c.len-at.ensures.value;
      removed = c.removed.ensures.value;
    }
