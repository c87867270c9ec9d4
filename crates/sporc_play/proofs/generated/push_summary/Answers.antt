use Rattle.std.proofs.Common.{◌≡◌, ◌++◌, ℕ, List, codes, length, string_bytes, ap, sym, ◌∙◌}
use Rattle.sporc_play.proofs.Common.{hash_of, state_of, Opening, committed_of, replay_opening, decimal, encode_lower}
use Rattle.sporc_play.proofs.GeneratedRun.{summary_told}
use Rattle.sporc_play.proofs.generated.push_summary.Goals as goal

pub returns : goal.returns
returns c =
    let client = c.args.client.now in
    let state = state_of client in
    let old = string_bytes c.args.out.now in
    let word = c.args.word.now in
    let hash = hash_of state.opening.genesis state.entries in
    let counts = λ (entries : ℕ) (characters : ℕ). codes "clients 3 entries " ++ (decimal entries ++ (codes " characters " ++ (decimal characters ++ (codes " " ++ (word ++ codes " "))))) in
    let start : string_bytes c.push_counts.new.out ≡ old ++ counts (length state.entries) (length (committed_of state)) =
    c.in_ok-push_counts.ensures
    ∙ ap (λ (n : ℕ). old ++ counts n c.committed_len.result) (c.len.ensures.value ∙ ap (λ (entries : List (List ℕ)). length entries) c.heads.ensures.entries)
    ∙ ap (λ (n : ℕ). old ++ counts (length state.entries) n) c.committed_len.ensures.value in
    let digits : string_bytes c.push_digits.new.out ≡ string_bytes c.push_counts.new.out ++ encode_lower hash =
    c.in_ok-push_digits.ensures.ok ∙ ap (λ (bytes : List ℕ). string_bytes c.push_counts.new.out ++ encode_lower bytes)
    (c.last_hash.ensures.value ∙ ap (λ (o : Opening). hash_of o.genesis state.entries) (sym (replay_opening client.opening client.log))) in
    summary_told c.push_str.result old _ _ _ (codes "clients 3 entries ") (decimal (length state.entries)) (codes " characters ") (decimal (length (committed_of state))) (codes " ") word (codes " ")
    (encode_lower hash) (codes "\n") start digits c.push_str.ensures.bytes
