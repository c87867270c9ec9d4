use Rattle.std.proofs.Common.{◌≡◌, ◌++◌, ℕ, List, string_bytes, codes, ap, sym, ◌∙◌}
use Rattle.sporc_report.proofs.Common.{state_of, Opening, hash_of, Device, device_text, replay_opening}
use Rattle.hex.specs.Hex.{encode_lower}
use Rattle.sporc_report.proofs.Beginnings.{begins_last}
use Rattle.sporc_report.proofs.Parts.{told_by_last}
use Rattle.sporc_report.proofs.showing.push_hash.Goals as goal

pub returns-clause-ok : goal.returns-clause-ok
returns-clause-ok g c =
    let client = c.args.client.now in
    let old = string_bytes c.args.out.now in
    let me = client.opening.kit.me in
    let state = state_of client in
    let hash = hash_of state.opening.genesis state.entries in
    let start : string_bytes c.push_start.new.out ≡ old ++ (device_text me ++ codes " hash ") =
    c.in_ok-push_start.ensures.ok ∙ ap (λ (d : Device). old ++ (device_text d ++ codes " hash ")) c.device_of.ensures in
    let digits : string_bytes c.push_digits.new.out ≡ string_bytes c.push_start.new.out ++ encode_lower hash =
    c.in_ok-push_digits.ensures.ok ∙ ap (λ (bytes : List ℕ). string_bytes c.push_start.new.out ++ encode_lower bytes)
    (c.last_hash.ensures.value ∙ ap (λ (o : Opening). hash_of o.genesis state.entries) (sym (replay_opening client.opening client.log))) in
    told_by_last c.push_word.result old _ _ _ (device_text me) (codes " hash ") (encode_lower hash) (codes "\n") start digits c.push_word.ensures.ok

pub returns-clause-memory : goal.returns-clause-memory
returns-clause-memory g c =
    let new = string_bytes c.push_word.new.out in
    let end = begins_last _ _ c.push_word.result (string_bytes c.push_start.new.out) (string_bytes c.push_digits.new.out) new _ c.in_ok-push_digits.ensures.ok c.push_word.ensures.memory in
    begins_last _ _ c.push_word.result (string_bytes c.args.out.now) (string_bytes c.push_start.new.out) new _ c.in_ok-push_start.ensures.ok end
