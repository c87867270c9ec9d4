use Rattle.std.proofs.Common.{◌≡◌, ◌++◌, string_bytes, codes, ap, sym, ◌∙◌}
use Rattle.sporc_report.proofs.Common.{state_of, Opening, roster_of, Device, device_text, members_text, replay_opening}
use Rattle.sporc_report.proofs.Beginnings.{begins_last}
use Rattle.sporc_report.proofs.Parts.{told_by_last}
use Rattle.sporc_report.proofs.showing.push_members.Goals as goal

pub returns-clause-ok : goal.returns-clause-ok
returns-clause-ok g c =
    let client = c.args.client.now in
    let old = string_bytes c.args.out.now in
    let me = client.opening.kit.me in
    let start : string_bytes c.push_start.new.out ≡ old ++ (device_text me ++ codes " members") =
    c.in_ok-push_start.ensures.ok ∙ ap (λ (d : Device). old ++ (device_text d ++ codes " members")) c.device_of.ensures in
    let state = state_of client in
    let members : string_bytes c.push_roster.new.out ≡ string_bytes c.push_start.new.out ++ members_text (roster_of state.opening.genesis state.entries) =
    c.in_ok-push_roster.ensures.ok
    ∙ ap (λ (o : Opening). string_bytes c.push_start.new.out ++ members_text (roster_of o.genesis state.entries)) (sym (replay_opening client.opening client.log)) in
    told_by_last c.push_word.result old _ _ _ (device_text me) (codes " members") (members_text (roster_of state.opening.genesis state.entries)) (codes "\n")
    start members c.push_word.ensures.ok

pub returns-clause-memory : goal.returns-clause-memory
returns-clause-memory g c =
    let new = string_bytes c.push_word.new.out in
    let end = begins_last _ _ c.push_word.result (string_bytes c.push_start.new.out) (string_bytes c.push_roster.new.out) new _ c.in_ok-push_roster.ensures.ok c.push_word.ensures.memory in
    begins_last _ _ c.push_word.result (string_bytes c.args.out.now) (string_bytes c.push_start.new.out) new _ c.in_ok-push_start.ensures.ok end
