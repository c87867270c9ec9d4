use Rattle.std.proofs.Common.{◌++◌, List, ℕ, string_bytes, sym, ap, ◌∙◌}
use Rattle.sporc_report.proofs.Common.{on_ok_weaker, state_of, shown_of, quoted}
use Rattle.std.proofs.lemmas.Str.{chars_from_encodes}
use Rattle.sporc_report.proofs.showing.push_shown.Goals as goal

pub returns-clause-ok : goal.returns-clause-ok
returns-clause-ok g c =
    let same = chars_from_encodes (shown_of (state_of c.args.client.now)) c.as_str.result.now c.as_str.utf8 (sym (c.as_str.ensures.value ∙ c.in_ok-text.ensures.value)) in
    on_ok_weaker c.push_quoted.result (λ pushed. pushed ∙ ap (λ (cs : List ℕ). string_bytes c.args.out.now ++ quoted cs) (sym same)) c.push_quoted.ensures.ok
