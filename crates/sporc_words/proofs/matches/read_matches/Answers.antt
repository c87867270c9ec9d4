use Rattle.std.proofs.Common.{◌≡◌, Some, map, string_bytes, ap, sym, ◌∙◌}
use Rattle.sporc_words.proofs.Common.{kind_of, OutOfMemory}
use Rattle.sporc_words.specs.Arguments.{grammar_of}
use Rattle.sporc_words.proofs.Taken.{refused, simple_of, taken_whole}
use Rattle.sporc_words.proofs.matches.read_matches.Goals as goal

pub returns-in-Ok : goal.returns-in-Ok
unfolding grammar_of
returns-in-Ok c =
    let app = grammar_of c.args.command in
    let words = map (λ w. string_bytes w) c.args.words.now in
    record { ok = ap Some (c.in-Ok.ensures.matches (simple_of app c.requires)).0 ∙ sym (taken_whole app words (c.in-Ok.ensures.kinds c.requires)) }

pub returns : goal.returns
unfolding grammar_of
returns c =
    let other = λ (is : kind_of c.in-Err.error ≡ OutOfMemory). c.in_default.not-OutOfMemory (c.kind.ensures ∙ is) in
    record {
      ok = refused (grammar_of c.args.command) (map (λ w. string_bytes w) c.args.words.now) c.in-Err.error c.in-Err.ensures.passes (c.in-Err.ensures.kinds c.requires) other;
    }
