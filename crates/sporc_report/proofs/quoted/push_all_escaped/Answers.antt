use Rattle.std.proofs.Common.{◌≡◌, ℕ, List, [], ◌∷◌, ◌++◌, append_assoc, append-nil, flat_map, string_bytes, map-id, sym, ap, ◌∙◌}
use Rattle.sporc_report.proofs.Common.{escape}
use Rattle.sporc_report.proofs.Parts.{begins_in_err}
use Rattle.std.proofs.lemmas.Grind.{flat_map-append}
use Rattle.std.proofs.lemmas.Iterator.{YieldsList-from_chars}
use Rattle.std.proofs.lemmas.Iterator.Consumers.{YieldsList-end}
use Rattle.sporc_report.proofs.quoted.push_all_escaped.Goals as goal

pub loop-c-preserved : goal.loop-c-preserved
loop-c-preserved c =
    let old = string_bytes c.args.out.now in
    let told = flat_map escape c.loop-c.yielded in
    let more : flat_map escape (c.loop-c.yielded ++ c.in-Some.c ∷ []) ≡ told ++ escape c.in-Some.c =
    flat_map-append escape c.loop-c.yielded (c.in-Some.c ∷ []) ∙ ap (λ (t : List ℕ). told ++ t) (append-nil (escape c.in-Some.c)) in
    c.in_ok-push_escaped.ensures.ok ∙ ap (λ (t : List ℕ). t ++ escape c.in-Some.c) c.loop-c.invariant ∙ append_assoc old told (escape c.in-Some.c)
    ∙ ap (λ (t : List ℕ). old ++ t) (sym more)

pub returns-clause-ok : goal.returns-clause-ok
returns-clause-ok c =
    let all = YieldsList-end (YieldsList-from_chars c.args.text.now c.utf8.text cc) c.loop-c.yielded _ c.loop-c.yielded_by _ _ c.in-None.is c.next.ensures.steps in
    c.loop-c.invariant ∙ ap (λ cs. string_bytes c.args.out.now ++ flat_map escape cs) (sym (map-id c.loop-c.yielded) ∙ all.0)

pub returns-in_err-push_escaped-clause-memory : goal.returns-in_err-push_escaped-clause-memory
returns-in_err-push_escaped-clause-memory c =
    begins_in_err c.from_residual.result (string_bytes c.args.out.now) (string_bytes c.loop-c.out) (string_bytes c.push_escaped.new.out) (flat_map escape c.loop-c.yielded)
    c.loop-c.invariant c.in_err-push_escaped.ensures.memory
