use Rattle.std.proofs.Common.{ℕ, List, [], ◌++◌, take, drop, get_or, ap, ◌∙◌, append_assoc}
use Rattle.sporc_text.proofs.Common.{concat, into_iter_items}
use Rattle.sporc_text.proofs.MoveLemmas.{drop-next, get_or-drop}
use Rattle.sporc_text.proofs.chunks.push_until.Goals as goal

pub returns-clause-value : goal.returns-clause-value
returns-clause-value c =
    let from = into_iter_items c.args.chunks.now in
    c.push_front.ensures.value
    ∙ ap (λ (t : List ℕ). t ++ take c.args.count (get_or (into_iter_items c.push_some.new.chunks) 0 [])) c.push_some.ensures.value
    ∙ append_assoc (concat c.args.list.now.items) (concat (take c.args.i from)) (take c.args.count (get_or (into_iter_items c.push_some.new.chunks) 0 []))
    ∙ ap (λ (t : List ℕ). concat c.args.list.now.items ++ (concat (take c.args.i from) ++ take c.args.count t)) (ap (λ (l : List (List ℕ)). get_or l 0 []) c.push_some.ensures.rest ∙ get_or-drop from c.args.i)

pub returns-clause-rest : goal.returns-clause-rest
returns-clause-rest c = c.push_front.ensures.rest ∙ ap (λ (l : List (List ℕ)). drop 1 l) c.push_some.ensures.rest ∙ drop-next (into_iter_items c.args.chunks.now) c.args.i
