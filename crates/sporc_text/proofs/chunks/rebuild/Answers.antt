use Rattle.std.proofs.Common.{◌≡◌, ℕ, ◌+◌, ◌-◌, List, [], ◌++◌, length, take, drop, get_or, refl, ap, ◌∙◌, subst, vec_capacity, arith, length-append}
use Rattle.sporc_text.proofs.Common.{concat, into_iter_items, IsAt, replaced}
use Rattle.sporc_text.proofs.MoveLemmas.{rebuilt_value, slice_from}
use Rattle.sporc_text.proofs.chunks.rebuild.Goals as goal
use Rattle.sporc_text.proofs.chunks.rebuild.Goals.{After-push_behind-arg-1}

pub find-more-requires : goal.find-more-requires
find-more-requires c =
    let old : c.deref.result.now ≡ c.args.chunks.now.items = c.deref.ensures.value ∙ ap (λ v. v.items) c.replace-old.ensures.value in
    let from = slice_from c.deref.result.now c.args.i ∙ ap (λ (l : List (List ℕ)). drop c.args.i l) old in
    omega (arith, c.requires.in_bounds, ap (λ (l : List (List ℕ)). length (concat l)) from)

-- what the list holds once the text's last chunks follow
value : (c : After-push_behind-arg-1) → (concat c.push.new.list.items ++ concat (drop c.find-more.result.0 (into_iter_items c.push_until.new.chunks)))
    ≡ concat (take c.args.i c.args.chunks.now.items) ++ replaced c.args.splice.now.kept c.args.splice.now.removed c.args.splice.now.middle.now (concat (drop c.args.i c.args.chunks.now.items))
value c =
    let cs = c.args.chunks.now.items in
    let i = c.args.i in
    let kept = c.args.splice.now.kept in
    let more = c.find-more.result.0 in
    let gone = c.find-more.result.1 in
    let old : c.replace-old.result.items ≡ cs = ap (λ v. v.items) c.replace-old.ensures.value in
    let from : take (length c.deref.result.now - i) (drop i c.deref.result.now) ≡ drop i cs = slice_from c.deref.result.now i ∙ ap (λ (l : List (List ℕ)). drop i l) (c.deref.ensures.value ∙ old) in
    let from-2 : take (length c.deref-2.result.now - i) (drop i c.deref-2.result.now) ≡ drop i cs = slice_from c.deref-2.result.now i ∙ ap (λ (l : List (List ℕ)). drop i l) (c.deref-2.ensures.value ∙ old) in
    let at : IsAt (drop i cs) (kept + c.args.splice.now.removed) more gone = subst (λ (l : List (List ℕ)). IsAt l (kept + c.args.splice.now.removed) more gone) from c.find-more.ensures in
    let items : into_iter_items c.into_iter-left.result ≡ cs = c.into_iter-left.ensures.rest ∙ old in
    let empty : c.replace-old.new.dest.items ≡ [] = ap (λ v. v.items) c.replace-old.ensures.after ∙ c.requires.empty in
    let front : concat c.push_until.new.list.items ≡ concat (take i cs) ++ take kept (get_or cs i []) =
    c.push_until.ensures.value ∙ ap (λ (l : List (List ℕ)). concat l ++ (concat (take i (into_iter_items c.into_iter-left.result)) ++ take kept (get_or (into_iter_items c.into_iter-left.result) i []))) empty
    ∙ ap (λ (l : List (List ℕ)). concat (take i l) ++ take kept (get_or l i [])) items in
    let last : c.behind-last.result ≡ drop gone (get_or (drop i cs) more []) = c.behind-last.ensures ∙ ap (λ (l : List (List ℕ)). drop gone (get_or l more [])) from-2 in
    let rest : into_iter_items c.push_until.new.chunks ≡ drop (i + 1) cs = c.push_until.ensures.rest ∙ ap (λ (l : List (List ℕ)). drop (i + 1) l) items in
    rebuilt_value cs (drop i cs) i kept c.args.splice.now.removed more gone (concat c.push_until.new.list.items) c.args.splice.now.middle.now c.behind-last.result _ c.requires.kept_in_bounds refl at front last
    (ap (λ (t : List ℕ). t ++ concat (drop more (into_iter_items c.push_until.new.chunks))) (c.push.ensures.value ∙ ap (λ (t : List ℕ). t ++ c.behind-last.result) c.push_all.ensures.value)
    ∙ ap (λ (l : List (List ℕ)). ((concat c.push_until.new.list.items ++ c.args.splice.now.middle.now) ++ c.behind-last.result) ++ concat (drop more l)) rest)

-- how long that is
fits : (c : After-push_behind-arg-1) → length (concat c.push.new.list.items) + length (concat (drop c.find-more.result.0 (into_iter_items c.push_until.new.chunks)))
    ≡ length (concat (take c.args.i c.args.chunks.now.items)) + length (replaced c.args.splice.now.kept c.args.splice.now.removed c.args.splice.now.middle.now (concat (drop c.args.i c.args.chunks.now.items)))
fits c = omega (
  arith,
  ap length (value c),
  length-append (concat c.push.new.list.items) (concat (drop c.find-more.result.0 (into_iter_items c.push_until.new.chunks))),
  length-append (concat (take c.args.i c.args.chunks.now.items)) (replaced c.args.splice.now.kept c.args.splice.now.removed c.args.splice.now.middle.now (concat (drop c.args.i c.args.chunks.now.items))),
)

pub push_behind-requires-clause-room : goal.push_behind-requires-clause-room
push_behind-requires-clause-room c =
    let capacity = ap (λ v. vec_capacity v) c.replace-old.ensures.after in
    omega (arith, fits c, capacity, c.push_until.ensures.capacity, c.push_all.ensures.capacity, c.push.ensures.capacity, c.requires.room)

pub returns-clause-value : goal.returns-clause-value
returns-clause-value c = c.push_behind.ensures.value ∙ value (goal.at.returns-clause-value c).After-push_behind-arg-1
