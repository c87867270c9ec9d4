use Rattle.std.proofs.Common.{◌≡◌, ℕ, ◌+◌, ◌≤◌, List, ◌++◌, length, take, drop, ap, ◌∙◌, subst, arith, length-append}
use Rattle.sporc_text.proofs.Common.{concat, IsAt, ReadyTextModel, replaced}
use Rattle.sporc_text.proofs.ChunkLemmas.{concat-at}
use Rattle.sporc_text.proofs.CutLemmas.{length-replaced}
use Rattle.sporc_text.proofs.MoveLemmas.{rewritten_at}
use Rattle.sporc_text.proofs.ready.ReadyText.put_into.Goals as goal

-- what is removed lies behind the beginning of the chunk
behind : (cs found : List (List ℕ)) (kept i offset removed : ℕ) → found ≡ cs → IsAt found kept i offset → kept + removed ≤ length (concat cs) → offset + removed ≤ length (concat (drop i cs))
behind cs found kept i offset removed is at le =
    omega (arith, at.before, ap (λ (l : List (List ℕ)). length (concat (take i l))) is, ap length (concat-at cs i), length-append (concat (take i cs)) (concat (drop i cs)), le)

pub rewrite-requires-clause-in_bounds : goal.rewrite-requires-clause-in_bounds
rewrite-requires-clause-in_bounds c =
    behind c.args.chunks.now.items c.as_slice.result.now c.self.inside.kept c.find-i.result.0 c.find-i.result.1 c.self.inside.removed c.as_slice.ensures.value c.find-i.ensures
    (omega (arith, c.self.invariant.within, c.requires.base, ap (λ (r : ReadyTextModel). r.base) c.self.view_is))

pub rewrite-requires-clause-room : goal.rewrite-requires-clause-room
rewrite-requires-clause-room c =
    let cs = c.args.chunks.now.items in
    let i = c.find-i.result.0 in
    let base = ap (λ (r : ReadyTextModel). r.base) c.self.view_is in
    let within = behind cs c.as_slice.result.now c.self.inside.kept i c.find-i.result.1 c.self.inside.removed c.as_slice.ensures.value c.find-i.ensures
    (omega (arith, c.self.invariant.within, c.requires.base, base)) in
    omega (
      arith,
      length-replaced (concat (drop i cs)) c.as_slice-2.result.now c.find-i.result.1 c.self.inside.removed within,
      ap length c.as_slice-2.ensures.value,
      ap length (concat-at cs i),
      length-append (concat (take i cs)) (concat (drop i cs)),
      c.requires.base,
      base,
      c.self.invariant.len_is,
      c.self.invariant.room,
    )

pub returns : goal.returns
returns c =
    let cs = c.args.chunks.now.items in
    let i = c.find-i.result.0 in
    let kept = c.self.inside.kept in
    let removed = c.self.inside.removed in
    let middle = c.self.inside.middle.items in
    let at : IsAt cs kept i c.find-i.result.1 = subst (λ (l : List (List ℕ)). IsAt l kept i c.find-i.result.1) c.as_slice.ensures.value c.find-i.ensures in
    let value : concat c.rewrite.new.chunks.items ≡ replaced kept removed middle (concat cs) =
    c.rewrite.ensures.value ∙ ap (λ (t : List ℕ). concat (take i cs) ++ replaced c.find-i.result.1 removed t (concat (drop i cs))) c.as_slice-2.ensures.value
    ∙ rewritten_at cs kept i c.find-i.result.1 removed middle at in
    let base = ap (λ (r : ReadyTextModel). r.base) c.self.view_is in
    record {
      chunks = c.rewrite.ensures.chunks;
      value = value ∙ ap (λ (r : ReadyTextModel). replaced r.kept r.removed r.middle (concat cs)) c.self.view_is;
      len = omega (arith, ap length value, length-replaced (concat cs) middle kept removed (omega (arith, c.self.invariant.within, c.requires.base, base)), c.requires.base, base, c.self.invariant.len_is);
    }
