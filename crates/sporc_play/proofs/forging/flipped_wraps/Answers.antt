use Rattle.std.proofs.Common.{◌≡◌, ℕ, ◌+◌, ◌<◌, ◌++◌, [], ◌∷◌, List, length, map, take, get_or, ap, sym, ◌∙◌}
use Rattle.sporc_play.proofs.Common.{map_more, Wrap, wrap_flipped}
use Rattle.sporc_play.proofs.forging.flipped_wraps.Goals as goal

flipped_more : (member : ℕ) (wraps kept grown : List Wrap) (i : ℕ) (w d : Wrap) → grown ≡ kept ++ w ∷ [] → kept ≡ map (wrap_flipped member) (take i wraps)
    → w ≡ wrap_flipped member (get_or wraps i d) → i < length wraps → grown ≡ map (wrap_flipped member) (take (i + 1) wraps)
flipped_more member wraps kept grown i w d more was is low =
    more
    ∙ ap (λ (ws : List Wrap). ws ++ w ∷ []) was
    ∙ ap (λ (x : Wrap). map (wrap_flipped member) (take i wraps) ++ x ∷ []) is
    ∙ sym (map_more (wrap_flipped member) wraps i d low)

pub loop-wrap-preserved : goal.loop-wrap-preserved
loop-wrap-preserved c =
    flipped_more c.args.member c.args.wraps.now c.loop-wrap.kept.items _ c.loop-wrap.wrap-index c.flipped_wrap.result (record { member = 0; sealed = [] })
    c.in_ok-push.ensures.items c.loop-wrap.invariant c.flipped_wrap.ensures c.loop-wrap-test.true
