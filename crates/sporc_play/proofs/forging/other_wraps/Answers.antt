use Rattle.std.proofs.Common.{◌≡◌, ℕ, ◌+◌, ◌<◌, Bool, cond, eqb, eq-eqb, not, List, [], ◌∷◌, ◌++◌, append-nil, length, take, filter, get_or, Global, Vec, ap, sym, ◌∙◌}
use Rattle.sporc_play.proofs.Common.{ne_eqb, filter_more, Wrap}
use Rattle.sporc_play.proofs.forging.other_wraps.Goals.{then-wrap-member+in_ok-push, else-wrap-member}
use Rattle.sporc_play.proofs.forging.other_wraps.Goals as goal

abbrev others : ℕ → List Wrap → List Wrap
others member wraps = filter (λ w. not (eqb w.member member)) wraps

-- the next wrap, by whether it is the member's
one_more : (member : ℕ) (wraps : List Wrap) (i : ℕ) (d : Wrap) (b : Bool) → i < length wraps → eqb (get_or wraps i d).member member ≡ b
    → others member (take (i + 1) wraps) ≡ others member (take i wraps) ++ cond (not b) (get_or wraps i d ∷ []) []
one_more member wraps i d b low is =
    filter_more (λ (w : Wrap). not (eqb w.member member)) wraps i d low
    ∙ ap (λ (b : Bool). others member (take i wraps) ++ cond (not b) (get_or wraps i d ∷ []) []) is

pub loop-wrap-preserved : goal.loop-wrap-preserved
loop-wrap-preserved c =
    let wraps = c.args.wraps.now in
    let i = c.loop-wrap.wrap-index in
    let blank : Wrap = record { member = 0; sealed = [] } in
    let items = λ (kept : Vec Wrap Global). kept.items in
    elim c.if-wrap-member.branch [
      | then-wrap-member+in_ok-push w ↦
          ap items w.kept-is ∙ w.in_ok-push.ensures.items ∙ ap (λ (ws : List Wrap). ws ++ get_or wraps i blank ∷ []) c.loop-wrap.invariant
          ∙ sym (one_more c.args.member wraps i blank _ c.loop-wrap-test.true (ne_eqb _ _ w.if-wrap-member.true))
      | else-wrap-member w ↦
          ap items w.kept-is ∙ c.loop-wrap.invariant ∙ sym (append-nil _)
          ∙ sym (one_more c.args.member wraps i blank _ c.loop-wrap-test.true (eq-eqb _ _ w.if-wrap-member.false))
    ]
