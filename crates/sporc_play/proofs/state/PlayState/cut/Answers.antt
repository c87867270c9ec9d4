use Rattle.std.proofs.Common.{rules, ◌≡◌, ◌-◌, List, ℕ, length, take, map, ap, ◌∙◌, sym, Global, Vec, Some, [], ◌∷◌}
use Rattle.sporc_play.proofs.Common.{entry_at, cuts}
use Rattle.sporc_play.proofs.Becoming.{entries_of, ok_both}
use Rattle.sporc_play.proofs.Kept.{cut_act, made_becomes}
use Rattle.sporc_play.proofs.state.PlayState.cut.Goals as goal

pub returns-clause-state : goal.returns-clause-state
returns-clause-state c =
    let old = c.args.self.now in
    let entry = c.in-Some.entry.now in
    let found : entry_at (entries_of old) c.args.number ≡ Some entry =
    ap (λ (xs : List (Vec ℕ Global)). entry_at (map (λ b. b.items) xs) c.args.number) (sym c.as_slice.ensures.value) ∙ sym c.in-Some.ensures.value in
    let is : c.in_ok-bytes.bytes.items ≡ take (length entry - 1) entry = search rules in
    ok_both c.keep.result _ _ _ c.keep.ensures.others c.keep.ensures.made
    (λ same grown. made_becomes old c.keep.new.self (c.in_ok-bytes.bytes.items ∷ []) (λ made. cuts (entry_at made c.args.number)) same grown (cut_act (entries_of old) c.args.number entry c.in_ok-bytes.bytes.items found is))
