use Rattle.std.proofs.Common.{◌≡◌, ℕ, List, ap, ◌∙◌}
use Rattle.sporc_epoch.proofs.Common.{each_same, from_entries, nat_cmp, RingModel}
use Rattle.std.proofs.lemmas.Map.Entries.{entries_from_clone}
use Rattle.sporc_epoch.proofs.ring.Ring.copy.Goals as goal

pub returns : goal.returns
returns c =
    let same : c.in_ok-keys.keys.entries ≡ c.self.inside.keys.entries =
    entries_from_clone _ _ (λ x y h. h) (λ v w h. each_same v w h.whole) c.self.inside.keys.entries c.in_ok-keys.keys.entries c.in_ok-keys.ensures.cases in
    record {
      value = ap (λ (es : List (ℕ × List ℕ)). from_entries {R = nat_cmp} es) same ∙ ap (λ (r : RingModel). r.keys) c.self.view_is;
    }
