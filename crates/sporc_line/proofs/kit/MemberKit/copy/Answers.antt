use Rattle.std.proofs.Common.{◌≡◌, ℕ, List, ap, ◌∙◌}
use Rattle.sporc_line.proofs.Common.{from_entries, each_same, kit_of}
use Rattle.std.specs.Ordering.{nat_cmp}
use Rattle.std.proofs.lemmas.Map.Entries.{entries_from_clone}
use Rattle.sporc_epoch.specs.Keys.{Keys}
use Rattle.sporc_line.proofs.kit.MemberKit.copy.Goals as goal

pub returns : goal.returns
returns c =
    let same : c.in_ok-pairs.pairs.entries ≡ c.self.inside.pairs.entries =
    entries_from_clone _ _ (λ x y h. h) (λ v w h. each_same v w h.whole) c.self.inside.pairs.entries c.in_ok-pairs.pairs.entries c.in_ok-pairs.ensures.cases in
    record {
      ok = ap (λ (ring : Keys). kit_of c.self.inside.me ring (from_entries c.in_ok-pairs.pairs.entries)) c.in_ok-ring.ensures.value
          ∙ ap (λ (es : List (ℕ × List ℕ)). kit_of c.self.inside.me c.self.inside.ring.keys (from_entries {R = nat_cmp} es)) same
          ∙ c.self.view_is;
    }
