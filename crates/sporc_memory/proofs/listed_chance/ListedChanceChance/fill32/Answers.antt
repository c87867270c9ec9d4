use Rattle.std.proofs.Common.{◌∷◌, [], ◌++◌, ap, sym, ◌∙◌}
use Rattle.sporc_memory.specs.ListedChanceModel.{ListedChanceModel}
use Rattle.sporc_memory.proofs.ListedItems.{given_more, left_less}
use Rattle.sporc_memory.proofs.listed_chance.ListedChanceChance.fill32.Goals as goal

pub returns-in-Some-clause-ok : goal.returns-in-Some-clause-ok
returns-in-Some-clause-ok c =
    let there = rw c.deref.ensures.value at c.in-Some.ensures.lookup.3 in
    given_more c.self.inside.words.items c.self.inside.at c.in-Some.word.now there.0 (there.1 c.in-Some.word.now)
    ∙ ap (λ (m : ListedChanceModel). m.given ++ c.in-Some.word.now ∷ []) c.self.view_is

pub returns-in-Some-clause-next : goal.returns-in-Some-clause-next
returns-in-Some-clause-next c =
    let there = rw c.deref.ensures.value at c.in-Some.ensures.lookup.3 in
    ap (λ (m : ListedChanceModel). m.left) (sym c.self.view_is)
    ∙ left_less c.self.inside.words.items c.self.inside.at c.in-Some.word.now there.0 (there.1 c.in-Some.word.now)
