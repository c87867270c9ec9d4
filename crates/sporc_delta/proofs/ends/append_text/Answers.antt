use Rattle.std.proofs.Common.{◌≡◌, ◌∙◌, ℕ, List, ◌∷◌, ◌++◌, [], ap, sym, false}
use Rattle.sporc_delta.proofs.Common.{text_at_end}
use Rattle.sporc_delta.specs.declared.part.Part.TheVariants.{Insert}
use Rattle.sporc_delta.proofs.Appended.{text_pushed}
use Rattle.sporc_delta.proofs.ends.append_text.Goals as goal

pub returns-clause-ok : goal.returns-clause-ok
returns-clause-ok c =
    let other : text_at_end c.args.parts.now.items ≡ false = sym (c.if-inserts_last.ensures.value ∙ ap text_at_end c.as_slice.ensures.value) in
    let pushed : c.push.new.self.items ≡ c.args.parts.now.items ++ Insert c.args.text.now ∷ [] =
    c.in_ok-push.ensures.items ∙ ap (λ (text : List ℕ). c.args.parts.now.items ++ Insert text ∷ []) c.in_ok-new.ensures.ok in
    text_pushed c.args.parts.now.items c.push.new.self.items c.args.text.now other c.requires.positive pushed
