use Rattle.std.proofs.Common.{◌≡◌, ◌++◌, ◌∷◌, [], arith}
use Rattle.sporc_delta.proofs.Common.{Remove}
use Rattle.sporc_delta.specs.declared.part.Part.TheVariants.{Keep, Insert}
use Rattle.sporc_delta.proofs.Appended.{text_fits, text_put_back, not_kept_end, not_removed_end}
use Rattle.sporc_delta.proofs.ends.grow_text.Goals as goal

pub push-grown-requires : goal.push-grown-requires
push-grown-requires c =
    let was : c.args.parts.now.items ≡ c.pop.new.self.items ++ Insert c.in-Some-Insert.last ∷ [] = rw c.in-Some-Insert.field-0-is at c.in-Some-Insert.ensures.items in
    omega (arith, text_fits c.args.parts.now.items c.pop.new.self.items c.in-Some-Insert.last was)

pub unreachable-requires : goal.unreachable-requires
unreachable-requires c =
    let was : c.args.parts.now.items ≡ c.pop.new.self.items ++ Keep c.in-Some-Keep.field-0-0 ∷ [] = rw c.in-Some-Keep.field-0-is at c.in-Some-Keep.ensures.items in
    not_kept_end c.args.parts.now.items c.pop.new.self.items c.in-Some-Keep.field-0-0 c.requires.inserts was

pub unreachable-requires-in-Some-Remove : goal.unreachable-requires-in-Some-Remove
unreachable-requires-in-Some-Remove c =
    let was : c.args.parts.now.items ≡ c.pop.new.self.items ++ Remove c.in-Some-Remove.field-0-0 ∷ [] = rw c.in-Some-Remove.field-0-is at c.in-Some-Remove.ensures.items in
    not_removed_end c.args.parts.now.items c.pop.new.self.items c.in-Some-Remove.field-0-0 c.requires.inserts was

pub returns-clause-ok : goal.returns-clause-ok
returns-clause-ok c =
    let was : c.args.parts.now.items ≡ c.pop.new.self.items ++ Insert c.in-Some-Insert.last ∷ [] = rw c.in-Some-Insert.field-0-is at c.in-Some-Insert.ensures.items in
    text_put_back c.push-grown.result c.args.parts.now.items c.pop.new.self.items c.push.new.self.items c.in-Some-Insert.last c.push-grown.new.self c.args.text.now was c.requires.positive c.push-grown.ensures.ok
    (rw c.unwrap.ensures at c.push.ensures.items)
