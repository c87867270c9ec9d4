use Rattle.std.proofs.Common.{◌≡◌, ◌≤◌, ◌++◌, ◌∷◌, [], arith, min, refl, sym, subst}
use Rattle.sporc_line.proofs.Common.{LineModel, ok_of, prepared_of}
use Rattle.sporc_line.proofs.LineKeeps.{ready_here, prepared_here, prepared_fits, line_pushed}
use Rattle.sporc_line.proofs.line.Line.commit.Goals as goal

pub put-requires-clause-made : goal.put-requires-clause-made
put-requires-clause-made c =
    ready_here c.self.invariant c.prepared.inside.form (prepared_here c.self.inside c.prepared.inside c.args.self.now c.args.prepared c.self.view_is c.prepared.view_is c.requires.prepared).ready

pub put-requires-clause-limit : goal.put-requires-clause-limit
put-requires-clause-limit c =
    (prepared_fits c.self.invariant (prepared_of c.prepared.inside) (prepared_here c.self.inside c.prepared.inside c.args.self.now c.args.prepared c.self.view_is c.prepared.view_is c.requires.prepared)).few

pub invariant_of-self : goal.invariant_of-self
invariant_of-self c =
    let i = c.self.inside in
    let j = c.prepared.inside in
    let q = prepared_here i j c.args.self.now c.args.prepared c.self.view_is c.prepared.view_is c.requires.prepared in
    let there : 1 ≤ min i.heads.spare i.forms.spare = subst (λ (m : LineModel). 1 ≤ m.spare) (sym c.self.view_is) c.requires.room in
    let spare : 1 ≤ i.heads.spare = omega (arith, there) in
    let pushed : c.push.new.self.entries ≡ i.heads.entries ++ j.checked.bytes ∷ [] = ok_of c.push.result _ c.push.ensures.ok (c.push.ensures.ready spare) in
    line_pushed i.heads.genesis c.push.new.self.genesis i.kit i.heads.entries c.push.new.self.entries i.key j.key i.forms.base c.put.new.self.base i.forms.forms c.put.new.self.forms i.text c.put-2.new.self (prepared_of j)
    c.self.invariant q c.push.ensures.genesis pushed refl c.put.ensures.base c.put.ensures.forms c.put-2.ensures.value
