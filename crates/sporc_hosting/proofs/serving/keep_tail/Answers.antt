use Rattle.std.proofs.Common.{rules, ◌≡◌, ◌∙◌, ℕ, List, length, ap, arith, subst, sym}
use Rattle.sporc_hosting.proofs.Common.{IfSome, GivesAll}
use Rattle.sporc_hosting.proofs.Given.{gives_kept}
use Rattle.sporc_hosting.proofs.serving.keep_tail.Goals as goal

pub returns-then-is_own-clause-keeps : goal.returns-then-is_own-clause-keeps
returns-then-is_own-clause-keeps g c =
    let is16 : length c.document.result.now ≡ 16 = search rules in
    let own = c.is_behind-is_own.ensures.value.0 c.if-is_own.true in (
      (g.F.Appended.AppendFile.told c.close.result).stored,
      c.take_file.ensures.back,
      subst (λ file. IfSome (g.F.Appended.AppendFile.told file).stored (λ bytes. ∥ GivesAll c.args.logged c.args.order.now.genesis.document bytes c.args.order.now.entries ∥₁)) (sym c.close.ensures.value)
          (gives_kept g.F.Appended.AppendFile.told c.args.tail c.args.order.now.genesis.document c.args.logged
          c.args.order.now.entries g.met.F.Appended.AppendFile.stored_is_image (ap (λ (d : List ℕ). length d) (sym c.document.ensures.value) ∙ is16) (own.0 ∙ c.document.ensures.value) own.1 c.requires.tail),
    )

pub returns-then-is_own-clause-kept : goal.returns-then-is_own-clause-kept
returns-then-is_own-clause-kept g c = omega (arith, c.faults-faults.ensures.value, g.met.F.Folder.faults_are_told c.args.files.now, c.take_file.ensures.kept)

pub returns-clause-kept : goal.returns-clause-kept
returns-clause-kept g c = omega (arith, c.faults-faults.ensures.value, g.met.F.Folder.faults_are_told c.args.files.now, c.take_file.ensures.kept)
