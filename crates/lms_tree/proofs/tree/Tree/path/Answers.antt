use Rattle.std.proofs.Common.{◌≡◌, ◌<◌, ap, ◌∙◌, arith}
use Rattle.lms_tree.specs.LmsType.{height_of}
use Rattle.lms_tree.specs.LmsPrivate.{LmsPrivate}
use Rattle.lms_tree.proofs.NodeArrayLemmas.{leaves_is}
use Rattle.lms_tree.proofs.SiblingLemmas.{path_none, path_more}
use Rattle.lms_tree.proofs.tree.Tree.path.Goals as goal

pub levels-init : goal.levels-init
levels-init c =
    let same = ap (λ (p : LmsPrivate). height_of p.lms) c.self.view_is in
    let all = leaves_is (height_of c.args.self.now.lms) c.height-height.result (c.height-height.ensures.value ∙ same) (omega arith) in
    let none = path_none c.args.self.now c.args.q _ all in
    (c.in_ok-path.ensures.items ∙ none.0, none.1)

pub levels-preserved : goal.levels-preserved
levels-preserved c =
    let same = ap (λ (p : LmsPrivate). height_of p.lms) c.self.view_is in
    let tall : c.height-height.result ≡ height_of c.args.self.now.lms = c.height-height.ensures.value ∙ same in
    let level : c.levels._level < height_of c.args.self.now.lms = omega (arith, tall) in
    let had = rw c.self.view_is at c.self.invariant in
    path_more c.args.self.now c.self.inside.nodes.items _ _ c.args.q c.levels._level _ _ _ had c.requires level c.levels.invariant
    c.sibling.ensures c.index.ensures c.in_ok-push.ensures.items
