use Rattle.std.proofs.Common.{◌∙◌, sym}
use Rattle.std.proofs.lemmas.Result.{on_ok_weaker}
use Rattle.lms_leaf.proofs.StableLemmas.{keeps_stable-write, keeps_stable-same, keeps_stable-trans, stable-synced}
use Rattle.lms_leaf.proofs.leaf_file.take_block.Goals as goal

pub returns-in_err-write_at-clause-stable : goal.returns-in_err-write_at-clause-stable
returns-in_err-write_at-clause-stable g c =
    let old = c.args.disk.now in
    let images = rw c.from.ensures at c.in_err-write_at.ensures.images in
    keeps_stable-write g.D.LeafDisk.told c.args.block old c.write_at.new.self
    (g.met.D.LeafDisk.stored_is_image old) (g.met.D.LeafDisk.images_are_told old) c.requires images

pub returns-clause-taken : goal.returns-clause-taken
returns-clause-taken g c =
    let written = rw c.from.ensures at c.in_ok-write_at.ensures.written in
    on_ok_weaker c.sync.result
    (λ durable. stable-synced (g.D.LeafDisk.told c.args.disk.now).stored _ c.args.block c.requires
    (λ image is. sym written ∙ sym c.sync.ensures.stored ∙ durable image is))
    c.sync.ensures.durable

pub returns-clause-stable : goal.returns-clause-stable
returns-clause-stable g c =
    let old = c.args.disk.now in
    let images = rw c.from.ensures at c.in_ok-write_at.ensures.images in
    keeps_stable-trans g.D.LeafDisk.told old c.write_at.new.self c.sync.new.self
    (keeps_stable-write g.D.LeafDisk.told c.args.block old c.write_at.new.self
    (g.met.D.LeafDisk.stored_is_image old) (g.met.D.LeafDisk.images_are_told old) c.requires images)
    (keeps_stable-same g.D.LeafDisk.told c.write_at.new.self c.sync.new.self c.sync.ensures.images)
