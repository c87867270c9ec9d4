use Rattle.std.proofs.Common.{◌≤◌, ap, ◌∙◌, subst}
use Rattle.sporc_shared.specs.Items.{disk_faults}
use Rattle.sporc_shared.proofs.Disks.{disk_counted, disk_kept}
use Rattle.sporc_shared.proofs.held.submit.Goals as goal

pub returns-clause-watermark : goal.returns-clause-watermark
returns-clause-watermark g c =
    let client = c.deref_mut.ensures.value ∙ ap (λ d. d.client.value) c.value-desk.ensures.value in
    subst (λ v. disk_faults g.D.LeafDisk.told v ≤ disk_faults g.D.LeafDisk.told c.submit-answer.new.self) client
    (disk_kept g.D.LeafDisk.told c.deref_mut.result.now c.submit-answer.new.self c.submit-answer.result c.submit-answer.ensures.drawn c.submit-answer.ensures.undrawn)

pub returns-clause-disk : goal.returns-clause-disk
returns-clause-disk g c = disk_counted g.D.LeafDisk.told c.deref_mut.result.now c.submit-answer.new.self c.submit-answer.result c.submit-answer.ensures.drawn _ c.submit-answer.ensures.value
