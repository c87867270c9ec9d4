use Rattle.std.proofs.Common.{◌≡◌, sym, ap, ◌∙◌, subst}
use Rattle.sporc_store.proofs.Common.{Taken, saved_in, IsUnchecked}
use Rattle.sporc_store.proofs.Taking.{loaded-nobody, saved_unchecked}
use Rattle.sporc_store.proofs.loading.read_saved.Goals as goal

pub returns-clause-ok : goal.returns-clause-ok
returns-clause-ok c = c.in_ok-stop.ensures.ok ∙ loaded-nobody c.args.document.now c.args.bytes.now

pub returns-clause-unchecked : goal.returns-clause-unchecked
returns-clause-unchecked c =
    let is : c.in_ok-stop.stop ≡ (saved_in c.args.document.now c.args.bytes.now).stop =
    ap (λ (t : Taken). t.stop) (c.in_ok-stop.ensures.ok ∙ loaded-nobody c.args.document.now c.args.bytes.now) in
    subst IsUnchecked (sym is) (saved_unchecked c.args.document.now c.args.bytes.now)
