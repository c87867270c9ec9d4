use Rattle.std.proofs.Common.{◌∙◌, List, ap, subst, sym, ℕ}
use Rattle.sporc_store.proofs.Common.{Genesis, tail_behind, taken_to, OpensBehind, tail_on}
use Rattle.sporc_store.proofs.TailOpens.{on_err, told_still}
use Rattle.sporc_store.proofs.TailSettles.{same_stays, settles_with, stays_then}
use Rattle.sporc_store.proofs.tail_file.begin.Goals as goal

pub returns-in_err-settle-clause-found : goal.returns-in_err-settle-clause-found
returns-in_err-settle-clause-found g c =
    let settles = settles_with g.A.AppendFile.told c.args.order.now.entries c.args.order.now.genesis.document c.document.result.now c.in_ok-bytes.bytes.items
    c.deref.result.now (taken_to c.in_ok-tail.tail.entries.items c.in_ok-tail.tail.whole) c.read_synced.new.file c.settle.new.file _
    (c.document.ensures.value ∙ ap (λ (genesis : Genesis). genesis.document) c.in_ok-tail.ensures.genesis) c.deref.ensures.value c.in_ok-tail.ensures.reads
    c.in_ok-tail.ensures.fits c.in_ok-bytes.ensures.within c.in_ok-tail.ensures.entries_within c.in_ok-bytes.ensures.synced c.in_err-settle.ensures.settles in
    stays_then g.A.AppendFile.told c.args.order.now.entries c.args.order.now.genesis.document c.args.file.now c.read_synced.new.file c.settle.new.file
    (same_stays g.A.AppendFile.told c.args.order.now.entries c.args.order.now.genesis.document c.args.file.now c.read_synced.new.file
    c.in_ok-bytes.ensures.images) settles.stays

pub returns-in_err-settle-clause-still_told : goal.returns-in_err-settle-clause-still_told
returns-in_err-settle-clause-still_told g c =
    let settles = settles_with g.A.AppendFile.told c.args.order.now.entries c.args.order.now.genesis.document c.document.result.now c.in_ok-bytes.bytes.items
    c.deref.result.now (taken_to c.in_ok-tail.tail.entries.items c.in_ok-tail.tail.whole) c.read_synced.new.file c.settle.new.file _
    (c.document.ensures.value ∙ ap (λ (genesis : Genesis). genesis.document) c.in_ok-tail.ensures.genesis) c.deref.ensures.value c.in_ok-tail.ensures.reads
    c.in_ok-tail.ensures.fits c.in_ok-bytes.ensures.within c.in_ok-tail.ensures.entries_within c.in_ok-bytes.ensures.synced c.in_err-settle.ensures.settles in
    on_err c.from_residual-in_err-settle.result
    (told_still g.A.AppendFile.told g.met.A.AppendFile.stored_is_image c.args.order.now.entries c.args.order.now.genesis.document
    c.in_ok-bytes.bytes.items c.read_synced.new.file c.settle.new.file (g.A.AppendFile.told c.args.file.now).stored c.in_ok-bytes.ensures.stored c.in_ok-bytes.ensures.bytes
    c.in_ok-bytes.ensures.synced c.in_err-settle.ensures.told settles.stays)

pub returns-clause-read : goal.returns-clause-read
returns-clause-read g c = record {
  bytes = c.in_ok-bytes.bytes.items;
  told = c.in_ok-bytes.ensures.bytes;
  within = c.in_ok-bytes.ensures.within;
  takes = record {
    taken = taken_to c.in_ok-tail.tail.entries.items c.in_ok-tail.tail.whole;
    reads = ap (tail_behind c.args.order.now.entries c.args.order.now.genesis.document) (sym c.deref.ensures.value) ∙ c.in_ok-tail.ensures.reads;
    accepted = c.in_ok-tail.ensures.accepted;
    all = c.in_ok-tail.ensures.all;
  };
}

pub returns-clause-opens : goal.returns-clause-opens
returns-clause-opens g c =
    let settles = settles_with g.A.AppendFile.told c.args.order.now.entries c.args.order.now.genesis.document c.document.result.now c.in_ok-bytes.bytes.items
    c.deref.result.now (taken_to c.in_ok-tail.tail.entries.items c.in_ok-tail.tail.whole) c.read_synced.new.file c.settle.new.file _
    (c.document.ensures.value ∙ ap (λ (genesis : Genesis). genesis.document) c.in_ok-tail.ensures.genesis) c.deref.ensures.value c.in_ok-tail.ensures.reads
    c.in_ok-tail.ensures.fits c.in_ok-bytes.ensures.within c.in_ok-tail.ensures.entries_within c.in_ok-bytes.ensures.synced c.in_ok-settle.ensures.settles in
    subst (λ (entries : List (List ℕ)). OpensBehind g.A.AppendFile.told c.args.order.now.entries
    (tail_on c.settle.new.file c.args.order.now.genesis.document) entries) (sym c.in_ok-tail.ensures.all) settles.opens

pub returns-clause-found : goal.returns-clause-found
returns-clause-found g c =
    let settles = settles_with g.A.AppendFile.told c.args.order.now.entries c.args.order.now.genesis.document c.document.result.now c.in_ok-bytes.bytes.items
    c.deref.result.now (taken_to c.in_ok-tail.tail.entries.items c.in_ok-tail.tail.whole) c.read_synced.new.file c.settle.new.file _
    (c.document.ensures.value ∙ ap (λ (genesis : Genesis). genesis.document) c.in_ok-tail.ensures.genesis) c.deref.ensures.value c.in_ok-tail.ensures.reads
    c.in_ok-tail.ensures.fits c.in_ok-bytes.ensures.within c.in_ok-tail.ensures.entries_within c.in_ok-bytes.ensures.synced c.in_ok-settle.ensures.settles in
    stays_then g.A.AppendFile.told c.args.order.now.entries c.args.order.now.genesis.document c.args.file.now c.read_synced.new.file c.settle.new.file
    (same_stays g.A.AppendFile.told c.args.order.now.entries c.args.order.now.genesis.document c.args.file.now c.read_synced.new.file
    c.in_ok-bytes.ensures.images) settles.stays
