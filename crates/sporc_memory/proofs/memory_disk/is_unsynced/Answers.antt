use Rattle.std.proofs.Common.{rules, ℕ, [], List, take, length, IsTrue, ◌↔◌, ap, sym, subst, ◌∙◌, arith}
use Rattle.sporc_memory.proofs.Common.{take-length, fold_more, Call, DiskState, IsUnsynced, state_after}
use Rattle.sporc_memory.specs.Logged.{after_call}
use Rattle.sporc_memory.specs.MemoryDisk.{after_request}
use Rattle.sporc_memory.specs.declared.requests.DiskRequest.{DiskRequest}
use Rattle.sporc_memory.proofs.memory_disk.is_unsynced.Goals as goal

pub loop-call-init : goal.loop-call-init
loop-call-init c = search rules

pub loop-call-preserved : goal.loop-call-preserved
loop-call-preserved c = λ first.
    let s = state_after first (take c.loop-call.call-index c.args.log.now) in
    let P : DiskState → Type 0 = λ s. IsTrue c.is_unsynced_after-is_unsynced.result ↔ IsUnsynced s.unsynced c.args.at in
    let next = fold_more (after_call after_request) (record { bytes = first; unsynced = [] }) c.args.log.now c.loop-call.call-index c.call-item.result c.loop-call-test.true in
    subst P (ap (after_call after_request s) c.call-item.is ∙ sym next) (c.is_unsynced_after-is_unsynced.ensures s (c.loop-call.invariant first))

pub returns : goal.returns
returns c = λ first.
    let P : ℕ → Type 0 = λ n. IsTrue c.loop-call.is_unsynced ↔ IsUnsynced (state_after first (take n c.args.log.now)).unsynced c.args.at in
    let Q : List (Call DiskRequest) → Type 0 = λ calls. IsTrue c.loop-call.is_unsynced ↔ IsUnsynced (state_after first calls).unsynced c.args.at in
    subst Q (take-length c.args.log.now) (subst P (omega (arith, c.loop-call-test.false, c.loop-call.auto.call-index-end)) (c.loop-call.invariant first))
