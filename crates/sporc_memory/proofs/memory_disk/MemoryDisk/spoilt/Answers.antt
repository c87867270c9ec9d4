use Rattle.std.proofs.Common.{rules, ◌≡◌, ℕ, ◌≤◌, ◌++◌, List, length, take, drop, sym, subst, ◌∙◌, arith}
use Rattle.sporc_memory.proofs.Common.{take-length, take-append-le, Call, IsSpoilt, state_after}
use Rattle.sporc_memory.specs.declared.requests.DiskRequest.{DiskRequest}
use Rattle.sporc_memory.proofs.memory_disk.MemoryDisk.spoilt.Goals as goal

pub returns : goal.returns
returns c =
    let disk = c.args.self.now in
    let image = c.spoil.new.image in
    let log_is : c.deref-2.result.now ≡ disk.log = search rules in
    let bytes_are : c.deref_mut.result.now ≡ (state_after disk.first disk.log).bytes = search rules in
    let P : List (Call DiskRequest) → Type 0 = λ log. IsSpoilt (record { bytes = c.deref_mut.result.now; unsynced = (state_after disk.first log).unsynced }) c.args.byte image in
    let Q : List ℕ → Type 0 = λ bytes. IsSpoilt (record { bytes = bytes; unsynced = (state_after disk.first disk.log).unsynced }) c.args.byte image in
    let R : List ℕ → Type 0 = λ image. IsSpoilt (state_after disk.first disk.log) c.args.byte image in
    let done = c.spoil.ensures disk.first in
    let behind = drop (length image) c.in_ok-image.image.items in
    let len_is : length image ≡ c.in_ok-image.image.len = done.as_long ∙ c.deref_mut.ensures.len in
    let le : length image ≤ length image = omega arith in
    let whole : take (length image) (image ++ behind) ≡ image = take-append-le (length image) image behind le ∙ take-length image in
    let S : ℕ → Type 0 = λ n. take n (image ++ behind) ≡ image in
    subst R (sym (subst S len_is whole)) (subst Q bytes_are (subst P log_is done))
