use Rattle.std.proofs.Common.{rules, ◌≡◌, [], ◌∷◌, map}
use Rattle.sporc_memory.proofs.Common.{bytes_of}
use Rattle.sporc_memory.proofs.Spoiling.{four_listed}
use Rattle.sporc_memory.proofs.memory_disk.MemoryDisk.images.Goals as goal

pub returns : goal.returns
returns c =
    let first : map (λ image. image.items) c.push.new.self.items ≡ c.in_ok-same.same.items ∷ [] = search rules in
    let is : c.in_ok-same.same.items ≡ bytes_of c.args.self.now = search rules in
    record { ok = four_listed _ _ _ _ _ _ first is c.in_ok-push_spoilt.ensures c.in_ok-push_spoilt-2.ensures c.in_ok-push_spoilt-3.ensures }
