use Rattle.std.proofs.Common.{[], ◌∷◌, map, ap, ◌∙◌}
use Rattle.sporc_memory.proofs.Common.{map-append}
use Rattle.sporc_memory.proofs.memory_disk.MemoryDisk.push_spoilt.Goals as goal

pub returns : goal.returns
returns c = record {
  image = c.in_ok-image.image.items;
  behind = ap (map (λ image. image.items)) c.in_ok-push.ensures.items ∙ map-append (λ image. image.items) c.args.images.now.items (c.in_ok-image.image ∷ []);
  spoilt = c.in_ok-image.ensures;
}
