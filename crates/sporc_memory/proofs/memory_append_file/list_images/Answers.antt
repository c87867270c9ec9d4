use Rattle.std.proofs.Common.{List, map, take, subst, arith}
use Rattle.sporc_memory.proofs.Common.{All, take_all, Call, IsImage}
use Rattle.sporc_memory.specs.declared.requests.AppendRequest.{AppendRequest}
use Rattle.sporc_memory.specs.MemoryAppendFile.{state_after}
use Rattle.sporc_memory.proofs.ListedImages.{pushed_are_images}
use Rattle.sporc_memory.proofs.memory_append_file.list_images.Goals as goal

pub returns-clause-images : goal.returns-clause-images
returns-clause-images c =
    let P : List (Call AppendRequest) → Type 0 = λ calls. All (IsImage (state_after c.args.first.now calls)) (map (λ image. image.items) c.push.new.self.items) in
    subst P (take_all c.loop-call.call-index c.args.log.now (omega (arith, c.loop-call-test.false)))
    (pushed_are_images (λ image. image.items) (state_after c.args.first.now (take c.loop-call.call-index c.args.log.now)) c.loop-call.images.items _ c.loop-call.bytes
    c.in_ok-push.ensures.items c.loop-call.invariant.0 c.loop-call.invariant.1)
