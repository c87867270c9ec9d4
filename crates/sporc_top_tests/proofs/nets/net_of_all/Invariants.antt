use Rattle.sporc_memory.specs.MemoryNetModel.{AreFresh}
use Rattle.sporc_top_tests.proofs.nets.net_of_all.Given as goal

abbrev pub invariant-loop-stream : goal.invariant-loop-stream
invariant-loop-stream g l = AreFresh l.links.items
