use Rattle.std.proofs.Common.{◌≡◌, vec_len}
use Rattle.sporc_text.proofs.ready.empty_chunks.Given as goal

abbrev pub invariant-loop : goal.invariant-loop
invariant-loop l = vec_len l.chunks ≡ l.counter
