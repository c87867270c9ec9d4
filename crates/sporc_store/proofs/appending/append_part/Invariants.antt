use Rattle.std.proofs.Common.{◌≡◌, ◌≤◌, ◌+◌, ◌++◌, ℕ, List, drop, length}
use Rattle.sporc_store.proofs.Common.{accepted_from, Stop}
use Rattle.sporc_store.proofs.appending.append_part.Given as goal

abbrev pub invariant-loop-taken : goal.invariant-loop-taken
invariant-loop-taken g l = record {
  checker : g.H.History.checker l.history ≡ g.H.History.checker l.fn.history;
  count : length (g.H.History.entries l.history) ≡ l.before + l.taken;
  within : l.taken ≤ length l.entries;
  so_far : (rest : List (List ℕ)) (stop : Stop) → accepted_from (g.H.History.checker l.fn.history) (g.H.History.entries l.fn.history) (l.entries ++ rest) stop
      ≡ accepted_from (g.H.History.checker l.fn.history) (g.H.History.entries l.history) (drop l.taken l.entries ++ rest) stop;
}
