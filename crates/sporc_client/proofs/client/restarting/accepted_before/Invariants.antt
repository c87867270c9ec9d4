use Rattle.std.proofs.Common.{◌≡◌, [], take, None}
use Rattle.sporc_client.proofs.Common.{forms_of, journal_of, log_of_entries}
use Rattle.sporc_client.proofs.client.restarting.accepted_before.Given as goal

abbrev pub invariant-loop-i : goal.invariant-loop-i
invariant-loop-i l = record {
  pending : l.own.pending ≡ [];
  flight : l.own.flight ≡ None;
  shown : l.own.shown ≡ take l.i (forms_of l.line.genesis l.line.kit l.line.entries);
  journal : l.own.journal ≡ journal_of (log_of_entries (take l.i l.line.entries));
}
