use Rattle.std.proofs.Common.{◌≡◌, ◌-◌, ◌<◌, length}
use Rattle.sporc_session.proofs.Common.{MAX_ENTRIES, empty_inbox, link_at}
use Rattle.sporc_session.proofs.Fetching.{SoFar}
use Rattle.sporc_session.proofs.fetches.fetch.Given as goal

abbrev pub invariant-loop-entries : goal.invariant-loop-entries
invariant-loop-entries g l = record {
  few : length l.entries < MAX_ENTRIES;
  shut : (g.L.Stream.told l.link).is_shut ≡ (g.L.Stream.told l.fn.link).is_shut;
  so_far : SoFar (link_at (g.L.Stream.told l.fn.link) empty_inbox) (link_at (g.L.Stream.told l.link) l.inbox) l.document l.member l.entries;
}

abbrev pub decreases-loop-entries : goal.decreases-loop-entries
decreases-loop-entries g l = MAX_ENTRIES - length l.entries
