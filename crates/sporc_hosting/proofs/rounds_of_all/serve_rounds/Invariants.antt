use Rattle.std.proofs.Common.{◌≡◌, ◌≤◌, ◌-◌}
use Rattle.sporc_hosting.proofs.Common.{AsksOnly, AreHeld, IsRoundOfAll, logs_of, AsksAtMost, ends, stands}
use Rattle.sporc_hosting.proofs.Roundabout.{RoundsSoFar}
use Rattle.sporc_outside.specs.Nets.{AreShutBehind}
use Rattle.sporc_hosting.proofs.rounds_of_all.serve_rounds.Given as goal

abbrev pub invariant-rounds : goal.invariant-rounds
invariant-rounds g l = record {
  rounds : RoundsSoFar (IsRoundOfAll l.rounds.names.now.words.now l.rounds.sessions)
      (stands g.F.Folder.told g.O.Stream.told g.N.Links.told l.fn.held.docs l.fn.files l.fn.out l.fn.net)
      (ends g.F.Folder.told g.O.Stream.told g.N.Links.told (λ kept. kept.docs) l.last l.files l.out l.net)
      l.done;
  some : 1 ≤ l.done;
  within : l.done ≤ l.rounds.times;
  tails : AreHeld g.F.Appended.AppendFile.told l.rounds.names.now.words.now l.last.held.tails.items l.last.held.docs;
  lent : (g.F.Folder.told l.files).lent ≡ (g.F.Folder.told l.fn.files).lent;
  asked : AsksOnly (logs_of l.rounds.names.now.words.now) (g.F.Folder.told l.fn.files).asked (g.F.Folder.told l.files).asked;
  kept : (g.F.Folder.told l.fn.files).faults ≤ (g.F.Folder.told l.files).faults;
  net_asked : AsksAtMost l.done (g.N.Links.told l.fn.net).asked (g.N.Links.told l.net).asked l.rounds.address.now;
  shut : AreShutBehind (g.N.Links.told l.fn.net).returned (g.N.Links.told l.net).returned;
  links_out : (g.N.Links.told l.net).out ≡ (g.N.Links.told l.fn.net).out;
  net_kept : (g.N.Links.told l.fn.net).faults ≤ (g.N.Links.told l.net).faults;
  out_kept : (g.O.Stream.told l.fn.out).faults ≤ (g.O.Stream.told l.out).faults;
}

abbrev pub decreases-rounds : goal.decreases-rounds
decreases-rounds g l = l.rounds.times - l.done
