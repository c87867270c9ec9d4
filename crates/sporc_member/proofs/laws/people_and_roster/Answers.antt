use Rattle.sporc_member.proofs.PeopleBack.{people_restored}
use Rattle.sporc_member.proofs.RosterBack.{history_restored}
use Rattle.sporc_member.proofs.laws.people_and_roster.Goals as goal

pub returns-clause-people : goal.returns-clause-people
returns-clause-people c = people_restored

pub returns-clause-roster : goal.returns-clause-roster
returns-clause-roster c = history_restored
