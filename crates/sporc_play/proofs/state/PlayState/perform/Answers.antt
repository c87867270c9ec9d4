use Rattle.sporc_play.proofs.state.PlayState.perform.Goals as goal

pub returns-in-Edit : goal.returns-in-Edit
returns-in-Edit c = record { state = rw c.in-Edit.is c.edit.ensures.state; line = rw c.in-Edit.is c.edit.ensures.line }

pub returns-in-Change : goal.returns-in-Change
returns-in-Change c = record { state = rw c.in-Change.is c.change.ensures.state; line = rw c.in-Change.is c.change.ensures.line }

pub returns-in-Discard : goal.returns-in-Discard
returns-in-Discard c = record { state = rw c.in-Discard.is c.discard.ensures.state; line = rw c.in-Discard.is c.discard.ensures.line }

pub returns-in-Submit : goal.returns-in-Submit
returns-in-Submit c = record { state = rw c.in-Submit.is c.submit.ensures.state; line = rw c.in-Submit.is c.submit.ensures.line }

pub returns-in-Give : goal.returns-in-Give
returns-in-Give c = record { state = rw c.in-Give.is c.give.ensures.state; line = rw c.in-Give.is c.give.ensures.line }

pub returns-in-Restart : goal.returns-in-Restart
returns-in-Restart c = record { state = rw c.in-Restart.is c.restart.ensures.state; line = rw c.in-Restart.is c.restart.ensures.line }

pub returns-in-Join : goal.returns-in-Join
returns-in-Join c = record { state = rw c.in-Join.is c.join.ensures.state; line = rw c.in-Join.is c.join.ensures.line }

pub returns-in-Flip : goal.returns-in-Flip
returns-in-Flip c = record { state = rw c.in-Flip.is c.flip.ensures.state; line = rw c.in-Flip.is c.flip.ensures.line }

pub returns-in-Cut : goal.returns-in-Cut
returns-in-Cut c = record { state = rw c.in-Cut.is c.cut.ensures.state; line = rw c.in-Cut.is c.cut.ensures.line }

pub returns-in-Sign : goal.returns-in-Sign
returns-in-Sign c = record { state = rw c.in-Sign.is c.sign.ensures.state; line = rw c.in-Sign.is c.sign.ensures.line }

pub returns-in-Show-clause-line : goal.returns-in-Show-clause-line
returns-in-Show-clause-line c = rw c.in-Show.is c.show.ensures

pub returns-in-Members-clause-line : goal.returns-in-Members-clause-line
returns-in-Members-clause-line c = rw c.in-Members.is c.members.ensures

pub returns-in-Hash-clause-line : goal.returns-in-Hash-clause-line
returns-in-Hash-clause-line c = rw c.in-Hash.is c.hash.ensures

pub returns-in-Journal-clause-line : goal.returns-in-Journal-clause-line
returns-in-Journal-clause-line c = rw c.in-Journal.is c.journal.ensures

pub returns-in-Compare-clause-line : goal.returns-in-Compare-clause-line
returns-in-Compare-clause-line c = rw c.in-Compare.is c.compare.ensures

pub edit-requires : goal.edit-requires
edit-requires c = record { can = rw c.in-Edit.is at c.requires.can }

pub submit-requires : goal.submit-requires
submit-requires c = record { can = rw c.in-Submit.is at c.requires.can }

pub join-requires : goal.join-requires
join-requires c = record { can = rw c.in-Join.is at c.requires.can }

pub sign-requires : goal.sign-requires
sign-requires c = record { can = rw c.in-Sign.is at c.requires.can }
