use Rattle.sporc_xform.proofs.Restated.{later-earlier, later-later, later-both}
use Rattle.sporc_xform.proofs.transform.push_later.Goals as goal

pub returns-in-Earlier : goal.returns-in-Earlier
returns-in-Earlier c = record { ok = rw (c.in-Earlier.is, later-earlier c.in-Earlier.text, ← c.len.ensures.value) c.push_keep.ensures.ok }

pub returns-in-Later : goal.returns-in-Later
returns-in-Later c = record { ok = rw (c.in-Later.is, later-later c.in-Later.text) c.push_insert.ensures.ok }

pub returns-in-Both : goal.returns-in-Both
returns-in-Both c = record { ok = rw (c.in-Both.is, later-both c.in-Both.earlier_removes c.in-Both.later_removes c.in-Both.count) c.push_base.ensures.ok }
