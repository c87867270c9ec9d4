use Rattle.sporc_xform.proofs.Restated.{earlier-earlier, earlier-later, earlier-both}
use Rattle.sporc_xform.proofs.transform.push_earlier.Goals as goal

pub returns-in-Earlier : goal.returns-in-Earlier
returns-in-Earlier c = record { ok = rw (c.in-Earlier.is, earlier-earlier c.in-Earlier.text) c.push_insert.ensures.ok }

pub returns-in-Later : goal.returns-in-Later
returns-in-Later c = record { ok = rw (c.in-Later.is, earlier-later c.in-Later.text, ← c.len.ensures.value) c.push_keep.ensures.ok }

pub returns-in-Both : goal.returns-in-Both
returns-in-Both c = record { ok = rw (c.in-Both.is, earlier-both c.in-Both.earlier_removes c.in-Both.later_removes c.in-Both.count) c.push_base.ensures.ok }
