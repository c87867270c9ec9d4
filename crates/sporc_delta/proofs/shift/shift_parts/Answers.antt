use Rattle.std.proofs.Common.{◌-◌, List, length, refl, ap}
use Rattle.sporc_delta.proofs.Common.{Part, First, Last}
use Rattle.sporc_delta.proofs.Shifted.{put_there}
use Rattle.sporc_delta.proofs.shift.shift_parts.Goals as goal

pub returns-in-First : goal.returns-in-First
returns-in-First c = record { shifts = put_there c.args.shift (First c.in-First.count) c.args.parts.now.items 0 c.in-First.is refl c.requires.positive c.requires.kept_positive }

pub returns-in-Last : goal.returns-in-Last
returns-in-Last c =
    let place = ap (λ (ps : List Part). length ps - 1) c.as_slice.ensures.value in
    record { shifts = put_there c.args.shift (Last c.in-Last.count) c.args.parts.now.items _ c.in-Last.is place c.requires.positive c.requires.kept_positive }
