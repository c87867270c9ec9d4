use Rattle.std.proofs.Common.{◌++◌, ℕ, map, string_bytes, ap, ◌∙◌, Vec, Global}
use Rattle.sporc_play.proofs.Common.{Joining, seat_joined, join_line}
use Rattle.sporc_play.proofs.Becoming.{ok_then}
use Rattle.sporc_play.proofs.Found.{all_found, joining_found, none_there}
use Rattle.sporc_play.proofs.joining.join.Goals as goal

pub returns-in-Entries-clause-line : goal.returns-in-Entries-clause-line
returns-in-Entries-clause-line c = ok_then c.join_by.result _ _ c.join_by.ensures.line (λ told s cast same.
    let seat = c.args.seat.now in
    let made = map (λ (v : Vec ℕ Global). v.items) c.args.made.now in
    let found = all_found made c.args.join.now.entries c.as_slice.result.now c.in_ok-entries.field-0 c.in-Entries.entries c.as_slice-in-Entries.result.now
    c.in-Entries.is c.in_ok-entries.ensures.value c.as_slice.ensures.value c.as_slice-in-Entries.ensures.value in
    told s cast same
    ∙ ap (λ (joining : Joining). string_bytes c.args.out.now ++ join_line seat.device joining) (joining_found s made c.args.join.now seat _ found (none_there seat.client c.if-is_some.ensures)))

pub returns-in-Entries-clause-seat : goal.returns-in-Entries-clause-seat
returns-in-Entries-clause-seat c = ok_then c.join_by.result _ _ c.join_by.ensures.seat (λ joined s cast same.
    let seat = c.args.seat.now in
    let made = map (λ (v : Vec ℕ Global). v.items) c.args.made.now in
    let found = all_found made c.args.join.now.entries c.as_slice.result.now c.in_ok-entries.field-0 c.in-Entries.entries c.as_slice-in-Entries.result.now
    c.in-Entries.is c.in_ok-entries.ensures.value c.as_slice.ensures.value c.as_slice-in-Entries.ensures.value in
    joined s cast same
    ∙ ap (seat_joined s seat) (joining_found s made c.args.join.now seat _ found (none_there seat.client c.if-is_some.ensures)))
