use Rattle.std.proofs.Common.{◌≤◌, length, arith, ap}
use Rattle.sporc_delta.proofs.Common.{chars, IsUtf8-from_is_utf8}
use Rattle.sporc_delta.proofs.Counted.{cut_at}
use Rattle.sporc_delta.proofs.text.TextSlice.split_at.Goals as goal

pub split_at-requires : goal.split_at-requires
split_at-requires c =
    let text = c.self.inside.text.now in
    let within : c.args.at ≤ length (chars c.self.inside.text.now) = omega (arith, ap length c.self.view_is) in
    (cut_at text c.args.at c.place_of.result (IsUtf8-from_is_utf8 text c.self.invariant.utf8) within c.place_of.ensures.value).boundary

pub invariant_of-result : goal.invariant_of-result
invariant_of-result c =
    let text = c.self.inside.text.now in
    let within : c.args.at ≤ length (chars c.self.inside.text.now) = omega (arith, ap length c.self.view_is) in
    rw c.split_at.ensures.front (cut_at text c.args.at c.place_of.result (IsUtf8-from_is_utf8 text c.self.invariant.utf8) within c.place_of.ensures.value).front

pub invariant_of-result-2 : goal.invariant_of-result-2
invariant_of-result-2 c =
    let text = c.self.inside.text.now in
    let within : c.args.at ≤ length (chars c.self.inside.text.now) = omega (arith, ap length c.self.view_is) in
    rw (c.split_at.ensures.back, c.self.invariant.count_is) (cut_at text c.args.at c.place_of.result (IsUtf8-from_is_utf8 text c.self.invariant.utf8) within c.place_of.ensures.value).back

pub returns-clause-prefix : goal.returns-clause-prefix
returns-clause-prefix c =
    let text = c.self.inside.text.now in
    let within : c.args.at ≤ length (chars c.self.inside.text.now) = omega (arith, ap length c.self.view_is) in
    rw (← c.self.view_is, c.split_at.ensures.front) (cut_at text c.args.at c.place_of.result (IsUtf8-from_is_utf8 text c.self.invariant.utf8) within c.place_of.ensures.value).front_is

pub returns-clause-back : goal.returns-clause-back
returns-clause-back c =
    let text = c.self.inside.text.now in
    let within : c.args.at ≤ length (chars c.self.inside.text.now) = omega (arith, ap length c.self.view_is) in
    rw (← c.self.view_is, c.split_at.ensures.back) (cut_at text c.args.at c.place_of.result (IsUtf8-from_is_utf8 text c.self.invariant.utf8) within c.place_of.ensures.value).back_is
