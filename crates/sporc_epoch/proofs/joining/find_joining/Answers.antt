use Rattle.std.proofs.Common.{◌≡◌, ◌<◌, true, false, [], ◌∷◌, ◌++◌, Some, None, length, ap, sym, subst, ◌∙◌, arith}
use Rattle.sporc_epoch.proofs.Common.{joins, joining, start_by, change_in, changes}
use Rattle.sporc_epoch.proofs.Joinings.{Scanned, scanned_other, scanned_change, joining_found, starts_found, front_more, around}
use Rattle.sporc_epoch.proofs.joining.find_joining.Goals as goal

pub loop-bytes-preserved-in_default : goal.loop-bytes-preserved-in_default
loop-bytes-preserved-in_default c =
    let lt : c.loop-bytes.bytes-index < length c.args.entries.now = omega arith in
    let more = front_more (λ v. v.items) c.args.entries.now c.loop-bytes.bytes-index c.bytes-item.result lt c.bytes-item.is in
    let none : change_in c.bytes-item.result.items ≡ None = ap change_in (sym c.as_slice.ensures.value) ∙ sym c.in_ok-change.ensures.ok ∙ c.in_default.is in
    subst (λ es. Scanned c.args.me es c.loop-bytes.starts.items) (sym more) (scanned_other c.args.me _ _ c.bytes-item.result.items c.loop-bytes.invariant none)

pub returns-then-joins-clause-change : goal.returns-then-joins-clause-change
returns-then-joins-clause-change c =
    let lt : c.loop-bytes.bytes-index < length c.args.entries.now = omega arith in
    let whole = around (λ v. v.items) c.args.entries.now c.loop-bytes.bytes-index c.bytes-item.result lt c.bytes-item.is in
    let some : change_in c.bytes-item.result.items ≡ Some c.in-Some.change = ap change_in (sym c.as_slice.ensures.value) ∙ sym c.in_ok-change.ensures.ok ∙ c.in-Some.is in
    let is : joins c.args.me c.in-Some.change ≡ true = cc in
    joining_found c.args.me _ _ c.bytes-item.result.items _ c.in-Some.change c.loop-bytes.invariant some is
    ∙ ap (λ es. joining c.args.me (changes es)) (sym whole)

pub returns-then-joins-clause-starts : goal.returns-then-joins-clause-starts
returns-then-joins-clause-starts c =
    let lt : c.loop-bytes.bytes-index < length c.args.entries.now = omega arith in
    let whole = around (λ v. v.items) c.args.entries.now c.loop-bytes.bytes-index c.bytes-item.result lt c.bytes-item.is in
    let some : change_in c.bytes-item.result.items ≡ Some c.in-Some.change = ap change_in (sym c.as_slice.ensures.value) ∙ sym c.in_ok-change.ensures.ok ∙ c.in-Some.is in
    let is : joins c.args.me c.in-Some.change ≡ true = cc in
    let pushed : c.push.new.self.items ≡ c.loop-bytes.starts.items ++ start_by c.in-Some.change ∷ [] = rw (← c.by.ensures.value) c.in_ok-push.ensures.items in
    rw (pushed, whole)
    (starts_found c.args.me _ _ c.bytes-item.result.items _ c.in-Some.change c.loop-bytes.invariant some is)

pub loop-bytes-preserved : goal.loop-bytes-preserved
loop-bytes-preserved c =
    let lt : c.loop-bytes.bytes-index < length c.args.entries.now = omega arith in
    let more = front_more (λ v. v.items) c.args.entries.now c.loop-bytes.bytes-index c.bytes-item.result lt c.bytes-item.is in
    let some : change_in c.bytes-item.result.items ≡ Some c.in-Some.change = ap change_in (sym c.as_slice.ensures.value) ∙ sym c.in_ok-change.ensures.ok ∙ c.in-Some.is in
    let other : joins c.args.me c.in-Some.change ≡ false = cc in
    let pushed : c.push.new.self.items ≡ c.loop-bytes.starts.items ++ start_by c.in-Some.change ∷ [] = rw (← c.by.ensures.value) c.in_ok-push.ensures.items in
    rw (pushed, more) (scanned_change c.args.me _ _ c.bytes-item.result.items c.in-Some.change c.loop-bytes.invariant some other)
