use Rattle.std.proofs.Common.{sym}
use Rattle.sporc_script.proofs.NumberReaders.{first_follows, last_follows, next_follows, no_last_follows, no_number_follows}
use Rattle.sporc_script.proofs.numbers.parse_numbers.Goals as goal

pub loop-word-init : goal.loop-word-init
loop-word-init c = rw c.new-numbers.ensures.items (first_follows c.args.words.now)

pub returns-in_default-parse_u64 : goal.returns-in_default-parse_u64
returns-in_default-parse_u64 c =
    sym (no_number_follows c.args.words.now c.loop-word.numbers.items c.loop-word.rest.now c.in-Some.word.now c.in-Some.after.now
    c.loop-word.invariant c.in-Some.ensures.value (sym c.in_default-parse_u64.ensures.value))

pub loop-word-preserved : goal.loop-word-preserved
loop-word-preserved c =
    rw c.in_ok-push.ensures.items
    (next_follows c.args.words.now c.loop-word.numbers.items c.loop-word.rest.now c.in-Some.word.now c.in-Some.after.now c.in-Some-parse_u64.number
    c.loop-word.invariant c.in-Some.ensures.value (sym c.in-Some-parse_u64.ensures.value))

pub returns-in_default-parse_u64-2 : goal.returns-in_default-parse_u64-2
returns-in_default-parse_u64-2 c =
    sym (no_last_follows c.args.words.now c.loop-word.numbers.items c.loop-word.rest.now c.loop-word.invariant c.in_default.ensures.value (sym c.in_default-parse_u64-2.ensures.value))

pub returns : goal.returns
returns c =
    rw (c.new.ensures.value, c.in_ok-push-2.ensures.items)
    (sym (last_follows c.args.words.now c.loop-word.numbers.items c.loop-word.rest.now c.in-Some-parse_u64-2.number
    c.loop-word.invariant c.in_default.ensures.value (sym c.in-Some-parse_u64-2.ensures.value)))
