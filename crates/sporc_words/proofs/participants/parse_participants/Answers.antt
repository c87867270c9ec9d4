use Rattle.sporc_words.proofs.NamedLemmas.{all_read, first_left, one_bad, one_read}
use Rattle.sporc_words.proofs.participants.parse_participants.Goals as goal

pub loop-word-init : goal.loop-word-init
loop-word-init c = rw c.new-participants.ensures.items (first_left _)

pub returns-in_default : goal.returns-in_default
returns-in_default c =
    record {
      ok = one_bad c.args.words.now c.loop-word.participants.items c.loop-word.word-index _ _ c.loop-word-test.true c.in_default.ensures.value c.loop-word.invariant;
    }

pub loop-word-preserved : goal.loop-word-preserved
loop-word-preserved c =
    rw c.in_ok-push.ensures.items
    (one_read c.args.words.now c.loop-word.participants.items c.loop-word.word-index _ c.in-Some.participant _ c.loop-word-test.true c.in-Some.ensures.value c.loop-word.invariant)

pub returns : goal.returns
returns c =
    record { ok = rw c.new.ensures.value (all_read c.args.words.now c.loop-word.participants.items c.loop-word.word-index _ c.loop-word-test.false c.loop-word.invariant) }
