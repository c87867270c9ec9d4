use Rattle.std.proofs.Common.{arith, List, ℕ, ap, ◌∙◌, length}
use Rattle.sporc_session.proofs.Common.{err_from_is_err_and, link_at, link_told}
use Rattle.sporc_session.proofs.Fetching.{ends_empty, ends_full, greeted, is_nothing, lost, still, stopped}
use Rattle.sporc_session.proofs.fetches.fetch.Goals as goal
use Rattle.sporc_session.proofs.fetches.fetch.Goals.{then-is_last-via-then-is_last, then-is_last-via-else-is_last+then-len}

pub loop-entries-init : goal.loop-entries-init
loop-entries-init g c = record {
  few = omega (arith, ap (λ (l : List (List ℕ)). length l) c.new-entries.ensures.value);
  shut = c.send.ensures.shut;
  so_far =
      greeted (link_told (g.L.Stream.told c.args.link.now)) (link_at (g.L.Stream.told c.send.new.link) c.new-inbox.result) c.args.document.now c.args.member
      c.new-inbox.ensures.value c.hello_of.ensures.value c.new-entries.ensures.value c.in_ok-send.ensures.ok;
}

pub returns-in_err-came-clause-fetch : goal.returns-in_err-came-clause-fetch
returns-in_err-came-clause-fetch g c =
    let p = err_from_is_err_and c.from_residual-in_err-came.result c.from_residual-in_err-came.ensures.1 in
    (c.pull.new.inbox, rw (p.1, p.2) (stopped c.loop-entries.invariant.so_far c.len.ensures.value c.in_err-came.ensures.err))

pub returns-in_err-append-clause-fetch : goal.returns-in_err-append-clause-fetch
returns-in_err-append-clause-fetch g c =
    let p = err_from_is_err_and c.from_residual-in_err-append.result c.from_residual-in_err-append.ensures.1 in
    (c.pull.new.inbox, rw (p.1, p.2) (lost c.in_ok-came.came c.len.result c.loop-entries.invariant.so_far c.len.ensures.value c.in_ok-came.ensures.ok))

pub returns-then-is_last-clause-fetch : goal.returns-then-is_last-clause-fetch
returns-then-is_last-clause-fetch g c = (
  c.pull.new.inbox,
  elim c.then-is_last.branch [
    | then-is_last-via-then-is_last w ↦ ends_empty c.in_ok-came.came c.len.result c.loop-entries.invariant.so_far c.len.ensures.value c.in_ok-came.ensures.ok c.in_ok-append.ensures.ok
        (is_nothing c.is_empty-is_last.ensures.value w.if-is_last.true)
    | then-is_last-via-else-is_last+then-len w ↦ ends_full c.in_ok-came.came c.len.result c.loop-entries.invariant.so_far c.len.ensures.value c.in_ok-came.ensures.ok c.in_ok-append.ensures.ok
        (omega (arith, w.if-len.true, w.len-else-is_last.ensures.value))
  ],
)

pub loop-entries-preserved : goal.loop-entries-preserved
loop-entries-preserved g c = record {
  few = omega (arith, c.if-len.false, c.len-else-is_last.ensures.value);
  shut = c.pull.ensures.shut ∙ c.loop-entries.invariant.shut;
  so_far =
      still c.in_ok-came.came c.len.result c.loop-entries.invariant.so_far c.len.ensures.value c.in_ok-came.ensures.ok c.in_ok-append.ensures.ok
      (λ none. grind (arith, c.is_empty-is_last.ensures.value.1 (ap (λ (l : List (List ℕ)). length l) none), c.if-is_last.false))
      (omega (arith, c.if-len.false, c.len-else-is_last.ensures.value));
}
