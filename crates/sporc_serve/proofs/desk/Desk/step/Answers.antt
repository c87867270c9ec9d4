use Rattle.std.proofs.Common.{◌≡◌, ◌<◌, ◌^◌, ℕ, List, [], ◌∷◌, ◌++◌, length, arith, rules, sym, ap, subst, ◌∙◌, inl, inr}
use Rattle.sporc_serve.proofs.Common.{OrderModel, step_of, log_of, placed_by, added_of}
use Rattle.std.proofs.Math.Logic.{∥∥₁_map}
use Rattle.sporc_serve.specs.declared.desk.Desk.{Desk}
use Rattle.sporc_serve.proofs.Logs.{log_adds}
use Rattle.sporc_serve.proofs.Sendable.{answer_sendable, reply_sendable}
use Rattle.sporc_serve.proofs.desk.Desk.step.Goals as goal
use Rattle.sporc_serve.proofs.desk.Desk.step.Goals.{then-len-before, else-len-before}

pub invariant_of-self-in-Break-branch-2 : goal.invariant_of-self-in-Break-branch-2
invariant_of-self-in-Break-branch-2 g c = record { matched = search rules; kept = ∥∥₁_map c.args.self.now.kept c.step_kept.ensures.tail }

pub invariant_of-self-then-len-before-clause-kept : goal.invariant_of-self-then-len-before-clause-kept
invariant_of-self-then-len-before-clause-kept g c = ∥∥₁_map c.args.self.now.kept c.step_kept.ensures.tail

pub invariant_of-self-else-len-before-clause-kept : goal.invariant_of-self-else-len-before-clause-kept
invariant_of-self-else-len-before-clause-kept g c = ∥∥₁_map c.args.self.now.kept c.step_kept.ensures.tail

pub returns-clause-log : goal.returns-clause-log
returns-clause-log g c =
    let o = c.args.self.now.order in
    let ns = c.args.self.now.numbers.items in
    let n = c.args.number in
    let m = c.args.message.now in
    let s = c.args.session.now in
    elim c.if-len-before.branch [
      | then-len-before w ↦
          subst (λ (d : Desk g.row.T.Denot g.T.Tail). log_of d.order d.numbers.items ≡ log_of o ns ++ placed_by n (added_of o s m)) (sym w.self-is)
          (log_adds o c.step_kept.new.order s m ns w.push_reserved.new.self.items n c.in_ok-reply.ensures.order c.args.self.now.matched
          (inl (omega (arith, w.if-len-before.true), w.push_reserved.ensures.items ∙ ap (λ (l : List ℕ). l ++ n ∷ []) c.reserve.ensures.items)))
      | else-len-before w ↦
          subst (λ (d : Desk g.row.T.Denot g.T.Tail). log_of d.order d.numbers.items ≡ log_of o ns ++ placed_by n (added_of o s m)) (sym w.self-is)
          (log_adds o c.step_kept.new.order s m ns c.reserve.new.self.items n c.in_ok-reply.ensures.order c.args.self.now.matched
          (inr (omega (arith, w.if-len-before.false), c.reserve.ensures.items)))
    ]

pub returns-clause-sendable : goal.returns-clause-sendable
returns-clause-sendable g c framed =
    let low : length c.step_kept.new.order.entries < 2 ^ 32 = omega arith in
    reply_sendable (step_of c.args.self.now.order c.args.session.now c.args.message.now).answer c.in_ok-reply.reply c.in_ok-reply.ensures.reply
    (answer_sendable c.args.self.now.order c.args.session.now c.args.message.now
    (subst (λ (x : OrderModel). length x.entries < 2 ^ 32) c.in_ok-reply.ensures.order low) framed)
