use Rattle.std.proofs.Common.{◌≡◌, ◌++◌, ℕ, List, Option, ap₂, ◌∙◌, sym, subst, rules}
use Rattle.sporc_store.proofs.Common.{IfOk, take-append-drop, Verdict, AreExact}
use Rattle.sporc_store.proofs.Exactly.{exact_both}
use Rattle.sporc_store.proofs.workers.+examine_by+fn-examine_by-join_mut+arg3.Goals as goal

pub returns : goal.returns
returns g t c =
    let part = c.split_at.result.0.now in
    let rest = c.split_at.result.1.now in
    let verdicts = c.in_ok-verdicts.verdicts.items in
    let further = c.in_ok-further.further.items in
    let all : c.append.new.self.items ≡ verdicts ++ further = search rules in
    let first : IfOk c.join_mut-first.result.0 (λ v. AreExact v.items part) = search rules in
    let second : IfOk c.join_mut-first.result.1 (λ v. AreExact v.items rest) = search rules in
    let one : AreExact verdicts part = rw c.in_ok-verdicts.was at first in
    let two : AreExact further rest = rw c.in_ok-further.was at second in
    let whole : part ++ rest ≡ c.args.entries.now = ap₂ ◌++◌ c.split_at.ensures.front c.split_at.ensures.back ∙ take-append-drop _ c.args.entries.now in
    subst (λ (vs : List (Option Verdict)). AreExact vs c.args.entries.now) (sym all)
    (subst (λ (es : List (List ℕ)). AreExact (verdicts ++ further) es) whole (exact_both verdicts further part rest one two))
