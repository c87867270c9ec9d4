use Rattle.std.proofs.Common.{◌≡◌, ◌++◌, ℕ, List, Option, take, ap₂, ◌∙◌, sym, subst, rules}
use Rattle.sporc_store.proofs.Common.{IfOk, take-append-drop, Verdict, AreExact}
use Rattle.sporc_store.proofs.Exactly.{exact_both}
use Rattle.sporc_store.proofs.appending.append_beside.Goals as goal

pub tell-requires-clause-exact : goal.tell-requires-clause-exact
tell-requires-clause-exact g c =
    let own = c.split_at.result.0.now in
    let others = c.split_at.result.1.now in
    let verdicts = c.in_ok-appended.appended.verdicts.items in
    let further = c.in_ok-found.found.items in
    let first = take c.args.count c.args.rest.now in
    let all : c.append.new.self.items ≡ verdicts ++ further = search rules in
    let examined : AreExact verdicts own = search rules in
    let second : IfOk c.join_mut-found.result.0 (λ v. AreExact v.items others) = search rules in
    let two : AreExact further others = rw c.in_ok-found.was at second in
    let whole : own ++ others ≡ first = ap₂ ◌++◌ c.split_at.ensures.front c.split_at.ensures.back ∙ take-append-drop _ first in
    search (
      rules,
      subst (λ (vs : List (Option Verdict)). AreExact vs first) (sym all)
          (subst (λ (es : List (List ℕ)). AreExact (verdicts ++ further) es) whole (exact_both verdicts further own others examined two)),
    )
