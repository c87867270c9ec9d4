use Rattle.std.proofs.Common.{◌≡◌, ◌∷◌, ◌++◌, ◌+◌, ℕ, suc, List, [], take, drop, refl, sym, ap, ◌∙◌, subst, add-one}
use Rattle.sporc_session.proofs.Common.{drop_all, EditorLine, known_of, LinesDone}
use Rattle.std.proofs.Math.Seq.{drop-cons, take-suc}
use Rattle.sporc_session.proofs.Knowing.{counts_then}
use Rattle.sporc_session.proofs.Lining.{did_all, did_err, done_none, done_push}
use Rattle.sporc_session.proofs.Wearing.{worn_at}
use Rattle.sporc_script.proofs.Sizes.{all_at}
use Rattle.sporc_script.specs.EditorLines.{IsShort}
use Rattle.sporc_session.proofs.editor.do_lines.Goals as goal

pub loop-line-init : goal.loop-line-init
loop-line-init g c = record { lock = c.requires.lock; counts = record { number = refl; splits = refl; joined = refl }; done = ([], done_none (known_of c.args.pass)) }

pub loop-line-preserved : goal.loop-line-preserved
loop-line-preserved g c =
    let lines = c.args.lines.now in
    let i = c.loop-line.line-index in
    let line = c.line-item.result in
    let did = c.loop-line.invariant.done in
    let k2 = known_of c.do_line-one.result.1 in
    let more = done_push (known_of c.args.pass) (known_of c.loop-line.mine) k2 (take i lines) did.0 line c.in_default.field-0 c.do_line-one.result.0 c.in_default.is did.1 c.do_line-one.ensures.did in
    let front : take i lines ++ line ∷ [] ≡ take (i + 1) lines =
    ap (λ (l : EditorLine). take i lines ++ l ∷ []) c.line-item.is ∙ sym (take-suc lines i line c.loop-line-test.true) ∙ ap (λ (n : ℕ). take n lines) (sym (add-one i)) in
    record {
      lock = c.do_line-one.ensures.lock;
      counts = counts_then (known_of c.args.pass) (known_of c.loop-line.mine) k2 c.loop-line.invariant.counts c.do_line-one.ensures.counts;
      done = (did.0 ++ more.0 ∷ [], subst (λ (ls : List EditorLine). LinesDone (known_of c.args.pass) k2 ls (did.0 ++ more.0 ∷ [])) front more.1);
    }

pub do_line-one-requires-clause-limit : goal.do_line-one-requires-clause-limit
do_line-one-requires-clause-limit g c =
    all_at (λ (l : EditorLine). IsShort l.command) c.args.lines.now c.loop-line.line-index c.line-item.result c.requires.limit c.loop-line-test.true c.line-item.is

pub returns-in-Err-clause-did : goal.returns-in-Err-clause-did
returns-in-Err-clause-did g c =
    let lines = c.args.lines.now in
    let i = c.loop-line.line-index in
    let line = c.line-item.result in
    let rest = drop (suc i) lines in
    let next : drop i lines ≡ line ∷ rest = drop-cons lines i line c.loop-line-test.true ∙ ap (λ (l : EditorLine). l ∷ rest) (sym c.line-item.is) in
    did_err (known_of c.args.pass) (known_of c.loop-line.mine) (known_of c.do_line-one.result.1) lines i c.loop-line.invariant.done.0 line rest c.in-Err.fault c.do_line-one.result.0 next c.in-Err.is
    c.loop-line.invariant.done.1 c.do_line-one.ensures.did

pub returns-clause-did : goal.returns-clause-did
returns-clause-did g c =
    did_all (known_of c.args.pass) (known_of c.loop-line.mine) c.args.lines.now c.loop-line.line-index c.loop-line.invariant.done.0 (drop_all c.loop-line.line-index c.args.lines.now c.loop-line-test.false) c.loop-line.invariant.done.1

pub returns-in-Err-clause-read : goal.returns-in-Err-clause-read
returns-in-Err-clause-read g c =
    worn_at c.do_line-one.result.1 c.do_line-one.result.0 c.in-Err.fault c.in-Err.is c.do_line-one.ensures.read
