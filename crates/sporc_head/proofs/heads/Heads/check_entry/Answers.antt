use Rattle.std.proofs.Common.{◌≡◌, ap, sym, ◌∙◌, Some, None}
use Rattle.sporc_head.proofs.Common.{first_of, Roster, member_at, key_of, author_device, Memory, place_checks, history_checks, roster_checks, roster_of}
use Rattle.std.proofs.lemmas.Result.{err_from_is_err_and}
use Rattle.sporc_entry.specs.declared.header.Header.{Header}
use Rattle.sporc_head.proofs.OnceChecked.{unless_exit, at_place, at_history, at_author, at_roster}
use Rattle.sporc_head.proofs.heads.Heads.check_entry.Goals as goal

pub returns-in_err-check_place : goal.returns-in_err-check_place
returns-in_err-check_place c =
    let g = c.args.self.now.genesis in
    let entries = c.args.self.now.entries in
    let p = err_from_is_err_and c.from_residual.result c.from_residual.ensures.1 in
    unless_exit Memory _ p.0 c.in_err-check_place.field-0.0 _ p.1 p.2
    (λ _. at_place g c.args.me entries c.args.pos c.args.view.now.entry _ (ap (λ (h : Header). first_of (place_checks g c.args.me entries c.args.pos h)) (sym c.header.ensures.value) ∙ c.in_err-check_place.ensures))

pub returns-in_err-author : goal.returns-in_err-author
returns-in_err-author c =
    let g = c.args.self.now.genesis in
    let entries = c.args.self.now.entries in
    let p = err_from_is_err_and c.from_residual-in_err-author.result c.from_residual-in_err-author.ensures.1 in
    let place : first_of (place_checks g c.args.me entries c.args.pos c.args.view.now.entry.header) ≡ None = ap (λ (h : Header). first_of (place_checks g c.args.me entries c.args.pos h)) (sym c.header.ensures.value) ∙ c.in_ok-check_place.ensures in
    unless_exit Memory _ p.0 c.in_err-author.field-0.0 _ p.1 p.2
    (λ _. at_history g c.args.me entries c.args.pos c.args.view.now.entry place _ (ap (λ (h : Header). first_of (history_checks g entries h)) (sym c.header-2.ensures.value) ∙ c.in_err-author.ensures.fault))

pub returns-in_err-check_author : goal.returns-in_err-check_author
returns-in_err-check_author c =
    let g = c.args.self.now.genesis in
    let entries = c.args.self.now.entries in
    let p = err_from_is_err_and c.from_residual-in_err-check_author.result c.from_residual-in_err-check_author.ensures.1 in
    let place : first_of (place_checks g c.args.me entries c.args.pos c.args.view.now.entry.header) ≡ None = ap (λ (h : Header). first_of (place_checks g c.args.me entries c.args.pos h)) (sym c.header.ensures.value) ∙ c.in_ok-check_place.ensures in
    let history : first_of (history_checks g entries c.args.view.now.entry.header) ≡ None = ap (λ (h : Header). first_of (history_checks g entries h)) (sym c.header-2.ensures.value) ∙ c.in_ok-author.ensures.fault in
    let member : Some c.in_ok-author.author.member ≡ member_at (roster_of g entries) c.args.view.now.entry.header.author = c.in_ok-author.ensures.member ∙ ap (λ (h : Header). member_at (roster_of g entries) h.author) c.header-2.ensures.value in
    let key : Some c.in_ok-author.author.key ≡ key_of (roster_of g entries) (author_device c.args.view.now.entry.header) = c.in_ok-author.ensures.key ∙ ap (λ (h : Header). key_of (roster_of g entries) (author_device h)) c.header-2.ensures.value in
    unless_exit Memory _ p.0 c.in_err-check_author.field-0.0 _ p.1 p.2
    (λ _. at_author g c.args.me entries c.args.pos c.args.view.now.entry place c.in_ok-author.author.member c.in_ok-author.author.key member key history _ c.in_err-check_author.ensures.fault)

pub returns-in_err-check_change : goal.returns-in_err-check_change
returns-in_err-check_change c =
    let g = c.args.self.now.genesis in
    let entries = c.args.self.now.entries in
    let p = err_from_is_err_and c.from_residual-in_err-check_change.result c.from_residual-in_err-check_change.ensures.1 in
    let place : first_of (place_checks g c.args.me entries c.args.pos c.args.view.now.entry.header) ≡ None = ap (λ (h : Header). first_of (place_checks g c.args.me entries c.args.pos h)) (sym c.header.ensures.value) ∙ c.in_ok-check_place.ensures in
    let history : first_of (history_checks g entries c.args.view.now.entry.header) ≡ None = ap (λ (h : Header). first_of (history_checks g entries h)) (sym c.header-2.ensures.value) ∙ c.in_ok-author.ensures.fault in
    let member : Some c.in_ok-author.author.member ≡ member_at (roster_of g entries) c.args.view.now.entry.header.author = c.in_ok-author.ensures.member ∙ ap (λ (h : Header). member_at (roster_of g entries) h.author) c.header-2.ensures.value in
    let key : Some c.in_ok-author.author.key ≡ key_of (roster_of g entries) (author_device c.args.view.now.entry.header) = c.in_ok-author.ensures.key ∙ ap (λ (h : Header). key_of (roster_of g entries) (author_device h)) c.header-2.ensures.value in
    unless_exit Memory _ p.0 c.in_err-check_change.field-0.0 _ p.1 p.2
    (λ n. at_roster g c.args.me entries c.args.pos c.args.view.now.entry place c.in_ok-author.author.member c.in_ok-author.author.key member key history (Some c.in-Some.body.now) _ c.in_ok-check_author.ensures.fault c.in-Some.ensures.value
    (ap (λ (r : Roster). first_of (roster_checks r (Some c.in-Some.body.now))) (sym c.roster.ensures.value) ∙ c.in_err-check_change.ensures.fault n))

pub returns-in_ok-check_change : goal.returns-in_ok-check_change
returns-in_ok-check_change c =
    let g = c.args.self.now.genesis in
    let entries = c.args.self.now.entries in
    let place : first_of (place_checks g c.args.me entries c.args.pos c.args.view.now.entry.header) ≡ None = ap (λ (h : Header). first_of (place_checks g c.args.me entries c.args.pos h)) (sym c.header.ensures.value) ∙ c.in_ok-check_place.ensures in
    let history : first_of (history_checks g entries c.args.view.now.entry.header) ≡ None = ap (λ (h : Header). first_of (history_checks g entries h)) (sym c.header-2.ensures.value) ∙ c.in_ok-author.ensures.fault in
    let member : Some c.in_ok-author.author.member ≡ member_at (roster_of g entries) c.args.view.now.entry.header.author = c.in_ok-author.ensures.member ∙ ap (λ (h : Header). member_at (roster_of g entries) h.author) c.header-2.ensures.value in
    let key : Some c.in_ok-author.author.key ≡ key_of (roster_of g entries) (author_device c.args.view.now.entry.header) = c.in_ok-author.ensures.key ∙ ap (λ (h : Header). key_of (roster_of g entries) (author_device h)) c.header-2.ensures.value in
    at_roster g c.args.me entries c.args.pos c.args.view.now.entry place c.in_ok-author.author.member c.in_ok-author.author.key member key history (Some c.in-Some.body.now) None c.in_ok-check_author.ensures.fault c.in-Some.ensures.value
    (ap (λ (r : Roster). first_of (roster_checks r (Some c.in-Some.body.now))) (sym c.roster.ensures.value) ∙ c.in_ok-check_change.ensures.fault)
