use Rattle.std.proofs.Common.{◌≡◌, ◌+◌, ◌++◌, [], ◌∷◌, ℕ, List, map, drop, sym, ap, ◌∙◌, Vec, Global}
use Rattle.sporc_play.proofs.Common.{map-append, entries_at}
use Rattle.sporc_play.proofs.Found.{behind, found_more}
use Rattle.sporc_play.proofs.made.entries_at.Goals as goal

pub loop-number-preserved : goal.loop-number-preserved
loop-number-preserved c =
    let bytes_of : Vec ℕ Global → List ℕ = λ v. v.items in
    let made = map bytes_of c.args.made.now in
    let numbers = c.args.numbers.now in
    let i = c.loop-number.number-index in
    let found = c.loop-number.entries.items in
    let pushed : map bytes_of c.push.new.self.items ≡ map bytes_of found ++ c.in-Some.entry.now ∷ [] =
    ap (λ (xs : List (Vec ℕ Global)). map bytes_of xs) c.in_ok-push.ensures.items ∙ map-append bytes_of found (c.in_ok-copy.copy ∷ []) ∙ ap (λ (bytes : List ℕ). map bytes_of found ++ bytes ∷ []) c.in_ok-copy.ensures.items in
    c.loop-number.invariant ∙ found_more made (map bytes_of found) c.in-Some.entry.now numbers i c.loop-number-test.true c.in-Some.ensures.value
    ∙ ap (λ (es : List (List ℕ)). behind es (entries_at made (drop (i + 1) numbers))) (sym pushed)
