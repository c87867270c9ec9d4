use Rattle.std.proofs.Common.{◌≡◌, ◌+◌, ◌++◌, ◌<◌, ℕ, zero, suc, List, [], ◌∷◌, string_bytes, ap, ◌∙◌, arith}
use Rattle.sporc_play.proofs.Common.{encode_utf8, IsAscii, chars, chars-IsAscii}
use Rattle.sporc_play.proofs.generated.letter.Goals as goal

one_ascii : (c : ℕ) → c < 128 → IsAscii (c ∷ [])
one_ascii c low zero = low
one_ascii c low (suc i) = omega arith

pub returns : goal.returns
returns c =
    let letter = 97 + c.args.place in
    let low : c.from.result < 128 = omega (arith, c.from.ensures) in
    let pushed = c.in_ok-push.ensures in
    let bytes : string_bytes c.push.new.self ≡ letter ∷ [] =
    pushed.bytes ∙ ap (λ (old : List ℕ). old ++ encode_utf8 c.from.result) c.new-text.ensures.bytes ∙ pushed.ascii low ∙ ap (λ (n : ℕ). n ∷ []) c.from.ensures in
    c.from_string.ensures.value ∙ ap chars bytes ∙ chars-IsAscii (letter ∷ []) (one_ascii letter (omega arith))
