use Rattle.std.proofs.Common.{rules, ℕ, ◌≡◌, length, ◌+◌, ◌-◌, ◌*◌, ◌/◌, arith, ◌∙◌, ap}
use Rattle.sporc_cipher.specs.Mask.{mask_from}
use Rattle.sporc_cipher.proofs.Stream.{masked_below, masked_below-word, masked_below-all, drawn}
use Rattle.sporc_cipher.proofs.mask.Goals as goal

pub words-init : goal.words-init
unfolding mask_from
words-init c = search rules

pub words-preserved : goal.words-preserved
words-preserved c =
    let i = c.words.i in
    let first = c.args.bytes.now in
    let key = c.args.key.now in
    let draws = drawn key c.args.stream i _ _ _ c.words.invariant.rng (omega arith) c.next_word.ensures in
    let piece = masked_below-word key c.args.stream i (4 * i + 4 - 4 * i) c.next_word.result first c.words.bytes c.mask_piece.new.piece
    (omega arith) (omega arith) c.words.invariant.bytes c.words.auto.bytes draws.0 c.mask_piece.auto.piece c.mask_piece.ensures in
    let next : 4 * i + (4 * i + 4 - 4 * i) ≡ 4 * (i + 1) = omega arith in
    record { rng = draws.1; bytes = piece ∙ ap (λ (n : ℕ). masked_below key c.args.stream n first) next }

pub returns-then-whole-bytes : goal.returns-then-whole-bytes
returns-then-whole-bytes c =
    let first = c.args.bytes.now in
    let key = c.args.key.now in
    let i = length first / 4 in
    let done : c.words.i ≡ i = omega arith in
    let all : 4 * i + (length c.words.bytes - 4 * i) ≡ length first = omega arith in
    let before = rw done at c.words.invariant in
    let draws = drawn key c.args.stream i _ _ _ before.rng (omega arith) c.next_word-then-whole-bytes.ensures in
    let piece = masked_below-word key c.args.stream i (length c.words.bytes - 4 * i) c.next_word-then-whole-bytes.result first c.words.bytes
    c.mask_piece-then-whole-bytes.new.piece (omega arith) (omega arith) before.bytes c.words.auto.bytes draws.0 c.mask_piece-then-whole-bytes.auto.piece
    c.mask_piece-then-whole-bytes.ensures in
    record { masked = piece ∙ masked_below-all key c.args.stream _ first all }
