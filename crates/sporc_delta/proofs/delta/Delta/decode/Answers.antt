use Rattle.std.proofs.Common.{◌≡◌, ◌<◌, length, arith}
use Rattle.sporc_delta.proofs.Common.{owned, read_delta}
use Rattle.std.proofs.lemmas.Result.{err_from_is_err_and}
use Rattle.sporc_delta.proofs.Lengths.{base_len-append, out_len-append}
use Rattle.sporc_delta.proofs.Decoding.{begins, goes_on, stops, ended, some_left, none_left}
use Rattle.sporc_delta.proofs.delta.Delta.decode.Goals as goal

pub loop-cursor-init : goal.loop-cursor-init
loop-cursor-init c =
    let start : c.new-cursor.result ≡ record { rest = c.args.bytes.now; at = 0 } = λ i. record { rest = c.new-cursor.ensures.rest i; at = c.new-cursor.ensures.at i } in
    record { so_far = rw (c.new-delta.ensures.value, start) (begins c.args.bytes.now); base = rw (c.new-delta.ensures.value, start) (omega arith); out = rw (c.new-delta.ensures.value, start) (omega arith) }

pub returns-in_err-piece-clause-err : goal.returns-in_err-piece-clause-err
returns-in_err-piece-clause-err c =
    let p = err_from_is_err_and c.from_residual.result c.from_residual.ensures.1 in
    let some : 0 < length c.loop-cursor.cursor.rest = some_left c.loop-cursor.cursor.rest c.loop-cursor-test.ensures.value in
    rw (p.1, p.2) (λ other. stops c.loop-cursor.delta c.loop-cursor.before c.loop-cursor.cursor c.in_err-piece.field-0.0 (read_delta c.args.bytes.now) some c.in_err-piece.ensures.err c.loop-cursor.invariant.so_far)

pub loop-cursor-preserved : goal.loop-cursor-preserved
loop-cursor-preserved c =
    let some : 0 < length c.loop-cursor.cursor.rest = some_left c.loop-cursor.cursor.rest c.loop-cursor-test.ensures.value in
    let piece = owned c.in_ok-piece.piece in
    record {
      so_far = rw (c.in_ok-push.ensures.ok, c.kind.ensures.value) (goes_on c.loop-cursor.delta c.loop-cursor.before c.loop-cursor.cursor (piece, c.read_part.new.cursor) (read_delta c.args.bytes.now) some c.in_ok-piece.ensures.ok c.loop-cursor.invariant.so_far);
      base = rw (c.in_ok-push.ensures.ok, base_len-append) (omega (arith, c.in_ok-piece.ensures.base_within, c.in_ok-piece.ensures.rest, c.loop-cursor.invariant.base));
      out = rw (c.in_ok-push.ensures.ok, out_len-append) (omega (arith, c.in_ok-piece.ensures.out_within, c.in_ok-piece.ensures.rest, c.loop-cursor.invariant.out));
    }

pub returns-clause-ok : goal.returns-clause-ok
returns-clause-ok c = ended c.loop-cursor.delta c.loop-cursor.before c.loop-cursor.cursor (read_delta c.args.bytes.now) (none_left c.loop-cursor.cursor.rest c.loop-cursor-test.ensures.value) c.loop-cursor.invariant.so_far
