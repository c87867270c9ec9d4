use Rattle.std.proofs.Common.{sym, arith}
use Rattle.lms_tree.proofs.PublicKeyLemmas.{public_key_is, public_key_spelling}
use Rattle.lms_tree.proofs.public_key.LmsPublic.from_bytes.Goals as goal

pub returns-clause-value : goal.returns-clause-value
returns-clause-value c =
    let first = rw c.u32_at.ensures at (sym c.in_ok-lms.ensures.value) in
    let second = rw c.u32_at-2.ensures at (sym c.in_ok-ots.ensures.value) in
    public_key_is c.args.bytes.now _ _ _ _ (omega arith) first second c.copy_from_slice.ensures.after c.copy_from_slice-2.ensures.after

pub returns-clause-written_so : goal.returns-clause-written_so
returns-clause-written_so c =
    let first = rw c.u32_at.ensures at (sym c.in_ok-lms.ensures.value) in
    let second = rw c.u32_at-2.ensures at (sym c.in_ok-ots.ensures.value) in
    public_key_spelling c.args.bytes.now _ _ _ _ (omega arith) (λ i. (c.type_inv.bytes i).fits) first second
    c.copy_from_slice.ensures.after c.copy_from_slice-2.ensures.after
