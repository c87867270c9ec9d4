-- The shown text of a client is short, since each of its edits is.
use Rattle.std.proofs.Common.{◌≡◌, ℕ, ◌*◌, ◌≤◌, Bool, true, false, cond, List, [], ◌∷◌, length, drop, arith}
use Rattle.sporc_shared.proofs.Common.{change_in, Logged, Edit, Change, Submit, Dropped, Accept, Discard, Opening, PlainClient, committed_of, opened, shown_of}
use Rattle.std.proofs.lemmas.Bool.{and_parts}
use Rattle.std.proofs.Math.Nat.{mul-le-mul_left}
use Rattle.std.specs.Option.{is_some}
use Rattle.sporc_delta.specs.declared.limits.TheConstants.{MAX_COUNT}
use Rattle.sporc_line.specs.declared.limits.TheConstants.{MAX_COMMITTED_LEN}
use Rattle.sporc_line.proofs.FormLengths.{inserted_len-over}
use Rattle.sporc_client.specs.declared.limits.TheConstants.{MAX_EDIT_BYTES, MAX_PENDING}
use Rattle.sporc_client.specs.Allowed.{can_log, can_log_all, is_allowed}
use Rattle.sporc_client.specs.Small.{AreShort}
use Rattle.sporc_client.specs.Soundness.{IsSound}
use Rattle.sporc_client.specs.Step.{accepted, change_comes, edit_comes, form_coming, is_flight, own_comes, replay, replay_from, restated, step}
use Rattle.sporc_client.proofs.Checked.{edit_may}
use Rattle.sporc_client.proofs.Small.{inserted_by-short, inserted_len-bytes, length-shown, short_change, short_drop, short_edit, short_rebased}

accepted_short : (c : PlainClient) (bytes : List ℕ) → AreShort c.pending → AreShort (accepted c bytes).pending
accepted_short c bytes short = go (is_flight c bytes) (is_some (change_in bytes))
  where
    go : (own change : Bool) → AreShort (cond own (own_comes c bytes) (cond change (change_comes c bytes) (edit_comes c bytes))).pending
    go true change = short_drop c.pending short
    go false true = short
    go false false = short_rebased (form_coming c bytes) c.pending short

-- each event that a client allows leaves its pending edits short
step_short : (c : PlainClient) (event : Logged) → AreShort c.pending → can_log c event ≡ true → AreShort (step c event).pending
step_short c (Edit by seen marks) short may =
    let passed = edit_may c by seen marks may in
    short_edit c.pending (restated c seen marks) short (omega (arith, passed.bytes, inserted_len-bytes marks, inserted_len-over marks (drop seen c.shown)))
step_short c (Change by change) short may = short_change c.pending change short
step_short c (Submit by bytes) short may = short
step_short c (Dropped by fault) short may = short_drop c.pending short
step_short c (Accept by bytes) short may = accepted_short c bytes short
step_short c (Discard by) short may = tt

short_from : (c : PlainClient) (log : List Logged) → AreShort c.pending → can_log_all c log ≡ true → AreShort (replay_from c log).pending
short_from c [] short may = short
short_from c (event ∷ log) short may =
    let both = and_parts (can_log c event) (can_log_all (step c event) log) may in
    short_from (step c event) log (step_short c event short both.0) both.1

short_replay : (opening : Opening) (log : List Logged) → is_allowed opening log ≡ true → AreShort (replay opening log).pending
unfolding replay is_allowed
short_replay opening log may = short_from (opened opening) log tt may

pub shown_short : (opening : Opening) (log : List Logged) → is_allowed opening log ≡ true → IsSound (replay opening log) → length (committed_of (replay opening log)) ≤ MAX_COMMITTED_LEN
    → length (replay opening log).pending ≤ MAX_PENDING → length (shown_of (replay opening log)) ≤ MAX_COUNT
shown_short opening log may sound committed few =
    let pending = (replay opening log).pending in
    let bytes : MAX_EDIT_BYTES * length pending ≤ MAX_EDIT_BYTES * MAX_PENDING = mul-le-mul_left MAX_EDIT_BYTES few in
    omega (arith, bytes, committed, inserted_by-short pending (short_replay opening log may), length-shown (committed_of (replay opening log)) pending sound.stated)
