-- An entry that a client made fits into a message.
use Rattle.std.proofs.Common.{◌≡◌, ℕ, ◌<◌, ◌≤◌, true, List, [], ◌∷◌, ◌++◌, length, Result, Ok, Err, refl, arith}
use Rattle.sporc_session.proofs.Common.{and_parts, MAX_BODY, Logged, PlainClient, opened, step, IsAllowed, Past, with_events}
use Rattle.sporc_entry.specs.declared.entry.Entry.{Entry}
use Rattle.sporc_entry.specs.declared.limits.TheConstants.{MAX_ENTRY}
use Rattle.sporc_entry.specs.Entry.{entry_of}
use Rattle.sporc_entry.proofs.Places.{entry_len}
use Rattle.sporc_client.specs.Allowed.{can_log, can_log_all, is_allowed, is_made}
use Rattle.sporc_client.specs.Log.{Submit}

-- what a submission made
made_len : (c : PlainClient) (bytes : List ℕ) → is_made c bytes (entry_of bytes) ≡ true → length bytes ≤ MAX_ENTRY
made_len c bytes made = by (entry_of bytes) refl made
  where
    by : (r : Result Entry ℕ) → entry_of bytes ≡ r → is_made c bytes r ≡ true → length bytes ≤ MAX_ENTRY
    by (Ok e) reads made = entry_len bytes e reads
    by (Err at) reads made = absurd cc

-- the last event of a log is allowed
allows_last : (c : PlainClient) (log : List Logged) (event : Logged) → can_log_all c (log ++ event ∷ []) ≡ true → (d : PlainClient) × (can_log d event ≡ true)
allows_last c [] event may = (c, (and_parts (can_log c event) true may).0)
allows_last c (e ∷ log) event may = allows_last (step c e) log event (and_parts (can_log c e) (can_log_all (step c e) (log ++ event ∷ [])) may).1

pub submitted_len : (before : Past) (by : ℕ) (entry : List ℕ) → IsAllowed (with_events before (Submit by entry ∷ [])) → length entry < MAX_BODY
unfolding can_log is_allowed
submitted_len before by entry may =
    let last = allows_last (opened before.opening) before.log (Submit by entry) may in
    omega (arith, made_len last.0 entry last.1)
