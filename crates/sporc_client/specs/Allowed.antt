-- Logs that a client can come to by its own calls.
use Rattle.std.specs.Prelude.{ℕ, ◌+◌, ◌^◌, ◌==◌, nat_lt, Bool, true, false, ◌&&◌, List, [], ◌∷◌}
use Rattle.std.specs.Prelude.{◌++◌, length, drop, take, is_none, unwrap_or, Option, None, Some}
use Rattle.std.specs.Prelude.{replicate, Result, Ok, Err}
use Rattle.std.specs.Str.{bytes_eq}
use Rattle.std.specs.FinMap.{get}
use Rattle.lms_tree.specs.LmsType.{height_of}
use Rattle.sporc_cipher.specs.Mask.{mask_of}
use Rattle.sporc_entry.specs.declared.entry.Entry.{Entry}
use Rattle.sporc_entry.specs.declared.change.ChangeBody.{ChangeBody}
use Rattle.sporc_entry.specs.declared.wrap.Wrap.{Wrap}
use Rattle.sporc_entry.specs.Entry.{entry_of, change_of}
use Rattle.sporc_epoch.specs.Keys.{Keys}
use Rattle.sporc_epoch.specs.Streams.{stream_of}
use Rattle.sporc_member.specs.declared.change.ChangeFault.{ChangeFault}
use Rattle.sporc_member.specs.ChangeFault.{change_fault_code_of}
use Rattle.sporc_client.specs.declared.fault.SubmitFault.{SubmitFault}
use Rattle.sporc_client.specs.declared.submitted.Submitted.{Submitted}
use Rattle.sporc_client.specs.declared.submitted.Submitted.TheVariants as submitted
use Rattle.sporc_client.specs.Answers.{accept_fault, change_fault, discard_fault, edit_fault}
use Rattle.sporc_client.specs.Log.{Logged, Edit, Change, Submit, Dropped, Accept, Discard}
use Rattle.sporc_client.specs.PlainClient.{Opening, PlainClient, opened}
use Rattle.sporc_client.specs.Step.{step}
use Rattle.sporc_client.specs.Submissions.{Due, Waiting, Nothing, Drop, Refuse, Sign, due}
use Rattle.sporc_client.specs.Submissions.{submission}

-- ---- what an entry shows of how it was made

-- the randomizer: a signature begins with its leaf and the type of its one-time key, each in four
-- bytes
abbrev pub randomizer_in : Entry → List ℕ
randomizer_in e = take 32 (drop 8 e.signature)

-- the key that is sealed in the first wrap, which its author can open
abbrev pub first_sealed : Keys → ℕ → List Wrap → List ℕ
first_sealed pairs stream [] = replicate 32 0
first_sealed pairs stream (wrap ∷ wraps) =
    mask_of (unwrap_or (get pairs wrap.member) []) stream wrap.sealed

abbrev pub new_key_of : Keys → ℕ → Option ChangeBody → List ℕ
new_key_of pairs stream None = replicate 32 0
new_key_of pairs stream (Some body) = first_sealed pairs stream body.wraps

-- the key of the next epoch, if it is a change by a member with these pairwise keys
abbrev pub new_key_in : Keys → Entry → List ℕ
new_key_in pairs e = new_key_of pairs (stream_of e.header) (change_of e)

-- ---- which events a client's calls make

abbrev pub is_entry : List ℕ → Result Submitted SubmitFault → Bool
is_entry bytes (Ok (submitted.Entry made)) = bytes_eq made bytes
is_entry bytes (Ok submitted.Waiting) = false
is_entry bytes (Ok submitted.Nothing) = false
is_entry bytes (Ok (submitted.Dropped fault)) = false
is_entry bytes (Err fault) = false

-- a submission makes exactly these bytes, with the leaf and the random bytes that they show
abbrev pub is_made : PlainClient → List ℕ → Result Entry ℕ → Bool
is_made c bytes (Err at) = false
is_made c bytes (Ok e) = nat_lt e.header.leaf (2 ^ height_of c.opening.key.lms) && is_entry bytes
    (submission c (randomizer_in e ++ new_key_in c.opening.kit.pairs e) (Ok e.header.leaf))

-- a submission takes the first pending item off for this fault
abbrev pub is_drop : ChangeFault → Due → Bool
is_drop fault (Drop found) = change_fault_code_of found == change_fault_code_of fault
is_drop fault Waiting = false
is_drop fault Nothing = false
is_drop fault (Refuse refusal) = false
is_drop fault (Sign item) = false

-- the client answers the event's call with this event
unfoldable pub can_log : PlainClient → Logged → Bool
can_log c (Edit by seen marks) = is_none (edit_fault c seen marks)
can_log c (Change by change) = is_none (change_fault c)
can_log c (Submit by bytes) = is_made c bytes (entry_of bytes)
can_log c (Dropped by fault) = is_drop fault (due c)
can_log c (Accept by bytes) = is_none (accept_fault c (length c.entries + 1) bytes)
can_log c (Discard by) = is_none (discard_fault c)

-- so for each event of a log, in turn
abbrev pub can_log_all : PlainClient → List Logged → Bool
can_log_all c [] = true
can_log_all c (event ∷ log) = can_log c event && can_log_all (step c event) log

unfoldable pub is_allowed : Opening → List Logged → Bool
is_allowed opening log = can_log_all (opened opening) log
