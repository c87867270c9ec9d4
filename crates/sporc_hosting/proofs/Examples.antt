-- Worked examples of the definitions: the line of `serve`, as docs/MANUAL.md has it, what it begins with, and which fault comes first.
use Rattle.std.proofs.Common.{◌≡◌, List, ℕ, [], ◌∷◌, None, Ok, Err, codes, refl, ap, append-nil}
use Rattle.sporc_hosting.proofs.Common.{Genesis, read_to}
use Rattle.sporc_hosting.proofs.Common.{OrderModel, ended, logged, order_of_whole, order_with, with_tail, after_last, log_line}
use Rattle.std.specs.Fmt.{digits}
use Rattle.sporc_serve.specs.declared.fault.ServeFault.TheVariants as serving
use Rattle.sporc_store.specs.declared.stop.Stop.TheVariants.{Cut}
use Rattle.sporc_files.specs.declared.fault.Fault.TheVariants as faults
use Rattle.sporc_files.specs.declared.file.File.TheVariants as files
use Rattle.sporc_store.specs.Loading.{accepted_behind}
use Rattle.sporc_store.specs.TailBytes.{tail_behind}

one_entry_saved : log_line 1 ≡ codes "log 1\n"
unfolding digits
one_entry_saved = refl

-- a server without a log begins with no entries
no_log : (genesis : Genesis) → logged genesis None ≡ Ok (order_with genesis [])
no_log genesis = refl

a_cut_log : (genesis : Genesis) (a : List ℕ) → order_of_whole files.Log genesis (read_to (a ∷ []) (Cut 34)) ≡ Err (faults.Malformed files.Log 34)
a_cut_log genesis a = refl

-- a tail without bytes, as one that is not there, adds nothing
no_tail : (order : OrderModel) → with_tail order [] ≡ Ok order
unfolding tail_behind accepted_behind
no_tail order = ap (λ (es : List (List ℕ)). Ok (order_with order.genesis es)) (append-nil order.entries)

-- a removal that fails is told behind a time that ended well, and not behind a fault of that
a_tail_left : after_last (Ok tt) (Err faults.Outside) ≡ Err faults.Outside
a_tail_left = refl

a_fault_before : after_last (Err faults.Worn) (Err faults.Outside) ≡ Err faults.Worn
a_fault_before = refl

-- it could not listen, and saved its log: `fault outside` is told
no_sessions : ended (Err serving.ListenFault) (Ok tt) ≡ Err faults.Outside
no_sessions = refl

sessions_alone : ended (Ok tt) (Err faults.FullFile) ≡ Err faults.FullFile
sessions_alone = refl
