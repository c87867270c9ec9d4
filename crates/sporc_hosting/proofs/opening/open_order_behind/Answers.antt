use Rattle.std.proofs.Common.{ℕ, List, sym, Err, [], ◌∷◌, ap, refl, subst, ◌∙◌, arith}
use Rattle.sporc_hosting.proofs.Common.{err_from_is_err_and, TakesFile, file_name, AsksOnly, asks_first, asks_then, LoggedOrder, OpenedOrder}
use Rattle.sporc_files.specs.declared.file.File.TheVariants as files
use Rattle.sporc_files.proofs.Written.{any_err}
use Rattle.sporc_hosting.proofs.Opened.{changes_back, order_fails, order_found, rose_back, taking_fails, within_file}
use Rattle.sporc_hosting.proofs.opening.open_order_behind.Goals as goal

pub returns-in_err-taken-clause-found : goal.returns-in_err-taken-clause-found
returns-in_err-taken-clause-found g c =
    let failed = err_from_is_err_and c.from_residual.result c.from_residual.ensures.1 in
    taking_fails (λ (it : OpenedOrder g.row.F-Appended.Denot). it.kept.order) (λ (it : OpenedOrder g.row.F-Appended.Denot). it.logged) (g.F.Folder.told c.args.files.now) c.args.names.now
    (g.F.Folder.told c.append_to_file.new.files) c.args.genesis _ _ (failed.1 ∙ ap Err failed.2) c.in_err-taken.ensures.err

pub returns-in_err-taken-clause-changes : goal.returns-in_err-taken-clause-changes
returns-in_err-taken-clause-changes g c = any_err _ _ c.in_err-taken.ensures.left

pub returns-in_err-taken-clause-may_ask : goal.returns-in_err-taken-clause-may_ask
returns-in_err-taken-clause-may_ask g c =
    asks_first (file_name c.args.names.now files.Tail ∷ []) (file_name c.args.names.now files.Log ∷ []) _ _ c.in_err-taken.ensures.may_ask

pub open_behind-requires-clause-limit : goal.open_behind-requires-clause-limit
open_behind-requires-clause-limit g c κs within =
    within_file (g.F.Folder.told c.args.files.now).files (g.F.Folder.told c.append_to_file.new.files).files (file_name c.args.names.now files.Tail)
    (g.F.Appended.AppendFile.told c.in_ok-taken.taken.file).stored c.in_ok-taken.ensures.made c.in_ok-taken.ensures.ok

pub returns-in-Ok-clause-found : goal.returns-in-Ok-clause-found
returns-in-Ok-clause-found g c =
    order_found (λ (it : OpenedOrder g.row.F-Appended.Denot). it.kept.order) (λ (it : OpenedOrder g.row.F-Appended.Denot). it.logged) (g.F.Folder.told c.args.files.now) c.args.names.now
    c.in-Ok.opened (λ (it : LoggedOrder g.row.F-Appended.Denot). it.kept.order) (λ (it : LoggedOrder g.row.F-Appended.Denot). it.logged)
    (record { kept = c.in-Ok.opened.kept; name = c.in_ok-taken.taken.name; logged = c.in-Ok.opened.logged }) (g.F.Folder.told c.append_to_file.new.files)
    (g.F.Folder.told c.open_behind.new.files) (g.F.Appended.AppendFile.told c.in_ok-taken.taken.file).stored g.F.Appended.AppendFile.told
    c.args.genesis refl refl c.in_ok-taken.ensures.made c.in_ok-taken.ensures.ok
    c.in-Ok.ensures.found

pub returns-in-Ok-clause-may_ask : goal.returns-in-Ok-clause-may_ask
returns-in-Ok-clause-may_ask g c =
    asks_then (file_name c.args.names.now files.Tail ∷ []) (file_name c.args.names.now files.Log ∷ []) _ _ _ c.in_ok-taken.ensures.may_ask c.open_behind.ensures.reads.may_ask

pub returns-in-Err-clause-found : goal.returns-in-Err-clause-found
returns-in-Err-clause-found g c =
    order_fails (λ (it : OpenedOrder g.row.F-Appended.Denot). it.kept.order) (λ (it : OpenedOrder g.row.F-Appended.Denot). it.logged) (g.F.Folder.told c.args.files.now) c.args.names.now
    (λ (it : LoggedOrder g.row.F-Appended.Denot). it.kept.order) (λ (it : LoggedOrder g.row.F-Appended.Denot). it.logged) c.in-Err.fault c.in-Err.file
    (g.F.Folder.told c.append_to_file.new.files) (g.F.Folder.told c.open_behind.new.files) (g.F.Folder.told c.take_file.new.self) _ g.F.Appended.AppendFile.told c.args.genesis
    (rose_back (g.F.Folder.told c.args.files.now).faults (g.F.Folder.told c.append_to_file.new.files).faults (g.F.Folder.told c.open_behind.new.files).faults
    (g.F.Appended.AppendFile.told c.in-Err.file).faults (g.F.Folder.told c.take_file.new.self).faults c.in_ok-taken.ensures.kept c.open_behind.ensures.reads.kept c.take_file.ensures.kept)
    c.in_ok-taken.ensures.made c.in_ok-taken.ensures.ok c.in-Err.ensures.found

pub returns-in-Err-clause-changes : goal.returns-in-Err-clause-changes
returns-in-Err-clause-changes g c =
    changes_back (g.F.Folder.told c.args.files.now).files (g.F.Folder.told c.open_behind.new.files).files _ _ (g.F.Appended.AppendFile.told c.in-Err.file).stored
    (c.open_behind.ensures.reads.files ∙ c.in_ok-taken.ensures.made)
    (subst (λ (n : List ℕ). TakesFile n (g.F.Appended.AppendFile.told c.in-Err.file).stored (g.F.Folder.told c.open_behind.new.files).files (g.F.Folder.told c.take_file.new.self).files)
    (c.as_str.ensures.value ∙ c.in_ok-taken.ensures.name) c.take_file.ensures.back)

pub returns-in-Err-clause-may_ask : goal.returns-in-Err-clause-may_ask
returns-in-Err-clause-may_ask g c =
    subst (AsksOnly (file_name c.args.names.now files.Tail ∷ file_name c.args.names.now files.Log ∷ []) (g.F.Folder.told c.args.files.now).asked) (sym c.take_file.ensures.asked)
    (asks_then (file_name c.args.names.now files.Tail ∷ []) (file_name c.args.names.now files.Log ∷ []) _ _ _ c.in_ok-taken.ensures.may_ask c.open_behind.ensures.reads.may_ask)

pub returns-in-Err-clause-kept : goal.returns-in-Err-clause-kept
returns-in-Err-clause-kept g c = omega (arith, c.faults-faults.ensures.value, g.met.F.Folder.faults_are_told c.open_behind.new.files, c.take_file.ensures.kept, c.open_behind.ensures.reads.kept, c.in_ok-taken.ensures.kept)

pub returns-in-Ok-clause-made : goal.returns-in-Ok-clause-made
returns-in-Ok-clause-made g c = c.open_behind.ensures.reads.files ∙ c.in_ok-taken.ensures.made

pub returns-in-Ok-clause-lent : goal.returns-in-Ok-clause-lent
returns-in-Ok-clause-lent g c = c.open_behind.ensures.reads.lent ∙ c.in_ok-taken.ensures.lent

pub returns-in-Ok-clause-kept : goal.returns-in-Ok-clause-kept
returns-in-Ok-clause-kept g c = omega (arith, c.in_ok-taken.ensures.kept, c.open_behind.ensures.reads.kept)

pub returns-in-Err-clause-lent : goal.returns-in-Err-clause-lent
returns-in-Err-clause-lent g c = c.take_file.ensures.lent ∙ c.open_behind.ensures.reads.lent ∙ c.in_ok-taken.ensures.lent
