use Rattle.std.proofs.Common.{List, Option, Err, ◌≡◌, [], ◌∷◌, ap, subst, ◌∙◌, arith}
use Rattle.sporc_hosting.proofs.Common.{option_map, err_from_is_err_and, NamedFile, ChangesFile, made_in, file_name, asks_first, asks_then, OpenedOrder}
use Rattle.std.specs.Prelude.{OnErr, OnOk}
use Rattle.sporc_files.specs.declared.file.File.TheVariants as files
use Rattle.sporc_files.proofs.Written.{any_err}
use Rattle.sporc_hosting.proofs.Opened.{changes_same, genesis_fails, order_of_genesis}
use Rattle.sporc_hosting.proofs.opening.open_order.Goals as goal

pub returns-in_err-genesis-clause-found : goal.returns-in_err-genesis-clause-found
returns-in_err-genesis-clause-found g c =
    let failed = err_from_is_err_and c.from_residual.result c.from_residual.ensures.1 in
    genesis_fails (λ (it : OpenedOrder g.row.F-Appended.Denot). it.kept.order) (λ (it : OpenedOrder g.row.F-Appended.Denot). it.logged) (g.F.Folder.told c.args.files.now) c.args.names.now
    (g.F.Folder.told c.read_genesis_file.new.files) _ _ (failed.1 ∙ ap Err failed.2) c.in_err-genesis.ensures.err

pub returns-in_err-genesis-clause-changes : goal.returns-in_err-genesis-clause-changes
returns-in_err-genesis-clause-changes g c = any_err _ _ (changes_same _ _ _ c.in_err-genesis.ensures.reads.files)

pub returns-in_err-genesis-clause-may_ask : goal.returns-in_err-genesis-clause-may_ask
returns-in_err-genesis-clause-may_ask g c =
    asks_first (file_name c.args.names.now files.Genesis ∷ []) (file_name c.args.names.now files.Tail ∷ file_name c.args.names.now files.Log ∷ []) _ _ c.in_err-genesis.ensures.reads.may_ask

pub returns-clause-found : goal.returns-clause-found
returns-clause-found g c =
    order_of_genesis (λ (it : OpenedOrder g.row.F-Appended.Denot). it.kept.order) (λ (it : OpenedOrder g.row.F-Appended.Denot). it.logged) (g.F.Folder.told c.args.files.now)
    c.args.names.now (g.F.Folder.told c.read_genesis_file.new.files) (g.F.Folder.told c.open_order_behind.new.files) c.in_ok-genesis.genesis c.open_order_behind.result c.in_ok-genesis.ensures.reads.files c.in_ok-genesis.ensures.reads.kept
    c.in_ok-genesis.ensures.ok c.open_order_behind.ensures.found

pub returns-clause-made : goal.returns-clause-made
returns-clause-made g c =
    subst (λ (t : Option (List NamedFile)). OnOk c.open_order_behind.result
    ((g.F.Folder.told c.open_order_behind.new.files).files ≡ option_map (λ (told : List NamedFile). made_in told (file_name c.args.names.now files.Tail)) t))
    c.in_ok-genesis.ensures.reads.files c.open_order_behind.ensures.made

pub returns-clause-changes : goal.returns-clause-changes
returns-clause-changes g c =
    subst (λ (t : Option (List NamedFile)). OnErr c.open_order_behind.result (ChangesFile t (g.F.Folder.told c.open_order_behind.new.files).files (file_name c.args.names.now files.Tail)))
    c.in_ok-genesis.ensures.reads.files c.open_order_behind.ensures.changes

pub returns-clause-may_ask : goal.returns-clause-may_ask
returns-clause-may_ask g c =
    asks_then (file_name c.args.names.now files.Genesis ∷ []) (file_name c.args.names.now files.Tail ∷ file_name c.args.names.now files.Log ∷ []) _ _ _ c.in_ok-genesis.ensures.reads.may_ask
    c.open_order_behind.ensures.may_ask

pub returns-in_err-genesis-clause-lent : goal.returns-in_err-genesis-clause-lent
returns-in_err-genesis-clause-lent g c = c.in_err-genesis.ensures.reads.lent

pub returns-in_err-genesis-clause-kept : goal.returns-in_err-genesis-clause-kept
returns-in_err-genesis-clause-kept g c = c.in_err-genesis.ensures.reads.kept

pub returns-clause-lent : goal.returns-clause-lent
returns-clause-lent g c = c.open_order_behind.ensures.lent ∙ c.in_ok-genesis.ensures.reads.lent

pub returns-clause-kept : goal.returns-clause-kept
returns-clause-kept g c = omega (arith, c.in_ok-genesis.ensures.reads.kept, c.open_order_behind.ensures.kept)
