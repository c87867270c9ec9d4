use Rattle.std.proofs.Common.{Ok, Err, [], ◌∷◌, ap, ◌∙◌, arith}
use Rattle.sporc_commands.proofs.Common.{err_from_is_err_and, use_of, values_of}
use Rattle.sporc_files.proofs.Asking.{reads_first, reads_then}
use Rattle.sporc_files.proofs.ReadFiles.{answers_within}
use Rattle.sporc_files.specs.declared.file.File.TheVariants as files
use Rattle.sporc_commands.proofs.Compared.{both_read, first_fails, genesis_fails, of_one_genesis, second_fails}
use Rattle.sporc_commands.proofs.comparing.read_chains.Goals as goal

pub returns-in_err-genesis-clause-found : goal.returns-in_err-genesis-clause-found
returns-in_err-genesis-clause-found g c =
    let failed = err_from_is_err_and c.from_residual.result c.from_residual.ensures.1 in
    genesis_fails (use_of g.F.Folder.told c.args.files.now c.read_genesis_file.new.files) c.args.names.now c.args.first c.args.second _ _ (failed.1 ∙ ap Err failed.2) c.in_err-genesis.ensures.err

pub returns-in_err-genesis-clause-reads : goal.returns-in_err-genesis-clause-reads
returns-in_err-genesis-clause-reads g c =
    reads_first c.args.names.now (files.Genesis ∷ []) (files.History c.args.first ∷ files.History c.args.second ∷ []) _ c.in_err-genesis.ensures.reads

pub returns-in_err-one-clause-reads : goal.returns-in_err-one-clause-reads
returns-in_err-one-clause-reads g c =
    reads_then c.args.names.now (files.Genesis ∷ []) (files.History c.args.first ∷ files.History c.args.second ∷ []) _ _ _ c.in_ok-genesis.ensures.reads
    (reads_first c.args.names.now (files.History c.args.first ∷ []) (files.History c.args.second ∷ []) _ c.in_err-one.ensures.reads)

pub returns-in_err-other-clause-reads : goal.returns-in_err-other-clause-reads
returns-in_err-other-clause-reads g c =
    reads_then c.args.names.now (files.Genesis ∷ []) (files.History c.args.first ∷ files.History c.args.second ∷ []) _ _ _ c.in_ok-genesis.ensures.reads
    (reads_then c.args.names.now (files.History c.args.first ∷ []) (files.History c.args.second ∷ []) _ _ _ c.in_ok-one.ensures.reads c.in_err-other.ensures.reads)

pub returns-clause-reads : goal.returns-clause-reads
returns-clause-reads g c =
    reads_then c.args.names.now (files.Genesis ∷ []) (files.History c.args.first ∷ files.History c.args.second ∷ []) _ _ _ c.in_ok-genesis.ensures.reads
    (reads_then c.args.names.now (files.History c.args.first ∷ []) (files.History c.args.second ∷ []) _ _ _ c.in_ok-one.ensures.reads c.in_ok-other.ensures.reads)

pub returns-in_err-one-clause-found : goal.returns-in_err-one-clause-found
returns-in_err-one-clause-found g c =
    let failed = err_from_is_err_and c.from_residual-in_err-one.result c.from_residual-in_err-one.ensures.1 in
    let whole = use_of g.F.Folder.told c.args.files.now c.read_chain.new.files in
    first_fails whole c.args.names.now c.args.first c.args.second c.in_ok-genesis.genesis _ c.in_ok-genesis.ensures.ok _ (failed.1 ∙ ap Err failed.2)
    (answers_within values_of whole (use_of g.F.Folder.told c.read_genesis_file.new.files c.read_chain.new.files) _ (Err c.in_err-one.field-0.0) _ c.in_err-one.ensures.found
    (record { same = c.in_ok-genesis.ensures.reads.files; since = c.in_ok-genesis.ensures.reads.kept; until = omega arith }))

pub returns-in_err-other-clause-found : goal.returns-in_err-other-clause-found
returns-in_err-other-clause-found g c =
    let failed = err_from_is_err_and c.from_residual-in_err-other.result c.from_residual-in_err-other.ensures.1 in
    let whole = use_of g.F.Folder.told c.args.files.now c.read_chain-2.new.files in
    let e = c.in_ok-genesis.ensures.reads.files in
    second_fails whole c.args.names.now c.args.first c.args.second c.in_ok-genesis.genesis _ c.in_ok-genesis.ensures.ok _ c.in_ok-one.one (failed.1 ∙ ap Err failed.2)
    (answers_within values_of whole (use_of g.F.Folder.told c.read_genesis_file.new.files c.read_chain.new.files) _ (Ok c.in_ok-one.one) _ c.in_ok-one.ensures.found
    (record { same = e; since = c.in_ok-genesis.ensures.reads.kept; until = c.read_chain-2.ensures.reads.kept }))
    (answers_within values_of whole (use_of g.F.Folder.told c.read_chain.new.files c.read_chain-2.new.files) _ (Err c.in_err-other.field-0.0) _ c.in_err-other.ensures.found
    (record { same = c.in_ok-one.ensures.reads.files ∙ e; since = omega (arith, c.in_ok-genesis.ensures.reads.kept, c.in_ok-one.ensures.reads.kept); until = omega arith }))

pub returns-clause-found : goal.returns-clause-found
returns-clause-found g c =
    let whole = use_of g.F.Folder.told c.args.files.now c.read_chain-2.new.files in
    let e = c.in_ok-genesis.ensures.reads.files in
    both_read whole c.args.names.now c.args.first c.args.second c.in_ok-genesis.genesis c.in_ok-one.one c.in_ok-other.other c.in_ok-genesis.ensures.ok
    (answers_within values_of whole (use_of g.F.Folder.told c.read_genesis_file.new.files c.read_chain.new.files) _ (Ok c.in_ok-one.one) _ c.in_ok-one.ensures.found
    (record { same = e; since = c.in_ok-genesis.ensures.reads.kept; until = c.in_ok-other.ensures.reads.kept }))
    (answers_within values_of whole (use_of g.F.Folder.told c.read_chain.new.files c.read_chain-2.new.files) _ (Ok c.in_ok-other.other) _ c.in_ok-other.ensures.found
    (record { same = c.in_ok-one.ensures.reads.files ∙ e; since = omega (arith, c.in_ok-genesis.ensures.reads.kept, c.in_ok-one.ensures.reads.kept); until = omega arith }))

pub returns-clause-one_genesis : goal.returns-clause-one_genesis
returns-clause-one_genesis g c =
    of_one_genesis (use_of g.F.Folder.told c.read_genesis_file.new.files c.read_chain.new.files) (use_of g.F.Folder.told c.read_chain.new.files c.read_chain-2.new.files) _ _ c.in_ok-genesis.genesis _ _ c.in_ok-one.one c.in_ok-other.other c.in_ok-one.ensures.found c.in_ok-other.ensures.found
