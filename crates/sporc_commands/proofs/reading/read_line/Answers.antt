use Rattle.std.proofs.Common.{Err, List, ℕ, [], ◌∷◌, ap, subst, ◌∙◌, arith}
use Rattle.sporc_commands.proofs.Common.{err_from_is_err_and, use_of, ring_file_of_member, any_bytes, file_within, own_key_file, says_now, AnswersUnlessOutside, checked_line, examined}
use Rattle.sporc_files.proofs.Asking.{reads_first, reads_then}
use Rattle.sporc_files.specs.declared.file.File.TheVariants as files
use Rattle.sporc_commands.proofs.Examined.{all_read, genesis_fails, history_fails, key_fails, ring_fails}
use Rattle.sporc_commands.proofs.reading.read_line.Goals as goal

pub returns-in_err-genesis-clause-reads : goal.returns-in_err-genesis-clause-reads
returns-in_err-genesis-clause-reads g c =
    let d = c.args.device in
    reads_first c.args.names.now (files.Genesis ∷ []) (files.Key d ∷ files.Ring d.member ∷ files.History d ∷ []) _ c.in_err-genesis.ensures.reads

pub returns-in_err-read_own_key-clause-reads : goal.returns-in_err-read_own_key-clause-reads
returns-in_err-read_own_key-clause-reads g c =
    let d = c.args.device in
    reads_then c.args.names.now (files.Genesis ∷ []) (files.Key d ∷ files.Ring d.member ∷ files.History d ∷ []) _ _ _ c.in_ok-genesis.ensures.reads
    (reads_first c.args.names.now (files.Key d ∷ []) (files.Ring d.member ∷ files.History d ∷ []) _ c.in_err-read_own_key.ensures.reads)

pub returns-in_err-ring-clause-reads : goal.returns-in_err-ring-clause-reads
returns-in_err-ring-clause-reads g c =
    let d = c.args.device in
    reads_then c.args.names.now (files.Genesis ∷ []) (files.Key d ∷ files.Ring d.member ∷ files.History d ∷ []) _ _ _ c.in_ok-genesis.ensures.reads
    (reads_then c.args.names.now (files.Key d ∷ []) (files.Ring d.member ∷ files.History d ∷ []) _ _ _ c.in_ok-read_own_key.ensures.reads
    (reads_first c.args.names.now (files.Ring d.member ∷ []) (files.History d ∷ []) _ c.in_err-ring.ensures.reads))

pub returns-in_err-history-clause-reads : goal.returns-in_err-history-clause-reads
returns-in_err-history-clause-reads g c =
    let d = c.args.device in
    reads_then c.args.names.now (files.Genesis ∷ []) (files.Key d ∷ files.Ring d.member ∷ files.History d ∷ []) _ _ _ c.in_ok-genesis.ensures.reads
    (reads_then c.args.names.now (files.Key d ∷ []) (files.Ring d.member ∷ files.History d ∷ []) _ _ _ c.in_ok-read_own_key.ensures.reads
    (reads_then c.args.names.now (files.Ring d.member ∷ []) (files.History d ∷ []) _ _ _ c.in_ok-ring.ensures.reads c.in_err-history.ensures.reads))

pub returns-clause-reads : goal.returns-clause-reads
returns-clause-reads g c =
    let d = c.args.device in
    reads_then c.args.names.now (files.Genesis ∷ []) (files.Key d ∷ files.Ring d.member ∷ files.History d ∷ []) _ _ _ c.in_ok-genesis.ensures.reads
    (reads_then c.args.names.now (files.Key d ∷ []) (files.Ring d.member ∷ files.History d ∷ []) _ _ _ c.in_ok-read_own_key.ensures.reads
    (reads_then c.args.names.now (files.Ring d.member ∷ []) (files.History d ∷ []) _ _ _ c.in_ok-ring.ensures.reads c.in_ok-history.ensures.reads))

pub returns-in_err-genesis-clause-found : goal.returns-in_err-genesis-clause-found
returns-in_err-genesis-clause-found g c =
    let failed = err_from_is_err_and c.from_residual.result c.from_residual.ensures.1 in
    genesis_fails (use_of g.F.Folder.told c.args.files.now c.read_genesis_file.new.files) c.args.names.now c.args.device _ _ (failed.1 ∙ ap Err failed.2) c.in_err-genesis.ensures.err

pub returns-in_err-read_own_key-clause-found : goal.returns-in_err-read_own_key-clause-found
returns-in_err-read_own_key-clause-found g c =
    let failed = err_from_is_err_and c.from_residual-in_err-read_own_key.result c.from_residual-in_err-read_own_key.ensures.1 in
    let whole = use_of g.F.Folder.told c.args.files.now c.read_own_key.new.files in
    key_fails whole c.args.names.now c.args.device c.in_ok-genesis.genesis c.in_ok-genesis.ensures.ok _ c.in_err-read_own_key.field-0.0 (failed.1 ∙ ap Err failed.2)
    (file_within (own_key_file c.in_ok-genesis.genesis.founders c.args.device) whole (use_of g.F.Folder.told c.read_genesis_file.new.files c.read_own_key.new.files) c.args.names.now (files.Key c.args.device) c.in_err-read_own_key.field-0.0 c.in_err-read_own_key.ensures.err
    (record { same = c.in_ok-genesis.ensures.reads.files; since = c.in_ok-genesis.ensures.reads.kept; until = omega arith }))

pub returns-in_err-ring-clause-found : goal.returns-in_err-ring-clause-found
returns-in_err-ring-clause-found g c =
    let failed = err_from_is_err_and c.from_residual-in_err-ring.result c.from_residual-in_err-ring.ensures.1 in
    let whole = use_of g.F.Folder.told c.args.files.now c.read_ring_file.new.files in
    ring_fails whole c.args.names.now c.args.device c.in_ok-genesis.genesis c.in_ok-genesis.ensures.ok _
    c.in_ok-read_own_key.field-0 (says_now _ _ _ _ _ c.in_ok-genesis.ensures.reads.files c.in_ok-read_own_key.ensures.ok) c.in_err-ring.field-0.0 (failed.1 ∙ ap Err failed.2)
    (file_within (ring_file_of_member c.args.device.member) whole (use_of g.F.Folder.told c.read_own_key.new.files c.read_ring_file.new.files) c.args.names.now (files.Ring c.args.device.member) c.in_err-ring.field-0.0 c.in_err-ring.ensures.err
    (record { same = c.in_ok-read_own_key.ensures.reads.files ∙ c.in_ok-genesis.ensures.reads.files; since = omega (arith, c.in_ok-genesis.ensures.reads.kept, c.in_ok-read_own_key.ensures.reads.kept); until = omega arith }))

pub returns-in_err-history-clause-found : goal.returns-in_err-history-clause-found
returns-in_err-history-clause-found g c =
    let failed = err_from_is_err_and c.from_residual-in_err-history.result c.from_residual-in_err-history.ensures.1 in
    let whole = use_of g.F.Folder.told c.args.files.now c.read_bytes.new.files in
    let e = c.in_ok-read_own_key.ensures.reads.files ∙ c.in_ok-genesis.ensures.reads.files in
    history_fails whole c.args.names.now c.args.device c.in_ok-genesis.genesis c.in_ok-genesis.ensures.ok _
    c.in_ok-read_own_key.field-0 (says_now _ _ _ _ _ c.in_ok-genesis.ensures.reads.files c.in_ok-read_own_key.ensures.ok) c.in_ok-ring.ring c.in_err-history.field-0.0 (failed.1 ∙ ap Err failed.2)
    (says_now _ _ _ _ _ e c.in_ok-ring.ensures.ok)
    (file_within any_bytes whole (use_of g.F.Folder.told c.read_ring_file.new.files c.read_bytes.new.files) c.args.names.now (files.History c.args.device) c.in_err-history.field-0.0 c.in_err-history.ensures.err
    (record { same = c.in_ok-ring.ensures.reads.files ∙ e; since = omega (arith, c.in_ok-genesis.ensures.reads.kept, c.in_ok-read_own_key.ensures.reads.kept, c.in_ok-ring.ensures.reads.kept); until = omega arith }))

pub returns-clause-found : goal.returns-clause-found
returns-clause-found g c =
    let e = c.in_ok-read_own_key.ensures.reads.files ∙ c.in_ok-genesis.ensures.reads.files in
    all_read (use_of g.F.Folder.told c.args.files.now c.read_bytes.new.files) c.args.names.now c.args.device c.in_ok-genesis.genesis c.in_ok-genesis.ensures.ok _
    c.in_ok-read_own_key.field-0 (says_now _ _ _ _ _ c.in_ok-genesis.ensures.reads.files c.in_ok-read_own_key.ensures.ok) c.in_ok-ring.ring c.in_ok-history.history.items
    (says_now _ _ _ _ _ e c.in_ok-ring.ensures.ok) (says_now _ _ _ _ _ (c.in_ok-ring.ensures.reads.files ∙ e) c.in_ok-history.ensures.ok)
    (subst (λ (b : List ℕ). AnswersUnlessOutside checked_line ⊥ c.examine.result (examined c.in_ok-genesis.genesis c.args.device c.in_ok-ring.ring b)) c.as_slice.ensures.value c.examine.ensures.value)
