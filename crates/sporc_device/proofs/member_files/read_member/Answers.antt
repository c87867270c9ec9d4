use Rattle.std.proofs.Common.{◌∙◌, [], ◌∷◌, arith}
use Rattle.sporc_device.proofs.Common.{err_from_is_err_and, use_of, GenesisFile, Key, Ring, file_within, if_err, says_now, script_files}
use Rattle.sporc_keys.specs.RingFile.{ring_file_of_member}
use Rattle.sporc_files.specs.Reading.{own_key_file}
use Rattle.sporc_device.specs.MemberFiles.{no_key, no_ring, no_scripts}
use Rattle.sporc_files.proofs.Asking.{reads_first, reads_then}
use Rattle.sporc_device.proofs.Members.{scripts_within}
use Rattle.sporc_device.proofs.member_files.read_member.Goals as goal

pub returns-in_err-tree-clause-err : goal.returns-in_err-tree-clause-err
returns-in_err-tree-clause-err g c =
    let p = err_from_is_err_and c.from_residual-in_err-tree.result c.from_residual-in_err-tree.ensures.1 in
    if_err _ _ _ _ p.1 p.2
    (no_key c.in_ok-genesis.ensures.ok
    (file_within (own_key_file c.in_ok-genesis.genesis.founders c.args.device) (use_of g.F.Folder.told c.args.files.now c.read_own_key.new.files)
    (use_of g.F.Folder.told c.read_genesis_file.new.files c.read_own_key.new.files) c.args.names.now (Key c.args.device) c.in_err-tree.field-0.0 c.in_err-tree.ensures.err
    (record { same = c.read_genesis_file.ensures.reads.files; since = c.read_genesis_file.ensures.reads.kept; until = omega arith })))

pub returns-in_err-ring-clause-err : goal.returns-in_err-ring-clause-err
returns-in_err-ring-clause-err g c =
    let p = err_from_is_err_and c.from_residual-in_err-ring.result c.from_residual-in_err-ring.ensures.1 in
    let e = c.read_genesis_file.ensures.reads.files in
    if_err _ _ _ _ p.1 p.2
    (no_ring (record { genesis_says = c.in_ok-genesis.ensures.ok; key_says = says_now _ _ _ _ _ e c.in_ok-tree.ensures.ok })
    (file_within (ring_file_of_member c.args.device.member) (use_of g.F.Folder.told c.args.files.now c.read_ring_file.new.files)
    (use_of g.F.Folder.told c.read_own_key.new.files c.read_ring_file.new.files) c.args.names.now (Ring c.args.device.member) c.in_err-ring.field-0.0 c.in_err-ring.ensures.err
    (record { same = c.read_own_key.ensures.reads.files ∙ e; since = omega (arith, c.read_genesis_file.ensures.reads.kept, c.read_own_key.ensures.reads.kept); until = omega arith })))

pub returns-in_err-editors-clause-err : goal.returns-in_err-editors-clause-err
returns-in_err-editors-clause-err g c =
    let p = err_from_is_err_and c.from_residual-in_err-editors.result c.from_residual-in_err-editors.ensures.1 in
    let e = c.read_genesis_file.ensures.reads.files in
    let f = c.read_own_key.ensures.reads.files ∙ e in
    if_err _ _ _ _ p.1 p.2
    (no_scripts (record { genesis_says = c.in_ok-genesis.ensures.ok; key_says = says_now _ _ _ _ _ e c.in_ok-tree.ensures.ok }) (says_now _ _ _ _ _ f c.in_ok-ring.ensures.ok)
    (scripts_within (use_of g.F.Folder.told c.args.files.now c.read_scripts.new.files) (use_of g.F.Folder.told c.read_ring_file.new.files c.read_scripts.new.files)
    c.args.names.now c.in_err-editors.field-0.0 c.in_err-editors.ensures.err
    (record { same = c.read_ring_file.ensures.reads.files ∙ f; since = omega (arith, c.read_genesis_file.ensures.reads.kept, c.read_own_key.ensures.reads.kept, c.read_ring_file.ensures.reads.kept); until = omega arith })))

pub returns-in_err-genesis-clause-reads : goal.returns-in_err-genesis-clause-reads
returns-in_err-genesis-clause-reads g c =
    let d = c.args.device in
    reads_first c.args.names.now (GenesisFile ∷ []) (Key d ∷ Ring d.member ∷ script_files c.args.editors) _ c.in_err-genesis.ensures.reads

pub returns-in_err-tree-clause-reads : goal.returns-in_err-tree-clause-reads
returns-in_err-tree-clause-reads g c =
    let d = c.args.device in
    reads_then c.args.names.now (GenesisFile ∷ []) (Key d ∷ Ring d.member ∷ script_files c.args.editors) _ _ _ c.in_ok-genesis.ensures.reads
    (reads_first c.args.names.now (Key d ∷ []) (Ring d.member ∷ script_files c.args.editors) _ c.in_err-tree.ensures.reads)

pub returns-in_err-ring-clause-reads : goal.returns-in_err-ring-clause-reads
returns-in_err-ring-clause-reads g c =
    let d = c.args.device in
    reads_then c.args.names.now (GenesisFile ∷ []) (Key d ∷ Ring d.member ∷ script_files c.args.editors) _ _ _ c.in_ok-genesis.ensures.reads
    (reads_then c.args.names.now (Key d ∷ []) (Ring d.member ∷ script_files c.args.editors) _ _ _ c.in_ok-tree.ensures.reads
    (reads_first c.args.names.now (Ring d.member ∷ []) (script_files c.args.editors) _ c.in_err-ring.ensures.reads))

pub returns-in_err-editors-clause-reads : goal.returns-in_err-editors-clause-reads
returns-in_err-editors-clause-reads g c =
    let d = c.args.device in
    reads_then c.args.names.now (GenesisFile ∷ []) (Key d ∷ Ring d.member ∷ script_files c.args.editors) _ _ _ c.in_ok-genesis.ensures.reads
    (reads_then c.args.names.now (Key d ∷ []) (Ring d.member ∷ script_files c.args.editors) _ _ _ c.in_ok-tree.ensures.reads
    (reads_then c.args.names.now (Ring d.member ∷ []) (script_files c.args.editors) _ _ _ c.in_ok-ring.ensures.reads c.read_scripts.ensures.reads))

pub returns-clause-reads : goal.returns-clause-reads
returns-clause-reads g c =
    let d = c.args.device in
    reads_then c.args.names.now (GenesisFile ∷ []) (Key d ∷ Ring d.member ∷ script_files c.args.editors) _ _ _ c.in_ok-genesis.ensures.reads
    (reads_then c.args.names.now (Key d ∷ []) (Ring d.member ∷ script_files c.args.editors) _ _ _ c.in_ok-tree.ensures.reads
    (reads_then c.args.names.now (Ring d.member ∷ []) (script_files c.args.editors) _ _ _ c.in_ok-ring.ensures.reads c.read_scripts.ensures.reads))
