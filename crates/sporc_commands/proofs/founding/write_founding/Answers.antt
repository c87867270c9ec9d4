use Rattle.std.proofs.Common.{[], ◌∷◌, map}
use Rattle.sporc_commands.proofs.Common.{genesis_bytes, file_name, file_with, AsksOnly-none, asks_first, asks_then, founding_files, names_in, ring_of_founding}
use Rattle.sporc_files.specs.declared.file.File.TheVariants as files
use Rattle.sporc_commands.proofs.StoreFaults.{behind_err}
use Rattle.sporc_commands.proofs.founding.write_founding.Goals as goal

pub returns-clause-err : goal.returns-clause-err
returns-clause-err g c =
    let first = rw (c.as_slice.ensures.value, c.in_ok-bytes.ensures.ok) at c.in_ok-write_whole_file.ensures.ok in
    let rest = rw c.as_slice-2.ensures.value at c.write_rings.ensures.err in
    behind_err (file_with c.args.names.now files.Genesis (genesis_bytes c.args.founding.now.genesis)) (map (ring_of_founding c.args.names.now) c.args.founding.now.rings)
    (g.F.Folder.told c.args.files.now) (g.F.Folder.told c.write_whole_file.new.files) (g.F.Folder.told c.write_rings.new.files)
    first c.write_whole_file.ensures.kept c.write_rings.result rest

pub returns-in_err-bytes-clause-may_ask : goal.returns-in_err-bytes-clause-may_ask
returns-in_err-bytes-clause-may_ask g c = AsksOnly-none (names_in (founding_files c.args.names.now c.args.founding.now)) _

pub returns-in_err-write_whole_file-clause-may_ask : goal.returns-in_err-write_whole_file-clause-may_ask
returns-in_err-write_whole_file-clause-may_ask g c =
    asks_first (file_name c.args.names.now files.Genesis ∷ []) (names_in (map (ring_of_founding c.args.names.now) c.args.founding.now.rings)) _ _ c.write_whole_file.ensures.may_ask

pub returns-clause-may_ask : goal.returns-clause-may_ask
returns-clause-may_ask g c =
    let rest = rw c.as_slice-2.ensures.value at c.write_rings.ensures.may_ask in
    asks_then (file_name c.args.names.now files.Genesis ∷ []) (names_in (map (ring_of_founding c.args.names.now) c.args.founding.now.rings)) _ _ _ c.write_whole_file.ensures.may_ask rest
