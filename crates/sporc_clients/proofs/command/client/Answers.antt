use Rattle.std.proofs.Common.{List, Option, ℕ, length, map, refl, sym, ap, subst, ◌∙◌, arith}
use Rattle.sporc_clients.proofs.Common.{err_from_is_err_and, drop, option_map, shut_none, use_of, Leaf, file_name, file_within, AsksOnly, client_files, names_of, no_disk, no_member, over_disk}
use Rattle.sporc_device.proofs.Addresses.{one_for_hints}
use Rattle.sporc_files.specs.Reading.{any_bytes}
use Rattle.sporc_files.proofs.Asking.{asks_less, asks_never}
use Rattle.sporc_clients.proofs.Asking.{asks_all, asks_leaf, asks_member, taken_off}
use Rattle.sporc_clients.proofs.Outcomes.{disk_of, ends_so, file_fault, lent_at, member_fault, member_says}
use Rattle.sporc_clients.proofs.command.client.Goals as goal

pub returns-in_err-member-clause-outcome : goal.returns-in_err-member-clause-outcome
returns-in_err-member-clause-outcome g c =
    let p = err_from_is_err_and c.from_residual.result c.from_residual.ensures.1 in
    ends_so _ _ _ _ _ _ p.1 p.2
    (no_member (member_fault c.names_of-names.result c.args.words.now c.names_of-names.ensures.value _ c.in_err-member.field-0.0 c.in_err-member.ensures.err) refl
    (record { out = record { written = refl; faults = refl }; files = c.read_member.ensures.reads.files; words = refl }))

pub returns-in_err-disk-clause-outcome : goal.returns-in_err-disk-clause-outcome
returns-in_err-disk-clause-outcome g c =
    let p = err_from_is_err_and c.from_residual-in_err-disk.result c.from_residual-in_err-disk.ensures.1 in
    let named = c.names_of-names.ensures.value in
    ends_so _ _ _ _ _ _ p.1 p.2
    (no_disk c.in_ok-member.member
    (member_says _ c.names_of-names.result c.args.words.now named _ c.in_ok-member.member (ap (λ l. length l) c.as_slice.ensures.value) c.in_ok-member.ensures.ok)
    (file_within any_bytes (use_of g.F.Folder.told c.args.files.now c.lend_disk.new.files) (use_of g.F.Folder.told c.read_member.new.files c.lend_disk.new.files)
    (names_of c.args.words.now) (Leaf c.args.words.now.device) c.in_err-disk.field-0.0
    (file_fault c.names_of-names.result c.args.words.now named (Leaf c.args.words.now.device) (use_of g.F.Folder.told c.read_member.new.files c.lend_disk.new.files) c.in_err-disk.field-0.0 c.in_err-disk.ensures.err)
    (record { same = c.read_member.ensures.reads.files; since = c.read_member.ensures.reads.kept; until = omega arith }))
    refl
    (record { out = record { written = refl; faults = refl }; files = c.lend_disk.ensures.files ∙ c.read_member.ensures.reads.files; words = refl }))

pub returns-clause-outcome : goal.returns-clause-outcome
returns-clause-outcome g c =
    let named = c.names_of-names.ensures.value in
    over_disk c.in_ok-member.member c.in_ok-disk.disk c.with_disk-result.result.1
    (use_of g.F.Folder.told c.lend_disk.new.files c.with_disk-result.new.files)
    (member_says _ c.names_of-names.result c.args.words.now named _ c.in_ok-member.member (ap (λ l. length l) c.as_slice.ensures.value) c.in_ok-member.ensures.ok)
    (record {
      is = disk_of c.names_of-names.result c.args.words.now named _ _ _ c.read_member.ensures.reads.files c.in_ok-disk.ensures.ok;
      fresh = c.in_ok-disk.ensures.fresh;
      unchanged = c.lend_disk.ensures.files ∙ c.read_member.ensures.reads.files;
      lent = lent_at _ _ _ _ c.names_of-names.result c.args.words.now c.with_disk-result.ensures.lent c.in_ok-disk.ensures.lent c.read_member.ensures.reads.lent named;
      back = c.take_back.ensures.back;
      since = omega (arith, c.read_member.ensures.reads.kept, c.lend_disk.ensures.kept);
      kept = c.with_disk-result.ensures.files_kept;
      counted = c.take_back.ensures.kept;
    })
    c.with_disk-result.ensures.outcome

-- ---- files

pub returns-in_err-member-clause-files_may_ask : goal.returns-in_err-member-clause-files_may_ask
returns-in_err-member-clause-files_may_ask g c =
    asks_member c.names_of-names.result c.args.words.now c.names_of-names.ensures.value _ (ap (λ l. length l) c.as_slice.ensures.value) _ _ c.read_member.ensures.reads.may_ask

pub returns-in_err-disk-clause-files_may_ask : goal.returns-in_err-disk-clause-files_may_ask
returns-in_err-disk-clause-files_may_ask g c =
    asks_leaf c.names_of-names.result c.args.words.now c.names_of-names.ensures.value _ (ap (λ l. length l) c.as_slice.ensures.value) _ _ _ c.read_member.ensures.reads.may_ask c.lend_disk.ensures.may_ask

pub returns-clause-files_may_ask : goal.returns-clause-files_may_ask
returns-clause-files_may_ask g c =
    let all = asks_all c.names_of-names.result c.args.words.now c.names_of-names.ensures.value _ (ap (λ l. length l) c.as_slice.ensures.value) _ _ _ _ c.read_member.ensures.reads.may_ask
    c.lend_disk.ensures.may_ask c.with_disk-result.ensures.files_may_ask in
    subst (λ (o : Option (List (List ℕ))). AsksOnly (map (file_name (names_of c.args.words.now)) (client_files c.args.words.now.device (length c.args.words.now.scripts)))
    (g.F.Folder.told c.args.files.now).asked o) (sym c.take_back.ensures.asked) all

pub returns-clause-lent : goal.returns-clause-lent
returns-clause-lent g c =
    taken_off _ _ _ _ c.in_ok-disk.ensures.lent (c.take_back.ensures.lent ∙ ap (option_map (λ names. drop 1 names)) c.with_disk-result.ensures.lent) ∙ c.read_member.ensures.reads.lent

pub returns-clause-files_kept : goal.returns-clause-files_kept
returns-clause-files_kept g c =
    omega (arith, c.faults-faults.ensures.value, g.met.F.Folder.faults_are_told c.with_disk-result.new.files, c.take_back.ensures.kept, c.with_disk-result.ensures.files_kept, c.lend_disk.ensures.kept, c.read_member.ensures.reads.kept)

-- ---- the address

pub returns-in_err-member-clause-net_may_ask : goal.returns-in_err-member-clause-net_may_ask
returns-in_err-member-clause-net_may_ask g c = asks_never 2 _ c.args.words.now.address

pub returns-in_err-disk-clause-net_may_ask : goal.returns-in_err-disk-clause-net_may_ask
returns-in_err-disk-clause-net_may_ask g c = asks_never 2 _ c.args.words.now.address

pub returns-clause-net_may_ask : goal.returns-clause-net_may_ask
returns-clause-net_may_ask g c =
    let once = one_for_hints c.in_ok-member.member.ring in
    asks_less _ 2 _ _ c.args.words.now.address (omega (arith, once)) c.with_disk-result.ensures.net_may_ask

-- ---- links

pub returns-in_err-member-clause-shut : goal.returns-in_err-member-clause-shut
returns-in_err-member-clause-shut g c = shut_none (g.N.Links.told c.args.net.now).returned (g.N.Links.told c.args.net.now).returned refl

pub returns-in_err-disk-clause-shut : goal.returns-in_err-disk-clause-shut
returns-in_err-disk-clause-shut g c = shut_none (g.N.Links.told c.args.net.now).returned (g.N.Links.told c.args.net.now).returned refl
