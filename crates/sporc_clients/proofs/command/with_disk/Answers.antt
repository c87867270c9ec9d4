use Rattle.std.proofs.Common.{◌+◌, [], ◌∷◌, ap, option_map, refl, subst, sym, ◌∙◌}
use Rattle.sporc_clients.proofs.Common.{shut_none, use_of, ended, file_name, History, past_of, AsksAtMost, links_for_hints, names_of, no_history, no_leaves, no_session, not_worked, worked}
use Rattle.sporc_files.proofs.Asking.{AsksOnly-none, asks_never}
use Rattle.sporc_clients.specs.Counts.{CountedIfFailed}
use Rattle.sporc_clients.proofs.Asking.{asks_history, asks_history_again}
use Rattle.sporc_device.proofs.LeafFiles.{kept_to}
use Rattle.sporc_clients.proofs.Outcomes.{attended_at, file_fault, history_says, not_attended_at, saved_as}
use Rattle.sporc_clients.proofs.command.with_disk.Goals as goal

pub returns-in-Err-clause-outcome : goal.returns-in-Err-clause-outcome
returns-in-Err-clause-outcome g c =
    not_worked (no_leaves c.in-Err.ensures.err refl) (record { out = record { written = refl; faults = refl }; files = refl; words = refl }) c.in-Err.ensures.unwritten c.in-Err.ensures.kept_back

pub returns-in-Err-history_of-clause-outcome : goal.returns-in-Err-history_of-clause-outcome
returns-in-Err-history_of-clause-outcome g c =
    not_worked
    (no_history c.in-Ok.ensures.ok (file_fault c.names_of.result c.args.words.now c.names_of.ensures.value (History c.args.words.now.device) (use_of g.F.Folder.told c.args.files.now c.history_of.new.files) c.in-Err-history_of.fault c.in-Err-history_of.ensures.err) refl)
    (record { out = record { written = refl; faults = refl }; files = c.history_of.ensures.reads.files; words = refl })
    (ap (λ d. (g.D.LeafDisk.told d).stored) c.close.ensures.value ∙ c.in-Ok.ensures.ok.unwritten)
    (kept_to _ g.D.LeafDisk.told _ _ c.close.ensures.value c.in-Ok.ensures.passed)

pub returns-in-Ok-attend-clause-outcome : goal.returns-in-Ok-attend-clause-outcome
returns-in-Ok-attend-clause-outcome g c =
    let past = past_of c.in-Ok-attend.ended.client in
    let m = c.args.own.says in
    worked (record {
      leaves = c.in-Ok.signer.leaves;
      history = option_map (λ bytes. bytes.items) c.in-Ok-history_of.both.0;
      ready = record {
        opened = c.in-Ok.ensures.ok;
        says = history_says _ c.names_of.result c.args.words.now c.names_of.ensures.value (option_map (λ bytes. bytes.items) c.in-Ok-history_of.both.0) c.in-Ok-history_of.ensures.ok;
      };
      past = past;
      session = c.in-Ok-attend.ended.result;
      attended = attended_at m.genesis c.args.words.now.device m.ring c.args.words.now.address c.as_str-address.result.now _ _ c.as_str-address.ensures.value
          _ m.tree c.in-Ok.signer.key _ past _ c.in-Ok-attend.ended.result c.in-Ok.ensures.key c.in-Ok-attend.ensures.attended;
      causes = c.in-Ok-attend.ensures.causes;
      disk = subst (λ d. CountedIfFailed (g.D.LeafDisk.told d).faults c.in-Ok-attend.ended.result) (sym c.conclude-session.ensures.disk) c.in-Ok-attend.ensures.disk;
      saved = c.conclude-session.result.saved;
      saves = saved_as past _ c.as_str.result.now (use_of g.F.Folder.told c.args.files.now c.conclude-session.new.files) (g.F.Folder.told c.history_of.new.files) c.conclude-session.result.saved
          (c.as_str.ensures.value ∙ c.in-Ok-history_of.ensures.name ∙ ap (λ n. file_name n (History c.args.words.now.device)) c.names_of.ensures.value)
          c.history_of.ensures.reads.files c.history_of.ensures.reads.kept c.conclude-session.ensures.saved;
      printed = c.conclude-session.result.printed;
      prints = c.conclude-session.ensures.printed;
      taken = c.conclude-session.ensures.taken;
      answers = c.end.ensures.value ∙ ap (λ s. ended s c.conclude-session.result.saved c.conclude-session.result.printed) c.conclude-session.ensures.session;
    })

pub returns-clause-outcome : goal.returns-clause-outcome
returns-clause-outcome g c =
    let m = c.args.own.says in
    not_worked
    (no_session
    (record {
      opened = c.in-Ok.ensures.ok;
      says = history_says _ c.names_of.result c.args.words.now c.names_of.ensures.value (option_map (λ bytes. bytes.items) c.in-Ok-history_of.both.0) c.in-Ok-history_of.ensures.ok;
    })
    (not_attended_at m.genesis c.args.words.now.device m.ring c.args.words.now.address c.as_str-address.result.now _ _ c.as_str-address.ensures.value c.in-Err-attend.fault
    c.in-Err-attend.ensures.err))
    (record { out = record { written = refl; faults = refl }; files = c.history_of.ensures.reads.files; words = ap (λ c. (g.C.Chance.told c).given) c.in-Err-attend.ensures.chance })
    (ap (λ d. (g.D.LeafDisk.told d).stored) c.close-in-Err-attend.ensures.value ∙ ap (λ s. (g.D.LeafDisk.told s.leaves.disk).stored) c.in-Err-attend.ensures.returned ∙ c.in-Ok.ensures.ok.unwritten)
    (kept_to _ g.D.LeafDisk.told _ _ (c.close-in-Err-attend.ensures.value ∙ ap (λ s. s.leaves.disk) c.in-Err-attend.ensures.returned) c.in-Ok.ensures.passed)

-- ---- files

pub returns-in-Err-clause-files_may_ask : goal.returns-in-Err-clause-files_may_ask
returns-in-Err-clause-files_may_ask g c = AsksOnly-none (file_name (names_of c.args.words.now) (History c.args.words.now.device) ∷ []) (g.F.Folder.told c.args.files.now).asked

pub returns-in-Err-history_of-clause-files_may_ask : goal.returns-in-Err-history_of-clause-files_may_ask
returns-in-Err-history_of-clause-files_may_ask g c = asks_history c.names_of.result c.args.words.now c.names_of.ensures.value _ _ c.history_of.ensures.reads.may_ask

pub returns-in-Ok-attend-clause-files_may_ask : goal.returns-in-Ok-attend-clause-files_may_ask
returns-in-Ok-attend-clause-files_may_ask g c =
    asks_history_again c.names_of.result c.args.words.now c.names_of.ensures.value c.as_str.result.now _ _ _
    (c.as_str.ensures.value ∙ c.in-Ok-history_of.ensures.name) c.history_of.ensures.reads.may_ask c.conclude-session.ensures.may_ask

pub returns-clause-files_may_ask : goal.returns-clause-files_may_ask
returns-clause-files_may_ask g c = asks_history c.names_of.result c.args.words.now c.names_of.ensures.value _ _ c.history_of.ensures.reads.may_ask

-- ---- the address

pub returns-in-Err-clause-net_may_ask : goal.returns-in-Err-clause-net_may_ask
returns-in-Err-clause-net_may_ask g c = asks_never _ _ c.args.words.now.address

pub returns-in-Err-history_of-clause-net_may_ask : goal.returns-in-Err-history_of-clause-net_may_ask
returns-in-Err-history_of-clause-net_may_ask g c = asks_never _ _ c.args.words.now.address

pub returns-in-Ok-attend-clause-net_may_ask : goal.returns-in-Ok-attend-clause-net_may_ask
returns-in-Ok-attend-clause-net_may_ask g c =
    subst (AsksAtMost (links_for_hints c.args.own.says.ring + 1) (g.N.Links.told c.args.net.now).asked (g.N.Links.told c.attend.new.net).asked) c.as_str-address.ensures.value c.attend.ensures.may_ask

pub returns-clause-net_may_ask : goal.returns-clause-net_may_ask
returns-clause-net_may_ask g c =
    subst (AsksAtMost (links_for_hints c.args.own.says.ring + 1) (g.N.Links.told c.args.net.now).asked (g.N.Links.told c.attend.new.net).asked) c.as_str-address.ensures.value c.attend.ensures.may_ask

-- ---- links

pub returns-in-Err-clause-shut : goal.returns-in-Err-clause-shut
returns-in-Err-clause-shut g c = shut_none (g.N.Links.told c.args.net.now).returned (g.N.Links.told c.args.net.now).returned refl

pub returns-in-Err-history_of-clause-shut : goal.returns-in-Err-history_of-clause-shut
returns-in-Err-history_of-clause-shut g c = shut_none (g.N.Links.told c.args.net.now).returned (g.N.Links.told c.args.net.now).returned refl
