use Rattle.std.proofs.Common.{◌++◌, ◌∷◌, [], ap, refl, subst, ◌∙◌}
use Rattle.sporc_script.specs.declared.command.Command.TheVariants as commands
use Rattle.sporc_play.proofs.Common.{Device, first_device, public_of, HasSat}
use Rattle.sporc_play.proofs.Becoming.{ok_any, ok_then}
use Rattle.sporc_play.proofs.Declared.{all_declared, cast_same, founded, joined, none_declared, nothing_by_change, nothing_by_sign, nothing_more, parted, rogues_more, rogues_same, seats_more, seats_same, with_trees}
use Rattle.sporc_play.proofs.opening.declare.Goals as goal

pub returns-in_ok-add_declared-in-Member : goal.returns-in_ok-add_declared-in-Member
returns-in_ok-add_declared-in-Member c =
    let line = c.args.line.now in
    let m = c.in-Member.founder in
    let is = c.in-Member.is in
    let cast = c.args.cast.now in
    let sat = c.in_ok-key-in-Member.ensures in
    let sits : Device → Type 0 = λ who. HasSat cast.tree who c.args.seats.now.items c.add_seat.new.seats.items in
    record {
      ok = ok_then c.add_founder.result _ _ c.add_founder.ensures.founders (λ founders tree lines known. all_declared _ _ _ _ _
          (founded tree lines line (commands.Member m) m c.in_ok-key-in-Member.key cast c.add_declared.new.cast c.add_founder.new.cast known.cast_is is refl refl refl
          (sat.key ∙ ap (public_of cast.tree) c.first.ensures.value) c.in_ok-add_declared-in-Member.ensures founders c.add_founder.ensures.tree c.add_founder.ensures.declared c.add_founder.ensures.unpaired)
          (seats_more tree cast.tree lines line (commands.Member m) (first_device m.member) c.args.seats.now.items c.add_seat.new.seats.items known.seats_are known.cast_is.tree_is is refl (subst sits c.first.ensures.value sat.seats))
          (rogues_same tree lines line (commands.Member m) c.args.rogues.now.items known.rogues_are is refl));
    }

pub returns-in_ok-add_declared-in-Rogue : goal.returns-in_ok-add_declared-in-Rogue
returns-in_ok-add_declared-in-Rogue c =
    let line = c.args.line.now in
    let m = c.in-Rogue.founder in
    let is = c.in-Rogue.is in
    let cast = c.args.cast.now in
    let found = c.add_founder-in-Rogue in
    record {
      ok = ok_then found.result _ _ found.ensures.founders (λ founders tree lines known. all_declared _ _ _ _ _
          (founded tree lines line (commands.Rogue m) m c.in_ok-key-in-Rogue.key cast c.add_declared-in-Rogue.new.cast found.new.cast known.cast_is is refl refl refl
          c.in_ok-key-in-Rogue.ensures.key c.in_ok-add_declared-in-Rogue.ensures founders found.ensures.tree found.ensures.declared found.ensures.unpaired)
          (seats_same tree lines line (commands.Rogue m) c.args.seats.now.items known.seats_are is refl)
          (rogues_more tree cast.tree lines line (commands.Rogue m) (first_device m.member) c.args.rogues.now.items c.add_rogue.new.rogues.items known.rogues_are known.cast_is.tree_is is refl c.in_ok-key-in-Rogue.ensures.rogues));
    }

pub returns-in_ok-key-in-Joiner : goal.returns-in_ok-key-in-Joiner
returns-in_ok-key-in-Joiner c =
    let line = c.args.line.now in
    let m = c.in-Joiner.member in
    let is = c.in-Joiner.is in
    let cast = c.args.cast.now in
    let sat = c.in_ok-key-in-Joiner.ensures in
    let sits : Device → Type 0 = λ who. HasSat cast.tree who c.args.seats.now.items c.add_seat-in-Joiner.new.seats.items in
    record {
      ok = ok_then c.add_declared-in-Joiner.result _ _ c.add_declared-in-Joiner.ensures (λ named tree lines known. all_declared _ _ _ _ _
          (joined tree lines line m c.in_ok-key-in-Joiner.key cast c.add_declared-in-Joiner.new.cast known.cast_is is (sat.key ∙ ap (public_of cast.tree) c.first-in-Joiner.ensures.value) named)
          (seats_more tree cast.tree lines line (commands.Joiner m) (first_device m) c.args.seats.now.items c.add_seat-in-Joiner.new.seats.items known.seats_are known.cast_is.tree_is is refl (subst sits c.first-in-Joiner.ensures.value sat.seats))
          (rogues_same tree lines line (commands.Joiner m) c.args.rogues.now.items known.rogues_are is refl));
    }

pub returns-in_ok-key-in-Device : goal.returns-in_ok-key-in-Device
returns-in_ok-key-in-Device c =
    let line = c.args.line.now in
    let who = c.in-Device.device in
    let is = c.in-Device.is in
    let cast = c.args.cast.now in
    record {
      ok = ok_any c.keep.result _ (λ tree lines known. all_declared _ _ _ _ _
          (with_trees tree (lines ++ line ∷ []) cast c.keep.new.self c.keep.ensures.unchanged (cast_same tree lines line (commands.Device who) cast known.cast_is is refl refl refl))
          (seats_more tree cast.tree lines line (commands.Device who) who c.args.seats.now.items c.add_seat-in-Device.new.seats.items known.seats_are known.cast_is.tree_is is refl c.in_ok-key-in-Device.ensures.seats)
          (rogues_same tree lines line (commands.Device who) c.args.rogues.now.items known.rogues_are is refl));
    }

pub returns-in_ok-push-in-Unpaired : goal.returns-in_ok-push-in-Unpaired
returns-in_ok-push-in-Unpaired c =
    let line = c.args.line.now in
    let pair = c.in-Unpaired.pair in
    let is = c.in-Unpaired.is in
    record {
      ok = λ tree lines known. all_declared _ _ _ _ _
          (parted tree lines line pair c.args.cast.now _ known.cast_is is c.in_ok-push-in-Unpaired.ensures.items refl refl refl)
          (seats_same tree lines line (commands.Unpaired pair) c.args.seats.now.items known.seats_are is refl)
          (rogues_same tree lines line (commands.Unpaired pair) c.args.rogues.now.items known.rogues_are is refl);
    }

pub returns-in-Change : goal.returns-in-Change
returns-in-Change c =
    record { ok = ok_any c.learn.result _ (λ tree lines known. nothing_more tree lines c.args.line.now (commands.Change c.in-Change.edit) c.args.cast.now c.learn.new.self c.args.seats.now.items c.args.rogues.now.items c.in-Change.is (nothing_by_change c.in-Change.edit) c.learn.ensures.unchanged known) }

pub returns-in-Sign : goal.returns-in-Sign
returns-in-Sign c =
    record { ok = ok_any c.learn_of.result _ (λ tree lines known. nothing_more tree lines c.args.line.now (commands.Sign c.in-Sign.forgery) c.args.cast.now c.learn_of.new.self c.args.seats.now.items c.args.rogues.now.items c.in-Sign.is (nothing_by_sign c.in-Sign.forgery) c.learn_of.ensures.unchanged known) }

pub returns-in_default : goal.returns-in_default
returns-in_default c =
    record { ok = λ tree lines known. none_declared tree lines c.args.line.now c.args.cast.now c.args.seats.now.items c.args.rogues.now.items c.in_default.not-Member c.in_default.not-Rogue c.in_default.not-Joiner c.in_default.not-Unpaired c.in_default.not-Device known }
