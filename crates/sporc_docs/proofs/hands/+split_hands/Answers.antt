use Rattle.std.proofs.Common.{◌≡◌, ℕ, suc, List, length, subst, arith}
use Rattle.sporc_docs.proofs.Common.{Hand, AllHands, AllZip, IsEmpty, HaveRoom, column, pass_at}
use Rattle.sporc_docs.proofs.Passes.{splits_then, have_less, have_left}
use Rattle.sporc_docs.proofs.hands.+split_hands.Goals as goal

pub split-requires-clause-room : goal.split-requires-clause-room
split-requires-clause-room g t c =
    let size = c.in-Some.ensures.cases.1 in
    have_less 1 (length c.args.hands.now) c.args.firsts.now (omega (arith, size)) c.requires.room

pub split_hands-requires : goal.split_hands-requires
split_hands-requires g t c κs within =
    let size = c.in-Some.ensures.cases.1 in
    let n = length c.in-Some.others.now in
    let size' : length c.args.hands.now ≡ suc n = omega (arith, size) in
    let room = subst (λ (m : ℕ). HaveRoom m c.args.firsts.now) size' c.requires.room in
    let empty = subst (λ (hs : List Hand). AllHands (AllZip IsEmpty c.args.turns.now) hs) c.in-Some.ensures.cases.0 c.requires.empty in (
      omega (arith, size),
      (
        within,
        (
          c.split.ensures.firsts,
          (
            have_left n c.args.turns.now c.args.firsts.now c.split.new.firsts (λ i. pass_at i c.split.new.self.passes.items) c.requires.firsts
                c.split.ensures.firsts room c.split.ensures.splits,
            empty.1,
          ),
        ),
      ),
    )

pub returns-clause-hands : goal.returns-clause-hands
returns-clause-hands g t c = (c.split.ensures.hand, c.split_hands.ensures.hands)

pub returns-clause-splits : goal.returns-clause-splits
returns-clause-splits g t c i =
    splits_then (pass_at i c.args.firsts.now) (pass_at i c.split.new.firsts) (pass_at i c.split_hands.new.firsts)
    (pass_at i c.split.new.self.passes.items) (column i c.split_hands.new.hands) (c.split.ensures.splits i) (c.split_hands.ensures.splits i)
