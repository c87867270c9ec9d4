-- A lock that is opened, passes that are split and joined, and a lock that is closed.
use Rattle.std.proofs.Common.{◌≡◌, ◌≤◌, ℕ, zero, suc, ◌==◌, eqb-true, true, false, true≢false, List, [], ◌∷◌, ◌++◌, map, length, set, drop, Some, None, sym, refl, ap, ◌∙◌, subst, inl, inr, ⊎_elim, arith}
use Rattle.sporc_turn.proofs.Common.{Contains, some, some-injective, some-ne-none, get_elem?, filter, map-set, map-append, Splits, Joins, opening, Final, Seen, at_map, at_longer, set_else, View, Known}
use Rattle.sporc_turn.proofs.Common.{Agrees, first_known, nothing_known, known, TicketInvariant, HasTicket, HasTurn, HoldsAt, KnowledgeInvariant, IsFirst, LogInvariant, TurnInvariant, newcomer}
use Rattle.sporc_turn.proofs.Common.{left_of_split, right_of_split, of_both, spent_view, IsIdle, first_view, has_room}
use Rattle.std.proofs.lemmas.Option.{same_Some}
use Rattle.std.specs.Prelude as std
use Rattle.sporc_turn.proofs.Lists.{no_both, same_at, at_end, starts_self, drop_length, Contains-nil}
use Rattle.sporc_turn.proofs.Views.{each_set, holds_at_set}
use Rattle.sporc_turn.proofs.Turns.{live_of}
use Rattle.sporc_turn.specs.Passes.{known_of, out_of}
use Rattle.sporc_turn.specs.declared.pass.Pass.{Pass}
use Rattle.sporc_turn.proofs.Logs

module _ {S E : Type 0} (logs : S → List E) (watermarks : S → ℕ) (by : E → ℕ) (start : ℕ) where
  pub splits : (id : ℕ) (v : View E) → v.known.spent ≡ false → v.known.number ≡ 0 → Splits (TurnInvariant by logs watermarks start) id v (left_of_split v) (right_of_split v)
  splits id v live zero' s o at =
      let w = left_of_split v in
      let c = right_of_split v in
      let vs : List (View E) = set s.views id w in
      let P : ℕ → View E → Type 0 = TicketInvariant o.ticket o.serving o.watermark o.busy o.owner in
      let q = o.each id v at in
      let T : View E → Type 0 = HasTurn o.log o.watermark in
      let longer_there : (R : View E → Type 0) (k : ℕ) → HoldsAt R vs k → HoldsAt R (vs ++ c ∷ []) k = λ R k t. (t.0, at_longer vs (c ∷ []) k t.0 t.1, t.2) in record {
        ticket = o.ticket;
        serving = o.serving;
        busy = o.busy;
        owner = o.owner;
        log = o.log;
        watermark = o.watermark;
        words = o.words;
        in_order = o.in_order;
        bounded = o.bounded;
        each = λ j u e. ⊎_elim
            (λ old. each_set P P s.views id w o.each (λ j' u' ne e' h. h) (record { read = q.read; within = q.within; waiting = q.waiting; turning = q.turning; still = q.still }) j u old)
            (λ (x : (j ≡ length vs) × (c ≡ u)). subst (P j) x.1 (record { read = q.read; within = q.within; waiting = λ t. no_both false refl t; turning = λ t. no_both false refl t; still = λ _. (refl, refl) }))
            (at_end vs c u j e);
        drawn = λ n from below. longer_there (HasTicket n) (o.owner n) (holds_at_set (HasTicket n) (HasTicket n) s.views id (o.owner n) v w at (o.drawn n from below) (λ u _ h. h) (λ _ h. h));
        holder = λ b. longer_there T (o.owner o.serving) (holds_at_set T T s.views id (o.owner o.serving) v w at (o.holder b) (λ u _ h. h) (λ _ h. h));
        out = o.out;
        home = o.home;
        shared = subst (LogInvariant by start o.log) (sym (map-append known vs (c ∷ []) ∙ ap (λ ks. ks ++ known c ∷ []) (map-set known s.views id w)))
            (Logs.splits by start o.log (map known s.views) id v.known o.shared (at_map known s.views id v at) live zero');
      }

  pub joins : (id : ℕ) (v : View E) (other : ℕ) (u : View E) → IsIdle v → v.known.number ≡ 0 → IsIdle u → Joins (TurnInvariant by logs watermarks start) id v other u (of_both v u) spent_view
  joins id v other u first_idle zero' idle s o at apart there =
      let w = of_both v u in
      let vs : List (View E) = set s.views id w in
      let there' : get_elem? s.views other ≡ some u = sym (set_else s.views id other w apart) ∙ there in
      let P : ℕ → View E → Type 0 = TicketInvariant o.ticket o.serving o.watermark o.busy o.owner in
      let q = o.each id v at in
      let T : View E → Type 0 = HasTurn o.log o.watermark in record {
        ticket = o.ticket;
        serving = o.serving;
        busy = o.busy;
        owner = o.owner;
        log = o.log;
        watermark = o.watermark;
        words = o.words;
        in_order = o.in_order;
        bounded = o.bounded;
        each = each_set P P vs other spent_view (each_set P P s.views id w o.each (λ j x ne e h. h) (record { read = omega (arith, q.read, (o.each other u there').read); within = omega (arith, q.within, (o.each other u there').within); waiting = q.waiting; turning = q.turning; still = q.still })) (λ j x ne e h. h)
            (record { read = omega arith; within = omega arith; waiting = λ t. no_both false refl t; turning = λ t. no_both false refl t; still = λ _. (refl, refl) });
        drawn = λ n from below. holds_at_set (HasTicket n) (HasTicket n) vs other (o.owner n) u spent_view there
            (holds_at_set (HasTicket n) (HasTicket n) s.views id (o.owner n) v w at (o.drawn n from below) (λ x _ h. h) (λ _ h. h)) (λ x _ h. h)
            (λ _ h. absurd (⊎_elim (λ t. no_both u.waits idle.0 t) (λ t. no_both u.turns idle.1 t) h.0));
        holder = λ b. holds_at_set T T vs other (o.owner o.serving) u spent_view there (holds_at_set T T s.views id (o.owner o.serving) v w at (o.holder b) (λ x _ h. h) (λ _ h. no_both v.turns first_idle.1 h.0)) (λ x _ h. h) (λ _ h. no_both u.turns idle.1 h.0);
        out = o.out;
        home = o.home;
        shared = subst (LogInvariant by start o.log) (sym (map-set known vs other spent_view ∙ ap (λ ks. set ks other nothing_known) (map-set known s.views id w)))
            (Logs.joins by start o.log (map known s.views) id other v.known u.known o.shared (at_map known s.views id v at) first_idle.2 zero' apart (at_map known s.views other u there') idle.2);
      }

  -- where all passes were joined back, the value is at home, and its log is what the first has seen
  closes_seat : (id : ℕ) (v : View E) (ws : List ℕ) (xs : List (std.Option S)) → IsIdle v → v.known.number ≡ 0 → v.known.splits ≡ length v.known.joined
      → Final (Seen (TurnInvariant by logs watermarks start) id v) ws xs → (x : S) × (get_elem? xs 0 ≡ some (Some x)) × (logs x ≡ v.known.seen) × Agrees by v.known (logs x) × (v.watermark ≤ watermarks x)
  closes_seat id v ws xs first_idle zero' all fin =
      let s = fin.0 in
      let o = fin.1.0 in
      let at = fin.1.1 in
      let at' = at_map known s.views id v at in
      let end = Logs.closes by start o.log (map known s.views) id v.known o.shared at' first_idle.2 zero' all in
      let free : o.busy ≡ false = elim o.busy as (λ b. (b ≡ o.busy) → b ≡ false) [
        | true ↦ λ e. (let t = o.holder (sym e) in
            let here : o.owner o.serving ≡ id = end.0 (o.owner o.serving) t.0.known (at_map known s.views (o.owner o.serving) t.0 t.1) (live_of logs watermarks by start s o (o.owner o.serving) t.0 t.1 (inr t.2.0)) in
            no_both v.turns first_idle.1 (ap (λ (y : View E). y.turns) (same_at s.views id (o.owner o.serving) v t.0 (sym here) at t.1) ∙ t.2.0))
        | false ↦ λ e. refl
      ] refl in
      let x = o.home free in
      (x.0, fin.4 0 (Some x.0) (ap (λ hs. get_elem? hs 0) x.1), x.2 ∙ end.1, subst (Agrees by v.known) (sym x.2) (Logs.agrees by start o.log (map known s.views) id v.known o.shared at' first_idle.2), omega (arith, (o.each id v at).within, x.3))

  -- so it is in what the first pass knows: the value is at home, and its log is what that pass has seen
  pub closes : (id : ℕ) (v w : View E) (ws : List ℕ) (xs : List (std.Option S)) (y : std.Option S) → w ≡ v → IsIdle w → w.known.number ≡ 0 → w.known.splits ≡ length w.known.joined
      → Final (Seen (TurnInvariant by logs watermarks start) id v) ws xs → get_elem? xs 0 ≡ some y → (x : S) × (Some x ≡ y) × (logs x ≡ w.known.seen) × Agrees by w.known (logs x) × (w.watermark ≤ watermarks x)
  closes id v w ws xs y is first_idle zero' all fin got =
      let t = closes_seat id w ws xs first_idle zero' all (subst (λ u. Final (Seen (TurnInvariant by logs watermarks start) id u) ws xs) (sym is) fin) in
      (t.0, some-injective (Some t.0) y (sym t.1 ∙ got), t.2, t.3, t.4)

  -- and that value is the one in the slot
  pub closed : (id : ℕ) (v w : View E) (ws : List ℕ) (xs : List (std.Option S)) (y : std.Option S) (x : S) → y ≡ Some x → w ≡ v → IsIdle w → w.known.number ≡ 0 → w.known.splits ≡ length w.known.joined
      → Final (Seen (TurnInvariant by logs watermarks start) id v) ws xs → get_elem? xs 0 ≡ some y → (logs x ≡ w.known.seen) × Agrees by w.known (logs x) × (w.watermark ≤ watermarks x)
  closed id v w ws xs y x there is first_idle zero' all fin got =
      let t = closes id v w ws xs y is first_idle zero' all fin got in
      subst (λ (z : S). (logs z ≡ w.known.seen) × Agrees by w.known (logs z) × (w.watermark ≤ watermarks z)) (same_Some t.0 x (t.1 ∙ there)) (t.2, t.3, t.4)

pub opens : {S E : Type 0} (logs : S → List E) (watermarks : S → ℕ) (by : E → ℕ) (x : S) (n : ℕ) → n ≡ length (logs x) → TurnInvariant by logs watermarks (length (logs x)) (opening (0 ∷ 0 ∷ n ∷ []) (Some x ∷ []) (newcomer (logs x) (watermarks x)))
opens {S} {E} logs watermarks by x n is = record {
  ticket = 0;
  serving = 0;
  busy = false;
  owner = λ _. 0;
  log = log;
  watermark = watermarks x;
  words = ap (λ (c : ℕ). 0 ∷ 0 ∷ c ∷ []) is;
  in_order = omega arith;
  bounded = omega arith;
  each = λ j v e. subst (TicketInvariant 0 0 (watermarks x) false (λ _. 0) j) (only j v e).1 (record { read = omega arith; within = omega arith; waiting = λ t. no_both false refl t; turning = λ t. no_both false refl t; still = λ t. no_both false refl t });
  drawn = λ k from below. absurd (omega arith);
  holder = λ t. no_both false refl t;
  out = λ t. no_both false refl t;
  home = λ _. (x, refl, refl, refl);
  shared = record {
    seat = λ _. 0;
    splits = 0;
    joined = [];
    first = λ h e. subst (IsFirst by start 0 []) (some-injective (first_known log) h e) (record { zero = refl; live = refl; splits_is = refl; joined_is = refl; stand = λ j has. absurd (Contains-nil j has) });
    each = λ j k e here. subst (λ (y : ℕ × Known E). KnowledgeInvariant by start log (λ _. 0) 0 y.0 y.1) (λ i. (sym (only_known j k e).0 i, (only_known j k e).1 i)) (record {
      starts = refl;
      place_is = refl;
      number = omega arith;
      sees = starts_self log;
      whole = omega arith;
      unmatched = (log, refl);
      mine = ap (filter (λ e'. by e' == 0)) none';
      mine_seen = ap (filter (λ e'. by e' == 0)) none';
      news = omega arith;
    });
    joins = λ j has. absurd (Contains-nil j has);
    numbered = λ e has. absurd (Contains-nil e (subst (λ xs. Contains xs e) none' has));
    numbers = λ n low. inl (0, first_known log, refl, refl, omega arith);
    counted = refl;
    spents = refl;
  };
}
  where
    log : List E
    log = logs x

    start : ℕ
    start = length (logs x)

    none' : drop (length (logs x)) (logs x) ≡ []
    none' = drop_length (logs x)

    only : (j : ℕ) (v : View E) → get_elem? (newcomer (logs x) (watermarks x) ∷ []) j ≡ some v → (j ≡ 0) × (newcomer (logs x) (watermarks x) ≡ v)
    only zero v e = (refl, some-injective (newcomer (logs x) (watermarks x)) v e)
    only (suc j) v e = absurd (some-ne-none v (sym e))

    only_known : (j : ℕ) (k : Known E) → get_elem? (first_known (logs x) ∷ []) j ≡ some k → (j ≡ 0) × (first_known (logs x) ≡ k)
    only_known zero k e = (refl, some-injective (first_known (logs x)) k e)
    only_known (suc j) k e = absurd (some-ne-none k (sym e))

-- the slot that a holder has
pub room_slot : {S : Type 0} (c : List (ℕ × std.Option S)) → has_room c ≡ true → c ≡ (0, None) ∷ []
room_slot ((k, None) ∷ []) e = ap (λ n. (n, None) ∷ []) (eqb-true k 0 e)
room_slot ((k, Some x) ∷ []) e = absurd (true≢false (sym e))
room_slot _ e = absurd (true≢false (sym e))

-- a pass of which none is out has joined all that were split from it
pub all_joined : {E : Type 0} (p : Pass E) → out_of p ≡ 0 → (known_of p).splits ≡ length (known_of p).joined
all_joined p none = omega (arith, none, p.counted, p.numbers.in_bounds)

-- the view of a badge
pub view_there : {E : Type 0} (vs : List (View E)) (v : View E) → vs ≡ v ∷ [] → first_view vs ≡ v
view_there vs v e = ap first_view e
