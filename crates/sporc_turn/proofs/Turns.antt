-- Each step on a word keeps the rule of the lock, and tells what it says.
use Rattle.std.proofs.Common.{◌≡◌, ◌≢◌, ◌⊎◌, ℕ, ◌+◌, ◌<◌, ◌≤◌, ◌==◌, cond, eqb, eq-eqb, ne_eqb, true, false, true≢false, List, [], ◌∷◌, ◌++◌, map, length, get_or, set, drop, Some, sym, refl, ap, ◌∙◌, subst, inl, inr, ⊎_elim, arith, length-append}
use Rattle.sporc_turn.proofs.Common.{slice_index, Contains, All, Option, none, some, dite, ℕ_discrete, get_elem?, map-set, append-nil, All-contains, State, Me, Act, stepped, Valid, carried_after}
use Rattle.sporc_turn.proofs.Common.{keeps, takes, gives, Allows, at_map, set_again, exchanged, View, Known, StartsWith, own, Extends, Agrees, seeing, adding, hearing, matched, known, TicketInvariant}
use Rattle.sporc_turn.proofs.Common.{HasTicket, HasTurn, HoldsAt, KnowledgeInvariant, LogInvariant, TurnInvariant, reading, drawing, serving, raising, idling, ReadsTicket, DrawsTicket, ReadsServing}
use Rattle.sporc_turn.proofs.Common.{RaisesCount, PassesServing, ReadsCount, Compares, IsIdle}
use Rattle.std.specs.Prelude as std
use prog.Atomic.{either}
use Rattle.sporc_turn.specs.declared.limits.TheConstants.{MAX_TICKETS}
use Rattle.sporc_turn.proofs.Lists.{no_both, set_at, same_at, starts_length, starts_self, starts_more, starts_shorter, drop_seen, own_more, Contains-nil}
use Rattle.sporc_turn.proofs.Views.{is_live, each_set, holds_at_set, same_known}
use Rattle.sporc_turn.proofs.Logs

-- the value in the first slot that a seat has
abbrev some_of : {S : Type 0} → S → List (ℕ × std.Option S) → S
some_of d ((k, Some x) ∷ cs) = x
some_of d _ = d

module _ {S E : Type 0} (logs : S → List E) (watermarks : S → ℕ) (by : E → ℕ) (start : ℕ) where
  abbrev Rule : State (std.Option S) (View E) → Type 0
  Rule = TurnInvariant by logs watermarks start

  abbrev Does : State (std.Option S) (View E) → ℕ → Me (std.Option S) (View E) → ℕ → ℕ → (Me (std.Option S) (View E) → Type 0) → Type 0
  Does s id me i n then = (w : View E) × (a : Act (std.Option S)) × Valid s.homes me.1 a × TurnInvariant by logs watermarks start (stepped s i n id me.1 w a) × then (w, carried_after me.1 a)

  same_words : (s : State (std.Option S) (View E)) (o : TurnInvariant by logs watermarks start s) → (set s.words 0 (get_or s.words 0 0) ≡ s.words) × (set s.words 1 (get_or s.words 1 0) ≡ s.words) × (set s.words 2 (get_or s.words 2 0) ≡ s.words)
  same_words s o = (ap (λ (ws : List ℕ). set ws 0 (get_or ws 0 0)) o.words ∙ sym o.words, ap (λ (ws : List ℕ). set ws 1 (get_or ws 1 0)) o.words ∙ sym o.words, ap (λ (ws : List ℕ). set ws 2 (get_or ws 2 0)) o.words ∙ sym o.words)

  -- a view with a ticket was not joined to another
  pub live_of : (s : State (std.Option S) (View E)) (o : TurnInvariant by logs watermarks start s) (id : ℕ) (v : View E) → get_elem? s.views id ≡ some v → (v.waits ≡ true) ⊎ (v.turns ≡ true) → v.known.spent ≡ false
  live_of s o id v at t = is_live v.known (λ sp. let q = (o.each id v at).still sp in ⊎_elim (λ a. true≢false (sym a ∙ q.0)) (λ a. true≢false (sym a ∙ q.1)) t)

  -- a step that leaves the words as they are, at which a pass reads a number or learns of the log
  rereads : (s : State (std.Option S) (View E)) (o : TurnInvariant by logs watermarks start s) (id i : ℕ) (v : View E) (r : ℕ) (l : Known E) → get_elem? s.views id ≡ some v → r ≤ o.ticket → (set s.words i (get_or s.words i 0) ≡ s.words)
      → l.seen ≡ v.known.seen → l.spent ≡ v.known.spent → LogInvariant by start o.log (set (map known s.views) id l)
      → TurnInvariant by logs watermarks start record { words = set s.words i (get_or s.words i 0); homes = s.homes; views = set s.views id (record v { read = r; known = l }) }
  rereads s o id i v r l at low same seen spent shared =
      let w : View E = record v { read = r; known = l } in
      let P : ℕ → View E → Type 0 = TicketInvariant o.ticket o.serving o.watermark o.busy o.owner in
      let f = o.each id v at in record {
        ticket = o.ticket;
        serving = o.serving;
        busy = o.busy;
        owner = o.owner;
        log = o.log;
        watermark = o.watermark;
        words = same ∙ o.words;
        in_order = o.in_order;
        bounded = o.bounded;
        each = each_set P P s.views id w o.each (λ j u ne e h. h) (record { read = low; within = f.within; waiting = f.waiting; turning = f.turning; still = λ t. f.still (sym spent ∙ t) });
        drawn = λ n from below. holds_at_set (HasTicket n) (HasTicket n) s.views id (o.owner n) v w at (o.drawn n from below) (λ u _ h. h) (λ _ h. h);
        holder = λ b. holds_at_set (HasTurn o.log o.watermark) (HasTurn o.log o.watermark) s.views id (o.owner o.serving) v w at (o.holder b) (λ u _ h. h) (λ _ h. (h.0, seen ∙ h.1, h.2));
        out = o.out;
        home = o.home;
        shared = subst (LogInvariant by start o.log) (sym (map-set known s.views id w)) shared;
      }

  -- one at which the pass learns nothing of the log
  reread : (s : State (std.Option S) (View E)) (o : TurnInvariant by logs watermarks start s) (id i : ℕ) (v : View E) (r : ℕ) → get_elem? s.views id ≡ some v → r ≤ o.ticket → (set s.words i (get_or s.words i 0) ≡ s.words)
      → TurnInvariant by logs watermarks start record { words = set s.words i (get_or s.words i 0); homes = s.homes; views = set s.views id (reading v r) }
  reread s o id i v r at low same = rereads s o id i v r v.known at low same refl refl (subst (LogInvariant by start o.log) (sym (set_again (map known s.views) id v.known (at_map known s.views id v at))) o.shared)

  pub reads : (slots id : ℕ) (me : Me (std.Option S) (View E)) → Allows (TurnInvariant by logs watermarks start) slots id me 0 (λ n. n) (ReadsTicket me)
  reads slots id me s o len at fits =
      let r : ℕ = slice_index s.words 0 in
      let is : r ≡ o.ticket = ap (λ ws. slice_index ws 0) o.words in
      let low : r ≤ o.ticket = omega arith in
      let top : r ≤ MAX_TICKETS = omega (arith, o.bounded) in
      (reading me.0 r, keeps, tt, reread s o id 0 me.0 r at low (same_words s o).0, (refl, omega (arith, (o.each id me.0 at).read), top))

  draws_here : (s : State (std.Option S) (View E)) (o : TurnInvariant by logs watermarks start s) (id k : ℕ) (me : Me (std.Option S) (View E)) → IsIdle me.0 → k < MAX_TICKETS → get_elem? s.views id ≡ some me.0 → slice_index s.words 0 ≡ k
      → Does s id me 0 (k + 1) (DrawsTicket me k (slice_index s.words 0))
  draws_here s o id k me idle low at here =
      let v = me.0 in
      let w = drawing v k in
      let is : k ≡ o.ticket = sym here ∙ ap (λ ws. slice_index ws 0) o.words in
      let owner' : ℕ → ℕ = λ n. cond (eqb n k) id (o.owner n) in
      let mine : owner' k ≡ id = ap (λ t. cond t id (o.owner k)) (eq-eqb k k refl) in
      let other : (n : ℕ) → n ≢ k → owner' n ≡ o.owner n = λ n ne. ap (λ t. cond t id (o.owner n)) (ne_eqb n k ne) in
      let f = o.each id v at in
      let P : ℕ → View E → Type 0 = TicketInvariant o.ticket o.serving o.watermark o.busy o.owner in
      let Q : ℕ → View E → Type 0 = TicketInvariant (k + 1) o.serving o.watermark o.busy owner' in
      let T : View E → Type 0 = HasTurn o.log o.watermark in (
        w,
        keeps,
        tt,
        record {
          ticket = k + 1;
          serving = o.serving;
          busy = o.busy;
          owner = owner';
          log = o.log;
          watermark = o.watermark;
          words = ap (λ (ws : List ℕ). set ws 0 (k + 1)) o.words;
          in_order = omega (arith, o.in_order);
          bounded = omega arith;
          each = each_set P Q s.views id w o.each
              (λ j u ne e h. record {
                read = omega (arith, h.read);
                within = h.within;
                waiting = λ t. let g = h.waiting t in (other u.ticket (λ (x : u.ticket ≡ k). let low' = g.2 in omega arith) ∙ g.0, g.1, (let low' = g.2 in omega arith), g.3);
                turning = λ t. let g = h.turning t in (other u.ticket (λ (x : u.ticket ≡ k). let low' = g.2 in omega arith) ∙ g.0, g.1, (let low' = g.2 in omega arith), g.3);
                still = h.still;
              })
              (record { read = omega (arith, f.read); within = f.within; waiting = λ _. (mine, omega (arith, o.in_order), omega arith, refl); turning = λ t. no_both false refl t; still = λ t. no_both v.known.spent idle.2 t });
          drawn = λ n from below. dite (ℕ_discrete n k)
              (λ (e : n ≡ k). subst (λ m. HoldsAt (HasTicket m) (set s.views id w) (owner' m)) (sym e) (w, ap (λ m. get_elem? (set s.views id w) m) mine ∙ set_at s.views id w v at, (inl refl, refl)))
              (λ (ne : n ≢ k). subst (HoldsAt (HasTicket n) (set s.views id w)) (sym (other n ne))
              (holds_at_set (HasTicket n) (HasTicket n) s.views id (o.owner n) v w at (o.drawn n from (omega arith)) (λ u _ h. h) (λ _ h. absurd (⊎_elim (λ t. no_both v.waits idle.0 t) (λ t. no_both v.turns idle.1 t) h.0))));
          holder = λ b. let t = o.holder b in let g = (o.each (o.owner o.serving) t.0 t.1).turning t.2.0 in let ne : o.serving ≢ k = λ (x : o.serving ≡ k). (let a = g.2 in let c = g.1 in omega arith) in
              subst (HoldsAt T (set s.views id w)) (sym (other o.serving ne)) (holds_at_set T T s.views id (o.owner o.serving) v w at t (λ u _ h. h) (λ _ h. no_both v.turns idle.1 h.0));
          out = o.out;
          home = o.home;
          shared = subst (LogInvariant by start o.log) (sym (same_known s.views id v w at refl)) o.shared;
        },
        ((λ _. refl), (λ ne. absurd (ne here))),
      )

  pub draws : (slots id k : ℕ) (me : Me (std.Option S) (View E)) → IsIdle me.0 → k < MAX_TICKETS → Allows (TurnInvariant by logs watermarks start) slots id me 0 (λ n. either (n == k) (k + 1) n) (DrawsTicket me k)
  draws slots id k me idle low s o len at fits =
      let r : ℕ = slice_index s.words 0 in
      let F : ℕ → Type 0 = λ n. Does s id me 0 n (DrawsTicket me k r) in
      exchanged r k (k + 1) F
      (λ e. draws_here s o id k me idle low at e)
      (λ ne. (me.0, keeps, tt, reread s o id 0 me.0 me.0.read at (o.each id me.0 at).read (same_words s o).0, ((λ e. absurd (ne e)), (λ _. refl))))

  -- what the rule on the log says to a pass that is live
  knows : (s : State (std.Option S) (View E)) (o : TurnInvariant by logs watermarks start s) (id : ℕ) (v : View E) → get_elem? s.views id ≡ some v → v.known.spent ≡ false
      → KnowledgeInvariant by start o.log o.shared.seat o.shared.splits id v.known × Agrees by v.known o.log
  knows s o id v at live = let at' = at_map known s.views id v at in (o.shared.each id v.known at' live, Logs.agrees by start o.log (map known s.views) id v.known o.shared at' live)

  -- a live pass learns of the log
  learns : (s : State (std.Option S) (View E)) (o : TurnInvariant by logs watermarks start s) (id : ℕ) (v : View E) (l : Known E) → get_elem? s.views id ≡ some v → v.known.spent ≡ false
      → (l.number ≡ v.known.number) × (l.spent ≡ false) × (l.splits ≡ v.known.splits) × (l.joined ≡ v.known.joined)
      → (KnowledgeInvariant by start o.log o.shared.seat o.shared.splits id v.known → KnowledgeInvariant by start o.log o.shared.seat o.shared.splits id l)
      → ((n : ℕ) (es : List E) → own by n start v.known.seen ≡ es → own by n start o.log ≡ es → own by n start l.seen ≡ es)
      → LogInvariant by start o.log (set (map known s.views) id l)
  learns s o id v l at live same fits stands =
      let all : o.log ++ [] ≡ o.log = append-nil o.log in
      let at' = at_map known s.views id v at in
      subst (λ g. LogInvariant by start g (set (map known s.views) id l)) all
      (Logs.updates by start o.log [] (map known s.views) id v.known l o.shared at' live same (λ e has. absurd (Contains-nil e has))
      (subst (λ g. KnowledgeInvariant by start g o.shared.seat o.shared.splits id l) (sym all) (fits (o.shared.each id v.known at' live)))
      (λ n es a b. stands n es a (ap (own by n start) (sym all) ∙ b)))

  serves_here : (s : State (std.Option S) (View E)) (o : TurnInvariant by logs watermarks start s) (id : ℕ) (me : Me (std.Option S) (View E)) → me.0.waits ≡ true → get_elem? s.views id ≡ some me.0 → slice_index s.words 1 ≡ me.0.ticket
      → Does s id me 1 (slice_index s.words 1) (ReadsServing me logs watermarks by (slice_index s.words 1))
  serves_here s o id me waits at here =
      let v = me.0 in
      let f = (o.each id v at).waiting waits in
      let live = live_of s o id v at (inl waits) in
      let is : v.ticket ≡ o.serving = sym here ∙ ap (λ ws. slice_index ws 1) o.words in
      let free : o.busy ≡ false = elim o.busy as (λ b. (b ≡ o.busy) → b ≡ false) [
        | true ↦ λ e. (let t = o.holder (sym e) in let u : v ≡ t.0 = same_at s.views id (o.owner o.serving) v t.0 (sym f.0 ∙ ap o.owner is) at t.1 in no_both v.turns f.3 (ap (λ (x : View E). x.turns) u ∙ t.2.0))
        | false ↦ λ e. refl
      ] refl in
      let x = o.home free in
      let l = seeing v.known (logs x.0) in
      let w = serving v (logs x.0) (watermarks x.0) in
      let P : ℕ → View E → Type 0 = TicketInvariant o.ticket o.serving o.watermark o.busy o.owner in
      let Q : ℕ → View E → Type 0 = TicketInvariant o.ticket o.serving o.watermark true o.owner in
      let k' = knows s o id v at live in (
        w,
        takes 0 (Some x.0),
        ap (λ hs. get_elem? hs 0) x.1,
        record {
          ticket = o.ticket;
          serving = o.serving;
          busy = true;
          owner = o.owner;
          log = o.log;
          watermark = o.watermark;
          words = (same_words s o).1 ∙ o.words;
          in_order = o.in_order;
          bounded = o.bounded;
          each = each_set P Q s.views id w o.each (λ j u ne e h. record { read = h.read; within = h.within; waiting = h.waiting; turning = λ t. let g = h.turning t in (g.0, g.1, g.2, refl); still = h.still })
              (record { read = (o.each id v at).read; within = omega (arith, x.3); waiting = λ t. no_both false refl t; turning = λ _. (f.0, is, f.2, refl); still = λ t. no_both v.known.spent live t });
          drawn = λ n from below. holds_at_set (HasTicket n) (HasTicket n) s.views id (o.owner n) v w at (o.drawn n from below) (λ u _ h. h) (λ _ h. (inr refl, h.1));
          holder = λ _. (w, ap (λ m. get_elem? (set s.views id w) m) (ap o.owner (sym is) ∙ f.0) ∙ set_at s.views id w v at, (refl, x.2, x.3));
          out = λ _. ap (λ (hs : List (Option (std.Option S))). set hs 0 none) x.1;
          home = λ t. no_both true t refl;
          shared = subst (LogInvariant by start o.log) (sym (map-set known s.views id w)) (learns s o id v l at live (refl, live, refl, refl)
              (λ g. record {
                starts = g.starts;
                place_is = g.place_is;
                number = g.number;
                sees = subst (StartsWith o.log) (sym x.2) (starts_self o.log);
                whole = omega (arith, g.whole, starts_length o.log v.known.seen g.sees, ap length x.2);
                unmatched = g.unmatched;
                mine = g.mine;
                mine_seen = ap (own by v.known.number start) x.2 ∙ g.mine;
                news = g.news;
              })
              (λ n es a b. ap (own by n start) x.2 ∙ b));
        },
        ((λ _. (x.0, refl, subst (Agrees by v.known) (sym x.2) k'.1, omega (arith, k'.0.news, ap length x.2), omega (arith, (o.each id v at).within, x.3))), (λ ne. absurd (ne here))),
      )

  pub serves : (slots id : ℕ) (me : Me (std.Option S) (View E)) → me.0.waits ≡ true → Allows (TurnInvariant by logs watermarks start) slots id me 1 (λ n. n) (ReadsServing me logs watermarks by)
  serves slots id me waits s o len at fits =
      let r : ℕ = slice_index s.words 1 in
      dite (ℕ_discrete r me.0.ticket)
      (λ (e : r ≡ me.0.ticket). serves_here s o id me waits at e)
      (λ (ne : r ≢ me.0.ticket). (me.0, keeps, tt, reread s o id 1 me.0 me.0.read at (o.each id me.0 at).read (same_words s o).1, ((λ e. absurd (ne e)), (λ _. refl))))

  -- log and watermark that the holder has seen are those of the rule
  has_turn : (s : State (std.Option S) (View E)) (o : TurnInvariant by logs watermarks start s) (id : ℕ) (v : View E) → get_elem? s.views id ≡ some v → v.turns ≡ true → HasTurn o.log o.watermark v
  has_turn s o id v at turns =
      let f = (o.each id v at).turning turns in
      let h = o.holder f.3 in
      subst (HasTurn o.log o.watermark) (sym (same_at s.views id (o.owner o.serving) v h.0 (sym f.0 ∙ ap o.owner f.1) at h.1)) h.2

  -- what the pass knows of the log that it extended
  raised_fits : (log : List E) (seat : ℕ → ℕ) (splits id : ℕ) (k : Known E) (log' : List E) → KnowledgeInvariant by start log seat splits id k → k.seen ≡ log → (x : Extends by k log') → KnowledgeInvariant by start (log ++ x.more) seat splits id (adding k log')
  raised_fits log seat splits id k log' g seen_is x =
      let e : log' ≡ log ++ x.more = x.log_is ∙ ap (λ l. l ++ x.more) seen_is in
      let tail : drop (length k.seen) log' ≡ x.more = ap (drop (length k.seen)) x.log_is ∙ drop_seen k.seen x.more in
      let mine' : own by k.number start (log ++ x.more) ≡ k.mine ++ drop (length k.seen) log' =
      own_more by k.number start log x.more (omega (arith, g.whole, ap length seen_is)) (λ y has. All-contains (λ z. by z ≡ k.number) x.more y x.by_this has) ∙ (λ i. g.mine i ++ sym tail i) in record {
        starts = g.starts;
        place_is = g.place_is;
        number = g.number;
        sees = subst (StartsWith (log ++ x.more)) (sym e) (starts_self (log ++ x.more));
        whole = omega (arith, g.whole, ap length seen_is, ap length e, length-append log x.more);
        unmatched = starts_more log x.more k.unmatched g.unmatched;
        mine = mine';
        mine_seen = ap (own by k.number start) e ∙ mine';
        news = omega (arith, g.news, length-append log x.more);
      }

  raises_at : (slots id : ℕ) (v : View E) (x : S) (new : ℕ) → v.turns ≡ true → new ≡ length (logs x) → Extends by v.known (logs x) → v.watermark ≤ watermarks x → Allows (TurnInvariant by logs watermarks start) slots id (v, (0, Some x) ∷ []) 2 (λ _. new) (λ _. RaisesCount (v, (0, Some x) ∷ []) logs watermarks by)
  raises_at slots id v x new turns is more risen s o len at fits =
      let f = (o.each id v at).turning turns in
      let live = live_of s o id v at (inr turns) in
      let k = v.known in
      let seen_is : k.seen ≡ o.log = (has_turn s o id v at turns).1 in
      let log' : List E = o.log ++ more.more in
      let e : logs x ≡ log' = more.log_is ∙ ap (λ l. l ++ more.more) seen_is in
      let l = adding k (logs x) in
      let w = raising v (logs x) (watermarks x) in
      let watermark_is : v.watermark ≡ o.watermark = (has_turn s o id v at turns).2 in
      let at' = at_map known s.views id v at in
      let P : ℕ → View E → Type 0 = TicketInvariant o.ticket o.serving o.watermark o.busy o.owner in
      let Q : ℕ → View E → Type 0 = TicketInvariant o.ticket o.serving (watermarks x) o.busy o.owner in
      let RaisesOf : S → Me (std.Option S) (View E) → Type 0 = λ u n. (n ≡ (raising v (logs u) (watermarks u), (0, Some x) ∷ [])) × Agrees by (adding k (logs u)) (logs u) in
      let here : (n : ℕ) → n ≡ o.serving → o.owner n ≡ id = λ n m. ap o.owner (m ∙ sym f.1) ∙ f.0 in
      let shared' : LogInvariant by start log' (set (map known s.views) id l) = Logs.updates by start o.log more.more (map known s.views) id k l o.shared at' live (refl, live, refl, refl)
      (λ y has. All-contains (λ z. by z ≡ k.number) more.more y more.by_this has)
      (raised_fits o.log o.shared.seat o.shared.splits id k (logs x) (o.shared.each id k at' live) seen_is more)
      (λ n es a b. ap (own by n start) e ∙ b) in
      let agrees : Agrees by l (logs x) = subst (Agrees by l) (sym e) (Logs.agrees by start log' (set (map known s.views) id l) id l shared' (set_at (map known s.views) id l k at') live) in (
        w,
        keeps,
        tt,
        record {
          ticket = o.ticket;
          serving = o.serving;
          busy = o.busy;
          owner = o.owner;
          log = log';
          watermark = watermarks x;
          words = ap (λ (ws : List ℕ). set ws 2 new) o.words ∙ ap (λ (c : ℕ). o.ticket ∷ o.serving ∷ c ∷ []) (is ∙ ap length e);
          in_order = o.in_order;
          bounded = o.bounded;
          each = let q = o.each id v at in each_set P Q s.views id w o.each (λ j u ne e' h. record { read = h.read; within = omega (arith, h.within, risen, watermark_is); waiting = h.waiting; turning = h.turning; still = h.still }) (record { read = q.read; within = omega arith; waiting = q.waiting; turning = q.turning; still = q.still });
          drawn = λ n from below. holds_at_set (HasTicket n) (HasTicket n) s.views id (o.owner n) v w at (o.drawn n from below) (λ u _ h. h) (λ _ h. h);
          holder = λ b. holds_at_set (HasTurn o.log o.watermark) (HasTurn log' (watermarks x)) s.views id (o.owner o.serving) v w at (o.holder b) (λ u ne _. absurd (ne (here o.serving refl))) (λ _ _. (turns, e, refl));
          out = o.out;
          home = λ b. no_both o.busy b f.3;
          shared = subst (LogInvariant by start log') (sym (map-set known s.views id w)) shared';
        },
        (λ y m. (let z : x ≡ y = ap (some_of x) m in subst (λ (u : S). RaisesOf u (w, (0, Some x) ∷ [])) z (refl, agrees))),
      )

  pub raises : (slots id : ℕ) (me : Me (std.Option S) (View E)) (x : S) (new : ℕ) → me.1 ≡ (0, Some x) ∷ [] → me.0.turns ≡ true → new ≡ length (logs x) → Extends by me.0.known (logs x) → me.0.watermark ≤ watermarks x
      → Allows (TurnInvariant by logs watermarks start) slots id me 2 (λ _. new) (λ _. RaisesCount me logs watermarks by)
  raises slots id me x new has turns is more risen =
      let A : List (ℕ × std.Option S) → Type 0 = λ c. Allows (TurnInvariant by logs watermarks start) slots id (me.0, c) 2 (λ _. new) (λ _. RaisesCount (me.0, c) logs watermarks by) in
      subst A (sym has) (raises_at slots id me.0 x new turns is more risen)

  passes_at : (slots id : ℕ) (v : View E) (x : S) → v.turns ≡ true → v.known.seen ≡ logs x → v.watermark ≡ watermarks x → Allows (TurnInvariant by logs watermarks start) slots id (v, (0, Some x) ∷ []) 1 (λ _. v.ticket + 1) (λ _. PassesServing (v, (0, Some x) ∷ []))
  passes_at slots id v x turns whole watermark s o len at fits =
      let f = (o.each id v at).turning turns in
      let live = live_of s o id v at (inr turns) in
      let w = idling v in
      let P : ℕ → View E → Type 0 = TicketInvariant o.ticket o.serving o.watermark o.busy o.owner in
      let Q : ℕ → View E → Type 0 = TicketInvariant o.ticket (v.ticket + 1) o.watermark false o.owner in
      let apart : (j k : ℕ) → j ≢ id → o.owner k ≡ j → k ≢ v.ticket = λ j k ne own' e. ne (sym own' ∙ ap o.owner e ∙ f.0) in (
        w,
        gives,
        tt,
        record {
          ticket = o.ticket;
          serving = v.ticket + 1;
          busy = false;
          owner = o.owner;
          log = o.log;
          watermark = o.watermark;
          words = ap (λ (ws : List ℕ). set ws 1 (v.ticket + 1)) o.words;
          in_order = (let a = f.2 in omega arith);
          bounded = o.bounded;
          each = each_set P Q s.views id w o.each
              (λ j u ne e h'. record {
                read = h'.read;
                within = h'.within;
                waiting = λ t. let g = h'.waiting t in (g.0, (let a = g.1 in let b = apart j u.ticket ne g.0 in let c = f.1 in omega arith), g.2, g.3);
                turning = λ t. let g = h'.turning t in absurd (apart j u.ticket ne g.0 (g.1 ∙ sym f.1));
                still = h'.still;
              })
              (record { read = (o.each id v at).read; within = (o.each id v at).within; waiting = λ t. no_both false refl t; turning = λ t. no_both false refl t; still = λ t. no_both v.known.spent live t });
          drawn = λ n from below. holds_at_set (HasTicket n) (HasTicket n) s.views id (o.owner n) v w at (o.drawn n (let a = f.1 in omega arith) below) (λ u _ h'. h') (λ _ h'. (let a = h'.1 in absurd (omega arith)));
          holder = λ t. no_both false refl t;
          out = λ t. no_both false refl t;
          home = λ _. (x, ap (λ (hs : List (Option (std.Option S))). set hs 0 (some (Some x))) (o.out f.3), sym whole ∙ (has_turn s o id v at turns).1, sym watermark ∙ (has_turn s o id v at turns).2);
          shared = subst (LogInvariant by start o.log) (sym (same_known s.views id v w at refl)) o.shared;
        },
        refl,
      )

  pub passes : (slots id : ℕ) (me : Me (std.Option S) (View E)) (x : S) (new : ℕ) → me.1 ≡ (0, Some x) ∷ [] → me.0.turns ≡ true → me.0.known.seen ≡ logs x → me.0.watermark ≡ watermarks x → new ≡ me.0.ticket + 1
      → Allows (TurnInvariant by logs watermarks start) slots id me 1 (λ _. new) (λ _. PassesServing me)
  passes slots id me x new has turns whole watermark is =
      let A : List (ℕ × std.Option S) → ℕ → Type 0 = λ c n. Allows (TurnInvariant by logs watermarks start) slots id (me.0, c) 1 (λ _. n) (λ _. PassesServing (me.0, c)) in
      subst (λ (y : List (ℕ × std.Option S) × ℕ). A y.0 y.1) (λ i. (sym has i, sym is i)) (passes_at slots id me.0 x turns whole watermark)

  pub hears : (slots id : ℕ) (me : Me (std.Option S) (View E)) → me.0.known.spent ≡ false → Allows (TurnInvariant by logs watermarks start) slots id me 2 (λ n. n) (ReadsCount me)
  hears slots id me live s o len at fits =
      let r : ℕ = slice_index s.words 2 in
      let is : r ≡ length o.log = ap (λ ws. slice_index ws 2) o.words in
      let l = hearing me.0.known r in
      let f = (knows s o id me.0 at live).0 in (
        record me.0 { known = l },
        keeps,
        tt,
        rereads s o id 2 me.0 me.0.read l at (o.each id me.0 at).read (same_words s o).2 refl refl (learns s o id me.0 l at live (refl, live, refl, refl)
            (λ g. record { starts = g.starts; place_is = g.place_is; number = g.number; sees = g.sees; whole = g.whole; unmatched = g.unmatched; mine = g.mine; mine_seen = g.mine_seen; news = omega arith })
            (λ n es a b. a)),
        (refl, omega (arith, starts_length o.log me.0.known.seen f.sees), omega (arith, f.news)),
      )

  pub compares : (slots id : ℕ) (me : Me (std.Option S) (View E)) → me.0.known.spent ≡ false → Allows (TurnInvariant by logs watermarks start) slots id me 0 (λ n. n) (λ _. Compares me by)
  compares slots id me live s o len at fits =
      let k = me.0.known in
      let l = matched k in
      let at' = at_map known s.views id me.0 at in
      let f = (knows s o id me.0 at live).0 in
      let a = Logs.agrees_seen by start o.log (map known s.views) id k o.shared at' live in (
        record me.0 { known = l },
        keeps,
        tt,
        rereads s o id 0 me.0 me.0.read l at (o.each id me.0 at).read (same_words s o).0 refl refl (learns s o id me.0 l at live (refl, live, refl, refl)
            (λ g. record { starts = g.starts; place_is = g.place_is; number = g.number; sees = g.sees; whole = g.whole; unmatched = (o.log, refl); mine = g.mine; mine_seen = g.mine_seen; news = g.news })
            (λ n es a b. a)),
        (refl, (λ low. starts_shorter k.unmatched k.seen o.log f.unmatched f.sees low), record { begins = a.begins; whole = a.whole; mine = a.mine; joined = a.joined; numbers = a.numbers; all_back = a.all_back }, (λ zero'. Logs.no_more by start o.log (map known s.views) id k o.shared at' live zero')),
      )
