-- Each move of a run keeps what holds of every client.
use Rattle.std.proofs.Common.{◌≡◌, ℕ, zero, suc, ◌+◌, Bool, true, false, cond, List, [], ◌∷◌, ◌++◌, length, take, refl, ap, sym, ◌∙◌, subst, arith, Option, None, Some, ◌⊎◌, inl, inr, ◌<◌}
use Rattle.std.proofs.Common.{◌≤◌}
use Rattle.sporc_client.proofs.Common.{IsSomeAnd, Contains, ⊤, Contains-append_cases, get, Device, same_device, one_same, same_one, Keys, Refusal, Good, Meets, good_none, good_push}
use Rattle.sporc_client.proofs.Common.{good_take, Logged, Submit, Accept, Opening, PlainClient, opened, journal_has_room, refusal_of, can_log, accepted, log_of_entries, step, Setup, World}
use Rattle.sporc_client.proofs.Common.{Signing, Move, Open, Happen, Give, Restart, start, after, after_all, May, IsRun, IsAt, given, opening_of, signings, IsReached, Ok, take-take}
use Rattle.sporc_client.proofs.Common.{take-append-le, Contains-append_left, Entry, entry_of, slice_get_push, slice_get-take, take_front, world_at, Genuine, HasSigned, IsUnderKeyOf, put}
use Rattle.sporc_client.proofs.Common.{log_of_first}
use Rattle.sporc_line.specs.Keys.{key_after}
use Rattle.sporc_client.specs.Allowed.{is_allowed}
use Rattle.sporc_client.specs.Step.{replay}
use Rattle.sporc_client.proofs.Events.{is_allowed_more, replay_more, accepted_as}
use Rattle.sporc_client.proofs.AcceptedHistories.{accept_allowed, accepts_all, accept_passes}
use Rattle.std.specs.Prelude.{slice_get}
use Rattle.std.specs.Option.{option_map_or}

-- the clients with this one in its place
abbrev pub with_client : (Device → Option PlainClient) → Device → PlainClient → Device → Option PlainClient
with_client clients who c other = cond (same_device other who) (Some c) (clients other)

abbrev pub happens_to : World → Device → Logged → Option PlainClient → World
happens_to w who event client = option_map_or (λ c. put (record w { signed = w.signed ++ signings who c event }) who (step c event)) client w

abbrev pub gives_to : World → Device → ℕ → List ℕ → Option PlainClient → World
gives_to w who position bytes client = option_map_or (λ c. put w who (given c bytes (refusal_of c position bytes))) client w

-- a client that went back to its first k entries
abbrev pub restarted : PlainClient → ℕ → PlainClient
restarted c k = replay c.opening (log_of_first k c)

abbrev pub restarts : World → Device → ℕ → Option PlainClient → World
restarts w who k client = option_map_or (λ c. put w who (restarted c k)) client w

-- ---- one client

pub reached_opened : (s : Setup) (who : Device) (ring : Keys) → Contains s.devices who → Meets s.genesis 0 (get ring 0) s.genesis.commitment → IsReached s who (opened (opening_of s who ring))
unfolding key_after replay is_allowed
reached_opened s who ring is opens = record {
  is_device = is;
  ring = ring;
  opening = refl;
  good = good_none s.genesis (opening_of s who ring).kit opens;
  log = [];
  allowed = refl;
  state = refl;
}

-- the history that an event leaves is good, and the opening stays
record Leaves (c d : PlainClient) : Type 0 where
  opening : d.opening ≡ c.opening
  good : Good d.opening.genesis d.opening.kit d.entries

accepted_leaves : (c : PlainClient) (bytes : List ℕ) → Good c.opening.genesis c.opening.kit c.entries → refusal_of c (length c.entries + 1) bytes ≡ None → Leaves c (accepted c bytes)
accepted_leaves c bytes good none =
    let became = accepted_as c bytes in
    let P : Opening → Type 0 = λ o. Good o.genesis o.kit (accepted c bytes).entries in
    record {
      opening = became.opening;
      good = subst P (sym became.opening) (subst (Good c.opening.genesis c.opening.kit) (sym became.entries) (good_push c.opening.genesis c.opening.kit c.entries bytes good none));
    }

step_leaves : (c : PlainClient) (event : Logged) → Good c.opening.genesis c.opening.kit c.entries → can_log c event ≡ true → Leaves c (step c event)
step_leaves c (Accept by bytes) good may = accepted_leaves c bytes good (accept_passes c by bytes may)
step_leaves c event good may = record { opening = refl; good = good }

-- an event that a client allows
pub reached_step : (s : Setup) (who : Device) (c : PlainClient) (event : Logged) → IsReached s who c → can_log c event ≡ true → IsReached s who (step c event)
reached_step s who c event reached may =
    let next = step_leaves c event reached.good may in
    let here : can_log (replay c.opening reached.log) event ≡ true = ap (λ (d : PlainClient). can_log d event) (sym reached.state) ∙ may in
    let log = reached.log ++ event ∷ [] in
    record {
      is_device = reached.is_device;
      ring = reached.ring;
      opening = next.opening ∙ reached.opening;
      good = next.good;
      log = log;
      allowed = ap (λ (o : Opening). is_allowed o log) next.opening ∙ is_allowed_more c.opening reached.log event reached.allowed here;
      state = ap (λ (d : PlainClient). step d event) reached.state ∙ sym (replay_more c.opening reached.log event) ∙ ap (λ (o : Opening). replay o log) (sym next.opening);
    }

-- its history up to some entry, as one that was accepted anew
reached_restarted : (s : Setup) (who : Device) (k : ℕ) (c : PlainClient) → IsReached s who c → IsReached s who (restarted c k)
reached_restarted s who k c reached =
    let o = c.opening in
    let good = good_take o.genesis o.kit c.entries k reached.good in
    let all = accepts_all o (take k c.entries) good in
    let P : Opening → Type 0 = λ o'. Good o'.genesis o'.kit (restarted c k).entries in
    record {
      is_device = reached.is_device;
      ring = reached.ring;
      opening = all.opening ∙ reached.opening;
      good = subst P (sym all.opening) (subst (Good o.genesis o.kit) (sym all.entries_are) good);
      log = log_of_entries (take k c.entries);
      allowed = ap (λ (o' : Opening). is_allowed o' (log_of_entries (take k c.entries))) all.opening ∙ all.allowed;
      state = ap (λ (o' : Opening). replay o' (log_of_entries (take k c.entries))) (sym all.opening);
    }

-- ---- the world

-- the clients of a world with one in its place
pub with_client_cases : (clients : Device → Option PlainClient) (i j : Device) (c d : PlainClient) → with_client clients i c j ≡ Some d → ((j ≡ i) × (c ≡ d)) ⊎ (clients j ≡ Some d)
with_client_cases clients i j c d = go (same_device j i) refl
  where
    go : (same : Bool) → same_device j i ≡ same → cond same (Some c) (clients j) ≡ Some d → ((j ≡ i) × (c ≡ d)) ⊎ (clients j ≡ Some d)
    go true is h = inl (same_one j i is, cc)
    go false is h = inr h

pub put_same : (clients : Device → Option PlainClient) (i : Device) (c : PlainClient) → with_client clients i c i ≡ Some c
put_same clients i c = ap (λ (same : Bool). cond same (Some c) (clients i)) (one_same i)

-- what is meant to hold of each client of a world, by its device
abbrev pub AllClients : (Device → PlainClient → Type 0) → World → Type 0
AllClients P w = (who : Device) (c : PlainClient) → w.clients who ≡ Some c → P who c

-- it holds of the client that a move makes: of one that is opened, of one behind an event that it allows, or of one that goes back
abbrev pub Keeps : (Device → PlainClient → Type 0) → Setup → World → Move → Type 0
Keeps P s w (Open who ring) = P who (opened (opening_of s who ring))
Keeps P s w (Happen who event) = (c : PlainClient) → w.clients who ≡ Some c → can_log c event ≡ true → (after s w (Happen who event)).clients who ≡ Some (step c event) → P who (step c event)
Keeps P s w (Give who position bytes) =
    (c : PlainClient) → w.clients who ≡ Some c → can_log c (Accept 0 bytes) ≡ true → (after s w (Give who position bytes)).clients who ≡ Some (accepted c bytes) → P who (accepted c bytes)
Keeps P s w (Restart who k) = (c : PlainClient) → w.clients who ≡ Some c → P who (restarted c k)

put_keeps : (P : Device → PlainClient → Type 0) (w : World) (i : Device) (c : PlainClient) → AllClients P w → P i c → (j : Device) (d : PlainClient) → with_client w.clients i c j ≡ Some d → P j d
put_keeps P w i c all new j d at = elim (with_client_cases w.clients i j c d at) [
  | inl p ↦ subst (λ (j : Device). P j d) (sym p.0) (subst (P i) p.1 new)
  | inr p ↦ all j d p
]

-- so it holds of each client after the move, if it does of those before it
pub after_keeps : (P : Device → PlainClient → Type 0) (s : Setup) (w : World) (move : Move) → AllClients P w → May s w move → Keeps P s w move → AllClients P (after s w move)
after_keeps P s w (Open who ring) all may new = put_keeps P w who (opened (opening_of s who ring)) all new
after_keeps P s w (Happen who event) all may new = go (w.clients who) refl may
  where
    go : (o : Option PlainClient) → w.clients who ≡ o → IsSomeAnd o (λ c. can_log c event ≡ true) → AllClients P (happens_to w who event o)
    go None is may = all
    go (Some c) is may = put_keeps P w who (step c event) all (new c is may (ap (λ (o : Option PlainClient). (happens_to w who event o).clients who) is ∙ put_same w.clients who (step c event)))
after_keeps P s w (Give who position bytes) all may new = go (w.clients who) refl
  where
    room : (c : PlainClient) → w.clients who ≡ Some c → refusal_of c position bytes ≡ None → (has : Bool) → journal_has_room c ≡ has → P who (cond has (accepted c bytes) c)
    room c is none false has = all who c is
    room c is none true has =
        new c is (accept_allowed c 0 position bytes none has)
        (ap (λ (o : Option PlainClient). (gives_to w who position bytes o).clients who) is ∙ put_same w.clients who (given c bytes (refusal_of c position bytes))
        ∙ ap (λ (r : Option Refusal). Some (given c bytes r)) none ∙ ap (λ (has : Bool). Some (cond has (accepted c bytes) c)) has)

    handed : (c : PlainClient) → w.clients who ≡ Some c → (r : Option Refusal) → refusal_of c position bytes ≡ r → P who (given c bytes r)
    handed c is (Some refusal) refuses = all who c is
    handed c is None none = room c is none (journal_has_room c) refl

    go : (o : Option PlainClient) → w.clients who ≡ o → AllClients P (gives_to w who position bytes o)
    go None is = all
    go (Some c) is = put_keeps P w who (given c bytes (refusal_of c position bytes)) all (handed c is (refusal_of c position bytes) refl)
after_keeps P s w (Restart who k) all may new = go (w.clients who) refl
  where
    go : (o : Option PlainClient) → w.clients who ≡ o → AllClients P (restarts w who k o)
    go None is = all
    go (Some c) is = put_keeps P w who (restarted c k) all (new c is)

abbrev pub AllReached : Setup → World → Type 0
AllReached s w = AllClients (IsReached s) w

pub reached_after : (s : Setup) (w : World) (move : Move) → AllReached s w → May s w move → AllReached s (after s w move)
reached_after s w move all may = after_keeps (IsReached s) s w move all may (keeps move may)
  where
    keeps : (move : Move) → May s w move → Keeps (IsReached s) s w move
    keeps (Open who ring) may = reached_opened s who ring may.0 may.1
    keeps (Happen who event) may = λ c is allowed there. reached_step s who c event (all who c is) allowed
    keeps (Give who position bytes) may = λ c is allowed there. reached_step s who c (Accept 0 bytes) (all who c is) allowed
    keeps (Restart who k) may = λ c is. reached_restarted s who k c (all who c is)

-- what is meant to hold of all that was ever signed
abbrev pub AllSigned : (Signing → Type 0) → World → Type 0
AllSigned P w = (x : Signing) → Contains w.signed x → P x

-- it holds of what a move signs
abbrev pub KeepsSigned : (Signing → Type 0) → World → Move → Type 0
KeepsSigned P w (Happen who (Submit by bytes)) = (c : PlainClient) → w.clients who ≡ Some c → can_log c (Submit by bytes) ≡ true → P (record { who = who; entry = bytes; client = c })
KeepsSigned P w move = ⊤

pub signed_after : (P : Signing → Type 0) (s : Setup) (w : World) (move : Move) → AllSigned P w → May s w move → KeepsSigned P w move → AllSigned P (after s w move)
signed_after P s w (Open who ring) all may new = all
signed_after P s w (Happen who event) all may new = go (w.clients who) refl may
  where
    signs : (event : Logged) (c : PlainClient) → w.clients who ≡ Some c → can_log c event ≡ true → KeepsSigned P w (Happen who event) → (x : Signing) → Contains (signings who c event) x → P x
    signs (Submit by bytes) c is may new x (zero, within, at) = subst P at (new c is may)
    signs (Submit by bytes) c is may new x (suc place, within, at) = absurd (omega (arith, within))
    signs event c is may new x (place, within, at) = absurd (omega (arith, within))

    go : (o : Option PlainClient) → w.clients who ≡ o → IsSomeAnd o (λ c. can_log c event ≡ true) → AllSigned P (happens_to w who event o)
    go None is may x at = all x at
    go (Some c) is may x at = elim (Contains-append_cases w.signed (signings who c event) x at) [
      | inl p ↦ all x p
      | inr p ↦ signs event c is may new x p
    ]
signed_after P s w (Give who position bytes) all may new = go (w.clients who)
  where
    go : (o : Option PlainClient) → AllSigned P (gives_to w who position bytes o)
    go None = all
    go (Some c) = all
signed_after P s w (Restart who k) all may new = go (w.clients who)
  where
    go : (o : Option PlainClient) → AllSigned P (restarts w who k o)
    go None = all
    go (Some c) = all

pub none_signed : (P : Signing → Type 0) (x : Signing) → Contains [] x → P x
none_signed P x (place, within, at) = absurd (omega (arith, within))

pub reached_all : (s : Setup) (w : World) (moves : List Move) → AllReached s w → IsRun s w moves → AllReached s (after_all s w moves)
reached_all s w [] all run = all
reached_all s w (move ∷ moves) all run = reached_all s (after s w move) moves (reached_after s w move all run.0) run.1

pub reached_start : (s : Setup) → AllReached s start
reached_start s who c at = absurd cc

-- the first moves of a run are a run
pub run_front : (s : Setup) (w : World) (moves : List Move) (n : ℕ) → IsRun s w moves → IsRun s w (take n moves)
run_front s w moves zero run = tt
run_front s w [] (suc n) run = tt
run_front s w (move ∷ moves) (suc n) run = (run.0, run_front s (after s w move) moves n run.1)

pub reached_at : (s : Setup) (moves : List Move) (n : ℕ) (who : Device) (c : PlainClient) → IsRun s start moves → IsAt s moves n who c → IsReached s who c
reached_at s moves n who c run at = reached_all s start (take n moves) (reached_start s) (run_front s start moves n run) who c at

-- ---- if no one forges, each entry of each history comes from a client that holds its author's key

-- if the author has the key of a device of the run, some device signed the entry under it
abbrev pub IsGenuine : Setup → World → List (List ℕ) → List ℕ → Type 0
IsGenuine s w entries bytes = (owner : Device) (e : Entry) → entry_of bytes ≡ Ok e → IsUnderKeyOf s owner entries e
    → (signer : Device) × HasSigned s w owner signer bytes

-- each entry of a history is genuine where it stands
abbrev pub AreGenuine : Setup → World → List (List ℕ) → Type 0
AreGenuine s w entries = (x : ℕ) (bytes : List ℕ) → slice_get entries x ≡ Some bytes → IsGenuine s w (take x entries) bytes

abbrev pub AllGenuine : Setup → World → Type 0
AllGenuine s w = (who : Device) (c : PlainClient) → w.clients who ≡ Some c → AreGenuine s w c.entries

-- what was signed stays signed
abbrev pub StaySigned : World → World → Type 0
StaySigned v w = (x : Signing) → Contains v.signed x → Contains w.signed x

genuine_more : (s : Setup) (v w : World) (entries : List (List ℕ)) (bytes : List ℕ) → StaySigned v w → IsGenuine s v entries bytes → IsGenuine s w entries bytes
genuine_more s v w entries bytes more genuine owner e reads under =
    let found = genuine owner e reads under in
    let by = found.1 in
    (found.0, record { signing = by.signing; signed = more by.signing by.signed; by = by.by; entry = by.entry; key = by.key })

all_more : (s : Setup) (v w : World) (entries : List (List ℕ)) → StaySigned v w → AreGenuine s v entries → AreGenuine s w entries
all_more s v w entries more genuine x bytes at = genuine_more s v w (take x entries) bytes more (genuine x bytes at)

genuine_take : (s : Setup) (w : World) (entries : List (List ℕ)) (k : ℕ) → AreGenuine s w entries → AreGenuine s w (take k entries)
genuine_take s w entries k genuine x bytes at =
    let p = slice_get-take entries k x bytes at in
    let l : x ≤ k = omega (arith, p.0) in
    rw (take-take x k entries l) (genuine x bytes p.1)

genuine_push : (s : Setup) (w : World) (entries : List (List ℕ)) (bytes : List ℕ) → AreGenuine s w entries → IsGenuine s w entries bytes → AreGenuine s w (entries ++ bytes ∷ [])
genuine_push s w entries bytes genuine last x b at = go (slice_get_push entries bytes b x at)
  where
    go : ((x < length entries) × (slice_get entries x ≡ Some b)) ⊎ ((x ≡ length entries) × (bytes ≡ b)) → IsGenuine s w (take x (entries ++ bytes ∷ [])) b
    go (inl p) = let l : x ≤ length entries = omega (arith, p.0) in rw (take-append-le x entries (bytes ∷ []) l) (genuine x b p.1)
    go (inr p) =
        subst (λ (x : ℕ). IsGenuine s w (take x (entries ++ bytes ∷ [])) b) (sym p.0)
        (rw (take_front entries bytes) (subst (IsGenuine s w entries) p.1 last))

-- what the premise says of a move
abbrev AddsGenuine : Setup → World → Move → Type 0
AddsGenuine s w move = (who : Device) (c d : PlainClient) (bytes : List ℕ) → w.clients who ≡ Some c → (after s w move).clients who ≡ Some d → d.entries ≡ c.entries ++ bytes ∷ []
    → IsGenuine s w c.entries bytes

-- an accepted entry
accepted_genuine : (s : Setup) (w v : World) (c : PlainClient) (bytes : List ℕ) → StaySigned w v → IsGenuine s w c.entries bytes → AreGenuine s w c.entries → AreGenuine s v (accepted c bytes).entries
accepted_genuine s w v c bytes more last genuine =
    subst (AreGenuine s v) (sym (accepted_as c bytes).entries) (genuine_push s v c.entries bytes (all_more s w v c.entries more genuine) (genuine_more s w v c.entries bytes more last))

pub stay_signed : (s : Setup) (w : World) (move : Move) → StaySigned w (after s w move)
stay_signed s w (Open who ring) = λ x h. h
stay_signed s w (Happen who event) = go (w.clients who)
  where
    go : (o : Option PlainClient) → StaySigned w (happens_to w who event o)
    go None x h = h
    go (Some c) x h = Contains-append_left w.signed (signings who c event) x h
stay_signed s w (Give who position bytes) = go (w.clients who)
  where
    go : (o : Option PlainClient) → StaySigned w (gives_to w who position bytes o)
    go None x h = h
    go (Some c) x h = h
stay_signed s w (Restart who k) = go (w.clients who)
  where
    go : (o : Option PlainClient) → StaySigned w (restarts w who k o)
    go None x h = h
    go (Some c) x h = h

step_genuine : (s : Setup) (w v : World) (c : PlainClient) (event : Logged) → StaySigned w v → AreGenuine s w c.entries
    → ((bytes : List ℕ) → (step c event).entries ≡ c.entries ++ bytes ∷ [] → IsGenuine s w c.entries bytes) → AreGenuine s v (step c event).entries
step_genuine s w v c (Accept by bytes) more genuine adds = accepted_genuine s w v c bytes more (adds bytes (accepted_as c bytes).entries) genuine
step_genuine s w v c event more genuine adds = all_more s w v c.entries more genuine

genuine_after : (s : Setup) (w : World) (move : Move) → AllReached s w → AllGenuine s w → May s w move → AddsGenuine s w move → AllGenuine s (after s w move)
genuine_after s w move reached all may adds = after_keeps (λ who c. AreGenuine s (after s w move) c.entries) s w move (λ who c at. all_more s w (after s w move) c.entries more (all who c at)) may (keeps move adds more)
  where
    more : StaySigned w (after s w move)
    more = stay_signed s w move

    keeps : (move : Move) → AddsGenuine s w move → StaySigned w (after s w move) → Keeps (λ who c. AreGenuine s (after s w move) c.entries) s w move
    keeps (Open who ring) adds more = λ x bytes at. absurd cc
    keeps (Happen who event) adds more = λ c is allowed there.
        step_genuine s w (after s w (Happen who event)) c event more (all who c is) (λ bytes longer. adds who c (step c event) bytes is there longer)
    keeps (Give who position bytes) adds more = λ c is allowed there.
        accepted_genuine s w (after s w (Give who position bytes)) c bytes more (adds who c (accepted c bytes) bytes is there (accepted_as c bytes).entries) (all who c is)
    keeps (Restart who k) adds more = λ c is.
        let good = good_take c.opening.genesis c.opening.kit c.entries k (reached who c is).good in
        let v : World = after s w (Restart who k) in
        subst (AreGenuine s v) (sym (accepts_all c.opening (take k c.entries) good).entries_are) (all_more s w v (take k c.entries) more (genuine_take s w c.entries k (all who c is)))

-- what the premise says of moves from a world on
abbrev pub AddGenuine : Setup → World → List Move → Type 0
AddGenuine s w moves = (n : ℕ) (who : Device) (c d : PlainClient) (bytes : List ℕ) → (after_all s w (take n moves)).clients who ≡ Some c
    → (after_all s w (take (suc n) moves)).clients who ≡ Some d → d.entries ≡ c.entries ++ bytes ∷ [] → IsGenuine s (after_all s w (take n moves)) c.entries bytes

all_genuine : (s : Setup) (w : World) (moves : List Move) (n : ℕ) → AllReached s w → AllGenuine s w → IsRun s w moves → AddGenuine s w moves → AllGenuine s (after_all s w (take n moves))
all_genuine s w moves zero reached all run adds = all
all_genuine s w [] (suc n) reached all run adds = all
all_genuine s w (move ∷ moves) (suc n) reached all run adds =
    all_genuine s (after s w move) moves n (reached_after s w move reached run.0) (genuine_after s w move reached all run.0 (adds zero)) run.1 (λ n. adds (suc n))

genuine_start : (s : Setup) → AllGenuine s start
genuine_start s who c at = absurd cc

-- at each moment of a run in which no one forges
pub genuine_at : (s : Setup) (moves : List Move) (n : ℕ) → IsRun s start moves → Genuine s moves → AllGenuine s (world_at s moves n)
genuine_at s moves n run genuine = all_genuine s start moves n (reached_start s) (genuine_start s) run genuine
