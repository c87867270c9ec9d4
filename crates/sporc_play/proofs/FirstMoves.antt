-- The moves by which the founders open their clients are a run.
use Rattle.std.proofs.Common.{◌≡◌, ℕ, suc, ◌^◌, ◌<◌, Bool, true, cond, eqb, List, [], ◌∷◌, ◌++◌, length, map, refl, sym, ap, ◌∙◌, subst, arith, Option, Some, inl, inr}
use Rattle.sporc_play.proofs.Common.{Contains, IsSomeAnd, filter_map, if◌then◌else◌, nat_cmp_total, unsigned_tied, empty, get, get-insert, AllByRecursion, nat_cmp, eq_by_cmp, length-sha256}
use Rattle.sporc_play.proofs.Common.{commitment_of, Keys, Setup, Move, World, IsRun, Open, start, AreEpochKeys, IsTypedMove, IsTypedRun, Device, Founder, first_device, InRange, Command, PlayLine}
use Rattle.sporc_play.proofs.Common.{device_by, first_ring, founders_of, has_admin, opener_by, openers_by, first_key, opening_moves, openings}
use Rattle.sporc_play.proofs.Common.{Genesis, PlayState, Scene, StandsFor}
use Rattle.std.proofs.lemmas.Slice.Eq.{bytes_eq-Decides}
use Rattle.sporc_line.specs.Openings.{opens}
use Rattle.sporc_client.specs.Run.{after}
use Rattle.sporc_client.specs.WellFormed.{IsWellFormed}
use Rattle.sporc_script.specs.declared.command.Command.TheVariants as commands
use Rattle.sporc_play.specs.Cast.{setup_of}
use Rattle.sporc_play.proofs.Founders.{lines_declared}
use Rattle.sporc_play.proofs.Openings.{opener_device}
use Rattle.sporc_play.proofs.MadeBytes.{half_len}
use Rattle.sporc_play.proofs.Places.{among_cases, among_here, among_more, all_mapped}
use Rattle.sporc_play.proofs.Scripts.{Follows}
use Rattle.sporc_play.proofs.Runs.{first_ring_has}

-- ---- the first ring

first_keys : AreEpochKeys first_ring
first_keys = first_ring_has (λ key. length key ≡ 32) (length-sha256 _)

first_there : get first_ring 0 ≡ Some first_key
first_there =
    let same : eq_by_cmp nat_cmp 0 0 ≡ true = unsigned_tied 0 0 ∙ zero_is in
    let none : Keys = empty in get-insert nat_cmp_total none 0 first_key 0 ∙ ap (λ (b : Bool). cond b (Some first_key) (get none 0)) same
  where
    zero_is : eqb 0 0 ≡ true
    zero_is = refl

-- ---- who opens

openers_in : (fs : List Founder) (who : Device) (lines : List PlayLine) → Contains (openers_by fs lines) who → Contains (filter_map (λ (l : PlayLine). device_by l.command) lines) who
openers_in fs who [] is = is
openers_in fs who (l ∷ ls) is = elim (among_cases who (opener_by fs l.command) (openers_by fs ls) is) [
  | inl here ↦ among_here who (device_by l.command) (filter_map (λ (l : PlayLine). device_by l.command) ls) (opener_device fs l.command who here)
  | inr there ↦ among_more who (device_by l.command) (filter_map (λ (l : PlayLine). device_by l.command) ls) (openers_in fs who ls there)
]

all_of : {X : Type 0} (P : X → Type 0) (xs : List X) → ((x : X) → Contains xs x → P x) → AllByRecursion P xs
all_of P [] each = tt
all_of P (x ∷ xs) each = (each x (0, omega arith, refl), all_of P xs (λ y is. each y (suc is.0, omega (arith, is.1), is.2)))

openings_run : (s : Setup) (w : World) (ds : List Device) → AllByRecursion (λ who. Contains s.devices who) ds → commitment_of s.genesis.document 0 first_key ≡ s.genesis.commitment → IsRun s w (map (λ (who : Device). Open who first_ring) ds)
openings_run s w [] all meets = tt
openings_run s w (who ∷ ds) all meets = (
  (all.0, subst (λ (o : Option (List ℕ)). IsSomeAnd o (λ k. commitment_of s.genesis.document 0 k ≡ s.genesis.commitment)) (sym first_there) meets),
  openings_run s (after s w (Open who first_ring)) ds all.1 meets,
)

openings_typed : (ds : List Device) → AllByRecursion IsTypedMove (map (λ (who : Device). Open who first_ring) ds)
openings_typed ds = all_mapped IsTypedMove (λ (who : Device). Open who first_ring) ds (λ who. first_keys)

-- ---- the setup

abbrev IsSmall : Device → Type 0
IsSmall who = (who.member < 2 ^ 16) × (who.number < 2 ^ 8)

device_small : (before lines : List PlayLine) (who : Device) → Follows before lines → Contains (filter_map (λ (l : PlayLine). device_by l.command) lines) who → IsSmall who
device_small before [] who all is = absurd (omega (arith, is.1))
device_small before (l ∷ ls) who all is = elim (among_cases who (device_by l.command) (filter_map (λ (l : PlayLine). device_by l.command) ls) is) [
  | inl here ↦ own l.command all.1 here
  | inr there ↦ device_small (before ++ l ∷ []) ls who all.2 there
]
  where
    own : (c : Command) → InRange c → device_by c ≡ Some who → IsSmall who
    own (commands.Member m) fits is = let same : first_device m.member ≡ who = cc in subst IsSmall same (fits.1, omega arith)
    own (commands.Joiner m) fits is = let same : first_device m ≡ who = cc in subst IsSmall same (fits.1, omega arith)
    own (commands.Device d) fits is = let same : d ≡ who = cc in subst IsSmall same (fits.0.1, fits.1.1)
    own c fits is = absurd cc

well_formed : (script : List PlayLine) → Follows [] script → has_admin script ≡ true → IsWellFormed (setup_of script)
unfolding setup_of
well_formed script all founded = record {
  genesis = (lines_declared script all).genesis founded;
  devices = λ who among. device_small [] script who all among;
  identifiers = λ who among. half_len 2 who.member who.number;
}

commits : (script : List PlayLine) → commitment_of (setup_of script).genesis.document 0 first_key ≡ (setup_of script).genesis.commitment
unfolding setup_of
commits script = refl

-- the first ring opens the document of a script
pub founders_open : (script : List PlayLine) (scene : Scene) (state : PlayState) → StandsFor script scene state → opens state.genesis (get first_ring 0) ≡ true
founders_open script scene state stands =
    let g = (setup_of script).genesis in
    ap (λ (g : Genesis). opens g (get first_ring 0)) stands.genesis ∙ ap (opens g) first_there ∙ (bytes_eq-Decides (commitment_of g.document 0 first_key) g.commitment).1 (commits script)

among_devices : (script : List PlayLine) → AllByRecursion (λ who. Contains (setup_of script).devices who) (openers_by (founders_of script) script)
unfolding setup_of
among_devices script =
    let fs = founders_of script in
    all_of (λ (who : Device). Contains (filter_map (λ (l : PlayLine). device_by l.command) script) who) (openers_by fs script) (λ who is. openers_in fs who script is)

pub first_run : (script : List PlayLine) → Follows [] script → has_admin script ≡ true → IsTypedRun (setup_of script) (opening_moves script)
first_run script all founded =
    let s = setup_of script in
    let fs = founders_of script in
    let run : IsTypedRun s (openings fs script) = record {
      setup = well_formed script all founded;
      typed = openings_typed (openers_by fs script);
      run = openings_run s start (openers_by fs script) (among_devices script) (commits script);
    } in
    subst (λ (moves : List Move). IsTypedRun s moves) (sym (ap (λ (b : Bool). if b then openings fs script else []) founded)) run
