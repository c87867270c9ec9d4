-- What the fields of a history keep, as it begins and with one entry more.
use Rattle.std.proofs.Common.{◌≡◌, ℕ, ◌+◌, ◌<◌, ◌≤◌, Bool, true, false, cond, eqb, List, [], ◌∷◌, ◌++◌, length, refl, ap, sym, ◌∙◌, subst, arith, Option, None, Some, length-append}
use Rattle.sporc_head.proofs.Common.{is_some, ◌||◌, ◌&&◌, eqb-true, eqb-false, genesis_value, next_value, Change, Device, same_device, Roster, after_change, founded, removes, Genesis}
use Rattle.sporc_head.proofs.Common.{genesis_bytes, IsGenesis, MAX_ENTRIES, DEVICE_NUMBERS, Tally, CommittedChange, change_in, is_by, hash_of, count_of, last_of, rank_of, tally_or_none, tally_in}
use Rattle.sporc_head.proofs.Common.{covers, is_gone, with_removal, TablesMatch, HeadsInvariant}
use Rattle.std.specs.List.{All}
use Rattle.std.proofs.lemmas.List.Elements.{All-nil, All-push}
use Rattle.std.proofs.lemmas.List.Folds.{list_any-append}
use Rattle.sporc_hash.specs.Chain.{chain_after}
use Rattle.sporc_member.specs.declared.change.Change.TheVariants.{Remove, DropDevice}
use Rattle.sporc_member.proofs.SameDevice.{same_one}
use Rattle.sporc_entry.specs.declared.limits.TheConstants.{MAX_ENTRY}
use Rattle.sporc_head.specs.declared.tables.Removal.{Removal}
use Rattle.sporc_head.proofs.Grows.{chain_more, last_push, count_push, epoch_push, roster_edit, roster_change, removes_in, removed_push}

-- ---- ranks

-- devices have one rank where they are the same
pub rank_same : (a b : Device) → a.number < DEVICE_NUMBERS → b.number < DEVICE_NUMBERS → eqb (rank_of a) (rank_of b) ≡ same_device a b
rank_same a b low high = go (eqb (rank_of a) (rank_of b)) (eqb a.member b.member) (eqb a.number b.number) refl refl refl
  where
    go : (r m n : Bool) → eqb (rank_of a) (rank_of b) ≡ r → eqb a.member b.member ≡ m → eqb a.number b.number ≡ n → r ≡ (m && n)
    go true true false e f g = absurd (let same = eqb-true (rank_of a) (rank_of b) e in eqb-false a.number b.number g (omega (arith, low, high, same)))
    go true false n e f g = absurd (let same = eqb-true (rank_of a) (rank_of b) e in eqb-false a.member b.member f (omega (arith, low, high, same)))
    go false true true e f g = absurd (let m = eqb-true a.member b.member f in let n = eqb-true a.number b.number g in eqb-false (rank_of a) (rank_of b) e (omega (arith, m, n)))
    go r m n e f g = refl

-- ---- the tables

or_none : (x : Bool) → x ≡ (x || false)
or_none true = refl
or_none false = refl

-- those removed, with whom a change removes
pub removals_more : (c : Change) (removals : List Removal) (d : Device) → is_gone d (with_removal c removals) ≡ (is_gone d removals || removes d c)
removals_more c removals d = go c
  where
    all : (y : Bool) → (y && true) ≡ y
    all true = refl
    all false = refl

    go : (c : Change) → is_gone d (with_removal c removals) ≡ (is_gone d removals || removes d c)
    go (Remove member) =
        list_any-append (covers d) removals (record { member = member; device = None } ∷ [])
        ∙ ap (λ (x : Bool). is_gone d removals || x) (sym (or_none (eqb member d.member && true)) ∙ all (eqb member d.member))
    go (DropDevice member number) =
        list_any-append (covers d) removals (record { member = member; device = Some number } ∷ [])
        ∙ ap (λ (x : Bool). is_gone d removals || x) (sym (or_none (eqb member d.member && eqb number d.number)))
    go c = or_none (is_gone d removals)

-- an edit removes none
pub removals_left : (removals : List Removal) (d : Device) → is_gone d removals ≡ (is_gone d removals || removes_in d None)
removals_left removals d = or_none (is_gone d removals)

-- the tally of a device that has one entry more, at this position
abbrev tally_more : (ℕ → Option Tally) → Device → ℕ → Tally
tally_more tallies a position = record { count = (tally_in tallies a).count + 1; last = position }

pub tables_push : (tallies tallies' : ℕ → Option Tally) (removals removals' : List Removal) (entries : List (List ℕ)) (b : List ℕ) (a : Device) (o : Option CommittedChange) → TablesMatch tallies removals entries
    → a.number < DEVICE_NUMBERS → ((d : Device) → is_by d b ≡ same_device a d) → change_in b ≡ o
    → ((q : ℕ) → tallies' q ≡ cond (eqb (rank_of a) q) (Some (tally_more tallies a (length entries + 1))) (tallies q))
    → ((d : Device) → is_gone d removals' ≡ (is_gone d removals || removes_in d o))
    → TablesMatch tallies' removals' (entries ++ b ∷ [])
tables_push tallies tallies' removals removals' entries b a o t lt by is put gone = record {
  count = λ d l. ap (λ (x : Tally). x.count) (now d l) ∙ counted d l (same_device a d) refl ∙ sym (count_push (is_by d) entries b (same_device a d) (by d));
  last = λ d l. ap (λ (x : Tally). x.last) (now d l) ∙ lasted d l (same_device a d) ∙ sym (last_push (is_by d) entries b (same_device a d) (by d));
  gone = λ d. gone d ∙ ap (λ (x : Bool). x || removes_in d o) (t.gone d) ∙ sym (removed_push d entries b o is);
}
  where
    now : (d : Device) → d.number < DEVICE_NUMBERS → tally_in tallies' d ≡ tally_or_none (cond (same_device a d) (Some (tally_more tallies a (length entries + 1))) (tallies (rank_of d)))
    now d l = ap tally_or_none (put (rank_of d)) ∙ ap (λ (q : Bool). tally_or_none (cond q (Some (tally_more tallies a (length entries + 1))) (tallies (rank_of d)))) (rank_same a d lt l)

    counted : (d : Device) → d.number < DEVICE_NUMBERS → (q : Bool) → same_device a d ≡ q
        → (tally_or_none (cond q (Some (tally_more tallies a (length entries + 1))) (tallies (rank_of d)))).count ≡ cond q (count_of d entries + 1) (count_of d entries)
    counted d l true e = ap (λ (k : ℕ). k + 1) (t.count a lt ∙ ap (λ (x : Device). count_of x entries) (same_one a d e))
    counted d l false e = t.count d l

    lasted : (d : Device) → d.number < DEVICE_NUMBERS → (q : Bool) → (tally_or_none (cond q (Some (tally_more tallies a (length entries + 1))) (tallies (rank_of d)))).last ≡ cond q (length entries + 1) (last_of d entries)
    lasted d l true = refl
    lasted d l false = t.last d l

pub tables_empty : (tallies : ℕ → Option Tally) (removals : List Removal) → ((q : ℕ) → tallies q ≡ None) → removals ≡ [] → TablesMatch tallies removals []
tables_empty tallies removals none empty = record {
  count = λ d l. ap (λ (o : Option Tally). (tally_or_none o).count) (none (rank_of d));
  last = λ d l. ap (λ (o : Option Tally). (tally_or_none o).last) (none (rank_of d));
  gone = λ d. ap (is_gone d) empty;
}

-- ---- the beginning

pub keeps_open : (g : Genesis) (entries hashes : List (List ℕ)) (roster : Roster) (tallies : ℕ → Option Tally) (removals : List Removal) → IsGenesis g → entries ≡ [] → hashes ≡ genesis_value (genesis_bytes g) ∷ []
    → roster ≡ founded g.founders → TablesMatch tallies removals [] → HeadsInvariant g entries hashes roster 0 0 tallies removals
unfolding chain_after
keeps_open g entries hashes roster tallies removals is e h r t = subst (λ (x : List (List ℕ)). HeadsInvariant g x hashes roster 0 0 tallies removals) (sym e) (record {
  genesis = is;
  chained = h;
  members = r;
  change = refl;
  changes = refl;
  tables = t;
  room = omega arith;
  sized = All-nil (λ b. length b ≤ MAX_ENTRY);
})

-- ---- one entry more

-- the table of tallies with one entry more of a device
abbrev IsPut : (ℕ → Option Tally) → (ℕ → Option Tally) → Device → ℕ → Type 0
IsPut tallies tallies' a position = (q : ℕ) → tallies' q ≡ cond (eqb (rank_of a) q) (Some (tally_more tallies a position)) (tallies q)

pub keeps_edit : (g : Genesis) (entries hashes : List (List ℕ)) (roster : Roster) (barrier epoch : ℕ) (tallies : ℕ → Option Tally) (removals : List Removal) (b h : List ℕ) (a : Device) (entries' hashes' : List (List ℕ)) (tallies' : ℕ → Option Tally)
    → HeadsInvariant g entries hashes roster barrier epoch tallies removals → length entries < MAX_ENTRIES → length b ≤ MAX_ENTRY
    → a.number < DEVICE_NUMBERS → ((d : Device) → is_by d b ≡ same_device a d) → change_in b ≡ None → h ≡ next_value (hash_of g entries) b
    → entries' ≡ entries ++ b ∷ [] → hashes' ≡ hashes ++ h ∷ [] → IsPut tallies tallies' a (length entries + 1)
    → HeadsInvariant g entries' hashes' roster barrier epoch tallies' removals
keeps_edit g entries hashes roster barrier epoch tallies removals b h a entries' hashes' tallies' k room size lt by is hash eA eH put =
    subst (λ (x : List (List ℕ)). HeadsInvariant g x hashes' roster barrier epoch tallies' removals) (sym eA)
    (subst (λ (x : List (List ℕ)). HeadsInvariant g (entries ++ b ∷ []) x roster barrier epoch tallies' removals) (sym eH) (record {
      genesis = k.genesis;
      chained = chain_more g entries hashes b h k.chained hash;
      members = k.members ∙ sym (roster_edit g entries b is);
      change = k.change ∙ sym (last_push (λ b. is_some (change_in b)) entries b false (ap is_some is));
      changes = k.changes ∙ sym (epoch_push entries b None is);
      tables = tables_push tallies tallies' removals removals entries b a None k.tables lt by is put (removals_left removals);
      room = omega (arith, room, length-append entries (b ∷ []));
      sized = All-push (λ e. length e ≤ MAX_ENTRY) entries b k.sized size;
    }))

pub keeps_change : (g : Genesis) (entries hashes : List (List ℕ)) (roster : Roster) (barrier epoch : ℕ) (tallies : ℕ → Option Tally) (removals : List Removal) (b h : List ℕ) (a : Device) (s : CommittedChange) (entries' hashes' : List (List ℕ)) (roster' : Roster) (barrier' epoch' : ℕ) (tallies' : ℕ → Option Tally) (removals' : List Removal)
    → HeadsInvariant g entries hashes roster barrier epoch tallies removals → length entries < MAX_ENTRIES → length b ≤ MAX_ENTRY
    → a.number < DEVICE_NUMBERS → ((d : Device) → is_by d b ≡ same_device a d) → change_in b ≡ Some s → h ≡ next_value (hash_of g entries) b
    → entries' ≡ entries ++ b ∷ [] → hashes' ≡ hashes ++ h ∷ [] → roster' ≡ after_change roster s.body.change → barrier' ≡ length entries + 1 → epoch' ≡ epoch + 1
    → IsPut tallies tallies' a (length entries + 1) → removals' ≡ with_removal s.body.change removals
    → HeadsInvariant g entries' hashes' roster' barrier' epoch' tallies' removals'
keeps_change g entries hashes roster barrier epoch tallies removals b h a s entries' hashes' roster' barrier' epoch' tallies' removals' k room size lt by is hash eA eH eR eB eE put eM =
    subst (λ (x : List (List ℕ)). HeadsInvariant g x hashes' roster' barrier' epoch' tallies' removals') (sym eA)
    (subst (λ (x : List (List ℕ)). HeadsInvariant g (entries ++ b ∷ []) x roster' barrier' epoch' tallies' removals') (sym eH) (record {
      genesis = k.genesis;
      chained = chain_more g entries hashes b h k.chained hash;
      members = eR ∙ ap (λ (r : Roster). after_change r s.body.change) k.members ∙ sym (roster_change g entries b s is);
      change = eB ∙ sym (last_push (λ b. is_some (change_in b)) entries b true (ap is_some is));
      changes = eE ∙ ap (λ (n : ℕ). n + 1) k.changes ∙ sym (epoch_push entries b (Some s) is);
      tables = tables_push tallies tallies' removals removals' entries b a (Some s) k.tables lt by is put (λ d. ap (is_gone d) eM ∙ removals_more s.body.change removals d);
      room = omega (arith, room, length-append entries (b ∷ []));
      sized = All-push (λ e. length e ≤ MAX_ENTRY) entries b k.sized size;
    }))
