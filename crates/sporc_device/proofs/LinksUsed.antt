-- A link that was used, shut and taken back.
use Rattle.std.proofs.Common.{◌≡◌, ◌≤◌, ℕ, List, Option, Ok, sym, subst}
use Rattle.sporc_device.proofs.Common.{count_of_both, NetTold, AppendsItem, TakesItem, link_told, Result, Use, SessionFault, link_stand, LinkTold, IsFetch, InboxModel, LinkStand}
use Rattle.sporc_outside.specs.Nets.{HandsLink}
use Rattle.sporc_outside.specs.Streams.{StreamTold, Shuts}
use Rattle.sporc_device.specs.Links.{UsesLink}

-- a link that was shut tells what it told
pub told_again : (old new : LinkTold) → new.written ≡ old.written → new.left ≡ old.left → new.faults ≡ old.faults → new ≡ old
told_again old new written left faults i = record { left = left i; written = written i; faults = faults i }

-- a link that was made, shut, and taken back
pub link_used : {L E : Type 0} {told : L → StreamTold} {net : Use NetTold} {shut : Use StreamTold} {link : L} (address : List ℕ) (after : NetTold) → HandsLink {E = E} told net (Ok link)
    → Shuts shut → shut.before.is_shut ≡ (told link).is_shut → AppendsItem net.before.asked net.after.asked address → after.asked ≡ net.after.asked
    → after.coming ≡ net.after.coming → AppendsItem net.after.returned after.returned shut.after
    → count_of_both net.after.link_faults shut.after.faults ≤ after.link_faults → UsesLink (record { before = net.before; after = after }) address (told link) shut.after
link_used {told = told} {net = net} {shut = shut} {link = link} address after hands shuts still_open asks asked coming back counted = record {
  asked = subst (λ (a : Option (List (List ℕ))). AppendsItem net.before.asked a address) (sym asked) asks;
  came = subst (λ (c : Option (List StreamTold)). TakesItem net.before.coming c (told link)) (sym coming) hands.next;
  fresh = hands.fresh;
  is_open = hands.not_shut;
  ended = shut.before;
  still_open = still_open;
  told_then = told_again (link_told shut.before) (link_told shut.after) shuts.written shuts.left shuts.count;
  shut = shuts.shut;
  back = subst (λ (r : Option (List StreamTold)). AppendsItem r after.returned shut.after) hands.returned back;
  counted = subst (λ (n : ℕ). count_of_both n shut.after.faults ≤ after.link_faults) hands.links counted;
}

-- a fetch by an equal answer
pub fetched_again : (first : LinkStand) (old : LinkTold) {new : LinkTold} (inbox : InboxModel) (document : List ℕ) (member : ℕ) (result fetched : Result (List (List ℕ)) SessionFault) → new ≡ old
    → result ≡ fetched → IsFetch first (link_stand old inbox) document member result → IsFetch first (link_stand new inbox) document member fetched
fetched_again first old inbox document member result fetched same is fetch =
    subst (λ (t : LinkTold). IsFetch first (link_stand t inbox) document member fetched) (sym same)
    (subst (λ (r : Result (List (List ℕ)) SessionFault). IsFetch first (link_stand old inbox) document member r) is fetch)
