-- Words that may found a document name those who can.
use Rattle.std.proofs.Common.{◌≡◌, ℕ, ◌==◌, nat_eq, nat_le, not, suc, false, List, [], ◌∷◌, ◌&&◌, length, map, Option, refl, sym, ap, ◌∙◌, subst, arith}
use Rattle.sporc_commands.proofs.Common.{AllByRecursion, IsMember, NamedFile, Named, CanFound, is_first_admin, number_of, numbers_of, Participant, FileNames, AreNamed, IsNamed, MayFound, and_parts}
use Rattle.sporc_commands.proofs.Common.{leb-true, not-true, or_parts, Found, Founder, Joiner}
use Rattle.std.specs.List.{IsDistinct, list_any}
use Rattle.std.specs.Cmp.{nat_eq_equiv}
use Rattle.sporc_member.specs.declared.limits.TheConstants.{MAX_MEMBERS}
use Rattle.sporc_words.specs.declared.standing.Standing.{Standing}
use Rattle.sporc_words.specs.Values.{founds_admin, has_twice}

abbrev pub members_of : List Participant → List ℕ
members_of ps = map (λ p. p.member) ps

module _ (told : Option (List NamedFile)) (names : FileNames) where
  one_number : (member : ℕ) (standing : Standing) (n : Named) → IsNamed told names member standing n → number_of n ≡ member
  one_number member (Founder role) n (key, says, is) = ap number_of is
  one_number member Joiner n is = ap number_of is

  pub same_numbers : (ps : List Participant) (ns : List Named) → AreNamed told names ps ns → numbers_of ns ≡ members_of ps
  same_numbers [] [] all = refl
  same_numbers (p ∷ ps) (n ∷ ns) (one, all) =
      let head = one_number p.member p.standing n one in
      let tail = same_numbers ps ns all in
      cc
  same_numbers ps ns all = absurd all

  one_admin : (member : ℕ) (standing : Standing) (n : Named) → IsNamed told names member standing n → is_first_admin n ≡ founds_admin standing
  one_admin member (Founder role) n (key, says, is) = ap is_first_admin is
  one_admin member Joiner n is = ap is_first_admin is

  same_admins : (ps : List Participant) (ns : List Named) → AreNamed told names ps ns → list_any is_first_admin ns ≡ list_any (λ p. founds_admin p.standing) ps
  same_admins [] [] all = refl
  same_admins (p ∷ ps) (n ∷ ns) (one, all) =
      let head = one_admin p.member p.standing n one in
      let tail = same_admins ps ns all in
      cc
  same_admins ps ns all = absurd all

  same_length : (ps : List Participant) (ns : List Named) → AreNamed told names ps ns → length ns ≡ length ps
  same_length [] [] all = refl
  same_length (p ∷ ps) (n ∷ ns) (one, all) = ap suc (same_length ps ns all)
  same_length ps ns all = absurd all

-- members are members
are_members : (ps : List Participant) → AllByRecursion (λ p. IsMember p.member) ps → AllByRecursion IsMember (members_of ps)
are_members [] all = tt
are_members (p ∷ ps) (one, all) = (one, are_members ps all)

-- no number is named twice
no_other : (m : ℕ) (ps : List Participant) → list_any (λ q. q.member == m) ps ≡ false → AllByRecursion (λ y. nat_eq m y ≡ false) (members_of ps)
no_other m [] none = tt
no_other m (p ∷ ps) none = let parts = or_parts (p.member == m) (list_any (λ q. q.member == m) ps) none in
    (nat_eq_equiv.symm m p.member ∙ parts.0, no_other m ps parts.1)

apart : (ps : List Participant) → has_twice ps ≡ false → IsDistinct nat_eq (members_of ps)
unfolding IsDistinct
apart [] none = tt
apart (p ∷ ps) none = let parts = or_parts (list_any (λ q. q.member == p.member) ps) (has_twice ps) none in (no_other p.member ps parts.0, apart ps parts.1)

pub can_found : (told : Option (List NamedFile)) (names : FileNames) (asked : Found) (ns : List Named) → MayFound asked → AreNamed told names asked.participants ns → CanFound ns
can_found told names asked ns may all =
    let ps = asked.participants in
    let outer = and_parts (nat_le (length ps) MAX_MEMBERS) (not (has_twice ps) && list_any (λ p. founds_admin p.standing) ps) may.may in
    let inner = and_parts (not (has_twice ps)) (list_any (λ p. founds_admin p.standing) ps) outer.1 in
    let numbers = same_numbers told names ps ns all in
    record {
      count = let few = leb-true (length ps) MAX_MEMBERS outer.0 in omega (arith, few, same_length told names ps ns all);
      members = subst (AllByRecursion IsMember) (sym numbers) (are_members ps may.members);
      distinct = subst (IsDistinct nat_eq) (sym numbers) (apart ps (not-true (has_twice ps) inner.0));
      admin = same_admins told names ps ns all ∙ inner.1;
    }
