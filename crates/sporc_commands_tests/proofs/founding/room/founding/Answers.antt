use Rattle.std.proofs.Common.{ℕ, ◌≡◌, ◌<◌, ◌^◌, List, [], ◌∷◌, true, refl, sym, subst, arith}
use Rattle.std.specs.List.{AllByRecursion}
use Rattle.sporc_member.specs.declared.role.Role.TheVariants.{Admin, Editor}
use Rattle.sporc_member.specs.Device.{IsMember}
use Rattle.sporc_words.specs.declared.standing.Standing.TheVariants.{Founder, Joiner}
use Rattle.sporc_words.specs.declared.standing.Participant.{Participant}
use Rattle.sporc_words.specs.Values.{may_found}
use Rattle.sporc_commands_tests.proofs.founding.room.founding.Goals as goal

-- who is named
abbrev the_three : List Participant
the_three = record { member = 2; standing = Founder Editor } ∷ record { member = 3; standing = Joiner } ∷ record { member = 1; standing = Founder Admin } ∷ []

is_member : (n : ℕ) → 0 < n → n < 2 ^ 16 → IsMember n
is_member n positive small = (positive, small)

three_members : AllByRecursion (λ p. IsMember p.member) the_three
three_members = (is_member 2 (omega arith) (omega arith), (is_member 3 (omega arith) (omega arith), (is_member 1 (omega arith) (omega arith), tt)))

pub returns : goal.returns
returns c = let is : c.in_ok-participants.participants ≡ the_three = c.in_ok-participants.ensures.ok in record {
  may = subst (λ ps. may_found ps ≡ true) (sym is) refl;
  members = subst (AllByRecursion (λ p. IsMember p.member)) (sym is) three_members;
}
