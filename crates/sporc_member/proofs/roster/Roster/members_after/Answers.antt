use Rattle.std.proofs.Common.{sym, ap, ◌∙◌, ℕ, List, filter, not, eqb}
use Rattle.sporc_member.proofs.Common.{insert, place_among}
use Rattle.std.proofs.lemmas.Result.{IfOk-weaker}
use Rattle.sporc_member.proofs.Places.{numbers_of-insert_sorted, numbers_of-with_role, numbers_of-filter}
use Rattle.sporc_member.proofs.roster.Roster.members_after.Goals as goal

pub returns-in-Add : goal.returns-in-Add
returns-in-Add c =
    let n = c.in-Add.member in
    record {
      ok = rw (c.in-Add.is, ← c.self.view_is) (IfOk-weaker c.numbers_with.result _ _ (λ v is.
          is ∙ ap (λ (ns : List ℕ). insert ns (place_among n ns) n) (c.as_slice-numbers.ensures.value ∙ c.self.invariant.numbers)
          ∙ sym (numbers_of-insert_sorted (record { member = n; role = c.in-Add.role }) c.self.inside.members.items)) c.numbers_with.ensures);
    }

pub returns-in-Remove : goal.returns-in-Remove
returns-in-Remove c =
    record {
      ok = rw (c.in-Remove.is, ← c.self.view_is) (IfOk-weaker c.numbers_without.result _ _ (λ v is.
          is ∙ ap (filter (λ (n : ℕ). not (eqb n c.in-Remove.member))) (c.as_slice-numbers.ensures.value ∙ c.self.invariant.numbers)
          ∙ sym (numbers_of-filter c.in-Remove.member c.self.inside.members.items)) c.numbers_without.ensures);
    }

pub returns-in-SetRole : goal.returns-in-SetRole
returns-in-SetRole c =
    record {
      ok = rw (c.in-SetRole.is, ← c.self.view_is) (IfOk-weaker c.from_slice.result _ _ (λ v is.
          is ∙ c.as_slice-numbers.ensures.value ∙ c.self.invariant.numbers ∙ sym (numbers_of-with_role c.in-SetRole.member c.in-SetRole.role c.self.inside.members.items)) c.from_slice.ensures.items);
    }
