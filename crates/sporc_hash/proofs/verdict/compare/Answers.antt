use Rattle.std.proofs.Common.{rules}
use Rattle.sporc_hash.proofs.Verdicts.{same_histories, within_history, beyond_history, forked_histories}
use Rattle.sporc_hash.proofs.verdict.compare.Goals as goal

pub returns-then-not-agree_at-clause-histories : goal.returns-then-not-agree_at-clause-histories
returns-then-not-agree_at-clause-histories c g x y of_x of_y free = forked_histories g x y _ _ of_x of_y free _ c.common_entries.ensures

pub returns-then-a-b-clause-histories : goal.returns-then-a-b-clause-histories
returns-then-a-b-clause-histories c g x y of_x of_y free = within_history g x y _ _ of_x of_y free (search rules)

pub returns-then-b-a-clause-histories : goal.returns-then-b-a-clause-histories
returns-then-b-a-clause-histories c g x y of_x of_y free = beyond_history g x y _ _ of_x of_y free (search rules)

pub returns-else-b-a-clause-histories : goal.returns-else-b-a-clause-histories
returns-else-b-a-clause-histories c g x y of_x of_y free = same_histories g x y _ _ of_x of_y free (search rules)
