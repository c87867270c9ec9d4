use Rattle.sporc_line.proofs.SameKeys.{one_reading, one_text, one_key}
use Rattle.sporc_line.proofs.laws.one_history_is_read_alike.Goals as goal

pub returns-clause-operations : goal.returns-clause-operations
returns-clause-operations c = λ genesis mine yours entries both.
    one_reading genesis mine yours entries both.mine_good both.yours_good both.collision_free

pub returns-clause-text : goal.returns-clause-text
returns-clause-text c = λ genesis mine yours entries both. one_text genesis mine yours entries both.mine_good both.yours_good both.collision_free

pub returns-clause-keys : goal.returns-clause-keys
returns-clause-keys c = λ genesis mine yours entries both neither epoch.
    one_key genesis mine yours entries epoch both.mine_good both.yours_good both.collision_free neither.mine_stays neither.yours_stays
