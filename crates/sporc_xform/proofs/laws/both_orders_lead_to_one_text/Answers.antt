use Rattle.std.proofs.Common.{sym, ◌∙◌}
use Rattle.sporc_xform.proofs.LawLemmas.{later_merges, earlier_merges}
use Rattle.sporc_xform.proofs.laws.both_orders_lead_to_one_text.Goals as goal

pub returns-clause-later : goal.returns-clause-later
returns-clause-later c = later_merges

pub returns-clause-earlier : goal.returns-clause-earlier
returns-clause-earlier c = earlier_merges

pub returns-clause-same : goal.returns-clause-same
returns-clause-same c p q s a b = later_merges p q s a b ∙ sym (earlier_merges p q s a b)
