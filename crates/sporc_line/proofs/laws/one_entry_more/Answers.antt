use Rattle.sporc_line.proofs.Goods.{good_push}
use Rattle.sporc_line.proofs.MoreForms.{forms_push, text_push}
use Rattle.sporc_line.proofs.laws.one_entry_more.Goals as goal

pub returns-clause-good : goal.returns-clause-good
returns-clause-good c = good_push

pub returns-clause-forms : goal.returns-clause-forms
returns-clause-forms c = forms_push

pub returns-clause-text : goal.returns-clause-text
returns-clause-text c = text_push
