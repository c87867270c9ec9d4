use Rattle.sporc_lower_tests.proofs.Forms.{appended}
use Rattle.sporc_lower_tests.proofs.texts.forms.append.Goals as goal

pub returns-clause-len : goal.returns-clause-len
returns-clause-len g c = (appended c.args.blocks.now c.push_anyway.new.blocks c.args.form c.push_anyway.ensures.base c.push_anyway.ensures.forms c.requires.base c.requires.follow c.requires.form_limit c.requires.inserted_limit).len

pub returns-clause-follow : goal.returns-clause-follow
returns-clause-follow g c = (appended c.args.blocks.now c.push_anyway.new.blocks c.args.form c.push_anyway.ensures.base c.push_anyway.ensures.forms c.requires.base c.requires.follow c.requires.form_limit c.requires.inserted_limit).follow

pub returns-clause-reached : goal.returns-clause-reached
returns-clause-reached g c = (appended c.args.blocks.now c.push_anyway.new.blocks c.args.form c.push_anyway.ensures.base c.push_anyway.ensures.forms c.requires.base c.requires.follow c.requires.form_limit c.requires.inserted_limit).reached_is

pub returns-clause-inserted_within : goal.returns-clause-inserted_within
returns-clause-inserted_within g c = (appended c.args.blocks.now c.push_anyway.new.blocks c.args.form c.push_anyway.ensures.base c.push_anyway.ensures.forms c.requires.base c.requires.follow c.requires.form_limit c.requires.inserted_limit).inserted
