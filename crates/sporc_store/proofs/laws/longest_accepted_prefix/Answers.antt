use Rattle.std.proofs.Common.{[]}
use Rattle.sporc_store.proofs.Common.{saved_in}
use Rattle.sporc_store.proofs.Prefixes.{is_longest, next_refused}
use Rattle.sporc_store.proofs.laws.longest_accepted_prefix.Goals as goal

pub returns-clause-prefix : goal.returns-clause-prefix
returns-clause-prefix c = λ checker document bytes. (is_longest checker [] (saved_in document bytes).entries (saved_in document bytes).stop).prefix

pub returns-clause-accepted : goal.returns-clause-accepted
returns-clause-accepted c = λ checker document bytes. (is_longest checker [] (saved_in document bytes).entries (saved_in document bytes).stop).accepted

pub returns-clause-whole : goal.returns-clause-whole
returns-clause-whole c = λ checker document bytes. (is_longest checker [] (saved_in document bytes).entries (saved_in document bytes).stop).whole

pub returns-clause-refused : goal.returns-clause-refused
returns-clause-refused c = λ checker document bytes. next_refused checker (saved_in document bytes).entries (saved_in document bytes).stop
