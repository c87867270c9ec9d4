use Rattle.std.proofs.Common.{rules}
use Rattle.sporc_exchange.proofs.Inboxes.{next_over}
use Rattle.sporc_exchange.proofs.inbox.Inbox.next_fed.Goals as goal

pub invariant_of-self : goal.invariant_of-self
invariant_of-self c =
    (next_over c.self.inside.frames c.next_to_client.new.self c.self.inside.taken c.self.inside.len c.self.inside.piece c.args.self.now c.next_to_client.result c.self.view_is c.requires (search rules) c.self.invariant c.next_to_client.ensures.value c.next_to_client.ensures.after c.next_to_client.ensures.memory).stays

pub returns-clause-value : goal.returns-clause-value
returns-clause-value c =
    (next_over c.self.inside.frames c.next_to_client.new.self c.self.inside.taken c.self.inside.len c.self.inside.piece c.args.self.now c.next_to_client.result c.self.view_is c.requires (search rules) c.self.invariant c.next_to_client.ensures.value c.next_to_client.ensures.after c.next_to_client.ensures.memory).value

pub returns-clause-after : goal.returns-clause-after
returns-clause-after c =
    (next_over c.self.inside.frames c.next_to_client.new.self c.self.inside.taken c.self.inside.len c.self.inside.piece c.args.self.now c.next_to_client.result c.self.view_is c.requires (search rules) c.self.invariant c.next_to_client.ensures.value c.next_to_client.ensures.after c.next_to_client.ensures.memory).after

pub returns-clause-unread : goal.returns-clause-unread
returns-clause-unread c =
    (next_over c.self.inside.frames c.next_to_client.new.self c.self.inside.taken c.self.inside.len c.self.inside.piece c.args.self.now c.next_to_client.result c.self.view_is c.requires (search rules) c.self.invariant c.next_to_client.ensures.value c.next_to_client.ensures.after c.next_to_client.ensures.memory).unread
