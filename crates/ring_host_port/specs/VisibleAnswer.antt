-- The answers of a host that a port passes on to its client.
-- Rules: Clients 2
use Rattle.std.specs.Prelude.{Option, Some, None}
use Rattle.ring_session.specs.declared.answer.Answer.{Answer}
use Rattle.ring_client.specs.Asking.{if_client_visible}

-- The answer that was found, if a client may see it.
abbrev pub if_visible_to_client : Option Answer → Option Answer
if_visible_to_client None = None
if_visible_to_client (Some answer) = if_client_visible answer
