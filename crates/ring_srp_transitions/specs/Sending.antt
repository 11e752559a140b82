-- The new messages of a visit.
-- Rules: Token and window 9
use Rattle.std.specs.Prelude.{List, ◌++◌, reverse}
use Rattle.ring_payload.specs.declared.content.Payload.{Payload}
use Rattle.ring_wire.specs.declared.message.Message.{Message}
use Rattle.ring_wire.specs.declared.token.Token.{Token}
use Rattle.ring_token.specs.Visits.{numbered}
use Rattle.ring_core_spec.specs.State.{Core}

-- The messages with these payloads, numbered as the visit of a token numbers them.
abbrev pub messages_of_payloads : {A : Type 0} → Core A → Token → List (Payload A) → List (Message A)
messages_of_payloads c t payloads = numbered t.ring c.me t.seq payloads

-- The core once it holds them.
abbrev pub holding : {A : Type 0} → Core A → Token → List (Payload A) → Core A
holding c t payloads = record c { held = reverse (messages_of_payloads c t payloads) ++ c.held }
