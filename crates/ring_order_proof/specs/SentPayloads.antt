-- The payloads that a processor sent in a ring, by its visits of the token there.
-- Rules: Token and window 9 and 13
use Rattle.std.specs.Prelude.{List, [], ◌∷◌, ◌++◌, filter}
use Rattle.std.specs.List.{flat_map}
use Rattle.ring_base.specs.declared.ring_id.RingId.{RingId}
use Rattle.ring_payload.specs.declared.content.Payload.{Payload}
use Rattle.ring_payload.specs.PayloadKinds.{is_user, unpacked_payloads}
use Rattle.ring_core_spec.specs.Tokens.{TokenVisit, visits_in_ring}
use Rattle.ring_core_spec.specs.State.{Core}

-- the user payloads of a visit, the calls of a Pack one by one
abbrev pub payloads_of_visit : {A : Type 0} → List (Payload A) → List (Payload A)
payloads_of_visit fresh = flat_map unpacked_payloads (filter is_user fresh)

-- the user payloads of visits, given newest first, in the order in which they were sent
abbrev pub payloads_of_visits : {A : Type 0} → List (TokenVisit A) → List (Payload A)
payloads_of_visits [] = []
payloads_of_visits (v ∷ older) = payloads_of_visits older ++ payloads_of_visit v.fresh

-- the user payloads that a core sent in one ring
abbrev pub sent_payloads : {A : Type 0} → Core A → RingId → List (Payload A)
sent_payloads c ring = payloads_of_visits (visits_in_ring ring c.turns)
