-- The text of each ring, in every run of ring cores: the messages that each processor received there are a prefix of it, and
-- those that each sent there are in it, in order.
-- Rules: Outputs 8; Token and window 9
use Rattle.std.specs.Prelude.{◌≡◌, ℕ, ◌<◌, true, List, [], ◌∷◌}
use Rattle.std.specs.List.{AllByRecursion as Each}
use Rattle.ring_base.specs.Prefixes.{IsListPrefix}
use Rattle.ring_base.specs.declared.ring_id.RingId.{RingId}
use Rattle.ring_payload.specs.PayloadKinds.{is_user}
use Rattle.ring_wire.specs.declared.message.Message.{Message}
use Rattle.ring_core_spec.specs.Tokens.{TokenVisit, numbered}
use Rattle.ring_core_spec.specs.State.{Core}
use Rattle.ring_core_spec.specs.Views.{front}
use Rattle.ring_core_spec.specs.Giving.{user_messages_between}
use Rattle.ring_core_proof.specs.FactWords.{IsIn}
use Rattle.ring_core_proof.specs.Worlds.{World}
use Rattle.ring_log_proof.specs.RingFacts.{payloads_from}
use Rattle.ring_order_proof.specs.SentPayloads.{sent_payloads}

-- each message has a greater number than those before it
abbrev pub Ascends : {A : Type 0} → List (Message A) → Type 0
Ascends [] = Unit {0}
Ascends {A} (x ∷ xs) = Each (λ (y : Message A). x.number < y.number) xs × Ascends xs

-- the message was numbered in the ring by its sender, at one of its visits of the ring's token
pub record IsNumberedIn {A : Type 0} (cores : ℕ → Core A) (ring : RingId) (x : Message A) : Type 0 where
  pub turn : TokenVisit A
  pub taken : IsIn turn (cores x.sender).turns
  pub ring_is : turn.received.ring ≡ ring
  pub there : IsIn x (numbered ring x.sender turn.received.seq turn.fresh)

-- a ring's text: the user messages that were numbered there, in the order of their numbers, and nothing else
pub record IsText {A : Type 0} (cores : ℕ → Core A) (ring : RingId) (text : List (Message A)) : Type 0 where
  pub ascending : Ascends text
  pub users : Each (λ (x : Message A). is_user x.payload ≡ true) text
  pub numbered : (x : Message A) → IsIn x text → IsNumberedIn cores ring x
  pub whole : (x : Message A) → IsNumberedIn cores ring x → is_user x.payload ≡ true → IsIn x text

-- each ring of a world has a text: the messages that a processor received as agreed there are a prefix of it, and those that it
-- sent there are in it, in order
pub record HasTexts {A : Type 0} (w : World A) : Type 0 where
  -- the user messages of each ring, in the order of their numbers
  pub text : RingId → List (Message A)
  pub is : (ring : RingId) → IsText w.cores ring (text ring)
  pub named : (ring : RingId) → Each (λ (x : Message A). x.ring ≡ ring) (text ring)
  -- the messages that a processor received as agreed there
  pub heard : (q : ℕ) (ring : RingId) → IsListPrefix (user_messages_between (w.cores q) ring 0 (front (w.cores q) ring)) (text ring)
  -- the payloads that a processor sent in its own visits
  pub said : (q : ℕ) (ring : RingId) → payloads_from q (text ring) ≡ sent_payloads (w.cores q) ring
