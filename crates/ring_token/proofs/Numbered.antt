-- The new messages of a visit have successive numbers; there are as many as payloads, and each is of the visit's ring.
use Rattle.std.proofs.Common.{◌≡◌, ℕ, suc, List, [], ◌∷◌, length, refl, ap}
use Rattle.std.specs.List.{AllByRecursion as Each}
use Rattle.ring_base.specs.declared.ring_id.RingId.{RingId}
use Rattle.ring_wire.specs.Payloads.{Payload}
use Rattle.ring_wire.specs.declared.message.Message.{Message}
use Rattle.ring_token.specs.Visits.{numbered}

-- As many as payloads.
pub length-numbered : {A : Type 0} → (ring : RingId) (me seq : ℕ) (ps : List (Payload A)) → length (numbered ring me seq ps) ≡ length ps
length-numbered ring me seq [] = refl
length-numbered ring me seq (p ∷ ps) = ap suc (length-numbered ring me (suc seq) ps)

-- Each is of the ring.
pub numbered-ring : {A : Type 0} → (ring : RingId) (me seq : ℕ) (ps : List (Payload A)) → Each (λ (x : Message A). x.ring ≡ ring) (numbered ring me seq ps)
numbered-ring ring me seq [] = tt
numbered-ring ring me seq (p ∷ ps) = (refl, numbered-ring ring me (suc seq) ps)
