-- The fact that completes virtual synchrony: a processor that holds a user message of a ring within its front has
-- installed that ring.
-- Rules: Recovery 7
use Rattle.std.specs.Prelude.{◌≡◌, ℕ, ◌≤◌, true}
use Rattle.ring_base.specs.declared.ring_id.RingId.{RingId}
use Rattle.ring_payload.specs.PayloadKinds.{is_user}
use Rattle.ring_wire.specs.declared.message.Message.{Message}
use Rattle.ring_core_spec.specs.Commits.{Configuration}
use Rattle.ring_core_spec.specs.Views.{front}
use Rattle.ring_core_proof.specs.FactWords.{IsIn}
use Rattle.ring_core_proof.specs.Worlds.{World}
use Rattle.ring_core_proof.specs.Texts.{text_of}

-- A processor has installed each ring in which its front covers the number of a user message of the ring's text.
abbrev pub HoldersHaveInstalled : {A : Type 0} → World A → Type 0
HoldersHaveInstalled {A} w =
    (q : ℕ) (ring : RingId) (x : Message A) → IsIn x (text_of w ring) → is_user x.payload ≡ true → x.number ≤ front (w.cores q) ring →
    (at : Configuration) × IsIn at (w.cores q).installs × (at.ring ≡ ring)
