-- All processors that take part in a ring name the same members.

-- A ring begins when its representative proposes it, above its floor; all others take part in it by its commit token.
use Rattle.std.proofs.Common.{◌≡◌, ℕ, ◌⊎◌, inl, inr, true, List, refl, ap, sym, ◌∙◌, subst}
use Rattle.ring_base.specs.declared.ring_id.RingId.{RingId}
use Rattle.ring_wire.specs.declared.commit.CommitToken.{CommitToken}
use Rattle.ring_wire.specs.declared.frame.Frame.{Frame}
use Rattle.ring_wire.specs.declared.frame.Frame.TheVariants.{Commit as CommitFrame}
use Rattle.ring_core_spec.specs.Commits.{Configuration}
use Rattle.ring_base.specs.Processors.{has}
use Rattle.ring_core_spec.specs.State.{Core}
use Rattle.ring_core_proof.specs.FactWords.{IsIn}
use Rattle.ring_core_proof.specs.Worlds.{Transmission, with_core}
use Rattle.ring_core_proof.specs.Moves.{Move, Idles, Enters, Learns, Visits, Takes, Installs, core_after_move, MayMove, MayEnter, IsReceivedFrame}
use Rattle.ring_core_proof.proofs.InLists.{some-each}
use Rattle.ring_core_proof.proofs.Lifting.{put-here}
use Rattle.ring_core_proof.proofs.Rises.{Rising, moved_rises, one_ring}
use Rattle.ring_chain_proof.specs.ChainWords.{Chains, IsRingOf, SharesRings}
use Rattle.ring_chain_proof.proofs.GenuineFrames.{IsRight, AreRight}
use Rattle.ring_chain_proof.proofs.FactsGrow.{AllGrown, put-each, put_grows, moved_grows}

pub record AreRings {A : Type 0} (cores : ℕ → Core A) : Type 0 where
  pub me : (q : ℕ) → (cores q).me ≡ q
  pub rising : (q : ℕ) → Rising (cores q)
  pub shared : SharesRings cores

-- a frame that arrived is valid, and was sent to this processor
pub came_right : {A : Type 0} → (visits : Chains A) (cores : ℕ → Core A) (frames : List (Transmission A)) (i : ℕ) (f : Frame A) → AreRight visits cores frames →
    IsReceivedFrame frames i f → (from : ℕ) × (to : ℕ) × (has to i ≡ true) × IsRight visits cores from to f
came_right {A} visits cores frames i f all received =
    some-each _ _ ((from : ℕ) × (to : ℕ) × (has to i ≡ true) × IsRight visits cores from to f)
    (λ (g : Transmission A) right e. (g.from, g.to, e.0, subst (IsRight visits cores g.from g.to) e.1 right)) frames all received

module _ {A : Type 0} (visits : Chains A) (cores : ℕ → Core A) (frames : List (Transmission A)) (i : ℕ)
    (right : AreRight visits cores frames) (are : AreRings cores) where
  -- the ring that the core enters has these members for its representative too
  pub entered_shared : (k : CommitToken) → MayEnter (IsReceivedFrame frames i) (cores i) k → IsRingOf (with_core cores i (core_after_move (cores i) (Enters k))) k.ring k.members
  entered_shared k h =
      let d = core_after_move (cores i) (Enters k) in
      let p : Configuration = record { ring = k.ring; members = k.members } in
      elim (h.from) [
        | inl own ↦ (let rep : k.ring.rep ≡ i = own.rep ∙ are.me i in
            subst (λ q. IsIn p (with_core cores i d q).rings) (sym rep) (subst (λ (x : Core A). IsIn p x.rings) (sym (put-here cores i d)) (inl refl)))
        | inr received ↦ (let f = came_right visits cores frames i (CommitFrame k) right received in
            (put_grows cores i d (moved_grows (cores i) (Enters k)) k.ring.rep).rings p (f.3).ring_of)
      ]

  -- a ring of the core is that one, or an earlier one
  rings_after : (m : Move A) → MayMove (IsReceivedFrame frames i) (cores i) m → (p : Configuration) → IsIn p (core_after_move (cores i) m).rings →
      IsRingOf (with_core cores i (core_after_move (cores i) m)) p.ring p.members ⊎ IsIn p (cores i).rings
  rings_after (Enters k) h p (inl e) =
      inl (subst (λ (p : Configuration). IsRingOf (with_core cores i (core_after_move (cores i) (Enters k))) p.ring p.members) (sym e)
      (entered_shared k h))
  rings_after (Enters k) h p (inr x) = inr x
  rings_after (Idles state gathering last_sent queue sends) h p x = inr x
  rings_after (Learns k) h p x = inr x
  rings_after (Visits t fresh requests again queue) h p x = inr x
  rings_after (Takes y) h p x = inr x
  rings_after Installs h p x = inr x

  pub rings_moved : (m : Move A) → MayMove (IsReceivedFrame frames i) (cores i) m → AreRings (with_core cores i (core_after_move (cores i) m))
  rings_moved m h =
      let d = core_after_move (cores i) m in
      let cores' = with_core cores i d in
      let g : AllGrown cores cores' = put_grows cores i d (moved_grows (cores i) m) in
      record {
        me = λ q. (g q).me ∙ are.me q;
        rising = put-each (λ q (x : Core A). Rising x) cores i d (λ q n. are.rising q) (moved_rises (IsReceivedFrame frames i) (cores i) m h (are.rising i));
        shared = put-each (λ q (x : Core A). (ring : RingId) (members : ℕ)
            → IsIn (record { ring = ring; members = members }) x.rings → IsRingOf cores' ring members) cores i d
            (λ q n ring members x. (g ring.rep).rings _ (are.shared q ring members x))
            (λ ring members x. elim (rings_after m h (record { ring = ring; members = members }) x)
            [ inl new ↦ new | inr old ↦ (g ring.rep).rings _ (are.shared i ring members old) ]);
      }

-- a ring has one set of members
pub one_members : {A : Type 0} → (cores : ℕ → Core A) → AreRings cores → (ring : RingId) (a b : ℕ) → IsRingOf cores ring a → IsRingOf cores ring b → a ≡ b
one_members cores are ring a b h k =
    ap (λ (p : Configuration). p.members) (one_ring (cores ring.rep) (are.rising ring.rep)
    (record { ring = ring; members = a }) (record { ring = ring; members = b }) h k refl)
