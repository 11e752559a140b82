-- A processor that takes part in a ring is one of its members, and the representative is the smallest.

-- This holds when a ring is proposed, and a commit token is taken only at the position of its hop.
use Rattle.std.proofs.Common.{◌≡◌, ℕ, ◌%◌, ◌<◌, ◌≤◌, ◌⊎◌, inl, inr, List, ◌++◌, refl, ap, sym, ◌∙◌, subst, arith, mod-lt}
use Rattle.std.proofs.Math.Nat.{zero-mod}
use Rattle.ring_base.specs.Processors.{IsProc, IsMember, only, at, size}
use Rattle.ring_base.specs.Members.{only_members}
use Rattle.ring_base.specs.Elements.{at_member, smallest-least}
use Rattle.ring_base.specs.declared.ring_id.RingId.{RingId}
use Rattle.ring_wire.specs.declared.commit.CommitToken.{CommitToken}
use Rattle.ring_wire.specs.declared.frame.Frame.TheVariants.{Commit as CommitFrame}
use Rattle.ring_core_spec.specs.Commits.{Configuration, position_of_hop}
use Rattle.ring_core_spec.specs.State.{Core, floor, opening_ring}
use Rattle.ring_core_proof.specs.FactWords.{IsIn}
use Rattle.ring_core_proof.specs.declared.event.RingEvent.{RingEvent}
use Rattle.ring_core_proof.specs.Worlds.{Transmission, with_core, transmissions_from, run, unformed}
use Rattle.ring_core_proof.specs.Moves.{Move, Idles, Enters, Learns, Visits, Takes, Installs, core_after_move, sends_of, MayEnter, MayMove, IsReceivedFrame}
use Rattle.ring_core_proof.proofs.InLists.{each-in}
use Rattle.ring_core_proof.proofs.Lifting.{kept_run}
use Rattle.ring_chain_proof.specs.ChainFacts.{TakesPart, AllTakePart, NameSameMembers}
use Rattle.ring_chain_proof.proofs.FactsGrow.{put-each}
use Rattle.ring_chain_proof.proofs.Rings.{AreRings, came_right, one_members}
use Rattle.ring_chain_proof.proofs.AllLayers.{Holds, holding, opening_holds, unformed_holds}

-- a ring of a core is its opening ring, or it takes part in it as a member
abbrev IsPartOrAlone : ℕ → Configuration → Type 0
IsPartOrAlone q p = (p ≡ opening_ring q) ⊎ TakesPart q p

abbrev AllParts : {A : Type 0} → (ℕ → Core A) → Type 0
AllParts cores = (q : ℕ) (p : Configuration) → IsIn p (cores q).rings → IsPartOrAlone q p

record HoldsParts {A : Type 0} (cores : ℕ → Core A) (frames : List (Transmission A)) : Type 0 where
  pub all : Holds cores frames
  pub parts : AllParts cores

module _ {A : Type 0} (cores : ℕ → Core A) (frames : List (Transmission A)) (i : ℕ) (low : 1 ≤ i) (p : HoldsParts cores frames) where
  -- the representative of a ring that isn't an opening ring is the smallest of its members
  known_first : (ring : RingId) (members : ℕ) → 0 < ring.seq → IsIn (record { ring = ring; members = members }) (cores ring.rep).rings → at members 0 ≡ ring.rep
  known_first ring members above known =
      elim (p.parts ring.rep (record { ring = ring; members = members }) known) [
        | inl e ↦ absurd (let zero : ring.seq ≡ 0 = ap (λ (x : Configuration). x.ring.seq) e in omega arith)
        | inr part ↦ part.first
      ]

  entered_part : (k : CommitToken) → MayEnter (IsReceivedFrame frames i) (cores i) k → TakesPart i (record { ring = k.ring; members = k.members })
  entered_part k h =
      let me : (cores i).me ≡ i = (p.all).rings.me i in
      let inside : k.hop < size k.members = h.first (let e : (cores i).me ≡ i = me in omega arith) in
      let above : floor (cores i) < k.ring.seq = h.above in
      let some : 0 < size k.members = omega arith in
      record {
        member = subst (IsMember k.members) (h.here ∙ me) (at_member k.members (position_of_hop k) (mod-lt k.hop some)).1;
        first = elim (h.from) [
          | inl own ↦ (let hop : position_of_hop k ≡ 0 = ap (λ n. n % size k.members) own.hop ∙ zero-mod (size k.members) in
              ap (at k.members) (sym hop) ∙ h.here ∙ sym own.rep)
          | inr received ↦ (let f = came_right (p.all).visits cores frames i (CommitFrame k) (p.all).sent.right received in
              known_first k.ring k.members (omega arith) (f.3).ring_of)
        ];
      }

  parts_after : (m : Move A) → MayMove (IsReceivedFrame frames i) (cores i) m → (x : Configuration) → IsIn x (core_after_move (cores i) m).rings → IsPartOrAlone i x
  parts_after (Enters k) h x (inl e) = inr (subst (TakesPart i) (sym e) (entered_part k h))
  parts_after (Enters k) h x (inr there) = p.parts i x there
  parts_after (Idles state gathering last_sent queue sends) h x there = p.parts i x there
  parts_after (Learns k) h x there = p.parts i x there
  parts_after (Visits t fresh requests again queue) h x there = p.parts i x there
  parts_after (Takes y) h x there = p.parts i x there
  parts_after Installs h x there = p.parts i x there

  parts_moved : (m : Move A) → MayMove (IsReceivedFrame frames i) (cores i) m →
      HoldsParts (with_core cores i (core_after_move (cores i) m)) (frames ++ transmissions_from i (sends_of (cores i) m))
  parts_moved m h =
      record {
        all = holding.moves cores frames i m low h p.all;
        parts = put-each (λ q (c : Core A). (x : Configuration) → IsIn x c.rings → IsPartOrAlone q x) cores i (core_after_move (cores i) m)
            (λ q n. p.parts q) (parts_after m h);
      }

parts_hold : {A : Type 0} → (n : ℕ) (events : List (RingEvent A)) → HoldsParts (run (unformed n) events).cores (run (unformed n) events).frames
parts_hold n events =
    kept_run HoldsParts (record { moves = λ cores frames i m low h p. parts_moved cores frames i low p m h }) (unformed n) events
    (record { all = opening_holds n; parts = λ q p there. elim there [ inl e ↦ inl e | inr none ↦ absurd none ] })

-- a ring of one member
alone_part : (q : ℕ) → IsProc q → TakesPart q (opening_ring q)
alone_part q proc =
    let member : IsMember (only q) q = (only_members q q proc.0).1 refl in
    record { member = member; first = smallest-least (only q) q proc member (λ j m. (let same : j ≡ q = (only_members q j proc.0).0 m in omega arith)) }

pub unformed_parts : {A : Type 0} → (n : ℕ) (events : List (RingEvent A)) → AllTakePart (run (unformed n) events).cores
unformed_parts n events q proc =
    each-in (TakesPart q) ((run (unformed n) events).cores q).rings (λ p there.
    elim ((parts_hold n events).parts q p there) [ inl e ↦ subst (TakesPart q) (sym e) (alone_part q proc) | inr part ↦ part ])

pub unformed_same_members : {A : Type 0} → (n : ℕ) (events : List (RingEvent A)) → NameSameMembers (run (unformed n) events).cores
unformed_same_members n events p q ring a b ha hb =
    let are : AreRings (run (unformed n) events).cores = (unformed_holds n events).rings in
    one_members (run (unformed n) events).cores are ring a b (are.shared p ring a ha) (are.shared q ring b hb)
