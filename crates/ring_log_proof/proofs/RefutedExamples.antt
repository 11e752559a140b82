-- The fact or rule that each wrong life breaks.
use Rattle.std.proofs.Common.{◌≡◌, ℕ, ◌<◌, List, [], ◌∷◌, Option, Some, None, inl, inr, refl, ap, sym, subst, arith}
use Rattle.std.specs.declared.alloc.Global.{Global}
use Rattle.std.specs.List.{AllByRecursion as Each}
use Rattle.ring_base.specs.Prefixes.{IsListPrefix, prefix_length}
use Rattle.ring_base.specs.Processors.{elements}
use Rattle.ring_base.specs.declared.ring_id.RingId.{RingId}
use Rattle.ring_payload.specs.declared.call.Call.{Call as OneCall}
use Rattle.ring_payload.specs.declared.head.Head.{Head as OneHead}
use Rattle.ring_payload.specs.declared.content.Payload.{Payload}
use Rattle.ring_payload.specs.declared.content.Payload.TheVariants.{Call, Wrapped, End, Head, Part, Pack, Snap}
use Rattle.ring_log.specs.Examples.{group_of_three, message_of}
use Rattle.ring_log.specs.Messages.{Message}
use Rattle.ring_log.specs.Epochs.{Epoch, history_opening_of}
use Rattle.ring_log.specs.KnownLog.{known_log_of, known_log_head}
use Rattle.ring_log_proof.specs.RingFacts.{RingFacts}
use Rattle.ring_log_proof.specs.Discipline.{FollowsHead, KeepsDiscipline}
use Rattle.ring_log_proof.specs.Examples.{first_ring, call_by, part_at, text, members, first_text, first_head, head_at, in_second}
use Rattle.ring_log_proof.specs.Examples.{one_first, two_first, lives_with, missing_heads, misheard, smaller, silent, falling, older_head}
use Rattle.ring_log_proof.specs.Examples.{late_head, wrong_part}
use Rattle.ring_log_proof.proofs.Epochs.{epoch-each}

not-first : (s : Epoch Global) → s.ring.seq ≡ 0 → s.ring ≡ first_ring → ⊥
not-first s none is = let four : s.ring.seq ≡ 4 = ap (λ (r : RingId). r.seq) is in omega (arith, none, four)

-- what is safe at processor 1 was not received at 2
pub refuses-missing_heads : RingFacts (lives_with missing_heads) members text → ⊥
refuses-missing_heads facts =
    let Bad : Epoch Global → Type 0 = λ s. s.ring ≡ first_ring → IsListPrefix first_text s.heard → ⊥ in
    elim (facts.safe 1 one_first (history_opening_of 1) (inr (inl (refl, refl)))) as (λ _. ⊥) [
      | inl none ↦ absurd (cc none)
      | inr all ↦
          let at = all 2 (omega arith, refl) in
          epoch-each Bad missing_heads at.0.epoch at.0.older (
            (λ is f. absurd (let l = prefix_length first_text (message_of first_ring 4 1 first_head ∷ []) f in omega (arith, l))),
            ((λ is f. not-first (record { ring = record { seq = 0; rep = 2 }; members = 2; heard = []; mark = 0; sent = []; trimmed = 0; front = [] }) refl is), tt),
          ) at.0.there at.0.ring at.1
    ]

sender-first : List (Message Global) → ℕ
sender-first [] = 0
sender-first (x ∷ xs) = x.sender

pub refuses-misheard : RingFacts (lives_with misheard) members text → ⊥
unfolding sender-first
refuses-misheard facts =
    let heard : List (Message Global) = message_of first_ring 4 2 first_head ∷ [] in
    let f = facts.heard 2 (record { ring = first_ring; members = 7; heard = heard; mark = 0; sent = first_head ∷ []; trimmed = 0; front = [] }) (history_opening_of 2) (inl (refl, refl)) in
    let e : 2 ≡ 1 = ap sender-first f.1 in
    absurd (omega (arith, e))

pub refuses-smaller : RingFacts (lives_with smaller) members text → ⊥
refuses-smaller facts =
    let e : 3 ≡ 7 = facts.one_set 2 (record { ring = first_ring; members = 3; heard = first_text; mark = 6; sent = first_head ∷ []; trimmed = 0; front = [] }) (history_opening_of 2)
    (inl (refl, refl)) in
    absurd (omega (arith, e))

pub refuses-silent : RingFacts (lives_with silent) members text → ⊥
refuses-silent facts =
    let Bad : Epoch Global → Type 0 = λ s. s.sent ≡ [] in
    elim (facts.said 2 first_ring) as (λ _. ⊥) [
      | inl none ↦ absurd (cc none)
      | inr there ↦
          let none = epoch-each Bad silent there.0.epoch there.0.older (refl, (refl, tt)) there.0.there in
          let f : IsListPrefix (first_head ∷ []) [] = subst (λ l. IsListPrefix (first_head ∷ []) l) none there.1 in
          absurd (cc (f.1))
    ]

pub refuses-falling : RingFacts (lives_with falling) members text → ⊥
refuses-falling facts = let l : 8 < 4 = (facts.rises 2).0.0 in absurd (omega (arith, l))

head-first : List (Payload Global) → Option OneHead
head-first [] = None
head-first (Head h ∷ ps) = Some h
head-first (Call c ∷ ps) = None
head-first (Part p ∷ ps) = None
head-first (Pack p ∷ ps) = None
head-first (Snap p ∷ ps) = None
head-first (Wrapped p ∷ ps) = None
head-first (End ∷ ps) = None

last-or : Option OneHead → Option RingId
last-or None = None
last-or (Some h) = h.last

pub refuses-older_head : KeepsDiscipline group_of_three (lives_with older_head) → ⊥
unfolding head-first last-or elements
refuses-older_head keeps =
    elim (keeps 2 (in_second [] 0 (head_at None 1 0 ∷ [])) (two_first ∷ history_opening_of 2) (inl (refl, refl))) as (λ _. ⊥) [
      | inl none ↦ absurd (cc none)
      | inr opens ↦ absurd (let e : None ≡ Some first_ring = ap (λ l. last-or (head-first l)) opens.opens in cc e)
    ]

pub refuses-late_head : KeepsDiscipline group_of_three (lives_with late_head) → ⊥
unfolding head-first
refuses-late_head keeps =
    elim (keeps 2 (in_second [] 0 (Call (call_by 9) ∷ head_at (Some first_ring) 1 0 ∷ [])) (two_first ∷ history_opening_of 2) (inl (refl, refl))) as (λ _. ⊥) [
      | inl none ↦ absurd (cc none)
      | inr opens ↦ absurd (let e : None ≡ Some (known_log_head (known_log_of group_of_three (two_first ∷ history_opening_of 2))) = ap head-first opens.opens in cc e)
    ]

rest-of : List (Payload Global) → List (Payload Global)
rest-of [] = []
rest-of (p ∷ ps) = ps

client-first : List (OneCall Global) → ℕ
client-first [] = 0
client-first (c ∷ cs) = c.client

pub refuses-wrong_part : KeepsDiscipline group_of_three (lives_with wrong_part) → ⊥
unfolding rest-of client-first elements
refuses-wrong_part keeps =
    elim (keeps 2 (in_second [] 0 (head_at (Some first_ring) 1 0 ∷ part_at 0 (call_by 9 ∷ []) ∷ [])) (two_first ∷ history_opening_of 2) (inl (refl, refl))) as (λ _. ⊥) [
      | inl none ↦ absurd (cc none)
      | inr opens ↦
          let is : part_at 0 (call_by 9 ∷ []) ∷ [] ≡ opens.rest = ap rest-of opens.opens in
          let f : Each (FollowsHead (known_log_of group_of_three (two_first ∷ history_opening_of 2))) (part_at 0 (call_by 9 ∷ []) ∷ []) =
          subst (Each (FollowsHead (known_log_of group_of_three (two_first ∷ history_opening_of 2)))) (sym is) opens.follows in
          let e : 9 ≡ 7 = ap client-first f.0.1.1 in
          absurd (omega (arith, e))
    ]
