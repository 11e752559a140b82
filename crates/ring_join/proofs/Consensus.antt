-- Consensus is of processors that sent exactly the node's sets.
use Rattle.std.proofs.Common.{◌≡◌, ℕ, zero, suc, ◌<◌, ◌≤◌, true, inl, inr, List, [], ◌∷◌, length, refl, sym, ap, ◌∙◌, arith, Bool, false, if◌then◌else◌}
use Rattle.std.specs.Prelude.{slice_index_or, ◌↔◌}
use Rattle.std.specs.List.{AllByRecursion, Any}
use Rattle.ring_wire.specs.Base.{IsMember, only, nobody_member, only_members, union_members, within_members}
use Rattle.ring_wire.specs.declared.join.Join.{Join}
use Rattle.ring_join.specs.Gathering.{Gathering, HasOwnSets, senders_of_joins, agreeing, candidates, has_consensus, HasConsensus, AllHaveOwnSets, AllAreProcs}
use Rattle.ring_join.specs.Gathering.{is_own_or_failed, has_same_sets, has_smaller_sets, join_effect}
use Rattle.ring_join.specs.declared.join_effect.JoinEffect.TheVariants.{Ignored, Agrees, Merges}

-- An element has the property, or a later one has.
any-here : {X : Type 0} (P : X → Type 0) (x : X) (xs : List X) → P x → Any P (x ∷ xs)
any-here P x xs p = (0, x, omega arith, refl, p)

any-later : {X : Type 0} (P : X → Type 0) (x : X) (xs : List X) → Any P xs → Any P (x ∷ xs)
any-later P x xs a = (suc a.0, a.1, (let l = a.2 in omega arith), a.3, a.4)

abbrev Said : Gathering → ℕ → Join → Type 0
Said g i j = (j.sender ≡ i) × HasOwnSets g j

sender_said : (g : Gathering) (i : ℕ) (js : List Join) → AllByRecursion (λ (j : Join). 1 ≤ j.sender) js
    → AllByRecursion (HasOwnSets g) js → IsMember (senders_of_joins js) i → Any (Said g i) js
sender_said g i [] p h m = absurd (nobody_member i m)
sender_said g i (j ∷ js) p h m =
    elim ((union_members (only j.sender) (senders_of_joins js) i).0 m) [
      | inl e ↦ any-here (Said g i) j js (sym ((only_members j.sender i p.0).0 e), h.0)
      | inr e ↦ any-later (Said g i) j js (sender_said g i js p.1 h.1 e)
    ]

-- The sender of the join at a position is among the senders.
sender_at : (g : Gathering) (i : ℕ) (js : List Join) (k : ℕ) (x : Join) → AllByRecursion (λ (j : Join). 1 ≤ j.sender)
    js → k < length js → slice_index_or js k x ≡ x → Said g i x → IsMember (senders_of_joins js) i
sender_at g i [] k x p l e q = absurd (omega arith)
sender_at g i (j ∷ js) zero x p l e q = (union_members (only j.sender) (senders_of_joins js) i).1
    (inl ((only_members j.sender i p.0).1 (sym q.0 ∙ ap (λ (y : Join). y.sender) (sym e))))
sender_at g i (j ∷ js) (suc k) x p l e q = (union_members (only j.sender) (senders_of_joins js) i).1 (inr (sender_at g i js k x p.1 (omega arith) e q))

pub consensus : (me : ℕ) (g : Gathering) → 1 ≤ me → AllAreProcs g → AllHaveOwnSets g → (has_consensus me g ≡ true) ↔ HasConsensus me g
consensus me g low p h = (
  λ e i m.
      let a = (within_members (candidates g) (agreeing me g)).0 e i m in
      elim ((union_members (only me) (senders_of_joins g.counted_joins) i).0 a) [
        | inl q ↦ inl ((only_members me i low).0 q)
        | inr q ↦ inr (sender_said g i g.counted_joins p h q)
      ],
  λ c. (within_members (candidates g) (agreeing me g)).1 (λ i m.
      elim (c i m) [
        | inl q ↦ (union_members (only me) (senders_of_joins g.counted_joins) i).1 (inl ((only_members me i low).1 q))
        | inr q ↦ (union_members (only me) (senders_of_joins g.counted_joins) i).1 (inr (sender_at g i g.counted_joins q.0 q.1 p q.2 q.3 q.4))
      ]),
)

-- The second of these tests succeeded.
agrees_by : (u s w : Bool) → (if u then Ignored else if s then Agrees else if w then Ignored else Merges) ≡ Agrees → s ≡ true
agrees_by true s w e = (let q : Ignored ≡ Agrees = e in cc)
agrees_by false true w e = refl
agrees_by false false true e = (let q : Ignored ≡ Agrees = e in cc)
agrees_by false false false e = (let q : Merges ≡ Agrees = e in cc)

-- A join that agrees has the same sets.
pub agrees_same : (me : ℕ) (g : Gathering) (j : Join) → join_effect me g j ≡ Agrees → has_same_sets g j ≡ true
agrees_same me g j e = agrees_by (is_own_or_failed me g j) (has_same_sets g j) (has_smaller_sets g j) e
