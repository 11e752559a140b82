-- Widening always changes a set.
use Rattle.std.proofs.Common.{◌≡◌, ℕ, zero, suc, true, false, inl, inr, refl, sym, subst, ◌∙◌, arith}
use Rattle.std.specs.Prelude.{◌&&◌}
use Rattle.std.proofs.lemmas.Bool.{cases_Bool, cond_both, cond-true, cond-false, or_parts, both_ways}
use Rattle.ring_wire.specs.Base.{IsMember, only, has, within, union, union_members, within_members, only_members, has_member}
use Rattle.ring_wire.specs.declared.join.Join.{Join}
use Rattle.ring_join.specs.Gathering.{Gathering, Ignored, Agrees, Merges, has_same_sets, has_smaller_sets, is_own_or_failed, join_effect, with_agreement}
use Rattle.ring_join.specs.Gathering.{sets_merged, join_merged}
use Rattle.ring_join.specs.Gatherers.{HasSetsOf}

-- If a set's union with another is no greater than the set, the set contains the other.
held_by : (a b : ℕ) → a ≡ union a b → within b a ≡ true
held_by a b e = (within_members b a).1 (λ i m. subst (λ (s : ℕ). IsMember s i) (sym e) ((union_members a b i).1 (inr m)))

-- A set contains the set of one processor if it contains that processor.
only_had : (set i : ℕ) → within (only i) set ≡ true → has set i ≡ true
only_had set zero h = has_member set 1 ((within_members (only 1) set).0 h 1 ((only_members 1 1 (omega arith)).1 refl))
only_had set (suc i) h = has_member set (suc i) ((within_members (only (suc i)) set).0 h (suc i) ((only_members (suc i) (suc i) (omega arith)).1 refl))

both_within : (a b c d : ℕ) → within a b ≡ true → within c d ≡ true → (within a b && within c d) ≡ true
both_within a b c d e f = rw (e, f) refl

-- A join that is not ignored, with sets not within the own, widens one of them.
wider : (me : ℕ) (g : Gathering) (j : Join) → is_own_or_failed me g j ≡ false → has_smaller_sets g j ≡ false → HasSetsOf g (sets_merged me g j) → ⊥
wider me g j counted_joins large same =
    let procs : within j.proc_set g.proc_set ≡ true = held_by g.proc_set j.proc_set same.0 in
    elim (cases_Bool (has j.fail_set me)) [
      | inl e ↦
          let fails : g.fail_set ≡ union g.fail_set (only j.sender) = same.1 ∙ cond-true _ _ _ e in
          both_ways _ (or_parts _ _ counted_joins).1 (only_had g.fail_set j.sender (held_by g.fail_set (only j.sender) fails))
      | inr e ↦
          let fails : g.fail_set ≡ union g.fail_set j.fail_set = same.1 ∙ cond-false _ _ _ e in
          both_ways _ large (both_within j.proc_set g.proc_set j.fail_set g.fail_set procs (held_by g.fail_set j.fail_set fails))
    ]

-- The tests that a join that widens a set passed.
record IsWidening (me : ℕ) (g : Gathering) (j : Join) : Type 0 where
  pub counted_joins : is_own_or_failed me g j ≡ false
  pub large : has_smaller_sets g j ≡ false

widening : (me : ℕ) (g : Gathering) (j : Join) → join_effect me g j ≡ Merges → IsWidening me g j
widening me g j h =
    elim (cases_Bool (is_own_or_failed me g j)) [
      | inl e ↦ absurd (let q : Ignored ≡ Merges = sym (cond-true _ _ _ e) ∙ h in cc)
      | inr e ↦ (let rest = sym (cond-false (is_own_or_failed me g j) _ _ e) ∙ h in
          elim (cases_Bool (has_same_sets g j)) [
            | inl f ↦ absurd (let q : Agrees ≡ Merges = sym (cond-true _ _ _ f) ∙ rest in cc)
            | inr f ↦ (let last = sym (cond-false (has_same_sets g j) _ _ f) ∙ rest in
                elim (cases_Bool (has_smaller_sets g j)) [
                  | inl k ↦ absurd (let q : Ignored ≡ Merges = sym (cond-true _ _ _ k) ∙ last in cc)
                  | inr k ↦ record { counted_joins = e; large = k }
                ])
          ])
    ]

pub widens_changes : (me : ℕ) (g : Gathering) (j : Join) → join_effect me g j ≡ Merges → HasSetsOf g (join_merged me g j) → ⊥
widens_changes me g j h =
    let w = widening me g j h in
    cond_both (has_same_sets (sets_merged me g j) j) (with_agreement (sets_merged me g j) j) (sets_merged me g j)
    (λ (k : Gathering). HasSetsOf g k → ⊥) (λ e. wider me g j w.counted_joins w.large) (λ e. wider me g j w.counted_joins w.large)
