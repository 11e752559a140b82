-- Sets and joins: a processor is always in its `proc_set` and never in its `fail_set`, so its joins keep the limits.
use Rattle.std.proofs.Common.{◌≡◌, ℕ, ◌-◌, ◌^◌, ◌<◌, ◌≤◌, inl, inr, ◌==◌, cond, refl, sym, subst, arith, eq-eqb}
use Rattle.std.proofs.lemmas.Bool.{cond_both, or_parts, both_ways}
use Rattle.std.proofs.lemmas.Nat.{or_lt, pow_below, pow_pos}
use Rattle.std.proofs.Math.Nat.{pow-le-pow_right}
use Rattle.ring_base.specs.Numbers.{max_number}
use Rattle.ring_base.specs.Processors.{IsProc, IsMember, IsSubset, has, nobody, only, everybody, union, less}
use Rattle.ring_base.specs.Members.{has_member, nobody_member, only_members, union_members, less_members}
use Rattle.ring_wire.specs.declared.join.Join.{Join}
use Rattle.ring_wire.specs.Joins.{JoinFits}
use Rattle.ring_core_spec.specs.Joins.{Gathering, is_own_or_failed, has_same_sets, has_smaller_sets, gathering_opening, own_join}
use Rattle.ring_core_spec.specs.Joins.{join_effect, with_agreement, merged_fail_set, sets_merged, join_merged, senders_of_joins, agreeing, candidates, silent_given_up, JoinEffect}
use Rattle.ring_core_spec.specs.Joins.{Ignored, Agrees, Merges}
use Rattle.ring_core_proof.specs.Limits.{GatheringFits}

-- Sets of sixteen

pub only_lt : (i : ℕ) → IsProc i → only i < 2 ^ 16
only_lt i p = pow_below (i - 1) 16 (omega (arith, p.0, p.1))

pub everybody_lt : (n : ℕ) → n ≤ 16 → everybody n < 2 ^ 16
everybody_lt n l =
    let a : 2 ^ n ≤ 2 ^ 16 = pow-le-pow_right (omega arith) l in
    let b : 0 < 2 ^ n = pow_pos n in
    omega arith

pub less_le : (a b : ℕ) → less a b ≤ a
less_le a b = omega arith

-- Gathering

pub entered_fits : (me set : ℕ) → set < 2 ^ 16 → IsMember set me → GatheringFits me (gathering_opening set)
entered_fits me set lt mine =
    record { proc_set = lt; fail_set = omega arith; mine = mine; alive = λ m. nobody_member me m; failed_in = λ i m. absurd (nobody_member i m) }

pub agreed_fits : (me : ℕ) (g : Gathering) (j : Join) → GatheringFits me g → GatheringFits me (with_agreement g j)
agreed_fits me g j f = record { proc_set = f.proc_set; fail_set = f.fail_set; mine = f.mine; alive = f.alive; failed_in = f.failed_in }

pub given_up_fits : (me : ℕ) (g : Gathering) → 1 ≤ me → GatheringFits me g → GatheringFits me (silent_given_up me g)
given_up_fits me g low f =
    let out = less (candidates g) (agreeing me g) in
    let a : out ≤ candidates g = less_le (candidates g) (agreeing me g) in
    let b : candidates g ≤ g.proc_set = less_le g.proc_set g.fail_set in
    let p : g.proc_set < 2 ^ 16 = f.proc_set in
    record {
      proc_set = f.proc_set;
      fail_set = or_lt 16 g.fail_set out f.fail_set (omega arith);
      mine = f.mine;
      alive = λ m. elim ((union_members g.fail_set out me).0 m) [
        | inl old ↦ f.alive old
        | inr new ↦
            ((less_members (candidates g) (agreeing me g) me).0 new).1
            ((union_members (only me) (senders_of_joins g.counted_joins) me).1 (inl ((only_members me me low).1 refl)))
      ];
      failed_in = λ i m. elim ((union_members g.fail_set out i).0 m) [
        | inl old ↦ f.failed_in i old
        | inr new ↦ ((less_members g.proc_set g.fail_set i).0 ((less_members (candidates g) (agreeing me g) i).0 new).0).0
      ];
    }

-- the processors that a widening gives up
record FailsFit (me procs fails : ℕ) : Type 0 where
  pub small : fails < 2 ^ 16
  pub alive : IsMember fails me → ⊥
  pub within : IsSubset fails procs

fails_fit : (me : ℕ) (g : Gathering) (j : Join) → (me ≡ j.sender → ⊥) → JoinFits j → GatheringFits me g →
    FailsFit me (union g.proc_set j.proc_set) (merged_fail_set me g j)
fails_fit me g j other fit f =
    cond_both (has j.fail_set me) (union g.fail_set (only j.sender)) (union g.fail_set j.fail_set) (FailsFit me (union g.proc_set j.proc_set))
    (λ e. record {
      small = or_lt 16 g.fail_set (only j.sender) f.fail_set (only_lt j.sender fit.sender);
      alive = λ m. elim ((union_members g.fail_set (only j.sender) me).0 m) [
        | inl old ↦ f.alive old
        | inr new ↦ other ((only_members j.sender me fit.sender.0).0 new)
      ];
      within = λ i m. (union_members g.proc_set j.proc_set i).1 (elim ((union_members g.fail_set (only j.sender) i).0 m) [
        | inl old ↦ inl (f.failed_in i old)
        | inr new ↦ inr (subst (IsMember j.proc_set) (sym ((only_members j.sender i fit.sender.0).0 new)) fit.sender_in)
      ]);
    })
    (λ e. record {
      small = or_lt 16 g.fail_set j.fail_set f.fail_set fit.fail_set;
      alive = λ m. elim ((union_members g.fail_set j.fail_set me).0 m) [
        | inl old ↦ f.alive old
        | inr new ↦ both_ways (has j.fail_set me) e (has_member j.fail_set me new)
      ];
      within = λ i m. (union_members g.proc_set j.proc_set i).1 (elim ((union_members g.fail_set j.fail_set i).0 m) [
        | inl old ↦ inl (f.failed_in i old)
        | inr new ↦ inr (fit.failed_in i new)
      ]);
    })

pub widened_fits : (me : ℕ) (g : Gathering) (j : Join) → (me ≡ j.sender → ⊥) → JoinFits j → GatheringFits me g → GatheringFits me (join_merged me g j)
widened_fits me g j other fit f =
    let w = sets_merged me g j in
    let fails = fails_fit me g j other fit f in
    let sets : GatheringFits me w = record {
      proc_set = or_lt 16 g.proc_set j.proc_set f.proc_set fit.proc_set;
      fail_set = fails.small;
      mine = (union_members g.proc_set j.proc_set me).1 (inl f.mine);
      alive = fails.alive;
      failed_in = fails.within;
    } in
    cond_both (has_same_sets w j) (with_agreement w j) w (GatheringFits me) (λ e. agreed_fits me w j sets) (λ e. sets)

-- a join that widens the sets is another processor's
pub widens_other : (me : ℕ) (g : Gathering) (j : Join) → join_effect me g j ≡ Merges → me ≡ j.sender → ⊥
widens_other me g j h same =
    cond_both (is_own_or_failed me g j) Ignored (cond (has_same_sets g j) Agrees (cond (has_smaller_sets g j) Ignored Merges)) (λ (x : JoinEffect). x ≡ Merges → ⊥)
    (λ e k. (let q : ⊥ = cc in q))
    (λ e k. both_ways (j.sender == me) (or_parts (j.sender == me) (has g.fail_set j.sender) e).0 (eq-eqb j.sender me (sym same))) h

-- Joins

pub join_fits : (me floor : ℕ) (g : Gathering) → IsProc me → floor ≤ max_number → GatheringFits me g → JoinFits (own_join me floor g)
join_fits me floor g p l f =
    record { sender = p; number = l; proc_set = f.proc_set; fail_set = f.fail_set; sender_in = f.mine; failed_in = f.failed_in; sender_alive = f.alive }

pub invite_fits : (me floor members : ℕ) → IsProc me → floor ≤ max_number → members < 2 ^ 16 → IsMember members me →
    JoinFits (record { sender = me; number = floor; proc_set = members; fail_set = nobody })
invite_fits me floor members p l m mine =
    record {
      sender = p;
      number = l;
      proc_set = m;
      fail_set = omega arith;
      sender_in = mine;
      failed_in = λ i k. absurd (nobody_member i k);
      sender_alive = λ k. nobody_member me k;
    }
