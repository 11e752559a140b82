-- The entry that a core would report is exact, and its reports stay true.

-- All that is held lies within the 256 numbers after its front; fronts and marks only rise, and what is held stays
-- held.
use Rattle.std.proofs.Common.{◌≡◌, ℕ, ◌+◌, ◌-◌, ◌<◌, ◌≤◌, inl, inr, Bool, true, false, ◌&&◌, ◌==◌, List, [], ◌∷◌, refl, ap, sym, ◌∙◌, arith}
use Rattle.std.specs.Prelude.{nat_lt, nat_le, reverse}
use Rattle.std.specs.List.{AllByRecursion as Each}
use Rattle.std.proofs.lemmas.Bool.{cases_lt, and_parts, and_from, or_cases, or_left, or_right, ltb-true, lt-ltb, leb-true, le-leb, eqb-true, true≢false}
use Rattle.ring_base.specs.Numbers.{window_size}
use Rattle.ring_base.specs.Rings.{same_ring}
use Rattle.ring_base.specs.declared.ring_id.RingId.{RingId}
use Rattle.ring_base.specs.declared.state.State.TheVariants.{Commit, Recovery, Operational}
use Rattle.ring_base.proofs.Each.{each-weaker}
use Rattle.ring_wire.specs.Entries.{bit_of}
use Rattle.ring_wire.specs.declared.frame.Frame.{Frame}
use Rattle.ring_wire.specs.declared.message.Message.{Message}
use Rattle.ring_core_spec.specs.Windows.{held_bits, is_numbered, holds, front_of}
use Rattle.ring_core_spec.proofs.Windows.{held_bit, front_is, holds-more}
use Rattle.ring_core_spec.specs.Tokens.{safe_mark, numbered}
use Rattle.ring_core_spec.proofs.Tokens.{safe_mark-turn, safe_mark-raise}
use Rattle.ring_core_spec.specs.Commits.{reports_of, safe_of}
use Rattle.ring_core_spec.specs.Recoveries.{is_reported}
use Rattle.ring_core_spec.specs.State.{Core, Report}
use Rattle.ring_core_spec.specs.Views.{front, mark, own_entry}
use Rattle.ring_core_spec.specs.Transitions.{old_ring_messages}
use Rattle.ring_core_proof.specs.Moves.{Move, Idles, Enters, Learns, Visits, Takes, Installs, turn_with, core_after_move, MayMove}
use Rattle.ring_core_proof.proofs.WithinWindow.{front-append, IsCoreInWindow, mark_below, held_below}
use Rattle.ring_core_proof.specs.CoreInvariants.{IsNewest, IsExactEntry, IsTrueEntry}
use Rattle.ring_core_proof.proofs.OwnRings.{idles_in}
use Rattle.ring_core_proof.proofs.OwnMessages.{AreFit}
use Rattle.ring_core_proof.proofs.OwnFacts.{running_not_commit, takes_not_commit}

-- Exact

same_bool : (a b : Bool) → (a ≡ true → b ≡ true) → (b ≡ true → a ≡ true) → a ≡ b
same_bool true b f g = sym (f refl)
same_bool false true f g = g refl
same_bool false false f g = refl

held_low : {A : Type 0} → (held : List (Message A)) (ring : RingId) (n : ℕ) → Each (λ (x : Message A). 1 ≤ x.number) held → holds held ring n ≡ true → 1 ≤ n
held_low [] ring n h e = absurd (true≢false (sym e))
held_low (x ∷ held) ring n h e =
    elim (or_cases (is_numbered ring n x) (holds held ring n) e) [
      | inl t ↦ (let same : x.number ≡ n = eqb-true x.number n (and_parts (same_ring x.ring ring) (x.number == n) t).1 in omega (arith, h.0))
      | inr t ↦ held_low held ring n h.1 t
    ]

module _ {A : Type 0} (c : Core A) where
  abbrev last : RingId
  last = c.installed.ring

  bit_is : (n : ℕ) → front c last < n → n ≤ front c last + window_size → bit_of (held_bits c.held last) (n - front c last - 1) ≡ holds c.held last n
  bit_is n l h =
      let same : front c last + 1 + (n - front c last - 1) ≡ n = omega arith in
      held_bit c.held last (n - front c last - 1) (omega arith) ∙ ap (holds c.held last) same

  reported_held : (n : ℕ) → is_reported n (own_entry c) ≡ true → holds c.held last n ≡ true
  reported_held n e =
      let f = front c last in
      let bit = bit_of (held_bits c.held last) (n - f - 1) in
      elim (or_cases (nat_lt 0 n && nat_le n f) (nat_lt f n && nat_le n (f + window_size) && bit) e) [
        | inl a ↦ (let p = and_parts (nat_lt 0 n) (nat_le n f) a in (front_is c.held last).below n (ltb-true 0 n p.0) (leb-true n f p.1))
        | inr b ↦ (let p = and_parts (nat_lt f n && nat_le n (f + window_size)) bit b in
            let q = and_parts (nat_lt f n) (nat_le n (f + window_size)) p.0 in
            sym (bit_is n (ltb-true f n q.0) (leb-true n (f + window_size) q.1)) ∙ p.1)
      ]

  held_reported : IsCoreInWindow c → AreFit c.held → (n : ℕ) → holds c.held last n ≡ true → is_reported n (own_entry c) ≡ true
  held_reported fit are n e =
      let f = front c last in
      let bit = bit_of (held_bits c.held last) (n - f - 1) in
      let low : 1 ≤ n = held_low c.held last n are.numbered e in
      let marked : mark c last ≤ f = mark_below c last fit in
      let near : n ≤ mark c last + window_size = held_below c last n fit e in
      elim (cases_lt f n) [
        | inl l ↦ (let inside : n ≤ f + window_size = omega arith in
            or_right (nat_lt 0 n && nat_le n f) (nat_lt f n && nat_le n (f + window_size) && bit)
            (and_from (nat_lt f n && nat_le n (f + window_size)) bit
            (and_from (nat_lt f n) (nat_le n (f + window_size)) (lt-ltb f n l) (le-leb n (f + window_size) inside))
            (bit_is n l inside ∙ e)))
        | inr l ↦ or_left (nat_lt 0 n && nat_le n f) (nat_lt f n && nat_le n (f + window_size) && bit)
            (and_from (nat_lt 0 n) (nat_le n f) (lt-ltb 0 n (omega arith)) (le-leb n f l))
      ]

  pub exact_now : IsCoreInWindow c → AreFit c.held → IsExactEntry c.held (own_entry c)
  exact_now fit are n = same_bool (is_reported n (own_entry c)) (holds c.held last n) (reported_held n) (held_reported fit are n)

  true_now : IsCoreInWindow c → IsTrueEntry c (own_entry c)
  true_now fit = record { below = mark_below c last fit; front_is = omega arith; mark_is = omega arith; held = reported_held }

-- True ever after

pub record AreTrue {A : Type 0} (c : Core A) : Type 0 where
  pub newest : c.state ≡ Commit → IsNewest (record { ring = c.running.ring; entry = own_entry c }) c.reports
  pub all_true : Each (λ (x : Report). IsTrueEntry c x.entry) c.reports

record HasRisen {A : Type 0} (c d : Core A) : Type 0 where
  pub fronts : (r : RingId) → front c r ≤ front d r
  pub marks : (r : RingId) → mark c r ≤ mark d r
  pub held : (r : RingId) (n : ℕ) → holds c.held r n ≡ true → holds d.held r n ≡ true

true_grows : {A : Type 0} → (c d : Core A) → HasRisen c d → (xs : List Report) → Each (λ (x : Report). IsTrueEntry c x.entry) xs →
    Each (λ (x : Report). IsTrueEntry d x.entry) xs
true_grows c d g xs h =
    each-weaker _ _ (λ (x : Report) t. (let a = g.fronts x.entry.old in
    let b = g.marks x.entry.old in
    let held = λ (n : ℕ) (e : is_reported n x.entry ≡ true). g.held x.entry.old n (t.held n e) in
    record { below = t.below; front_is = omega (arith, a, t.front_is); mark_is = omega (arith, b, t.mark_is); held = held })) xs h

same_risen : {A : Type 0} → (c d : Core A) → d.held ≡ c.held → d.turns ≡ c.turns → d.raises ≡ c.raises → HasRisen c d
same_risen c d h t r =
    record {
      fronts = λ q. (let e : front d q ≡ front c q = ap (λ xs. front_of xs q) h in omega arith);
      marks = λ q. (let e : mark d q ≡ mark c q = ap (λ ts. safe_mark ts d.raises q) t ∙ ap (λ rs. safe_mark c.turns rs q) r in omega arith);
      held = λ q n e. ap (λ xs. holds xs q n) h ∙ e;
    }

moved_risen : {A : Type 0} → (c : Core A) (m : Move A) → HasRisen c (core_after_move c m)
moved_risen c (Idles state gathering last_sent queue sends) = same_risen c _ refl refl refl
moved_risen c (Enters k) = same_risen c _ refl refl refl
moved_risen c Installs = same_risen c _ refl refl refl
moved_risen c (Learns k) =
    record {
      fronts = λ r. omega arith;
      marks = λ r. safe_mark-raise (record { ring = c.installed.ring; mark = safe_of (reports_of c.installed.ring k.entries) }) c.turns c.raises r;
      held = λ r n e. e;
    }
moved_risen c (Visits t fresh requests again queue) =
    record {
      fronts = λ r. front-append (reverse (numbered t.ring c.me t.seq fresh)) c.held r;
      marks = λ r. safe_mark-turn (turn_with c t fresh requests) c.turns c.raises r;
      held = λ r n e. holds-more (reverse (numbered t.ring c.me t.seq fresh)) c.held r n e;
    }
moved_risen c (Takes x) =
    record {
      fronts = λ r. (let a = front-append (x ∷ []) c.held r in let b = front-append (old_ring_messages c.state c x) (x ∷ c.held) r in omega (arith, a, b));
      marks = λ r. omega arith;
      held = λ r n e. holds-more (old_ring_messages c.state c x) (x ∷ c.held) r n (holds-more (x ∷ []) c.held r n e);
    }

pub moved_true : {A : Type 0} → (received : Frame A → Type 0) (c : Core A) (m : Move A) → MayMove received c m → IsCoreInWindow c → AreTrue c → AreTrue (core_after_move c m)
moved_true received c (Enters k) h fit a =
    record {
      newest = λ s. (c.reports, refl);
      all_true = true_grows c (core_after_move c (Enters k)) (moved_risen c (Enters k))
          (record { ring = k.ring; entry = own_entry c } ∷ c.reports) (true_now c fit, a.all_true);
    }
moved_true received c (Idles state gathering last_sent queue sends) h fit a =
    record {
      newest = λ s. a.newest (idles_in c.state state Commit h.leaves s (λ q. cc) (λ q. cc));
      all_true = true_grows c (core_after_move c (Idles state gathering last_sent queue sends)) (moved_risen c (Idles state gathering last_sent queue sends))
          c.reports a.all_true;
    }
moved_true received c (Learns k) h fit a =
    record {
      newest = λ s. absurd (let q : Recovery ≡ Commit = s in let n : ⊥ = cc in n);
      all_true = true_grows c (core_after_move c (Learns k)) (moved_risen c (Learns k)) c.reports a.all_true;
    }
moved_true received c (Visits t fresh requests again queue) h fit a =
    record {
      newest = λ s. absurd (running_not_commit c.state h.state s);
      all_true = true_grows c (core_after_move c (Visits t fresh requests again queue)) (moved_risen c (Visits t fresh requests again queue)) c.reports a.all_true;
    }
moved_true received c (Takes x) h fit a =
    record { newest = λ s. absurd (takes_not_commit received c x h s); all_true = true_grows c (core_after_move c (Takes x)) (moved_risen c (Takes x)) c.reports a.all_true }
moved_true received c Installs h fit a =
    record {
      newest = λ s. absurd (let q : Operational ≡ Commit = s in let n : ⊥ = cc in n);
      all_true = true_grows c (core_after_move c Installs) (moved_risen c Installs) c.reports a.all_true;
    }
