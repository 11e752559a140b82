-- The chosen Head is one of the Heads, and none is greater; no committed length is below the least.
use Rattle.std.proofs.Common.{if◌then◌else◌, ◌≡◌, ℕ, ◌≤◌, false, List, [], ◌∷◌, Option, ◌⊎◌, inl, inr, refl, ap, sym, ◌∙◌, subst, arith}
use Rattle.std.specs.Prelude.{min}
use Rattle.std.specs.List.{AllByRecursion as Each}
use Rattle.std.specs.Cmp.{IsTotalOrder, nat_cmp_is}
use Rattle.std.specs.declared.cmp.Ordering.{Ordering}
use Rattle.std.specs.declared.cmp.Ordering.TheVariants.{Less, Equal, Greater}
use Rattle.std.specs.Ordering.{nat_cmp, ordering_then, ordering_reverse, is_lt}
use Rattle.std.proofs.Math.Nat.{min-le_left, min-le_right}
use Rattle.std.proofs.lemmas.Bool.{cond_both, cases_lt}
use Rattle.std.proofs.lemmas.Cmp.{nat_cmp_total, on_total, then_total, tied_itself}
use Rattle.ring_base.specs.declared.ring_id.RingId.{RingId}
use Rattle.ring_base.specs.Rings.{primary_cmp, IsPrimaryBelow}
use Rattle.ring_base.specs.RingOrder.{primary_cmp_total, primary_below_total}
use Rattle.ring_base.proofs.Cases.{Less-from}
use Rattle.ring_payload.specs.declared.head.Head.{Head}
use Rattle.ring_log.specs.declared.received_head.ReceivedHead.{ReceivedHead}
use Rattle.ring_log.specs.Heads.{received_head_cmp, is_behind, chosen_head, least_committed}

-- The reverse of an order

not_less-trans : {K : Type 0} {R : K → K → Ordering} → IsTotalOrder R → (a b c : K) → (R a b ≡ Less → ⊥) → (R b c ≡ Less → ⊥) → R a c ≡ Less → ⊥
not_less-trans {K} {R} t a b c p q h = go (R a b) refl
  where
    go : (o : Ordering) → R a b ≡ o → ⊥
    go Less e = p e
    go Equal e = q (sym (t.congr a b c e) ∙ h)
    go Greater e = q (t.trans b a c (t.antisymm b a ∙ ap ordering_reverse e) h)

not_less-back : {K : Type 0} {R : K → K → Ordering} → IsTotalOrder R → (a b : K) → R a b ≡ Less → R b a ≡ Less → ⊥
not_less-back {K} {R} t a b h k =
    let e : R a b ≡ Greater = t.antisymm a b ∙ ap ordering_reverse k in
    let less : Less ≡ Greater = sym h ∙ e in
    cc less

not_less-self : {K : Type 0} {R : K → K → Ordering} → IsTotalOrder R → (a : K) → R a a ≡ Less → ⊥
not_less-self t a h = not_less-back t a a h h

-- The order of Heads: by last primary, by length, and of equal ones by descending sender
pub stated_cmp_total : IsTotalOrder received_head_cmp
stated_cmp_total =
    then_total
    (on_total (λ (s : ReceivedHead). s.head) (then_total (on_total (λ (h : Head). h.last) primary_cmp_total) (on_total (λ (h : Head). h.length) nat_cmp_total)))
    (reversed (on_total (λ (s : ReceivedHead). s.sender) nat_cmp_total))
  where
    equal-back : (o p : Ordering) → p ≡ Equal → o ≡ ordering_reverse p → o ≡ Equal
    equal-back o p e f = f ∙ ap ordering_reverse e

    reversed : {K : Type 0} {R : K → K → Ordering} → IsTotalOrder R → IsTotalOrder (λ x y. R y x)
    reversed {K} {R} t = record {
      antisymm = λ x y. t.antisymm y x;
      trans = λ x y z p q. t.trans z y x q p;
      congr = λ x y z e. t.antisymm z x ∙ ap ordering_reverse (t.congr x y z (equal-back (R x y) (R y x) e (t.antisymm x y))) ∙ sym (t.antisymm z y);
    }

-- the first is as great as the second, or greater
abbrev pub IsNoLess : ReceivedHead → ReceivedHead → Type 0
IsNoLess a b = received_head_cmp a b ≡ Less → ⊥

not_lt-less : (o : Ordering) → is_lt o ≡ false → o ≡ Less → ⊥
not_lt-less Less e h = cc e
not_lt-less Equal e h = cc h
not_lt-less Greater e h = cc h

-- what holds of each Head holds of the chosen one
pub chosen-is : (P : ReceivedHead → Type 0) (best : ReceivedHead) (rest : List ReceivedHead) → P best → Each P rest → P (chosen_head best rest)
chosen-is P best [] p h = p
chosen-is P best (s ∷ rest) p h =
    chosen-is P (if is_behind best s then s else best) rest (cond_both (is_behind best s) s best P (λ e. h.0) (λ e. p)) h.1

greater-of : (best s : ReceivedHead) → IsNoLess (if is_behind best s then s else best) best × IsNoLess (if is_behind best s then s else best) s
greater-of best s = cond_both (is_behind best s) s best (λ m. IsNoLess m best × IsNoLess m s)
    (λ e. (not_less-back stated_cmp_total best s (Less-from (received_head_cmp best s) e), not_less-self stated_cmp_total s))
    (λ e. (not_less-self stated_cmp_total best, not_lt-less (received_head_cmp best s) e))

-- it is as great as each of them
pub chosen-greatest : (best : ReceivedHead) (rest : List ReceivedHead) → IsNoLess (chosen_head best rest) best × Each (IsNoLess (chosen_head best rest)) rest
chosen-greatest best [] = (not_less-self stated_cmp_total best, tt)
chosen-greatest best (s ∷ rest) =
    let n = if is_behind best s then s else best in
    let c = chosen_head n rest in
    let g = greater-of best s in
    let r = chosen-greatest n rest in
    (not_less-trans stated_cmp_total c n best r.0 g.0, (not_less-trans stated_cmp_total c n s r.0 g.1, r.1))

-- the least committed length
pub least-first : (least : ℕ) (rest : List ReceivedHead) → least_committed least rest ≤ least
least-first least [] = omega arith
least-first least (s ∷ rest) =
    let r = least-first (min least s.head.committed) rest in
    let m = min-le_left least s.head.committed in
    omega arith

pub least-each : (least : ℕ) (rest : List ReceivedHead) → Each (λ (s : ReceivedHead). least_committed least rest ≤ s.head.committed) rest
least-each least [] = tt
least-each least (s ∷ rest) =
    let r = least-first (min least s.head.committed) rest in
    let m = min-le_right least s.head.committed in
    (omega arith, least-each (min least s.head.committed) rest)

-- What a greatest Head says of another

abbrev pub LastsOf : ReceivedHead → ReceivedHead → Type 0
LastsOf a b = (IsPrimaryBelow b.head.last a.head.last) ⊎ ((b.head.last ≡ a.head.last) × (b.head.length ≤ a.head.length))

head-parts : (o p q : Ordering) → (ordering_then (ordering_then o p) q ≡ Less → ⊥) → (o ≡ Less → ⊥) × (o ≡ Equal → p ≡ Less → ⊥)
head-parts Less p q h = absurd (h refl)
head-parts Equal Less q h = absurd (h refl)
head-parts Equal Equal q h = (λ e. cc e, λ e k. cc k)
head-parts Equal Greater q h = (λ e. cc e, λ e k. cc k)
head-parts Greater p q h = (λ e. cc e, λ e k. cc e)

-- a Head that is no less has a later last primary, or the same one and a log at least as long
pub no_less-tells : (a b : ReceivedHead) → IsNoLess a b → LastsOf a b
no_less-tells a b h =
    let parts = head-parts (primary_cmp a.head.last b.head.last) (nat_cmp a.head.length b.head.length) (nat_cmp b.sender a.sender) h in
    elim (primary_below_total a.head.last b.head.last) as (λ _. LastsOf a b) [
      | inl below ↦ absurd (parts.0 below)
      | inr rest ↦ elim rest as (λ _. LastsOf a b) [
        | inr above ↦ inl above
        | inl same ↦
            let tie : primary_cmp a.head.last b.head.last ≡ Equal =
            subst (λ (o : Option RingId). primary_cmp a.head.last o ≡ Equal) same (tied_itself primary_cmp_total a.head.last) in
            elim (cases_lt a.head.length b.head.length) as (λ _. LastsOf a b) [
              | inl less ↦ absurd (parts.1 tie (sym (nat_cmp_is a.head.length b.head.length Less less)))
              | inr least ↦ inr (sym same, least)
            ]
      ]
    ]
