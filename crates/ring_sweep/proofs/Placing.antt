-- Each stop and each cut has its index among the variants.
use Rattle.std.proofs.Common.{◌≡◌, ℕ, ◌+◌, ◌-◌, ◌*◌, ◌/◌, ◌%◌, ◌==◌, ◌<◌, ◌≤◌, refl, sym, ap, subst, ◌∙◌, arith, if◌then◌else◌}
use Rattle.std.proofs.Math.Nat.{mul-add-mod_self_right, mod-eq_of_lt, mul_assoc, mul_comm}
use Rattle.std.proofs.lemmas.Nat.{div-mul-add, mul-add-lt}
use Rattle.ring_sweep.specs.declared.injection.InjectionKind.{InjectionKind}
use Rattle.ring_sweep.specs.declared.injection.InjectionKind.TheVariants.{Stop, Cut}
use Rattle.ring_sweep.specs.declared.injection.Injection.{Injection}
use Rattle.ring_sweep.specs.Variants.{injection_at}

-- A stop comes before a cut.
turn_of : InjectionKind → ℕ
turn_of Stop = 0
turn_of Cut = 1

turn_small : (b : InjectionKind) → turn_of b < 2
unfolding turn_of
turn_small Stop = omega arith
turn_small Cut = omega arith

same_blow : (b : InjectionKind) (n : ℕ) → n ≡ turn_of b → (if n == 0 then Stop else Cut) ≡ b
unfolding turn_of
same_blow Stop n is = subst (λ (k : ℕ). (if k == 0 then Stop else Cut) ≡ Stop) (sym is) refl
same_blow Cut n is = subst (λ (k : ℕ). (if k == 0 then Stop else Cut) ≡ Cut) (sym is) refl

module _ (count events : ℕ) (u : Injection) (first : 1 ≤ u.node) (last : u.node ≤ count) (within : u.before ≤ events) where
  -- Its index among those before the same event.
  here : ℕ
  here = (u.node - 1) * 2 + turn_of u.injection_kind

  place : ℕ
  place = u.before * (2 * count) + here

  here_small : here < 2 * count
  unfolding here
  here_small = let small = turn_small u.injection_kind in omega (arith, small, first, last)

  before_is : place / (2 * count) ≡ u.before
  unfolding place
  before_is = div-mul-add u.before (2 * count) here here_small

  here_is : place % (2 * count) ≡ here
  unfolding place
  here_is = mul-add-mod_self_right u.before (2 * count) here ∙ mod-eq_of_lt here_small

  node_is : place % (2 * count) / 2 + 1 ≡ u.node
  unfolding here
  node_is =
      ap (λ (n : ℕ). n / 2 + 1) here_is
      ∙ (ap (λ (n : ℕ). n + 1) (div-mul-add (u.node - 1) 2 (turn_of u.injection_kind) (turn_small u.injection_kind)) ∙ omega (arith, first))

  parity : place % 2 ≡ turn_of u.injection_kind
  unfolding place here
  parity =
      let twice : u.before * (2 * count) ≡ u.before * count * 2 = ap (λ (n : ℕ). u.before * n) (mul_comm 2 count) ∙ sym (mul_assoc u.before count 2) in
      let whole : place ≡ (u.before * count + (u.node - 1)) * 2 + turn_of u.injection_kind = omega (arith, twice) in
      ap (λ (n : ℕ). n % 2) whole
      ∙ (mul-add-mod_self_right (u.before * count + (u.node - 1)) 2 (turn_of u.injection_kind) ∙ mod-eq_of_lt (turn_small u.injection_kind))

  place_small : place < 2 * (events + 1) * count
  unfolding place
  place_small =
      let room = mul-add-lt u.before (2 * count) here (events + 1) (omega (arith, within)) here_small in
      let same : 2 * count * (events + 1) ≡ 2 * (events + 1) * count =
      mul_assoc 2 count (events + 1) ∙ (ap (λ (n : ℕ). 2 * n) (mul_comm count (events + 1)) ∙ sym (mul_assoc 2 (events + 1) count)) in
      omega (arith, room, same)

  -- It is there.
  pub has_place : (n : ℕ) × (n < 2 * (events + 1) * count) × (injection_at count n ≡ u)
  has_place = (
    place,
    place_small,
    ap (λ (n : ℕ). record { before = n; node = place % (2 * count) / 2 + 1; injection_kind = if place % 2 == 0 then Stop else Cut }) before_is
        ∙ (ap (λ (n : ℕ). record { before = u.before; node = n; injection_kind = if place % 2 == 0 then Stop else Cut }) node_is
        ∙ ap (λ (b : InjectionKind). record { before = u.before; node = u.node; injection_kind = b }) (same_blow u.injection_kind (place % 2) parity)),
  )
