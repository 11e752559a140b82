-- Turns round a ring of m members: which member has the turn of a number.
use Rattle.std.proofs.Common.{◌≡◌, ℕ, suc, ◌+◌, ◌-◌, ◌*◌, ◌/◌, ◌%◌, ◌<◌, ◌≤◌, inl, inr, ap, sym, ◌∙◌, arith, mod-lt, mod-eq_of_lt, mul-le-mul_left, mul-suc}
use Rattle.std.proofs.Math.Nat.{add-mod_right, div-add-mod, mul-add-mod_self_left}
use Rattle.std.proofs.lemmas.Bool.{cases_lt}
use Rattle.ring_base.specs.Processors.{IsProc, IsMember, at, size, position_of, next}
use Rattle.ring_base.specs.Elements.{at_member, position_of-inside, at-position_of, position_of-at}

-- two numbers less than m apart have different remainders
rests_differ : (m a d : ℕ) → 0 < d → d < m → (a + d) % m ≡ a % m → ⊥
rests_differ m a d p q e =
    let x : m * (a / m) + a % m ≡ a = div-add-mod a m in
    let y : m * ((a + d) / m) + (a + d) % m ≡ a + d = div-add-mod (a + d) m in
    go (a / m) ((a + d) / m) (a % m) (rw e at y) x
  where
    go : (u v r : ℕ) → m * v + r ≡ a + d → m * u + r ≡ a → ⊥
    go u v r y x = elim (cases_lt u v) [
      | inl l ↦ (let k : m * suc u ≤ m * v = mul-le-mul_left m l in let z : m * suc u ≡ m * u + m = mul-suc m u in omega arith)
      | inr l ↦ (let k : m * v ≤ m * u = mul-le-mul_left m l in omega arith)
    ]

-- one of m successive numbers has a given remainder
rest_reached : (m a p : ℕ) → p < m → (j : ℕ) × (j < m) × ((a + j) % m ≡ p)
rest_reached m a p l =
    let r : a % m < m = mod-lt a (omega arith) in
    let x : m * (a / m) + a % m ≡ a = div-add-mod a m in
    elim (cases_lt p (a % m)) [
      | inl k ↦ (let e : a + (m + p - a % m) ≡ m * suc (a / m) + p = (let z : m * suc (a / m) ≡ m * (a / m)
          + m = mul-suc m (a / m) in omega arith) in (
            m + p - a % m,
            omega arith,
            rw (e, mul-add-mod_self_left)
                (mod-eq_of_lt l),
          ))
      | inr k ↦ (let e : a + (p - a % m) ≡ m * (a / m) + p = omega arith in (p - a % m, omega arith, rw (e, mul-add-mod_self_left) (mod-eq_of_lt l)))
    ]

-- the member that has the turn of a number
abbrev pub member_of : ℕ → ℕ → ℕ
member_of members n = at members (n % size members)

-- the members at two positions differ
at_same : (members j k : ℕ) → j < size members → k < size members → at members j ≡ at members k → j ≡ k
at_same members j k l m e = sym (position_of-at members j l) ∙ ap (position_of members) e ∙ position_of-at members k m

-- two turns less than m apart belong to different members
pub turns_differ : (members a d : ℕ) → 0 < size members → 0 < d → d < size members → member_of members (a + d) ≡ member_of members a → ⊥
turns_differ members a d some p q e =
    rests_differ (size members) a d p q (at_same members ((a + d) % size members) (a % size members) (mod-lt (a + d) some) (mod-lt a some) e)

pub turns_differ_at : (members a n j : ℕ) → 0 < size members → j < n → n < size members → member_of members (a + n) ≡ member_of members (a + j) → ⊥
turns_differ_at members a n j some p q e =
    let k : a + n ≡ (a + j) + (n - j) = omega arith in
    turns_differ members (a + j) (n - j) some (omega arith) (omega arith) (sym (ap (member_of members) k) ∙ e)

-- the turn m later belongs to the same member
pub turns_return : (members a : ℕ) → member_of members (a + size members) ≡ member_of members a
turns_return members a = ap (at members) (add-mod_right a (size members))

-- each member has one of the m turns from a on
pub turns_reach : (members a p : ℕ) → IsProc p → IsMember members p → (j : ℕ) × (j < size members) × (member_of members (a + j) ≡ p)
turns_reach members a p proc m =
    let r = rest_reached (size members) a (position_of members p) (position_of-inside members p proc m) in
    (r.0, r.1, ap (at members) r.2 ∙ at-position_of members p proc m)

mod-next : (n m : ℕ) → (n % m + 1) % m ≡ (n + 1) % m
mod-next n m =
    let e : m * (n / m) + n % m ≡ n = div-add-mod n m in
    let f : n + 1 ≡ m * (n / m) + (n % m + 1) = omega arith in
    sym (ap (λ k. k % m) f ∙ mul-add-mod_self_left m (n / m) (n % m + 1))

-- the next member after the one with this turn has the next turn
pub next-turn : (members n : ℕ) → 0 < size members → next members (at members (n % size members)) ≡ at members ((n + 1) % size members)
next-turn members n some =
    let p : position_of members (at members (n % size members)) ≡ n % size members = position_of-at members (n % size members) (mod-lt n some) in
    ap (at members) (ap (λ k. (k + 1) % size members) p ∙ mod-next n (size members))

pub at-low : (members n : ℕ) → 0 < size members → 1 ≤ at members (n % size members)
at-low members n some = ((at_member members (n % size members) (mod-lt n some)).0).0
