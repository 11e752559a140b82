-- The members of a group are processors of the world.
use Rattle.std.proofs.Common.{◌≡◌, ℕ, ◌<◌, ◌≤◌, true}
use Rattle.ring_base.specs.Processors.{within, everybody, intersection, size, at}
use Rattle.ring_base.specs.Members.{everybody_members, intersection_members, within_members}
use Rattle.ring_base.specs.Elements.{at_member}

pub within_intersection : (a count : ℕ) → within (intersection a (everybody count)) (everybody count) ≡ true
within_intersection a count = (within_members (intersection a (everybody count)) (everybody count)).1 (λ i m. ((intersection_members a (everybody count) i).0 m).1)

pub at_known : (group count k : ℕ) → within group (everybody count) ≡ true → k < size group → at group k ≤ count
at_known group count k inside lt =
    let everyone = (within_members group (everybody count)).0 inside (at group k) (at_member group k lt).1 in
    ((everybody_members count (at group k)).0 everyone).1

pub within_everybody : (count : ℕ) → within (everybody count) (everybody count) ≡ true
within_everybody count = (within_members (everybody count) (everybody count)).1 (λ i m. m)
