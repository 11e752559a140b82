-- The order of the names of rings, by number, then by representative, and how a ring is printed.
-- A last primary may be none, which is below every ring.
-- Rules: Rings and states 1
use Rattle.std.specs.Prelude.{◌≡◌, ℕ, ◌==◌, ◌&&◌, Bool, Option, List, ◌++◌, codes}
use Rattle.std.specs.declared.cmp.Ordering.{Ordering}
use Rattle.std.specs.declared.cmp.Ordering.TheVariants.{Less}
use Rattle.std.specs.Fmt.{decimal}
use Rattle.std.specs.Option.{option_cmp}
use Rattle.std.specs.Ordering.{nat_cmp, ordering_then}
use Rattle.ring_base.specs.declared.ring_id.RingId.{RingId}

-- whether the two names are equal
abbrev pub same_ring : RingId → RingId → Bool
same_ring a b = (a.seq == b.seq) && (a.rep == b.rep)

-- the comparison of two rings
abbrev pub ring_cmp : RingId → RingId → Ordering
ring_cmp a b = ordering_then (nat_cmp a.seq b.seq) (nat_cmp a.rep b.rep)

-- the comparison of two last primaries
abbrev pub primary_cmp : Option RingId → Option RingId → Ordering
primary_cmp a b = option_cmp ring_cmp a b

-- the first ring is below the second
abbrev pub IsBelow : RingId → RingId → Type 0
IsBelow a b = ring_cmp a b ≡ Less

-- the first last primary is below the second
abbrev pub IsPrimaryBelow : Option RingId → Option RingId → Type 0
IsPrimaryBelow a b = primary_cmp a b ≡ Less

-- the printed form of a ring: its number, a dot, its representative
abbrev pub ring_text : RingId → List ℕ
ring_text r = (decimal r.seq ++ codes ".") ++ decimal r.rep
