-- Definitions of numbers, processors and rings, re-exported for the parts of a ring core.
pub use Rattle.ring_payload.specs.Base.{IsMember, RingId, at, greatest, has, has_member, less, max_number, nobody, nobody_member, only, only_members}
pub use Rattle.ring_payload.specs.Base.{same_ring, size, size_le, smallest, union, union_members, within, within_members}
