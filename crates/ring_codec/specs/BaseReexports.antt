-- Definitions of numbers, processors and rings, re-exported for the crates of frames.
pub use Rattle.ring_base.specs.Elements.{size_le}
pub use Rattle.ring_base.specs.Prefixes.{IsListPrefix}
pub use Rattle.ring_base.specs.Members.{has_member, member_had, nobody_member, only_members, union_members, within_members}
pub use Rattle.ring_base.specs.Numbers.{greatest, has_bit, max_number, max_frame_bytes, window_size}
pub use Rattle.ring_base.specs.Processors.{IsMember, IsProc, IsSubset, at, elements, has, less, nobody, only, size, smallest, union, within}
pub use Rattle.ring_base.specs.Rings.{same_ring}
pub use Rattle.ring_base.specs.declared.fault.Fault.{Fault}
pub use Rattle.ring_base.specs.declared.ring_id.RingId.{RingId}
