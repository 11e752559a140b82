-- Definitions of numbers, processors and rings, re-exported for frames.
pub use Rattle.ring_codec.specs.BaseReexports.{IsMember, IsProc, IsSubset, RingId, at, elements, greatest, has, has_bit, has_member, less, max_number}
pub use Rattle.ring_codec.specs.BaseReexports.{member_had, nobody, nobody_member, only, only_members, same_ring, size, size_le, smallest, union}
pub use Rattle.ring_codec.specs.BaseReexports.{max_frame_bytes, union_members, window_size, within, within_members}
