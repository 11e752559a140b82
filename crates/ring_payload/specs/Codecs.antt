-- Definitions of formats and of reading, re-exported for frames and snapshots.
pub use Rattle.ring_codec.specs.Reading.{Appends, IsReadResult, IsReadResultBy, repeated_at, sized_at, IsFormat, tested_at, mapped_at, ◌⊕◌, byte_at, ◌>>=◌}
pub use Rattle.ring_codec.specs.Reading.{IsBytes, IsReadRefusal, IsWord}
pub use Rattle.ring_codec.specs.Formats.{Format, byte_field, u16_field, ◌&◌, dependent_pair_format, repeated_format, tested_fields_format, u64_field, text, tested_format, length_prefixed_format, fields_format}
pub use Rattle.ring_codec.specs.Rings.{ring, ring_encoding, RingFits, some_ring_encoding, SomeRingFits}
pub use Rattle.ring_codec.specs.TaggedCases.{Case, tagged_case, tagged_cases_at, cases_at, IsMade, cases_format}
pub use Rattle.ring_codec.specs.ReadingLaws.{some_injective}
pub use Rattle.ring_codec.specs.Processors.{proc, proc_encoding, some_proc_encoding, SomeProcFits, some_proc}
pub use Rattle.ring_codec.specs.EncodedPrefixes.{IsEncodedPrefix, HasNoEncodedPrefix, IsReadFault, with_rest, IsReadIntoPlace, same_prefix, is_encoded_prefix, prefix_of_whole_encoding, encoded_prefix_is_read, refused_prefix, placed_prefix}
pub use Rattle.ring_codec.specs.EncodedPrefixes.{only_memory_refuses_reading, only_encoded_prefix_is_read, prefix_is_whole}
pub use Rattle.ring_codec.specs.Reading.{IsSplitAfter, number_at, raw_bytes_at, sequence_at}
pub use Rattle.ring_codec.specs.ReadingLaws.{IsSplitAfter-then, bind_some, passed_some, such_format, then_format}
pub use Rattle.ring_codec.specs.NumberFormats.{guard_some, number_format2}
pub use Rattle.ring_codec.specs.Formats.{u32_field}
