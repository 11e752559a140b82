-- Encodings at the front of bytes, re-exported with frames.
pub use Rattle.ring_payload.specs.Codecs.{IsEncodedPrefix, HasNoEncodedPrefix, IsReadFault, with_rest, IsReadIntoPlace, same_prefix, is_encoded_prefix, prefix_of_whole_encoding, encoded_prefix_is_read, refused_prefix, placed_prefix}
pub use Rattle.ring_payload.specs.Codecs.{only_memory_refuses_reading, only_encoded_prefix_is_read, prefix_is_whole}
