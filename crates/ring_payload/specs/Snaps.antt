-- How pieces of snapshots are encoded: the number of places that the snapshot replaces, its length, the offset of the
-- piece, the number of its bytes, and the bytes.
-- Formats: Payloads
use Rattle.std.proofs.Common.{◌≡◌, ℕ, ◌-◌, ◌%◌, ◌<◌, ◌≤◌, Bool, true, List, length, Option, refl, arith, eq-eqb}
use Rattle.std.specs.Prelude.{nat_le, nat_lt, ◌&&◌, ◌==◌, min}
use Rattle.std.proofs.lemmas.Bool.{leb-true, le-leb, ltb-true, lt-ltb, eqb-true, and_parts}
use Rattle.byteorder.specs.Endian.{big_bytes}
use Rattle.ring_codec.specs.BaseReexports.{max_number}
use Rattle.ring_codec.specs.Reading.{IsFormat, mapped_at, ◌⊕◌}
use Rattle.ring_codec.specs.Formats.{Format, u16_field, u32_field, u64_field, text, ◌&◌, dependent_pair_format, tested_format, fields_format}
use Rattle.ring_payload.specs.declared.snap.Snap.{Snap}
use Rattle.ring_payload.specs.Limits.{max_snapshot, max_piece_bytes}

-- the length of the piece at an offset: all bytes that are left, but at most 7,000
abbrev pub piece_length : ℕ → ℕ → ℕ
piece_length total offset = min max_piece_bytes (total - offset)

-- the encoding of a piece: places in 8 bytes, the snapshot's length in 4, the offset in 4, the count in 2, and the
-- bytes
abbrev pub snap_encoding : {A : Type 0} → Snap A → List ℕ
snap_encoding s = big_bytes 8 s.at ⊕ big_bytes 4 s.total ⊕ big_bytes 4 s.offset ⊕ big_bytes 2 (length s.bytes) ⊕ s.bytes

-- the limits of a piece: its offset is a multiple of 7,000 within the snapshot, and it has the length of a piece there
pub record SnapFits {A : Type 0} (s : Snap A) : Type 0 where
  pub at_counted : 1 ≤ s.at
  pub at : s.at ≤ max_number
  pub total_counted : 1 ≤ s.total
  pub total : s.total ≤ max_snapshot
  pub offset : s.offset < s.total
  pub whole : s.offset % max_piece_bytes ≡ 0
  pub bytes : length s.bytes ≡ piece_length s.total s.offset

-- whether the four numbers before the bytes are within the limits, as a test
abbrev pub is_piece : ℕ → ℕ → ℕ → ℕ → Bool
is_piece at total offset count =
    nat_le 1 at && (nat_le at max_number && (nat_le 1 total && (nat_le total max_snapshot &&
    (nat_lt offset total && ((offset % max_piece_bytes == 0) && (count == piece_length total offset))))))

-- the four numbers before the bytes: places, the snapshot's length, the offset, the count
abbrev PieceFields : Type 0
PieceFields = ℕ × (ℕ × (ℕ × ℕ))

-- the format of these numbers within their limits
abbrev piece_numbers : Format PieceFields
piece_numbers = tested_format (λ p. is_piece p.0 p.1.0 p.1.1.0 p.1.1.1) (u64_field & u32_field & u32_field & u16_field)

-- the fields of a piece: the four numbers and the bytes
abbrev snap_fields : Format (PieceFields × List ℕ)
snap_fields = dependent_pair_format piece_numbers (λ p. text p.1.1.1)

-- the piece with these fields
abbrev from_fields : {A : Type 0} → PieceFields × List ℕ → Snap A
from_fields p = record { at = p.0.0; total = p.0.1.0; offset = p.0.1.1.0; bytes = p.1 }

-- reads a piece from the front
unfoldable pub snap_at : {A : Type 0} → List ℕ → Option (Snap A × List ℕ)
snap_at bytes = mapped_at from_fields snap_fields.at bytes

piece_fits : {A : Type 0} (p : PieceFields × List ℕ) → snap_fields.Fits p → SnapFits {A = A} (from_fields p)
piece_fits p f =
    let a = and_parts _ _ f.0.1 in
    let b = and_parts _ _ a.1 in
    let c = and_parts _ _ b.1 in
    let d = and_parts _ _ c.1 in
    let e = and_parts _ _ d.1 in
    let g = and_parts _ _ e.1 in
    record {
      at_counted = leb-true _ _ a.0;
      at = leb-true _ _ b.0;
      total_counted = leb-true _ _ c.0;
      total = leb-true _ _ d.0;
      offset = ltb-true _ _ e.0;
      whole = eqb-true _ _ g.0;
      bytes = omega (arith, f.1, eqb-true p.0.1.1.1 (piece_length p.0.1.0 p.0.1.1.0) g.1);
    }

is_piece_fits : {A : Type 0} (s : Snap A) → SnapFits s → is_piece s.at s.total s.offset (length s.bytes) ≡ true
is_piece_fits s f =
    let count = eq-eqb (length s.bytes) (piece_length s.total s.offset) f.bytes in
    rw (le-leb _ _ f.at_counted, le-leb _ _ f.at, le-leb _ _ f.total_counted, le-leb _ _ f.total, lt-ltb _ _ f.offset, eq-eqb _ _ f.whole, count) refl

-- a piece has at most 7,000 bytes
pub snap_short : {A : Type 0} (s : Snap A) → SnapFits s → length s.bytes ≤ max_piece_bytes
snap_short s f = omega (arith, f.bytes)

-- a piece is read exactly
pub snap_format : {A : Type 0} → IsFormat {A = Snap A} snap_encoding SnapFits snap_at
unfolding snap_at
snap_format {A} = fields_format snap_fields from_fields snap_encoding SnapFits (record {
  encoded = λ p f. rw f.1 refl;
  fits = piece_fits;
  back = λ s f.
      let short : length s.bytes ≤ max_piece_bytes = snap_short s f in (
        ((s.at, (s.total, (s.offset, length s.bytes))), s.bytes),
        (((omega (arith, f.at), (omega (arith, f.total), (omega (arith, f.total, f.offset), omega (arith, short)))), is_piece_fits s f), refl),
        refl,
      );
})

-- the format of pieces
abbrev pub snap : {A : Type 0} → Format (Snap A)
snap = record { encoding = snap_encoding; Fits = SnapFits; at = snap_at; exact = snap_format }
