-- How the names of rings are encoded.
-- Formats: Numbers and parts
use Rattle.std.proofs.Common.{◌≡◌, ℕ, ◌≤◌, Bool, true, false, List, [], ◌∷◌, ◌++◌, Option, Some, None, refl, arith, inl, inr}
use Rattle.std.specs.Prelude.{nat_le, ◌&&◌, ◌||◌, ◌==◌, if◌then◌else◌}
use Rattle.std.proofs.lemmas.Bool.{leb-true, le-leb, eqb-true, cases_Bool, and_parts}
use Rattle.byteorder.specs.Endian.{big_bytes}
use Rattle.ring_base.specs.Numbers.{max_number}
use Rattle.ring_base.specs.Processors.{IsProc, max_processors}
use Rattle.ring_base.specs.declared.ring_id.RingId.{RingId}
use Rattle.ring_codec.specs.Reading.{IsFormat, mapped_at, ◌⊕◌}
use Rattle.ring_codec.specs.Formats.{Format, byte_field, u64_field, ◌&◌, tested_format, fields_format}
use Rattle.ring_codec.specs.Processors.{proc}

-- ---- a number up to the greatest, `max_number`, in 8 bytes

-- whether the number is at most `max_number`
abbrev pub is_number : ℕ → Bool
is_number n = nat_le n max_number

-- the format of such numbers
abbrev pub number : Format ℕ
number = tested_format is_number u64_field

-- ---- a ring: its number in 8 bytes, and its representative in one

-- the encoding of a ring: 9 bytes
abbrev pub ring_encoding : RingId → List ℕ
ring_encoding r = big_bytes 8 r.seq ⊕ r.rep ∷ []

-- the limits of a ring
pub record RingFits (r : RingId) : Type 0 where
  pub seq : r.seq ≤ max_number
  pub rep : IsProc r.rep

-- the ring with this number and representative
abbrev ring_of : ℕ × ℕ → RingId
ring_of p = record { seq = p.0; rep = p.1 }

-- the format of these two
abbrev ring_fields : Format (ℕ × ℕ)
ring_fields = number & proc

-- reads a ring from the front
unfoldable pub ring_at : List ℕ → Option (RingId × List ℕ)
ring_at bytes = mapped_at ring_of ring_fields.at bytes

-- a ring is read exactly
pub ring_format : IsFormat ring_encoding RingFits ring_at
unfolding ring_at
ring_format = fields_format ring_fields ring_of ring_encoding RingFits (record {
  encoded = λ p f. refl;
  fits = λ p f. record { seq = leb-true _ _ f.0.1; rep = f.1 };
  back = λ r f. ((r.seq, r.rep), ((omega (arith, f.seq), le-leb _ _ f.seq), f.rep), refl);
})

-- the format of rings
abbrev pub ring : Format RingId
ring = record { encoding = ring_encoding; Fits = RingFits; at = ring_at; exact = ring_format }

-- ---- a ring of number at least 1, or none: nine bytes 0

-- the encoding of a ring or none: 9 bytes
abbrev pub some_ring_encoding : Option RingId → List ℕ
some_ring_encoding None = big_bytes 8 0 ⊕ 0 ∷ []
some_ring_encoding (Some r) = ring_encoding r

-- the limits of a ring or none
abbrev pub SomeRingFits : Option RingId → Type 0
SomeRingFits None = Unit {0}
SomeRingFits (Some r) = RingFits r × (1 ≤ r.seq)

-- whether the number and the representative encode none: both are 0
abbrev is_none_pair : ℕ × ℕ → Bool
is_none_pair p = (p.0 == 0) && (p.1 == 0)

-- whether the number and the representative are those of a ring of number at least 1
abbrev is_ring_pair : ℕ × ℕ → Bool
is_ring_pair p = nat_le 1 p.0 && (nat_le p.0 max_number && (nat_le 1 p.1 && nat_le p.1 max_processors))

-- whether they are those of a ring or none
abbrev some_ring_test : ℕ × ℕ → Bool
some_ring_test p = is_none_pair p || is_ring_pair p

-- the ring or none that they encode
abbrev some_ring_of : ℕ × ℕ → Option RingId
some_ring_of p = if is_none_pair p then None else Some (ring_of p)

-- the format of such numbers and representatives
abbrev pair : Format (ℕ × ℕ)
pair = tested_format some_ring_test (u64_field & byte_field)

-- reads a ring or none from the front
unfoldable pub some_ring_at : List ℕ → Option (Option RingId × List ℕ)
some_ring_at bytes = mapped_at some_ring_of pair.at bytes

ring_pair : (a b : ℕ) → is_none_pair (a, b) ≡ false → some_ring_test (a, b) ≡ true → ((1 ≤ a) × (a ≤ max_number)) × IsProc b
ring_pair a b n h =
    let r : is_ring_pair (a, b) ≡ true = rw n at h in
    let x = and_parts _ _ r in
    let y = and_parts _ _ x.1 in
    let z = and_parts _ _ y.1 in
    ((leb-true _ _ x.0, leb-true _ _ y.0), (leb-true _ _ z.0, leb-true _ _ z.1))

of_pair : (p : ℕ × ℕ) → some_ring_test p ≡ true → (some_ring_encoding (some_ring_of p) ≡ big_bytes 8 p.0 ++ p.1 ∷ []) × SomeRingFits (some_ring_of p)
of_pair p f = elim (cases_Bool (is_none_pair p)) [
  | inl e ↦
      let b = and_parts _ _ e in
      let z : p.0 ≡ 0 = eqb-true _ _ b.0 in
      let w : p.1 ≡ 0 = eqb-true _ _ b.1 in
      rw (e, z, w) (refl, tt)
  | inr e ↦
      let g = ring_pair p.0 p.1 e f in
      rw e (refl, (record { seq = g.0.1; rep = g.1 }, g.0.0))
]

back : (o : Option RingId) → SomeRingFits o → (p : ℕ × ℕ) × pair.Fits p × (some_ring_of p ≡ o)
back None f = ((0, 0), ((omega arith, omega arith), refl), refl)
back (Some r) f =
    let n : (r.seq == 0) ≡ false = elim (cases_Bool (r.seq == 0)) [ inl e ↦ absurd (omega (arith, eqb-true _ _ e, f.1)) | inr e ↦ e ] in (
      (r.seq, r.rep),
      (
        (omega (arith, f.0.seq), omega (arith, f.0.rep)),
        rw (
          n,
          le-leb _ _ f.1,
          le-leb _ _ f.0.seq,
          le-leb _ _ f.0.rep.0,
          le-leb _ _ f.0.rep.1,
        ) refl,
      ),
      rw n refl,
    )

-- a ring or none is read exactly
pub some_ring_format : IsFormat some_ring_encoding SomeRingFits some_ring_at
unfolding some_ring_at
some_ring_format = fields_format pair some_ring_of some_ring_encoding SomeRingFits (record {
  encoded = λ p f. (of_pair p f.1).0;
  fits = λ p f. (of_pair p f.1).1;
  back = back;
})

-- the format of a ring or none
abbrev pub some_ring : Format (Option RingId)
some_ring = record { encoding = some_ring_encoding; Fits = SomeRingFits; at = some_ring_at; exact = some_ring_format }
