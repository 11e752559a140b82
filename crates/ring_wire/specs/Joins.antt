-- How joins are encoded.
-- Rules: Gather 2
-- Formats: Frames
use Rattle.std.proofs.Common.{ℕ, ◌^◌, ◌<◌, ◌≤◌, Bool, List, Option, refl, arith}
use Rattle.std.specs.Prelude.{nat_le, ◌&&◌, not}
use Rattle.std.proofs.lemmas.Bool.{leb-true, le-leb, and_parts, both_ways, not-true, not_from_false, false_from_ne_true}
use Rattle.byteorder.specs.Endian.{big_bytes}
use Rattle.ring_payload.specs.Base.{max_number, IsProc, IsMember, IsSubset, has, within, has_member, member_had, within_members}
use Rattle.ring_payload.specs.Codecs.{IsFormat, tested_at, mapped_at, ◌⊕◌, Format, u16_field, u64_field, ◌&◌, tested_fields_format, proc, proc_encoding}
use Rattle.ring_wire.specs.declared.join.Join.{Join}

-- the encoding of a join: its sender in one byte, its number in 8, `proc_set` in 2, `fail_set` in 2
abbrev pub join_encoding : Join → List ℕ
join_encoding j = proc_encoding j.sender ⊕ big_bytes 8 j.number ⊕ big_bytes 2 j.proc_set ⊕ big_bytes 2 j.fail_set

-- the limits of a join: its sender is in `proc_set` and not in `fail_set`, which is a subset of `proc_set`
pub record JoinFits (j : Join) : Type 0 where
  pub sender : IsProc j.sender
  pub number : j.number ≤ max_number
  pub proc_set : j.proc_set < 2 ^ 16
  pub fail_set : j.fail_set < 2 ^ 16
  pub sender_in : IsMember j.proc_set j.sender
  pub failed_in : IsSubset j.fail_set j.proc_set
  pub sender_alive : ¬ IsMember j.fail_set j.sender

-- whether the fields are within their limits, as a test
abbrev pub join_test : Join → Bool
join_test j = nat_le j.number max_number && (has j.proc_set j.sender && (within j.fail_set j.proc_set && not (has j.fail_set j.sender)))

-- the fields of a join, in order
abbrev JoinFields : Type 0
JoinFields = ℕ × (ℕ × (ℕ × ℕ))

-- the format of these fields
abbrev join_fields : Format JoinFields
join_fields = proc & u64_field & u16_field & u16_field

-- the join with these fields
abbrev from_fields : JoinFields → Join
from_fields p = record { sender = p.0; number = p.1.0; proc_set = p.1.1.0; fail_set = p.1.1.1 }

-- reads a join from the front
unfoldable pub join_at : List ℕ → Option (Join × List ℕ)
join_at bytes = tested_at join_test (mapped_at from_fields join_fields.at) bytes

-- a join is read exactly
pub join_format : IsFormat join_encoding JoinFits join_at
unfolding join_at
join_format = tested_fields_format join_fields from_fields join_test join_encoding JoinFits (record {
  encoded = λ p. refl;
  fits = λ p f passed.
      let a = and_parts _ _ passed in
      let b = and_parts _ _ a.1 in
      let c = and_parts _ _ b.1 in
      record {
        sender = f.0;
        number = leb-true _ _ a.0;
        proc_set = f.1.1.0;
        fail_set = f.1.1.1;
        sender_in = member_had p.1.1.0 p.0 f.0.0 b.0;
        failed_in = (within_members p.1.1.1 p.1.1.0).0 c.0;
        sender_alive = λ m. both_ways _ (not-true _ c.1) (has_member p.1.1.1 p.0 m);
      };
  back = λ j f. ((j.sender, (j.number, (j.proc_set, j.fail_set))), (f.sender, (omega (arith, f.number), (f.proc_set, f.fail_set))), refl);
  passes = λ j f.
      let alive = not_from_false _ (false_from_ne_true (has j.fail_set j.sender) (λ h. f.sender_alive (member_had j.fail_set j.sender f.sender.0 h))) in
      rw (le-leb _ _ f.number, has_member j.proc_set j.sender f.sender_in, (within_members j.fail_set j.proc_set).1 f.failed_in, alive) refl;
})

-- the format of joins
abbrev pub join : Format Join
join = record { encoding = join_encoding; Fits = JoinFits; at = join_at; exact = join_format }
