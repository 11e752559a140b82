-- The record that was read is the one that is taken, and its output is written, in full or in part; or it is faulty, or less
-- than a record was read.
use Rattle.std.proofs.Common.{◌≡◌, false, inl, inr, refl, rules, arith}
use Rattle.std.specs.Prelude.{IsTrue}
use Rattle.ring_record_node.proofs.Served.{written_out, half_told}
use Rattle.ring_record_node.proofs.serving.serve_next.Goals as goal

pub returns-in-Err-BadFrame-clause-stop : goal.returns-in-Err-BadFrame-clause-stop
returns-in-Err-BadFrame-clause-stop g c = (refl, inr c.in-Err-BadFrame.ensures.part, refl)

pub returns-in-Err-clause-stop : goal.returns-in-Err-clause-stop
returns-in-Err-clause-stop g c = (search rules, inr c.in-Err.ensures.part, refl)

pub returns-in-Ok-false-clause-stop : goal.returns-in-Ok-false-clause-stop
returns-in-Ok-false-clause-stop g c =
    let is : c.in-Ok-false.field-0 ≡ false = search rules in
    let next = rw c.in-Ok-Some.field-0-is at c.in-Ok-Some.ensures.next in
    let left = rw c.as_slice.ensures.value at (c.in-Ok-false.ensures.left is) in
    (refl, inl (record { kind = c.in-Ok-Some.kind; bytes = c.read_record.new.bytes.items; short = next.1 }, next.0, left.0), refl)

pub returns-in-Err-take-clause-stop : goal.returns-in-Err-take-clause-stop
returns-in-Err-take-clause-stop g c =
    let next = rw c.in-Ok-Some.field-0-is at c.in-Ok-Some.ensures.next in
    (refl, inl (record { kind = c.in-Ok-Some.kind; bytes = c.read_record.new.bytes.items; short = next.1 }, next.0), refl)

pub returns-in-Ok-clause-next : goal.returns-in-Ok-clause-next
returns-in-Ok-clause-next g c =
    let is : IsTrue c.in-Ok-true.field-0 = search rules in
    let next = rw c.in-Ok-Some.field-0-is at c.in-Ok-Some.ensures.next in
    let taken = rw c.as_slice.ensures.value at (c.in-Ok-true.ensures.taken is) in
    let told = rw c.clear.ensures.items at taken in (
      record { kind = c.in-Ok-Some.kind; bytes = c.read_record.new.bytes.items; short = next.1 },
      next.0,
      written_out _ _ _ _ told (rw c.as_slice-2.ensures.value at c.in-Ok.ensures.all),
      omega (arith, c.saturating_add.ensures, c.len.ensures),
    )

pub returns-in-Err-write_out-clause-stop : goal.returns-in-Err-write_out-clause-stop
returns-in-Err-write_out-clause-stop g c =
    let is : IsTrue c.in-Ok-true.field-0 = search rules in
    let next = rw c.in-Ok-Some.field-0-is at c.in-Ok-Some.ensures.next in
    let taken = rw c.as_slice.ensures.value at (c.in-Ok-true.ensures.taken is) in
    let told = rw c.clear.ensures.items at taken in
    let part = rw c.as_slice-2.ensures.value at c.in-Err-write_out.ensures.front in (
      c.take.new.self,
      half_told g.O.Object.sequential _ _ (record { kind = c.in-Ok-Some.kind; bytes = c.read_record.new.bytes.items; short = next.1 }) _ part.0 _ _ _ _
          next.0 told part.1,
    )
