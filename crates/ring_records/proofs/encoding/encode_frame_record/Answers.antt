-- A frame within its limits is short, so its length fits two bytes.
use Rattle.std.proofs.Common.{◌≡◌, ◌+◌, ◌++◌, ℕ, List, length, refl, ap, ◌∙◌, arith}
use Rattle.byteorder.specs.Endian.{big_bytes}
use Rattle.ring_wire.specs.Frames.{encoding_of, length-frame}
use Rattle.ring_records.proofs.Records.{frame_behind}
use Rattle.ring_records.proofs.encoding.encode_frame_record.Goals as goal

pub overflow_cast-len : goal.overflow_cast-len
overflow_cast-len g c =
    let text = encoding_of c.args.frame.now in
    let items : c.put.new.out.items ≡ text = c.in_ok-put.ensures.ok ∙ ap (λ (xs : List ℕ). xs ++ text) c.clear.ensures.items in
    omega (arith, c.len.ensures.value, ap length items, length-frame c.args.frame.now c.requires)

pub returns-clause-ok : goal.returns-clause-ok
returns-clause-ok g c =
    let to = c.args.to in
    let text = encoding_of c.args.frame.now in
    let items : c.put.new.out.items ≡ text = c.in_ok-put.ensures.ok ∙ ap (λ (xs : List ℕ). xs ++ text) c.clear.ensures.items in
    let long : 2 + c.len.result ≡ length (big_bytes 2 to ++ text) = omega (arith, c.len.ensures.value, ap length items) in
    let count : c.write_u16.new.buf ≡ big_bytes 2 (length (big_bytes 2 to ++ text)) = c.write_u16.ensures ∙ ap (λ (n : ℕ). big_bytes 2 n) long in
    let receivers : c.write_u16-2.new.buf ≡ big_bytes 2 to = (rw count at c.write_u16-2.ensures) ∙ ap (λ (n : ℕ). big_bytes 2 n) c.bits.ensures.value in
    frame_behind _ _ _ _ _ text to c.in_ok-extend_from_slice.ensures.ok c.in_ok-extend_from_slice-2.ensures.ok
    (c.as_slice.ensures ∙ items) (rw (count, receivers) refl)
