-- Appending in two steps appends the one text after the other.
use Rattle.std.proofs.Common.{ℕ, List, ◌++◌, ap, ◌∙◌, append_assoc, arith}
use Rattle.std.proofs.lemmas.List.{length-append}
use Rattle.bytes.specs.Filled.{Filled}
use Rattle.ring_codec.specs.Reading.{Appends}

pub and_then : {old mid new : Filled} {a b : List ℕ} → Appends old mid a → Appends mid new b → Appends old new (a ++ b)
and_then {old} {mid} {new} {a} {b} p q = record {
  items = q.items ∙ ap (λ (m : List ℕ). m ++ b) p.items ∙ append_assoc old.items a b;
  room = omega (arith, length-append a b, p.room, q.room);
}
