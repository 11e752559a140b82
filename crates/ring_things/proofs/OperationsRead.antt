-- The bytes of an operation decode to it.
use Rattle.std.proofs.Common.{◌≡◌, ℕ, ◌^◌, ◌<◌, ◌≤◌, List, ◌∷◌, length, Some, ap, ◌∙◌}
use Rattle.std.proofs.lemmas.Bool.{cond-true, le-leb, and_from}
use Rattle.byteorder.specs.Endian.{big_bytes, big_number}
use Rattle.byteorder.specs.Numbers.{big_number-reads_back}
use Rattle.ring_things.specs.Numbers.{big_number-whole}
use Rattle.ring_things.specs.Counters as counters
use Rattle.ring_things.specs.Registers as registers
use Rattle.ring_things.specs.Queue as queue
use Rattle.ring_things.specs.Names.{decoding, name_operation, is_name}
use Rattle.ring_things.specs.declared.counters.CounterOperation.TheVariants.{Add}
use Rattle.ring_things.specs.declared.registers.RegisterOperation.TheVariants.{Put, CompareAndSet}
use Rattle.ring_things.specs.declared.queue.QueueOperation.TheVariants.{Push}

pub add_read : (key amount : ℕ) → amount < 2 ^ 64 → counters.decoding (counters.encoding (Add key amount)) ≡ Some (Add key amount)
add_read key amount fits = ap (λ n. Some (Add key n)) (big_number-whole 8 amount fits)

pub put_read : (key value : ℕ) → value < 2 ^ 64 → registers.decoding (registers.encoding (Put key value)) ≡ Some (Put key value)
put_read key value fits = ap (λ n. Some (Put key n)) (big_number-whole 8 value fits)

pub compare_and_set_read : (key expected new : ℕ) → expected < 2 ^ 64 → new < 2 ^ 64
    → registers.decoding (registers.encoding (CompareAndSet key expected new)) ≡ Some (CompareAndSet key expected new)
compare_and_set_read key expected new fits_expected fits_new =
    ap (λ n. Some (CompareAndSet key n (big_number 8 (big_bytes 8 new)))) (big_number-reads_back 8 expected (big_bytes 8 new) fits_expected)
    ∙ ap (λ n. Some (CompareAndSet key expected n)) (big_number-whole 8 new fits_new)

pub push_read : (value : ℕ) → value < 2 ^ 64 → queue.decoding (queue.encoding (Push value)) ≡ Some (Push value)
push_read value fits = ap (λ n. Some (Push n)) (big_number-whole 8 value fits)

pub named_read : (code : ℕ) (name : List ℕ) → 1 ≤ length name → length name ≤ 64 → decoding (code ∷ name) ≡ name_operation code name
named_read code name some short = cond-true (is_name name) _ _ (and_from _ _ (le-leb _ _ some) (le-leb _ _ short))
