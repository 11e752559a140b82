-- Definitions for the contracts of an allocator that refuses one request.
use Rattle.std.specs.Prelude.{◌≡◌, ℕ}
use Rattle.std.specs.Borrow.{Bor}
use Rattle.refusing_alloc.specs.declared.RefusingHeap.{RefusingHeap}

-- the number of requests before the one that is refused
abbrev pub refused_index : {B : Type 0} → RefusingHeap B → ℕ
refused_index heap = heap.requests.refused

-- a call whose results P describes may return r, with an allocator that refuses the request after n others
abbrev pub MayReturn : {B R : Type 0} → (Bor (RefusingHeap B) → R → Type 0) → ℕ → R → Type 0
MayReturn {B} P n r = (heap : Bor (RefusingHeap B)) × (refused_index heap.now ≡ n) × P heap r
