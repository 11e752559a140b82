-- A host, as contracts see it.
-- Rules: The book and the threads 19, 23 and 28
use Rattle.std.specs.Prelude.{ℕ}
use Rattle.atomic_table.specs.Seated.{TableId}

-- A host's gauge, to which its seats belong and which has a word for each node, the number of items for which each
-- inbox has room, and the latch, of type L, that closes the host.
pub record HostView (L : Type 0) : Type 0 where
  pub gauge : TableId
  pub inbox_size : ℕ
  pub closed : L
