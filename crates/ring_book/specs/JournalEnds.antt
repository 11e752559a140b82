-- The rings of the journals, and the name of a book that consists of them.
-- Rules: The book and the threads 12
use Rattle.std.specs.Prelude.{List}
use denote.RawPtr.{Ptr}
use Rattle.ring_base.specs.Group.{Group}
use Rattle.rtrb.specs.Shared.{Names}
use Rattle.rtrb.specs.declared.producer.Producer.{Producer}
use Rattle.rtrb.specs.declared.consumer.Consumer.{Consumer}
use Rattle.rtrb.specs.declared.AnyItems.{AnyItems}

-- the identity of a journal's ring
pub record Ring (A : Type 0) : Type 0 where
  pub words : Ptr
  pub slots : Ptr
  pub names : Names
  pub heap : A

-- a book's name: the group of its nodes, and the ring of each
pub record Name (A : Type 0) : Type 0 where
  pub group : Group
  pub rings : List (Ring A)

module _ {T A : Type 0} where
  -- a journal's ring, by the writing end
  abbrev pub ring_of_producer : Producer T A AnyItems → Ring A
  ring_of_producer p = record { words = p.end.words; slots = p.end.slots; names = p.end.names; heap = p.end.heap }

  -- a journal's ring, by the reading end
  abbrev pub ring_of_consumer : Consumer T A AnyItems → Ring A
  ring_of_consumer c = record { words = c.end.words; slots = c.end.slots; names = c.end.names; heap = c.end.heap }
