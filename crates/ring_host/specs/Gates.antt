-- The points of a turn at which a gate is called.
-- Rules: The book and the threads 21 and 29
use Rattle.std.specs.Prelude.{ℕ, Option, IfSome}
use Rattle.ring_host.specs.declared.gate.GatePlace.{GatePlace}
use Rattle.ring_host.specs.declared.gate.GatePlace.TheVariants.{Held, Entered}

-- The node of a turn, if there is one, has reached both points.
abbrev pub HasPassed : (ℕ → GatePlace → Type 0) → Option ℕ → Type 0
HasPassed HasReached node = IfSome node (λ (n : ℕ). HasReached n Held × HasReached n Entered)
