use Rattle.ring_world.proofs.MemoryRefused.{stops_exactly}
use Rattle.ring_world.proofs.memory_stops.stopped_for_memory_law.Goals as goal

pub returns : goal.returns
returns g c = λ e p q node plays. stops_exactly g.O.Object.sequential p e q node plays
