-- A world, and the open copies of its frames.
-- Formats: Pump
use Rattle.std.specs.Prelude.{◌≡◌, List, ◌++◌}
use Rattle.ring_object.specs.Operations.{Sequential}
use Rattle.ring_node_spec.specs.declared.event.Event.{Event}
use Rattle.ring_world.specs.WorldView.{WorldView, IsEventOutcome}
use Rattle.ring_world.specs.declared.open_copies.OpenCopy.{OpenCopy}
use Rattle.ring_world.specs.OpenCopies.{frames_of, opened_since}

-- the view of contracts
pub record PumpView (A : Type 0) : Type 0 where
  -- the world's events and their reports
  pub world_view : WorldView A
  -- the open copies, by the frame's number, then by receiver
  pub open_copies : List OpenCopy

-- nothing has changed
pub record IsUnchanged {A : Type 0} (old new : PumpView A) : Type 0 where
  pub group : new.world_view.group ≡ old.world_view.group
  pub events : new.world_view.events ≡ old.world_view.events
  pub told : new.world_view.told ≡ old.world_view.told
  pub done : new.world_view.done ≡ old.world_view.done
  pub open_copies : new.open_copies ≡ old.open_copies

-- the world has run an event, the frames that it sent have opened their copies, and the count of the last run stays
pub record HasRunEvent {O A : Type 0} (object : Sequential O) (e : Event A) (old new : PumpView A) : Type 0 where
  pub goes : IsEventOutcome object e old.world_view new.world_view
  pub done : new.world_view.done ≡ old.world_view.done
  pub open_copies : new.open_copies ≡ old.open_copies ++ opened_since (frames_of object old.world_view) (frames_of object new.world_view)
