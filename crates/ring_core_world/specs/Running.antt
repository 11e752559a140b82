-- What the code of a world of ring cores keeps, and how that represents the world.
-- Rules: Rings and states 14 and 15
use Rattle.std.specs.Prelude.{◌≡◌, ℕ, Bool, true, false, not, ◌||◌, suc, ◌<◌, List, [], ◌∷◌, ◌++◌, filter_map, length, if◌then◌else◌}
use Rattle.std.specs.Prelude.{Option, Some, None, slice_get, Result, Ok, Err, Vec}
use Rattle.ring_base.specs.declared.fault.Fault.{Fault}
use Rattle.ring_base.specs.Processors.{has}
use Rattle.ring_wire.specs.declared.frame.Frame.{Frame}
use Rattle.ring_core_spec.specs.declared.out.Out.{Out}
use Rattle.ring_core_spec.specs.declared.out.Out.TheVariants.{Send as SendOut, Agreed, Safe, Trans, Rest, Regular}
use Rattle.ring_core_spec.specs.State.{Core, OutgoingFrame, Transmission}
use Rattle.ring_core_proof.specs.declared.event.RingEvent.{RingEvent}
use Rattle.ring_core_proof.specs.Worlds.{World, has_effect_on_formed, transmission_by, unformed, ring_formed, run}
use Rattle.ring_core_proof.specs.Limits.{WorldFits}

-- Openings and events

-- A run of a world of ring cores: the number of processors, the opening, and the events since.
pub record WorldRun (A : Type 0) : Type 0 where
  pub count : ℕ
  -- The opening is a formed ring; otherwise each processor is in Gather, alone.
  pub formed : Bool
  pub events : List (RingEvent A)

-- The world of this many processors after events, from one of the two openings.
abbrev pub ran_from : {A : Type 0} → Bool → ℕ → List (RingEvent A) → World A
ran_from false count events = run (unformed count) events
ran_from true count events = run (ring_formed count) events

-- The world to which a run leads.
abbrev pub world_of : {A : Type 0} → WorldRun A → World A
world_of r = ran_from r.formed r.count r.events

-- No event yet, from the opening in Gather.
abbrev pub empty_run : {A : Type 0} → ℕ → WorldRun A
empty_run n = record { count = n; formed = false; events = [] }

-- No event yet, from a formed ring.
abbrev pub empty_formed_run : {A : Type 0} → ℕ → WorldRun A
empty_formed_run n = record { count = n; formed = true; events = [] }

-- A run with one more event.
abbrev pub more : {A : Type 0} → WorldRun A → RingEvent A → WorldRun A
more r event = record r { events = r.events ++ event ∷ [] }

-- A run with more events.
abbrev pub run_extended : {A : Type 0} → WorldRun A → List (RingEvent A) → WorldRun A
run_extended r events = record r { events = r.events ++ events }

-- An event has an effect: from a formed ring some have, from Gather all.
abbrev pub acts : {A : Type 0} → Bool → RingEvent A → Bool
acts formed event = not formed || has_effect_on_formed event

-- What the code keeps

-- The frame that processor 1 sent at the opening of a formed ring, if there was one.
abbrev pub opening_frames : {A : Type 0} → Option (OutgoingFrame A) → List (Transmission A)
opening_frames None = []
opening_frames (Some s) = record { from = 1; to = s.to; frame = s.frame } ∷ []

-- The frame of an output, with its sender and receivers.
abbrev pub transmission_of : {A : Type 0} → ℕ × Out A → Option (Transmission A)
transmission_of given = transmission_by given.0 given.1

-- All frames among these outputs, in order.
abbrev pub frames_of : {A : Type 0} → List (ℕ × Out A) → List (Transmission A)
frames_of outs = filter_map transmission_of outs

-- The list of indices with this one added, if there is a frame.
abbrev pub places_with : {A : Type 0} → ℕ → Option (Transmission A) → List ℕ → List ℕ
places_with at None places = places
places_with at (Some f) places = at ∷ places

-- The indices of the frames among these outputs, if the first output has index `at`.
abbrev pub places_from : {A : Type 0} → ℕ → List (ℕ × Out A) → List ℕ
places_from at [] = []
places_from at (given ∷ outs) = places_with at (transmission_of given) (places_from (suc at) outs)

-- The outputs of a step, none if it was refused.
abbrev pub step_outputs : {A : Type 0} → Result (Vec (Out A) A) Fault → List (Out A)
step_outputs (Ok outs) = outs.items
step_outputs (Err fault) = []

-- The index of an output, if it is a send.
abbrev pub places_of : {A : Type 0} → ℕ → Out A → List ℕ
places_of at (SendOut to frame) = at ∷ []
places_of at (Agreed ring n x) = []
places_of at (Safe ring upto) = []
places_of at (Trans old new set) = []
places_of at (Rest ring n x) = []
places_of at (Regular ring set) = []

-- The frame of an output, if it is sent to processor i.
abbrev pub frame_in : {A : Type 0} → ℕ → Out A → Option (Frame A)
frame_in i (SendOut to frame) = if has to i then Some frame else None
frame_in i (Agreed ring n x) = None
frame_in i (Safe ring upto) = None
frame_in i (Trans old new set) = None
frame_in i (Rest ring n x) = None
frame_in i (Regular ring set) = None

-- The same for an output that may not exist.
abbrev pub frame_in_output : {A : Type 0} → ℕ → Option (ℕ × Out A) → Option (Frame A)
frame_in_output i None = None
frame_in_output i (Some given) = frame_in i given.1

-- The code's fields are those of this world, which is within the limits of frames: its cores in order, the frame of its
-- opening, if there was one, all outputs, and the indices of the frames among them.
pub record IsWorld {A : Type 0} (w : World A) (cores : List (Core A)) (first : Option (OutgoingFrame A)) (outs : List (ℕ × Out A)) (places : List ℕ) : Type 0 where
  pub cores_are : (i : ℕ) → i < w.total → slice_get cores i ≡ Some (w.cores (suc i))
  pub many : length cores ≡ w.total
  pub outs_are : w.outs ≡ outs
  pub frames_are : w.frames ≡ opening_frames first ++ frames_of outs
  pub places_are : places ≡ places_from 0 outs
  pub fits : WorldFits w

-- Worlds that run once

-- What contracts see of such a world: the number of processors, whether it has run yet, and the number of events done.
pub record SingleRun : Type 0 where
  pub count : ℕ
  -- It has not run yet.
  pub is_fresh : Bool
  -- The number of events done in the run.
  pub done : ℕ

-- There is a value.
abbrev pub is_there : {A : Type 0} → Option (WorldRun A) → Bool
is_there None = false
is_there (Some r) = true

-- The world, if it is still there, is as it was at the opening.
abbrev pub IsUnrun : {A : Type 0} → WorldRun A → Option (WorldRun A) → Type 0
IsUnrun opened None = Unit {0}
IsUnrun opened (Some r) = r ≡ opened
