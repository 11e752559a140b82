-- The copies that frames open, one for each receiver.
-- Formats: Pump
use Rattle.std.specs.Prelude.{◌≡◌, ℕ, suc, ◌-◌, ◌^◌, ◌≤◌, List, [], ◌∷◌, ◌++◌, map, length, take, drop, Option, Some, None}
use Rattle.ring_base.specs.Processors.{elements}
use Rattle.ring_object.specs.Operations.{Sequential}
use Rattle.ring_core_spec.specs.State.{Transmission}
use Rattle.ring_world.specs.WorldView.{WorldView, world_of}
use Rattle.ring_world.specs.declared.open_copies.OpenCopy.{OpenCopy}
use Rattle.ring_world.specs.declared.open_copies.OpenCopies.{OpenCopies}

-- the frames sent so far
abbrev pub frames_of : {O A : Type 0} → Sequential O → WorldView A → List (Transmission A)
frames_of object p = (world_of object p).frames

-- the copies of one frame, by receiver
abbrev pub copies_of_frame : ℕ → ℕ → ℕ → List OpenCopy
copies_of_frame number sender receivers = map (λ (receiver : ℕ). record { frame = number; sender = sender; receiver = receiver }) (elements receivers)

-- the copies of these frames, numbered from `before` + 1, by number, then by receiver
abbrev pub copies_after : {A : Type 0} → ℕ → List (Transmission A) → List OpenCopy
copies_after before [] = []
copies_after before (f ∷ fs) = copies_of_frame (suc before) f.from f.to ++ copies_after (suc before) fs

-- the frames that a pump reaches: those whose number fits in a u64
abbrev pub within_reach : {A : Type 0} → List (Transmission A) → List (Transmission A)
within_reach frames = take (2 ^ 64 - 1) frames

-- the copies that all these frames open
abbrev pub all_copies : {A : Type 0} → List (Transmission A) → List OpenCopy
all_copies frames = copies_after 0 (within_reach frames)

-- the copies opened by the frames sent since the list was `old`
abbrev pub opened_since : {A : Type 0} → List (Transmission A) → List (Transmission A) → List OpenCopy
opened_since old new = drop (length (all_copies old)) (all_copies new)

-- the open copies: those left of one frame, and all of each later frame
abbrev pub open_copies_from : {A : Type 0} → OpenCopies → List (Transmission A) → List OpenCopy
open_copies_from p frames = copies_of_frame p.reached_frame p.sender p.open_receivers ++ copies_after p.reached_frame (drop p.reached_frame (within_reach frames))

-- the frame with open copies was sent, or its number is 0
abbrev pub IsReached : {A : Type 0} → OpenCopies → List (Transmission A) → Type 0
IsReached p frames = p.reached_frame ≤ length (within_reach frames)

-- the first copy is taken, if there is one
abbrev pub IsFirstCopyTaken : List OpenCopy → Option OpenCopy → List OpenCopy → Type 0
IsFirstCopyTaken old None new = (old ≡ []) × (new ≡ old)
IsFirstCopyTaken old (Some pair) new = old ≡ pair ∷ new
