-- The outputs of a step, in order: what is sent; what is agreed and safe of the ring that was installed at the start of
-- the step; and, if a ring is installed, the two configurations with their deliveries.
-- Rules: Outputs 1 to 7; Recovery 7
use Rattle.std.specs.Prelude.{ℕ, ◌+◌, ◌-◌, Bool, true, false, not, ◌==◌, nat_lt, if◌then◌else◌, Option, Some, None, List, [], ◌∷◌, ◌++◌, map, filter, filter_map}
use Rattle.ring_base.specs.Numbers.{numbers_from}
use Rattle.ring_base.specs.Processors.{nobody}
use Rattle.ring_base.specs.declared.ring_id.RingId.{RingId}
use Rattle.ring_token.specs.Frames.{Message}
use Rattle.ring_recover.specs.Windows.{found}
use Rattle.ring_token.specs.Payloads.{is_user}
use Rattle.ring_recover.specs.Installing.{is_ready}
use Rattle.ring_recover.specs.Deliveries.{is_complete, rest_messages}
use Rattle.ring_core_spec.specs.declared.out.Out.{Out}
use Rattle.ring_core_spec.specs.declared.out.Out.TheVariants.{Send, Agreed, Safe, Trans, Rest, Regular}
use Rattle.ring_base.specs.declared.state.State.{State}
use Rattle.ring_base.specs.declared.state.State.TheVariants.{Gather, Commit, Recovery, Operational, Stopped}
use Rattle.ring_core_spec.specs.State.{Core, OutgoingFrame, TransitionResult, StepResult}
use Rattle.ring_core_spec.specs.Views.{front, mark, plan}

-- Installing

-- Recovery is over, and the core holds every number that a transitional member holds.
abbrev pub ready_then_complete : {A : Type 0} → Bool → Core A → Bool
ready_then_complete false c = false
ready_then_complete true c = is_complete (plan c) c.held

-- A core in this state installs its running ring: in Recovery once both hold, in no other state.
abbrev pub installs_in : {A : Type 0} → State → Core A → Bool
installs_in Recovery c = ready_then_complete (is_ready c.held c.running.ring c.running.members (mark c c.running.ring)) c
installs_in Gather c = false
installs_in Commit c = false
installs_in Operational c = false
installs_in Stopped c = false

-- The core may install its running ring; a step that ends in such a core installs it.
abbrev pub may_install : {A : Type 0} → Core A → Bool
may_install c = installs_in c.state c

-- The core with its running ring installed.
abbrev pub install : {A : Type 0} → Core A → Core A
install c = record c { state = Operational; installed = c.running; installs = c.running ∷ c.installs }

-- Sends

-- The sends that have a receiver: a frame to nobody is no frame.
abbrev pub sends_with_receivers : {A : Type 0} → List (OutgoingFrame A) → List (OutgoingFrame A)
sends_with_receivers sends = filter (λ s. not (s.to == nobody)) sends

-- The sends as outputs.
abbrev pub sent : {A : Type 0} → List (OutgoingFrame A) → List (Out A)
sent sends = map (λ s. Send s.to s.frame) (sends_with_receivers sends)

-- The frame that an output sends, if any.
abbrev pub send_of : {A : Type 0} → Out A → Option (OutgoingFrame A)
send_of (Send to frame) = Some (record { to = to; frame = frame })
send_of (Agreed ring k x) = None
send_of (Safe ring upto) = None
send_of (Trans old new set) = None
send_of (Rest ring k x) = None
send_of (Regular ring set) = None

-- Deliveries

-- The user messages of a ring above one number, up to another.
abbrev pub user_messages_between : {A : Type 0} → Core A → RingId → ℕ → ℕ → List (Message A)
user_messages_between c ring below upto = filter (λ (x : Message _). is_user x.payload) (filter_map (found c.held ring) (numbers_from (below + 1) (upto - below)))

-- These messages of a ring as agreed.
abbrev pub all_agreed : {A : Type 0} → RingId → List (Message A) → List (Out A)
all_agreed ring xs = map (λ (x : Message _). Agreed ring x.number x) xs

-- The messages that the front newly covers, as agreed.
abbrev pub agreed_from : {A : Type 0} → Core A → RingId → ℕ → List (Out A)
agreed_from c ring before = all_agreed ring (user_messages_between c ring before (front c ring))

-- The new safe mark, if it rose.
abbrev pub safe_from : {A : Type 0} → Core A → RingId → ℕ → List (Out A)
safe_from c ring before = if nat_lt before (mark c ring) then Safe ring (mark c ring) ∷ [] else []

-- Both, for a ring whose front and mark were these.
abbrev pub delivered_from : {A : Type 0} → Core A → RingId → ℕ → ℕ → List (Out A)
delivered_from c ring front_before mark_before = agreed_from c ring front_before ++ safe_from c ring mark_before

-- Both, for the ring that was installed at the start of the step.
abbrev pub agreed_and_safe_of_step : {A : Type 0} → Core A → Core A → List (Out A)
agreed_and_safe_of_step old new = delivered_from new old.installed.ring (front old old.installed.ring) (mark old old.installed.ring)

-- The outputs of an installation: the transitional configuration with the rest of the old ring, then the regular one
-- with what is agreed and safe of the new ring.
abbrev pub installation_outputs : {A : Type 0} → Core A → List (Out A)
installation_outputs c =
    Trans c.installed.ring c.running.ring (plan c).transitional_members ∷
    (map (λ x. Rest x.ring x.number x) (rest_messages (plan c) c.held) ++ Regular c.running.ring c.running.members ∷ delivered_from c c.running.ring 0 0)

-- The end of a step: the core as it is, or with its running ring installed and the outputs of that added.
abbrev pub with_installation_if : {A : Type 0} → Bool → Core A → List (Out A) → StepResult A
with_installation_if false c outs = record { core = c; outs = outs }
with_installation_if true c outs = record { core = install c; outs = outs ++ installation_outputs c }

-- The result of a step, from the core before it and the applied transition: the sends, what is agreed and safe of the
-- ring that was installed, and perhaps an installation.
abbrev pub step_result : {A : Type 0} → Core A → TransitionResult A → StepResult A
step_result old did = with_installation_if (may_install did.core) did.core (sent did.sends ++ agreed_and_safe_of_step old did.core)
