-- The user messages that a window keeps of its ring, and their outputs.
-- Rules: Outputs 3 and 4
use Rattle.std.specs.Prelude.{ℕ, ◌+◌, ◌-◌, nat_lt, if◌then◌else◌, List, [], ◌∷◌, map, filter, filter_map, Option, Some, None}
use Rattle.ring_base.specs.Numbers.{numbers_from}
use Rattle.ring_base.specs.declared.ring_id.RingId.{RingId}
use Rattle.ring_payload.specs.PayloadKinds.{is_user}
use Rattle.ring_wire.specs.declared.message.Message.{Message}
use Rattle.ring_window.specs.Held.{found}
use Rattle.ring_window.specs.Windows.{WindowHistory}
use Rattle.ring_core_spec.specs.declared.out.Out.{Out}
use Rattle.ring_core_spec.specs.declared.out.Out.TheVariants.{Agreed, Safe}

-- The user messages above one number, up to another.
abbrev pub users_in : {A : Type 0} → WindowHistory A → ℕ → ℕ → List (Message A)
users_in w below upto = filter (λ (x : Message _). is_user x.payload) (filter_map (found w.held w.ring) (numbers_from (below + 1) (upto - below)))

-- Those messages as outputs.
abbrev pub agreed_in : {A : Type 0} → WindowHistory A → ℕ → ℕ → List (Out A)
agreed_in w below upto = map (λ x. Agreed w.ring x.number x) (users_in w below upto)

-- The output of one message, if it is a user message.
abbrev pub agreed_of : {A : Type 0} → RingId → Message A → List (Out A)
agreed_of ring x = if is_user x.payload then Agreed ring x.number x ∷ [] else []

-- The message, if it is a user message.
abbrev pub user_of : {A : Type 0} → Message A → List (Message A)
user_of x = if is_user x.payload then x ∷ [] else []

-- The message, if there is one and it is a user message.
abbrev pub user_if_there : {A : Type 0} → Option (Message A) → List (Message A)
user_if_there None = []
user_if_there (Some x) = user_of x

-- The output of a safe mark, if it rose.
abbrev pub safe_to : {A : Type 0} → RingId → ℕ → ℕ → List (Out A)
safe_to ring before mark = if nat_lt before mark then Safe ring mark ∷ [] else []
