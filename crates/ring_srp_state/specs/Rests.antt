-- The outputs of the old ring's messages in a transitional configuration, message by message.
-- Rules: Outputs 5
use Rattle.std.specs.Prelude.{ℕ, List, [], ◌∷◌, map, filter, filter_map}
use Rattle.ring_payload.specs.PayloadKinds.{is_user}
use Rattle.ring_wire.specs.declared.message.Message.{Message}
use Rattle.ring_window.specs.Windows.{WindowHistory, message_above_mark}
use Rattle.ring_core_spec.specs.declared.out.Out.{Out}
use Rattle.ring_core_spec.specs.declared.out.Out.TheVariants.{Rest}

-- The output of one message in the transitional configuration, if it is a user message.
abbrev pub rest_one : {A : Type 0} → Message A → List (Out A)
rest_one x = map (λ (y : Message _). Rest y.ring y.number y) (filter (λ (y : Message _). is_user y.payload) (x ∷ []))

-- The outputs of the messages of these numbers that the window still has.
abbrev pub rest_of : {A : Type 0} → WindowHistory A → List ℕ → List (Out A)
rest_of w ns = map (λ (x : Message _). Rest x.ring x.number x) (filter (λ (x : Message _). is_user x.payload) (filter_map (message_above_mark w) ns))
