-- The outputs of the messages of some numbers are those of each of them.
use Rattle.std.proofs.Common.{◌≡◌, ℕ, List, [], ◌∷◌, ◌++◌, map, filter, filter_map, Option, Some, None, ap, ◌∙◌, sym}
use Rattle.std.specs.List.{cons_option}
use Rattle.std.proofs.lemmas.List.{map-append}
use Rattle.std.proofs.lemmas.List.Elements.{filter-append, filter_map-append}
use Rattle.ring_payload.specs.PayloadKinds.{is_user}
use Rattle.ring_wire.specs.declared.message.Message.{Message}
use Rattle.ring_window.specs.Windows.{WindowHistory, message_above_mark}
use Rattle.ring_core_spec.specs.declared.out.Out.TheVariants.{Rest}
use Rattle.ring_srp_state.specs.Rests.{rest_one, rest_of}

pub rest_parts : {A : Type 0} (w : WindowHistory A) (ms ns : List ℕ) → rest_of w (ms ++ ns) ≡ rest_of w ms ++ rest_of w ns
rest_parts {A} w ms ns =
    let out = λ (x : Message A). Rest x.ring x.number x in
    let users_only = λ (x : Message A). is_user x.payload in
    let a = filter_map (message_above_mark w) ms in
    let b = filter_map (message_above_mark w) ns in
    ap (λ (xs : List (Message A)). map out (filter users_only xs)) (filter_map-append (message_above_mark w) ms ns)
    ∙ ap (map out) (filter-append users_only a b)
    ∙ map-append out (filter users_only a) (filter users_only b)

-- the outputs of one number
pub rest_some : {A : Type 0} (w : WindowHistory A) (n : ℕ) (x : Message A) → message_above_mark w n ≡ Some x → rest_one x ≡ rest_of w (n ∷ [])
rest_some {A} w n x h = ap (λ (o : Option (Message A)). map (λ (y : Message A). Rest y.ring y.number y) (filter (λ (y : Message A). is_user y.payload)
    (cons_option o []))) (sym h)

pub rest_none : {A : Type 0} (w : WindowHistory A) (n : ℕ) → message_above_mark w n ≡ None → [] ≡ rest_of w (n ∷ [])
rest_none {A} w n h = ap (λ (o : Option (Message A)). map (λ (y : Message A). Rest y.ring y.number y) (filter (λ (y : Message A). is_user y.payload)
    (cons_option o []))) (sym h)
