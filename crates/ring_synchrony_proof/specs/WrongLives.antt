-- Wrong lives, each wrong in one thing: the outputs of two processors in the first ring and on the way to the second,
-- what they held, and the rings that they took part in. They are no lives of a run.
use Rattle.std.specs.Prelude.{ℕ, List, [], ◌∷◌, ◌++◌, map, filter_map, Option, Some, None, reverse}
use Rattle.std.specs.declared.alloc.Global.{Global}
use Rattle.ring_base.specs.Processors.{only}
use Rattle.ring_base.specs.declared.ring_id.RingId.{RingId}
use Rattle.ring_payload.specs.declared.content.Payload.TheVariants.{End}
use Rattle.ring_wire.specs.declared.message.Message.{Message}
use Rattle.ring_core_spec.specs.Commits.{Configuration}
use Rattle.ring_core_spec.specs.declared.out.Out.{Out}
use Rattle.ring_core_spec.specs.declared.out.Out.TheVariants.{Send, Agreed, Safe, Trans, Rest, Regular}
use Rattle.ring_core_spec.specs.State.{Core, opening_ring, opening}
use Rattle.ring_core_proof.specs.Worlds.{World, with_core}
use Rattle.ring_core_proof.specs.Samples.{ring_of, first_ring, second_ring, call_at, message_of}

-- The messages that both hold of the first ring: two Ends, and calls 3, 4 and 5 of processor 2

-- The Ends.
abbrev pub two_ends : List (Message Global)
two_ends = message_of first_ring 2 2 End ∷ message_of first_ring 1 1 End ∷ []

-- The calls.
abbrev pub three_calls : List (Message Global)
three_calls = call_at 2 5 ∷ call_at 2 4 ∷ call_at 2 3 ∷ []

-- Processor i of two, which holds these messages.
abbrev pub holder : ℕ → List (Message Global) → Core Global
holder i held = record (opening 2 i) { held = held }

-- Outputs of one processor

-- It installs a ring of these members after its opening ring.
abbrev pub into : ℕ → ℕ → RingId → List (Out Global)
into members i ring = Trans (ring_of 0 i) ring (only i) ∷ Regular ring members ∷ []

-- Call 3 is agreed and safe.
abbrev pub gets_third : List (Out Global)
gets_third = Agreed first_ring 3 (call_at 2 3) ∷ Safe first_ring 3 ∷ []

-- Calls 4 and 5 are agreed.
abbrev pub gets_two : List (Out Global)
gets_two = Agreed first_ring 4 (call_at 2 4) ∷ Agreed first_ring 5 (call_at 2 5) ∷ []

-- It goes to a ring of these members, with these numbers as the rest of the first ring.
abbrev pub on_to : RingId → ℕ → ℕ → List ℕ → List (Out Global)
on_to ring transitional_members members numbers = Trans first_ring ring transitional_members ∷ (map (λ n. Rest first_ring n (call_at 2 n)) numbers ++ Regular ring members ∷ [])

-- Its whole life, with these members of the second ring and this rest.
abbrev pub life_with : ℕ → List ℕ → ℕ → List (Out Global)
life_with members numbers i = into 3 i first_ring ++ (gets_third ++ (gets_two ++ on_to second_ring 3 members numbers))

-- Both

-- Outputs with the number of their processor.
abbrev pub given_by : ℕ → List (Out Global) → List (ℕ × Out Global)
given_by i outs = map (λ o. (i, o)) outs

-- The configuration that an output installs.
abbrev pub installed_by : Out Global → Option Configuration
installed_by (Regular ring members) = Some (record { ring = ring; members = members })
installed_by (Send to frame) = None
installed_by (Agreed ring n x) = None
installed_by (Safe ring upto) = None
installed_by (Trans old new members) = None
installed_by (Rest ring n x) = None

-- The core of processor i, which took part in its opening ring and in these, oldest first.
abbrev pub with_rings : ℕ → List Configuration → Core Global → Core Global
with_rings i rings c = record c { rings = reverse (opening_ring i ∷ rings) }

-- A world of two with these cores and these outputs.
abbrev pub world_of_cores : Core Global → Core Global → List (Out Global) → List (Out Global) → World Global
world_of_cores one two first second =
    record { total = 2; cores = with_core (with_core (opening 2) 1 one) 2 two; frames = []; outs = given_by 1 first ++ given_by 2 second }

-- The same, but each took part in the rings that its outputs install.
abbrev pub world_with : Core Global → Core Global → List (Out Global) → List (Out Global) → World Global
world_with one two first second =
    world_of_cores (with_rings 1 (filter_map installed_by first) one) (with_rings 2 (filter_map installed_by second) two) first second

-- The same, but both hold all messages.
abbrev pub both_with : List (Out Global) → List (Out Global) → World Global
both_with first second = world_with (holder 1 (three_calls ++ two_ends)) (holder 2 (three_calls ++ two_ends)) first second

-- Nothing is wrong.
abbrev pub right_lives : World Global
right_lives = both_with (life_with 3 (4 ∷ 5 ∷ []) 1) (life_with 3 (4 ∷ 5 ∷ []) 2)

-- One transitional member lacks a delivery that the other has.
abbrev pub lacks_delivery : World Global
lacks_delivery = both_with (life_with 3 (4 ∷ []) 1) (life_with 3 (4 ∷ 5 ∷ []) 2)

-- The rest comes out of order.
abbrev pub rest_out_of_order : World Global
rest_out_of_order = both_with (life_with 3 (5 ∷ 4 ∷ []) 1) (life_with 3 (5 ∷ 4 ∷ []) 2)

-- The last message of processor 2 is lost at the change, at both.
abbrev pub own_message_lost : World Global
own_message_lost = both_with (life_with 3 (4 ∷ []) 1) (life_with 3 (4 ∷ []) 2)

-- Processor 2 is no member of the second ring, which both install.
abbrev pub without_own_node : World Global
without_own_node = both_with (life_with 1 (4 ∷ 5 ∷ []) 1) (life_with 1 (4 ∷ 5 ∷ []) 2)

-- Call 3 is safe at processor 1, and processor 2 never received it.
abbrev pub never_got : World Global
never_got = world_with (holder 1 (call_at 2 3 ∷ two_ends)) (holder 2 two_ends) (into 3 1 first_ring ++ gets_third) (into 3 2 first_ring)

-- Processor 2 received it, and never installed the first ring.
abbrev pub never_installed : World Global
never_installed = world_with (holder 1 (call_at 2 3 ∷ two_ends)) (holder 2 (call_at 2 3 ∷ two_ends)) (into 3 1 first_ring ++ gets_third) []

-- Processor 1 received it, and went on alone without delivering it.
abbrev pub left_without : World Global
left_without =
    world_with (holder 1 (call_at 2 3 ∷ two_ends)) (holder 2 (call_at 2 3 ∷ two_ends))
    (into 3 1 first_ring ++ (Agreed first_ring 3 (call_at 2 3) ∷ on_to second_ring 1 1 [])) (into 3 2 first_ring ++ gets_third)

-- An agreed call is left out.
abbrev pub agreed_left_out : World Global
agreed_left_out =
    world_with (holder 1 (call_at 2 4 ∷ call_at 2 3 ∷ two_ends)) (holder 2 (call_at 2 4 ∷ call_at 2 3 ∷ two_ends))
    (into 3 1 first_ring ++ (Agreed first_ring 4 (call_at 2 4) ∷ [])) (into 3 2 first_ring)

-- Numbers of outputs

-- A world in which both hold call 3 of the first ring, with these outputs.
abbrev pub third_with : List (Out Global) → List (Out Global) → World Global
third_with first second = world_with (holder 1 (call_at 2 3 ∷ two_ends)) (holder 2 (call_at 2 3 ∷ two_ends)) first second

-- `Safe` first covers call 3, and then only number 2.
abbrev pub safe_falls : World Global
safe_falls = third_with (into 3 1 first_ring ++ (gets_third ++ Safe first_ring 2 ∷ [])) (into 3 2 first_ring ++ gets_third)

-- Call 3 is agreed as number 4.
abbrev pub agreed_as_another : World Global
agreed_as_another = third_with (into 3 1 first_ring ++ (Agreed first_ring 4 (call_at 2 3) ∷ [])) (into 3 2 first_ring ++ gets_third)

-- Call 3 is the rest of the first ring as number 4.
abbrev pub rest_as_another : World Global
rest_as_another =
    third_with (into 3 1 first_ring ++ (Agreed first_ring 3 (call_at 2 3) ∷ Trans first_ring second_ring 1 ∷ Rest first_ring 4 (call_at 2 3) ∷ Regular second_ring 1 ∷ []))
    (into 3 2 first_ring ++ (Agreed first_ring 3 (call_at 2 3) ∷ []))

-- Members of configurations

-- A world in which neither holds anything, with these outputs.
abbrev pub silent_with : List (Out Global) → List (Out Global) → World Global
silent_with first second = world_with (holder 1 []) (holder 2 []) first second

-- Processor 1 names only itself as a member, processor 2 names both.
abbrev pub named_apart : World Global
named_apart = silent_with (into 1 1 first_ring) (into 3 2 first_ring)

-- Both name a third member, which isn't of the group.
abbrev pub names_a_stranger : World Global
names_a_stranger = silent_with (into 7 1 first_ring) (into 7 2 first_ring)

-- Processor 1 goes on with processor 2, which wasn't in the first ring.
abbrev pub joined_by_an_outsider : World Global
joined_by_an_outsider =
    silent_with (into 1 1 first_ring ++ (Trans first_ring second_ring 3 ∷ Regular second_ring 3 ∷ [])) (into 3 2 second_ring)

-- Processor 1 goes on with processor 2, which was alone in a ring between the two.
abbrev pub joined_after_another : World Global
joined_after_another =
    silent_with (into 3 1 first_ring ++ (Trans first_ring (ring_of 3 1) 3 ∷ Regular (ring_of 3 1) 3 ∷ []))
    (into 3 2 first_ring ++ (Trans first_ring (ring_of 2 2) 2 ∷ Regular (ring_of 2 2) 2 ∷ Trans (ring_of 2 2) (ring_of 3 1) 2 ∷ Regular (ring_of 3 1) 3 ∷ []))

-- Processor 1 goes on alone, though processor 2 came from the first ring too.
abbrev pub companion_left_out : World Global
companion_left_out = silent_with (into 3 1 first_ring ++ (Trans first_ring second_ring 1 ∷ Regular second_ring 3 ∷ [])) (into 3 2 first_ring)

-- Configurations of no ring that a processor took part in

-- Both took part in the first ring; processor 1, which holds a call that processor 2 lacks, names only itself as its
-- member, and delivers the call as safe; processor 2 never installed the ring.
abbrev pub named_alone : World Global
named_alone =
    let both = record { ring = first_ring; members = 3 } ∷ [] in
    world_of_cores (with_rings 1 both (holder 1 (call_at 2 3 ∷ two_ends))) (with_rings 2 both (holder 2 two_ends)) (into 1 1 first_ring ++ gets_third) []

-- A ring of only processor 2 is named as one of both, and its End is safe.
abbrev pub named_as_shared : World Global
named_as_shared =
    let ring = ring_of 3 2 in
    world_of_cores (holder 1 []) (with_rings 2 (record { ring = ring; members = 2 } ∷ []) (holder 2 (message_of ring 1 2 End ∷ [])))
    [] (into 3 2 ring ++ Safe ring 1 ∷ [])

-- The first ring is the newest that processor 1 installed, and its life ends on the way to another, with a third
-- processor.
abbrev pub ends_on_the_way : World Global
ends_on_the_way = silent_with (into 3 1 first_ring ++ (Trans first_ring second_ring 7 ∷ [])) (into 3 2 first_ring)
