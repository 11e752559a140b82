-- Virtual synchrony as a test, fact by fact, to compute for worked runs, for random schedules and for wrong lives.
-- `tests_decide_facts_law` states that a test succeeds exactly if its fact holds.
-- Rules: Outputs 11
use Rattle.std.specs.Prelude.{ℕ, Bool, true, false, ◌&&◌, ◌||◌, ◌==◌, nat_lt, nat_le, if◌then◌else◌, List, [], ◌∷◌, ◌++◌, map, Option, Some, None}
use Rattle.std.specs.List.{list_all, list_any}
use Rattle.ring_base.specs.Numbers.{numbers_from}
use Rattle.ring_base.specs.Processors.{has, elements}
use Rattle.ring_base.specs.Rings.{same_ring}
use Rattle.ring_base.specs.declared.ring_id.RingId.{RingId}
use Rattle.ring_payload.specs.PayloadKinds.{is_user}
use Rattle.ring_wire.specs.declared.message.Message.{Message}
use Rattle.ring_core_spec.specs.Windows.{found}
use Rattle.ring_core_spec.specs.Commits.{Configuration}
use Rattle.ring_core_spec.specs.State.{Core}
use Rattle.ring_core_spec.specs.Views.{front}
use Rattle.ring_core_proof.specs.Worlds.{World, is_node}
use Rattle.ring_core_proof.specs.Texts.{text_of}
use Rattle.ring_core_proof.specs.Lives.{Stage, InRegular, InTransitional, has_ordered_outputs, delivered_in}
use Rattle.ring_core_proof.specs.CommitRounds.{is_above, all_pairs}
use Rattle.ring_synchrony_proof.specs.Changes.{stages_in, agreed_of, deliveries_of, users_upto, regulars_of, members_in, alternate, ends_in_regular, Change}
use Rattle.ring_synchrony_proof.specs.Changes.{changes_in, delivered_by}
use Rattle.ring_synchrony_proof.specs.Same.{same_message, same_messages}

-- Tests of all processors

-- Each processor of the world passes the test.
abbrev pub all_processors : {A : Type 0} → World A → (ℕ → Bool) → Bool
all_processors w test = list_all test (numbers_from 1 w.total)

-- The message is one of the list.
abbrev pub has_message : {A : Type 0} → Message A → List (Message A) → Bool
has_message x xs = list_any (same_message x) xs

-- The same ring, with the same members.
abbrev pub same_configuration : Configuration → Configuration → Bool
same_configuration a b = same_ring a.ring b.ring && (a.members == b.members)

-- `same_text`

-- The messages that these processors hold, of all rings.
abbrev pub all_held : {A : Type 0} → (ℕ → Core A) → List ℕ → List (Message A)
all_held cores [] = []
all_held cores (i ∷ is) = (cores i).held ++ all_held cores is

-- A message was found, and it is this one.
abbrev pub is_found : {A : Type 0} → Message A → Option (Message A) → Bool
is_found x None = false
is_found x (Some y) = same_message x y

-- Each message of the list is the first one of its ring and number.
abbrev pub are_one_text : {A : Type 0} → List (Message A) → Bool
are_one_text xs = list_all (λ (x : Message _). is_found x (found xs x.ring x.number)) xs

-- Each number of a ring has one sender and one payload, in all that is held in the world.
abbrev pub has_one_text : {A : Type 0} → World A → Bool
has_one_text w = are_one_text (all_held w.cores (numbers_from 1 w.total))

-- The list of rings with this one added, unless it is in it.
abbrev pub with_ring : RingId → List RingId → List RingId
with_ring ring rings = if list_any (same_ring ring) rings then rings else ring ∷ rings

-- The list of rings with those of these messages added, each once.
abbrev pub rings_held : {A : Type 0} → List (Message A) → List RingId → List RingId
rings_held [] rings = rings
rings_held (x ∷ xs) rings = with_ring x.ring (rings_held xs rings)

-- The rings that a processor installed or holds a message of.
abbrev pub rings_in : {A : Type 0} → World A → ℕ → List RingId
rings_in w i = rings_held (w.cores i).held (map (λ (at : Configuration). at.ring) (regulars_of (stages_in w i)))

-- The agreed messages of a ring are the user messages of its text from 1 to the processor's front, ascending, none left
-- out.
abbrev pub agrees_with_text : {A : Type 0} → World A → ℕ → RingId → Bool
agrees_with_text w i ring = same_messages (agreed_of ring (stages_in w i)) (users_upto (text_of w ring) ring (front (w.cores i) ring))

-- The same for each ring of the processor.
abbrev pub agrees_with_texts : {A : Type 0} → World A → ℕ → Bool
agrees_with_texts w i = list_all (agrees_with_text w i) (rings_in w i)

-- The deliveries of a transitional configuration are user messages of the old ring's text.
abbrev pub rests_in_text : {A : Type 0} → World A → Stage A → Bool
rests_in_text w (InRegular at agreed safe) = true
rests_in_text w (InTransitional old new members rest) = list_all (λ (x : Message _). has_message x (text_of w old) && is_user x.payload) rest

-- Two deliveries of one ring are in the order of their numbers.
abbrev pub is_before : {A : Type 0} → Message A → Message A → Bool
is_before x y = if same_ring x.ring y.ring then nat_lt x.number y.number else true

-- The safe number of a regular configuration is at most the front.
abbrev pub is_within_front : {A : Type 0} → Core A → Stage A → Bool
is_within_front c (InRegular at agreed safe) = nat_le safe (front c at.ring)
is_within_front c (InTransitional old new members rest) = true

-- The test of `HasSameText`: one text, the agreed messages, the rest, ascending deliveries, and safe numbers.
abbrev pub has_same_text : {A : Type 0} → World A → Bool
has_same_text w =
    has_one_text w
    && (all_processors w (agrees_with_texts w)
    && (all_processors w (λ i. list_all (rests_in_text w) (stages_in w i))
    && (all_processors w (λ i. all_pairs is_before (deliveries_of (stages_in w i)))
    && all_processors w (λ i. list_all (is_within_front (w.cores i)) (stages_in w i)))))

-- `safe_delivery`

-- The change, if it is from this ring, delivered the message.
abbrev pub delivers_of : {A : Type 0} → RingId → Message A → Change A → Bool
delivers_of ring x c = if same_ring c.old.ring ring then has_message x (delivered_by c) else true

-- At member q: its front reaches the number; the configuration is in its life; and each change of its life from that
-- ring delivered the message.
abbrev pub is_safely_delivered : {A : Type 0} → World A → Configuration → Message A → ℕ → Bool
is_safely_delivered w at x q =
    nat_le x.number (front (w.cores q) at.ring)
    && (list_any (same_configuration at) (regulars_of (stages_in w q)) && list_all (delivers_of at.ring x) (changes_in w q))

-- Each delivery in the configuration, if it is a regular one, is safely delivered at each member.
abbrev pub is_safe_stage : {A : Type 0} → World A → Stage A → Bool
is_safe_stage w (InRegular at agreed safe) =
    list_all (λ (x : Message _). list_all (is_safely_delivered w at x) (elements at.members)) (delivered_in (InRegular at agreed safe))
is_safe_stage w (InTransitional old new members rest) = true

-- Each delivery in each regular configuration of each life is safely delivered at each member.
abbrev pub delivers_safely : {A : Type 0} → World A → Bool
delivers_safely w = all_processors w (λ i. list_all (is_safe_stage w) (stages_in w i))

-- `same_deliveries`

-- Two changes are equal: the same configurations, transitional members and deliveries.
abbrev pub same_change : {A : Type 0} → Change A → Change A → Bool
same_change a b =
    same_configuration a.old b.old
    && (same_messages a.regular b.regular && ((a.transitional_members == b.transitional_members) && (same_messages a.rest b.rest && same_configuration a.new b.new)))

-- Two changes from one ring to the same next one are equal.
abbrev pub are_alike : {A : Type 0} → Change A → Change A → Bool
are_alike a b = if same_ring a.old.ring b.old.ring && same_ring a.new.ring b.new.ring then same_change a b else true

-- Any two changes of any two lives from one ring to the same next one are equal.
abbrev pub delivers_alike : {A : Type 0} → World A → Bool
delivers_alike w = all_processors w (λ i. all_processors w (λ j. list_all (λ a. list_all (are_alike a) (changes_in w j)) (changes_in w i)))

-- `configurations`

-- The configuration, if it has this ring, has the same members.
abbrev pub is_same_to : Configuration → Configuration → Bool
is_same_to at b = if same_ring at.ring b.ring then same_configuration at b else true

-- All lives have the same members of the ring, every core that took part in it has these too, and they are of the
-- group.
abbrev pub is_shared : {A : Type 0} → World A → Configuration → Bool
is_shared w at =
    all_processors w (λ j. list_all (is_same_to at) (regulars_of (stages_in w j)))
    && (all_processors w (λ j. list_all (is_same_to at) (w.cores j).rings) && list_all (is_node w) (elements at.members))

-- The processor took part in the configuration's ring, with these members.
abbrev pub is_taken_part : {A : Type 0} → World A → ℕ → Configuration → Bool
is_taken_part w i at = list_any (same_configuration at) (w.cores i).rings

-- The ring isn't between those of the change.
abbrev pub is_beside : {A : Type 0} → Change A → Configuration → Bool
is_beside c b = nat_le b.ring.seq c.old.ring.seq || nat_le c.new.ring.seq b.ring.seq

-- Processor q goes on by a change: it is a member of both rings, has the old one in its life, and none between the two.
abbrev pub goes_on : {A : Type 0} → World A → Change A → ℕ → Bool
goes_on w c q =
    has c.old.members q
    && (has c.new.members q
    && (list_any (same_configuration c.old) (regulars_of (stages_in w q)) && list_all (is_beside c) (regulars_of (stages_in w q))))

-- A processor that goes on is a transitional member.
abbrev pub is_transitional_member : {A : Type 0} → World A → Change A → ℕ → Bool
is_transitional_member w c q = if goes_on w c q then has c.transitional_members q else true

-- The test of `HasConfigurations`, for one processor.
abbrev pub has_configurations : {A : Type 0} → World A → ℕ → Bool
has_configurations w i =
    has_ordered_outputs w i
    && (list_all (λ (s : Stage _). has (members_in s) i) (stages_in w i)
    && (alternate (stages_in w i)
    && (ends_in_regular (stages_in w i)
    && (all_pairs is_above (regulars_of (stages_in w i))
    && (list_all (is_taken_part w i) (regulars_of (stages_in w i))
    && (list_all (is_shared w) (regulars_of (stages_in w i))
    && (list_all (λ (c : Change _). list_all (goes_on w c) (elements c.transitional_members)) (changes_in w i)
    && list_all (λ (c : Change _). list_all (is_transitional_member w c) (elements c.new.members)) (changes_in w i))))))))

-- Each processor passes the test of `HasConfigurations`.
abbrev pub have_configurations : {A : Type 0} → World A → Bool
have_configurations w = all_processors w (has_configurations w)

-- `own_delivery`

-- The message is among these, if it is a user message that processor i sent.
abbrev pub is_own_among : {A : Type 0} → ℕ → List (Message A) → Message A → Bool
is_own_among i xs x = if (x.sender == i) && is_user x.payload then has_message x xs else true

-- A processor's own user messages in the text of a ring that it left are among the deliveries of that change.
abbrev pub delivers_own : {A : Type 0} → World A → Bool
delivers_own w = all_processors w (λ i. list_all (λ (c : Change _). list_all (is_own_among i (delivered_by c)) (text_of w c.old.ring)) (changes_in w i))

-- All five facts

-- A world passes the tests of all five facts.
abbrev pub is_virtually_synchronous : {A : Type 0} → World A → Bool
is_virtually_synchronous w = has_same_text w && (delivers_safely w && (delivers_alike w && (have_configurations w && delivers_own w)))
