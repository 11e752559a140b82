-- Virtual synchrony in five facts that relate the lives of all processors of a world. Lives are computed only from the
-- outputs; the texts of rings and the fronts come from what each processor held, the members of a ring from the commit
-- token by which each took part in it.
-- Rules: Outputs 11
use Rattle.std.specs.Prelude.{◌≡◌, ℕ, ◌<◌, ◌≤◌, ◌⊎◌, true, List, [], ◌∷◌}
use Rattle.std.specs.List.{AllByRecursion}
use Rattle.ring_base.specs.Processors.{has, elements}
use Rattle.ring_base.specs.declared.ring_id.RingId.{RingId}
use Rattle.ring_payload.specs.PayloadKinds.{is_user}
use Rattle.ring_wire.specs.declared.message.Message.{Message}
use Rattle.ring_core_spec.specs.Commits.{Configuration}
use Rattle.ring_core_spec.specs.Views.{front}
use Rattle.ring_core_proof.specs.FactWords.{IsIn}
use Rattle.ring_core_proof.specs.Worlds.{World}
use Rattle.ring_core_proof.specs.Texts.{HasOneText, text_of}
use Rattle.ring_core_proof.specs.Lives.{Stage, InRegular, InTransitional, has_ordered_outputs, delivered_in}
use Rattle.ring_core_proof.specs.CommitRounds.{is_above, all_pairs}
use Rattle.ring_synchrony_proof.specs.Changes.{IsNode, stages_in, agreed_of, deliveries_of, users_upto, regulars_of, members_in}
use Rattle.ring_synchrony_proof.specs.Changes.{alternate, ends_in_regular, Change, changes_in, delivered_by}

-- Outputs 11, same_text: a number of a ring has one sender and one payload in all lives

-- Two deliveries of one ring are in the order of their numbers.
abbrev pub IsBefore : {A : Type 0} → Message A → Message A → Type 0
IsBefore x y = x.ring ≡ y.ring → x.number < y.number

-- The deliveries of each ring in the list are in the order of their numbers.
abbrev pub Ascend : {A : Type 0} → List (Message A) → Type 0
Ascend [] = Unit {0}
Ascend (x ∷ xs) = AllByRecursion (IsBefore x) xs × Ascend xs

-- A ring has one text for all: a number has one sender and one payload; the agreed messages are its user messages up to
-- the front, none left out; the rest of the ring is of its text; deliveries ascend; and `Safe` never passes the front.
pub record HasSameText {A : Type 0} (w : World A) : Type 0 where
  -- A number of a ring has one sender and one payload.
  pub text : (ring : RingId) → HasOneText w ring
  -- The agreed messages of a ring are the user messages of its text from 1 to the processor's front, ascending, none
  -- left out; a ring that is in no configuration of the life has none.
  pub agreed : (i : ℕ) → IsNode w i → (ring : RingId) →
      agreed_of ring (stages_in w i) ≡ users_upto (text_of w ring) ring (front (w.cores i) ring)
  -- The deliveries of a transitional configuration are user messages of the old ring's text.
  pub rest : (i : ℕ) → IsNode w i → (old new : RingId) (members : ℕ) (rest : List (Message A)) → IsIn (InTransitional old new members rest) (stages_in w i) →
      (x : Message A) → IsIn x rest → IsIn x (text_of w old) × (is_user x.payload ≡ true)
  -- In each life the deliveries of a ring ascend.
  pub ascending : (i : ℕ) → IsNode w i → Ascend (deliveries_of (stages_in w i))
  -- `Safe` never passes the front.
  pub safe : (i : ℕ) → IsNode w i → (at : Configuration) (agreed : List (Message A)) (safe : ℕ) → IsIn (InRegular at agreed safe) (stages_in w i) →
      safe ≤ front (w.cores i) at.ring

-- Outputs 11, safe_delivery: what is delivered in a regular configuration is safe there

-- At member q: its front reaches the number; the configuration is in its life; and if it has a later regular one, it
-- delivered the message before that one.
pub record IsSafelyDelivered {A : Type 0} (w : World A) (at : Configuration) (x : Message A) (q : ℕ) : Type 0 where
  pub reached : x.number ≤ front (w.cores q) at.ring
  pub through : IsIn at (regulars_of (stages_in w q))
  pub delivered : (c : Change A) → IsIn c (changes_in w q) → c.old.ring ≡ at.ring → IsIn x (delivered_by c)

-- Each delivery in a regular configuration is safe, and is delivered at each member.
abbrev pub DeliversSafely : {A : Type 0} → World A → Type 0
DeliversSafely {A} w =
    (i : ℕ) → IsNode w i → (at : Configuration) (agreed : List (Message A)) (safe : ℕ) → IsIn (InRegular at agreed safe) (stages_in w i) →
    (x : Message A) → IsIn x (delivered_in (InRegular at agreed safe)) → (q : ℕ) → IsIn q (elements at.members) → IsSafelyDelivered w at x q

-- Outputs 11, same_deliveries: two lives that go from one regular configuration to the same next one have the same
-- members in all three configurations, and the same deliveries, divided alike before and after the transitional one.
abbrev pub DeliversAlike : {A : Type 0} → World A → Type 0
DeliversAlike {A} w =
    (i j : ℕ) → IsNode w i → IsNode w j → (a b : Change A) → IsIn a (changes_in w i) → IsIn b (changes_in w j) →
    a.old.ring ≡ b.old.ring → a.new.ring ≡ b.new.ring → a ≡ b

-- All lives have the same members of a regular configuration's ring: those that every processor which took part in the
-- ring has of it; and these are of the group.
pub record IsShared {A : Type 0} (w : World A) (at : Configuration) : Type 0 where
  pub same : (j : ℕ) → IsNode w j → (b : Configuration) → IsIn b (regulars_of (stages_in w j)) → at.ring ≡ b.ring → at ≡ b
  pub taken : (j : ℕ) → IsNode w j → (b : Configuration) → IsIn b (w.cores j).rings → at.ring ≡ b.ring → at ≡ b
  pub group : (q : ℕ) → IsIn q (elements at.members) → IsNode w q

-- Processor q goes on by a change: it is a member of both rings, has the old one in its life, and none between the two.
pub record GoesOn {A : Type 0} (w : World A) (c : Change A) (q : ℕ) : Type 0 where
  pub leaving : has c.old.members q ≡ true
  pub entering : has c.new.members q ≡ true
  pub through : IsIn c.old (regulars_of (stages_in w q))
  pub straight : (b : Configuration) → IsIn b (regulars_of (stages_in w q)) → (b.ring.seq ≤ c.old.ring.seq) ⊎ (c.new.ring.seq ≤ b.ring.seq)

-- Outputs 11, configurations: a processor is a member of its configurations, the two kinds alternate, the newest is a
-- regular one, the rings rise, the members of a ring are the ring's own, and the members of a transitional
-- configuration are exactly those that go on.
pub record HasConfigurations {A : Type 0} (w : World A) (i : ℕ) : Type 0 where
  -- Each output comes while the configuration that it belongs to is the newest, with the message's own number, and safe
  -- numbers rise.
  pub told : has_ordered_outputs w i ≡ true
  -- The processor is a member of its configurations.
  pub own : (s : Stage A) → IsIn s (stages_in w i) → has (members_in s) i ≡ true
  -- Regular and transitional configurations alternate.
  pub alternating : alternate (stages_in w i) ≡ true
  -- The newest configuration is a regular one, so that a regular one follows each transitional one.
  pub newest : ends_in_regular (stages_in w i) ≡ true
  -- The numbers of regular rings rise; the list is newest first.
  pub rising : all_pairs is_above (regulars_of (stages_in w i)) ≡ true
  -- The processor took part in its regular configurations, with these very members.
  pub took_part : (at : Configuration) → IsIn at (regulars_of (stages_in w i)) → IsIn at (w.cores i).rings
  -- All lives have the same members of a ring, the ring's own, and these are of the group.
  pub shared : (at : Configuration) → IsIn at (regulars_of (stages_in w i)) → IsShared w at
  -- The members of a transitional configuration go on, and all of the new ring's members that go on are among them.
  pub transitional_members : (c : Change A) → IsIn c (changes_in w i) → (q : ℕ) → IsIn q (elements c.transitional_members) → GoesOn w c q
  pub all_transitional_members : (c : Change A) → IsIn c (changes_in w i) → (q : ℕ) → IsIn q (elements c.new.members) → GoesOn w c q → has c.transitional_members q ≡ true

-- Outputs 11, own_delivery: a processor's own user messages of a ring that it left are delivered before the next
-- regular configuration.
abbrev pub DeliversOwn : {A : Type 0} → World A → Type 0
DeliversOwn {A} w =
    (i : ℕ) → IsNode w i → (c : Change A) → IsIn c (changes_in w i) → (x : Message A) → IsIn x (text_of w c.old.ring) →
    x.sender ≡ i → is_user x.payload ≡ true → IsIn x (delivered_by c)

-- The five facts together

-- A world is virtually synchronous: its lives, those of stopped processors included, meet the five facts.
pub record IsVirtuallySynchronous {A : Type 0} (w : World A) : Type 0 where
  pub same_text : HasSameText w
  pub safe_delivery : DeliversSafely w
  pub same_deliveries : DeliversAlike w
  pub configurations : (i : ℕ) → IsNode w i → HasConfigurations w i
  pub own_delivery : DeliversOwn w
