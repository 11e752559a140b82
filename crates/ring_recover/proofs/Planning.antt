-- A plan as it is made of a commit token, and what the code keeps of it as messages of the new ring are seen.
use Rattle.std.proofs.Common.{◌≡◌, ℕ, ◌+◌, ◌-◌, ◌<◌, ◌≤◌, Bool, true, false, List, [], ◌∷◌, map, length, Option}
use Rattle.std.proofs.Common.{Some, None, refl, ap, ◌∙◌, sym, inl, inr, arith, leb}
use Rattle.std.specs.Prelude.{◌&&◌, ◌||◌, ◌==◌, nat_le, nat_lt, slice_get, if◌then◌else◌}
use Rattle.std.specs.List.{list_all}
use Rattle.std.specs.Option.{option_map}
use Rattle.std.proofs.lemmas.Bool.{cases_Bool, cond-true, cond-false, and_parts, leb-true, le-leb, lt-leb, lt-ltb, true≢false}
use Rattle.ring_base.specs.Processors.{has, size, position_of}
use Rattle.ring_base.specs.declared.ring_id.RingId.{RingId}
use Rattle.ring_window.specs.Payloads.{is_end}
use Rattle.ring_commit.specs.Tokens.{CommitToken}
use Rattle.ring_commit.specs.Tokens.{CommitEntry}
use Rattle.ring_window.specs.Messages.{Message}
use Rattle.ring_window.specs.Bits.{is_set}
use Rattle.ring_window.specs.Held.{found, holds, highest, front_of}
use Rattle.ring_window.specs.Windows.{WindowHistory, message_above_mark}
use Rattle.ring_window.proofs.HeldFront.{highest_covers}
use Rattle.ring_window.proofs.Windows.{found_none}
use Rattle.ring_commit.specs.Reports.{safe_of, none_behind, is_sound}
use Rattle.ring_recover.specs.Chosen.{numbers_of_bits}
use Rattle.ring_recover.specs.Plans.{Plan, plan_of, plan_if_sound, plan_from, least, low, safe, is_known, known_above_safe}
use Rattle.ring_recover.specs.Wrapping.{is_wrap_of, is_wrapped}
use Rattle.ring_recover.specs.RecoveryState.{RecoveryState, with_seen, old_ring_of, IsPlanKept, is_sent_by_any}
use Rattle.ring_recover.specs.Deliveries.{is_complete, is_from_transitional_member_if_there, is_from_transitional_member}
use Rattle.ring_recover.proofs.NumbersPassing.{chosen_by, chosen_each}

-- From a commit token

-- the plan that a member's entry gives
sound_is : (k : CommitToken) (o : Option CommitEntry) (old : RingId) → option_map (λ (e : CommitEntry). e.old) o ≡ Some old
    → plan_if_sound k o ≡ (if is_sound old k.entries then Some (plan_of old k.members k.entries) else None)
sound_is k None old e = absurd (let q : ⊥ = cc in q)
sound_is k (Some own) old e = (let same : own.old ≡ old = cc in ap
    (λ (r : RingId). if is_sound r k.entries then Some (plan_of r k.members k.entries) else None) same)

pub planned : (me : ℕ) (k : CommitToken) (old : RingId) → old_ring_of me k ≡ Some old
    → plan_from me k ≡ (if is_sound old k.entries then Some (plan_of old k.members k.entries) else None)
planned me k old h =
    let o = slice_get k.entries (position_of k.members me) in
    elim (cases_Bool (has k.members me && leb (size k.members) (length k.entries))) [
      | inl e ↦ rw e (sound_is k o old (sym (cond-true (has k.members me && leb (size k.members) (length k.entries)) (option_map
          (λ (x : CommitEntry). x.old) o) None e) ∙ h))
      | inr e ↦ absurd (let q : None ≡ Some old = sym (cond-false (has k.members me && leb (size k.members) (length k.entries)) (option_map
          (λ (x : CommitEntry). x.old) o) None e) ∙ h in let r : ⊥ = cc in r)
    ]

-- where no front is below a mark, the least front isn't, if there is one
least_behind : (mark : ℕ) (e : CommitEntry) (reports : List CommitEntry) → none_behind mark (e ∷ reports) ≡ true
    → mark ≤ least (map (λ (x : CommitEntry). x.front) (e ∷ reports))
least_behind mark e [] h = leb-true mark e.front (and_parts (nat_le mark e.front) true h).0
least_behind mark e (f ∷ reports) h =
    let both = and_parts (nat_le mark e.front) (none_behind mark (f ∷ reports)) h in
    let rest = least_behind mark f reports both.1 in
    let this : mark ≤ e.front = leb-true mark e.front both.0 in
    omega arith

pub safe_low : (reports : List CommitEntry) → none_behind (safe_of reports) reports ≡ true
    → safe_of reports ≤ least (map (λ (x : CommitEntry). x.front) reports)
safe_low [] h = omega arith
safe_low (e ∷ reports) h = least_behind (safe_of (e ∷ reports)) e reports h

-- The fields that the code keeps

or_swap : (a b : Bool) → (a || b) ≡ (b || a)
or_swap true true = refl
or_swap true false = refl
or_swap false true = refl
or_swap false false = refl

module _ {A : Type 0} (r : RecoveryState A) (x : Message A) (old : RingId) (transitional_members least_one high front : ℕ) (known wrapped more : List ℕ) (ended now : Bool) where
  pub kept_seen : IsPlanKept r old transitional_members least_one high front known wrapped ended
      → ((j : ℕ) → j < 256 → is_set more j ≡ (is_set wrapped j || is_wrap_of old (high + 1 + j) x.payload))
      → now ≡ (ended || (is_end x.payload && (x.sender == r.me)))
      → IsPlanKept (with_seen r x) old transitional_members least_one high front known more now
  kept_seen k w e =
      record {
        old_is = k.old_is;
        transitional_members_is = k.transitional_members_is;
        least_is = k.least_is;
        safe_is = k.safe_is;
        low_is = k.low_is;
        sound = k.sound;
        known_is = k.known_is;
        wrapped_is = λ j l.
            w j l ∙ or_swap (is_set wrapped j) (is_wrap_of old (high + 1 + j) x.payload)
            ∙ ap (λ b. is_wrap_of old (high + 1 + j) x.payload || b) (k.wrapped_is j l)
            ∙ ap (λ (o : RingId). is_wrap_of o (high + 1 + j) x.payload || is_wrapped r.seen r.plan.old (high + 1 + j)) k.old_is;
        ended_is =
            e ∙ or_swap ended (is_end x.payload && (x.sender == r.me)) ∙ ap (λ b. (is_end x.payload && (x.sender == r.me)) || b) k.ended_is;
      }

-- the known numbers above the greatest safe mark
pub kept_known : {A : Type 0} (r : RecoveryState A) (old : RingId) (transitional_members least_one high front : ℕ) (known wrapped : List ℕ) (ended : Bool)
    → IsPlanKept r old transitional_members least_one high front known wrapped ended
    → numbers_of_bits high known ≡ known_above_safe r.plan
kept_known r old transitional_members least_one high front known wrapped ended k =
    ap (λ n. numbers_of_bits n known) k.safe_is ∙ chosen_by (is_known r.plan) (safe r.plan) known (λ j l. k.known_is j l
    ∙ ap (λ n. is_known r.plan (n + 1 + j)) k.safe_is)

-- The messages in the old ring's window

sent_by : {A : Type 0} (p : Plan) (o : Option (Message A)) → is_sent_by_any p.transitional_members o ≡ is_from_transitional_member_if_there p o
sent_by p None = refl
sent_by p (Some x) = refl

not_held : {A : Type 0} (held : List (Message A)) (ring : RingId) (n : ℕ) → highest held ring < n → holds held ring n ≡ false
not_held held ring n l = elim (cases_Bool (holds held ring n)) [ inl h ↦ (let k = highest_covers held ring n h in absurd (omega arith)) | inr h ↦ h ]

pub held_beyond : {A : Type 0} (held : List (Message A)) (ring : RingId) (after offset : ℕ) → highest held ring ≤ after + offset
    → false ≡ holds held ring (after + 1 + offset)
held_beyond held ring after offset l = sym (not_held held ring (after + 1 + offset) (omega arith))

pub from_beyond : {A : Type 0} (senders : ℕ) (w : WindowHistory A) (after offset : ℕ) → highest w.held w.ring ≤ after + offset
    → false ≡ is_sent_by_any senders (message_above_mark w (after + 1 + offset))
from_beyond senders w after offset l =
    let n = after + 1 + offset in
    let none = found_none w.held w.ring n (not_held w.held w.ring n (omega arith)) in
    elim (cases_Bool (nat_lt w.mark n)) [
      | inl e ↦ sym (ap (is_sent_by_any senders) (cond-true (nat_lt w.mark n) (found w.held w.ring n) None e ∙ none))
      | inr e ↦ sym (ap (is_sent_by_any senders) (cond-false (nat_lt w.mark n) (found w.held w.ring n) None e))
    ]

pub not_all : (p : ℕ → Bool) (after : ℕ) (words : List ℕ) (j : ℕ) → j < 256 → is_set words j ≡ true → p (after + 1 + j) ≡ false
    → false ≡ list_all p (numbers_of_bits after words)
not_all p after words j l s f = elim (cases_Bool (list_all p (numbers_of_bits after words))) [
  | inl t ↦ absurd (true≢false (sym
      (chosen_each p after words t j l s) ∙ f))
  | inr t ↦ sym t
]

module _ {A : Type 0} (r : RecoveryState A) (old : RingId) (transitional_members least_one high front : ℕ) (known wrapped : List ℕ) (ended : Bool)
    (k : IsPlanKept r old transitional_members least_one high front known wrapped ended) where
  pub kept_bits : (j : ℕ) → j < 256 → is_set known j ≡ is_known r.plan (safe r.plan + 1 + j)
  kept_bits j l = k.known_is j l ∙ ap (λ n. is_known r.plan (n + 1 + j)) k.safe_is

  pub kept_sound : safe r.plan ≤ low r.plan
  kept_sound = (let a = k.sound in let b = k.safe_is in let c = k.low_is in omega arith)

  module _ (w : WindowHistory A) (ring : w.ring ≡ r.plan.old) where
    pub complete_front : high ≤ front_of w.held w.ring → list_all (holds w.held w.ring) (numbers_of_bits high known) ≡ is_complete r.plan w.held
    complete_front l =
        let all : list_all (holds w.held w.ring) (numbers_of_bits high known) ≡ list_all (holds w.held r.plan.old) (known_above_safe r.plan) =
        ap (λ (o : RingId). list_all (holds w.held o) (numbers_of_bits high known)) ring
        ∙ ap (list_all (holds w.held r.plan.old)) (kept_known r old transitional_members least_one high front known wrapped ended k) in
        let reached : nat_le (safe r.plan) (front_of w.held r.plan.old) ≡ true = le-leb (safe r.plan) (front_of w.held r.plan.old) (let a = ap
        (front_of w.held) ring in let b = k.safe_is in omega arith) in
        all ∙ sym (ap (λ b. b && list_all (holds w.held r.plan.old) (known_above_safe r.plan)) reached)

    pub complete_behind : front_of w.held w.ring < high → false ≡ is_complete r.plan w.held
    complete_behind l =
        let behind : nat_le (safe r.plan) (front_of w.held r.plan.old) ≡ false = lt-leb (safe r.plan) (front_of w.held r.plan.old) (let a = ap
        (front_of w.held) ring in let b = k.safe_is in omega arith) in
        sym (ap (λ b. b && list_all (holds w.held r.plan.old) (known_above_safe r.plan)) behind)

    -- once all known numbers are held, no known number is above the highest held one
    pub known_reached : is_complete r.plan w.held ≡ true → (j : ℕ) → j < 256 → is_set known j ≡ true → nat_lt j (highest w.held w.ring - high) ≡ true
    known_reached c j l s =
        let all = (and_parts (nat_le (safe r.plan) (front_of w.held r.plan.old)) (list_all (holds w.held r.plan.old) (known_above_safe r.plan)) c).1 in
        let some : holds w.held r.plan.old (high + 1 + j) ≡ true = chosen_each (holds w.held r.plan.old) high known (ap (list_all
        (holds w.held r.plan.old)) (kept_known r old transitional_members least_one high front known wrapped ended k) ∙ all) j l s in
        let top : high + 1 + j ≤ highest w.held r.plan.old = highest_covers w.held r.plan.old (high + 1 + j) some in
        lt-ltb j (highest w.held w.ring - high) (let a = ap (highest w.held) ring in omega arith)

    -- a message past the mark was sent by a transitional member where one of these sent it
    pub from_mate : w.mark ≤ high → (j : ℕ) → is_sent_by_any transitional_members (message_above_mark w (high + 1 + j)) ≡ is_from_transitional_member r.plan w.held (high + 1 + j)
    from_mate m j =
        ap (is_sent_by_any transitional_members) (cond-true (nat_lt w.mark (high + 1 + j)) (found w.held w.ring (high + 1 + j)) None (lt-ltb w.mark (high + 1 + j)
        (omega arith)) ∙ ap (λ (o : RingId). found w.held o (high + 1 + j)) ring)
        ∙ ap (λ (n : ℕ). is_sent_by_any n (found w.held r.plan.old (high + 1 + j))) k.transitional_members_is
        ∙ sent_by r.plan (found w.held r.plan.old (high + 1 + j))
