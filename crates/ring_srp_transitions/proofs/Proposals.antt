-- A processor that proposes a ring is one of its members, and the ring is newer than all that it took part in.
use Rattle.std.proofs.Common.{◌≡◌, ℕ, ◌<◌, ◌≤◌, true, false, suc, refl, ap, ◌∙◌, sym, subst, arith}
use Rattle.std.specs.Prelude.{◌==◌, nat_le}
use Rattle.std.proofs.lemmas.Bool.{and_parts, eqb-true, cond-true}
use Rattle.ring_base.proofs.Taking.{smallest_some}
use Rattle.ring_base.specs.Numbers.{max_number}
use Rattle.ring_base.specs.Processors.{IsMember, size, smallest}
use Rattle.ring_base.specs.Elements.{at_member}
use Rattle.ring_base.specs.declared.state.State.{State}
use Rattle.ring_base.specs.declared.state.State.TheVariants.{Gather, Commit, Recovery, Operational, Stopped}
use Rattle.ring_wire.specs.declared.commit.CommitToken.{CommitToken}
use Rattle.ring_wire.specs.declared.entries.CommitEntry.{CommitEntry}
use Rattle.ring_join.specs.Gatherers.{Gatherer}
use Rattle.ring_join.specs.Gathering.{Gathering, candidates, greatest_known, has_consensus, new_number, may_propose}
use Rattle.ring_commit.specs.declared.outcome.CommitOutcome.{CommitOutcome}
use Rattle.ring_commit.specs.declared.outcome.CommitOutcome.TheVariants.{Pass, Recover, Start, Ignored}
use Rattle.ring_commit.specs.Outcomes.{after_proposal}
use Rattle.ring_commit.specs.Rounds.{proposal}
use Rattle.ring_core_spec.specs.State.{Core, floor}
use Rattle.ring_core_spec.specs.Views.{own_entry}
use Rattle.ring_core_spec.specs.Joining.{proposes_in, proposes}
use Rattle.ring_core_spec.specs.CommitSteps.{ring_joined}
use Rattle.ring_core_spec.specs.Transitions.{without_sends, with_proposal_if}
use Rattle.ring_core_spec.proofs.States.{proposes_gathering}

smallest_member : (set me : ℕ) → 1 ≤ me → smallest set ≡ me → IsMember set me
smallest_member set me low e = subst (λ i. IsMember set i) e (at_member set 0 (smallest_some set me low e)).1

is_smallest : (me floor : ℕ) (g : Gathering) → may_propose me floor g ≡ true → smallest (candidates g) ≡ me
is_smallest me floor g h =
    eqb-true (smallest (candidates g)) me
    (and_parts (has_consensus me g) (smallest (candidates g) == me) (and_parts _ (nat_le (new_number floor g) max_number) h).0).1

may : {A : Type 0} (s : State) (c : Core A) → proposes_in s c ≡ true → may_propose c.me (floor c) c.gathering ≡ true
may Gather c h = h
may Commit c h = (let q : false ≡ true = h in cc)
may Recovery c h = (let q : false ≡ true = h in cc)
may Operational c h = (let q : false ≡ true = h in cc)
may Stopped c h = (let q : false ≡ true = h in cc)

abbrev pub proposed_by : {A : Type 0} → Core A → CommitToken
proposed_by c = proposal c.me (new_number (floor c) c.gathering) (candidates c.gathering) (own_entry c)

-- the token that is due
pub record IsDue {A : Type 0} (c : Core A) (token : CommitToken) : Type 0 where
  pub proposes : proposes c ≡ true
  pub state : c.state ≡ Gather
  pub token_is : token ≡ proposal c.me (new_number (floor c) c.gathering) (candidates c.gathering) (own_entry c)
  pub newer : floor c < token.ring.seq
  pub member : IsMember token.members c.me
  pub some : 0 < size token.members

due_of : {A : Type 0} (c : Core A) → 1 ≤ c.me → proposes c ≡ true → IsDue c (proposed_by c)
due_of c low h =
    let e : smallest (candidates c.gathering) ≡ c.me = is_smallest c.me (floor c) c.gathering (may c.state c h) in
    record {
      proposes = h;
      state = proposes_gathering c.state c h;
      token_is = refl;
      newer = omega arith;
      member = smallest_member (candidates c.gathering) c.me low e;
      some = smallest_some (candidates c.gathering) c.me low e;
    }

-- the proposal, or another token
abbrev passes_or : CommitToken → CommitOutcome → CommitToken
passes_or d (Pass k) = k
passes_or d (Recover k) = d
passes_or d (Start t) = d
passes_or d Ignored = d

may_number : {A : Type 0} (c : Core A) → proposes c ≡ true → nat_le (new_number (floor c) c.gathering) max_number ≡ true
may_number c h = (and_parts _ (nat_le (new_number (floor c) c.gathering) max_number) (may c.state c h)).1

-- a core that proposes has a ring to propose, from the code's fields and arguments
pub due_passes : {A : Type 0} (m c : Core A) (g : Gatherer) (greatest members : ℕ) (own : CommitEntry) → m ≡ c → proposes c ≡ true →
    (m.state ≡ Gather → g.floor ≡ floor m) → g.gathering ≡ m.gathering → greatest ≡ greatest_known g.floor g.gathering →
    members ≡ candidates g.gathering → own ≡ own_entry c → after_proposal m.me (suc greatest) members own ≡ Pass (proposed_by c)
due_passes {A} m c g greatest members own v h lowest same a b d =
    let state : m.state ≡ Gather = ap (λ (x : Core A). x.state) v ∙ proposes_gathering c.state c h in
    let known : greatest ≡ greatest_known (floor c) c.gathering =
    a ∙ ap (λ n. greatest_known n g.gathering) (lowest state) ∙ ap (greatest_known (floor m)) same
    ∙ ap (λ (x : Core A). greatest_known (floor x) x.gathering) v in
    let all : members ≡ candidates c.gathering = b ∙ ap candidates same ∙ ap (λ (x : Core A). candidates x.gathering) v in
    ap (λ n. after_proposal n (suc greatest) members own) (ap (λ (x : Core A). x.me) v)
    ∙ ap (λ n. after_proposal c.me (suc n) members own) known
    ∙ ap (λ n. after_proposal c.me (new_number (floor c) c.gathering) n own) all
    ∙ ap (λ (x : CommitEntry). after_proposal c.me (new_number (floor c) c.gathering) (candidates c.gathering) x) d
    ∙ cond-true (nat_le (new_number (floor c) c.gathering) max_number) (Pass (proposed_by c)) Ignored (may_number c h)

is_due : {A : Type 0} (m c : Core A) (token : CommitToken) → m ≡ c → 1 ≤ m.me → proposes c ≡ true → Pass token ≡ Pass (proposed_by c) → IsDue c token
is_due {A} m c token v low h e =
    subst (λ (k : CommitToken). IsDue c k) (sym (ap (passes_or token) e)) (due_of c (subst (λ (x : Core A). 1 ≤ x.me) v low) h)

-- the token that the code sends is the one due, from the code's fields and result
pub due_is : {A : Type 0} (m c : Core A) (g : Gatherer) (greatest members : ℕ) (own : CommitEntry) (token : CommitToken) → m ≡ c → 1 ≤ m.me →
    proposes c ≡ true → (m.state ≡ Gather → g.floor ≡ floor m) → g.gathering ≡ m.gathering → greatest ≡ greatest_known g.floor g.gathering →
    members ≡ candidates g.gathering → own ≡ own_entry c → Pass token ≡ after_proposal m.me (suc greatest) members own → IsDue c token
due_is m c g greatest members own token v low h lowest same a b d e =
    is_due m c token v low h (e ∙ due_passes m c g greatest members own v h lowest same a b d)

-- the proposal, where one is due

pub due_core : {A : Type 0} (c : Core A) (token : CommitToken) → IsDue c token → (ring_joined c token).core ≡ (with_proposal_if (proposes c) (without_sends c)).core
due_core {A} c token d =
    ap (λ (k : CommitToken). (ring_joined {A = A} c k).core) d.token_is ∙ sym (ap (λ b. (with_proposal_if b (without_sends c)).core) d.proposes)

pub due_sends : {A : Type 0} (c : Core A) (token : CommitToken) → IsDue c token → (ring_joined c token).sends ≡ (with_proposal_if (proposes c) (without_sends c)).sends
due_sends {A} c token d =
    ap (λ (k : CommitToken). (ring_joined {A = A} c k).sends) d.token_is ∙ sym (ap (λ b. (with_proposal_if b (without_sends c)).sends) d.proposes)
