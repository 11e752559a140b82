-- The spacing of visits: in a ring of m members a member's visits are m token numbers apart, from the number that is
-- its position on. After each visit a member's next one is due at one of the next m numbers, and no two members' are
-- due at the same one.
use Rattle.std.proofs.Common.{◌≡◌, ℕ, suc, ◌+◌, ◌-◌, ◌<◌, ◌≤◌, inl, inr, ◌==◌, List, [], ◌∷◌, length, ap, sym, ◌∙◌, subst, arith, eqb-true, mod-eq_of_lt}
use Rattle.std.proofs.lemmas.Bool.{cond_both, cases_lt, eqb-false}
use Rattle.ring_base.specs.Processors.{IsProc, IsMember, at, size, position_of}
use Rattle.ring_base.specs.Elements.{position_of-inside, at-position_of}
use Rattle.ring_base.specs.declared.ring_id.RingId.{RingId}
use Rattle.ring_wire.specs.declared.token.Token.{Token}
use Rattle.ring_core_spec.specs.Tokens.{TokenVisit, VisitBy, AreVisits}
use Rattle.ring_base.proofs.TurnsRound.{member_of, turns_differ, turns_return}
use Rattle.ring_core_spec.specs.State.{Core}
use Rattle.ring_core_proof.specs.declared.event.RingEvent.{RingEvent}
use Rattle.ring_core_proof.specs.Worlds.{run, unformed, run_formed}
use Rattle.ring_chain_proof.specs.ChainWords.{Chains, visits_taken_by}
use Rattle.ring_chain_proof.specs.ChainFacts.{AreChains, due_number, AreSpaced, VisitInTurn}
use Rattle.ring_chain_proof.proofs.VisitTurns.{number-visits}
use Rattle.ring_chain_proof.proofs.Rings.{AreRings, one_members}
use Rattle.ring_chain_proof.proofs.AllLayers.{unformed_holds}
use Rattle.ring_chain_proof.proofs.ChainInRuns.{formed_runs}

-- after this many visits a member's next one is due at this number
pub record IsDue (members i count due : ℕ) : Type 0 where
  pub later : count ≤ due
  pub soon : due < count + size members
  pub turn : member_of members due ≡ i

-- where it is the member's turn now, it is due now
due_now : (members i count due : ℕ) → 0 < size members → IsDue members i count due → member_of members count ≡ i → due ≡ count
due_now members i count due some d now =
    let later : count ≤ due = d.later in
    let soon : due < count + size members = d.soon in
    elim (cases_lt count due) [
      | inl l ↦ absurd (let e : count + (due - count) ≡ due = omega arith in
          turns_differ members count (due - count) some (omega arith) (omega arith) (ap (member_of members) e ∙ d.turn ∙ sym now))
      | inr l ↦ omega arith
    ]

-- one more visit, by this member or by another
due_again : (members i count due : ℕ) → due ≡ count → IsDue members i count due → IsDue members i (suc count) (due + size members)
due_again members i count due e d =
    let soon : due < count + size members = d.soon in
    record { later = omega arith; soon = omega arith; turn = turns_return members due ∙ d.turn }

due_still : (members i count due : ℕ) → (member_of members count ≡ i → ⊥) → IsDue members i count due → IsDue members i (suc count) due
due_still members i count due other d =
    let later : count ≤ due = d.later in
    let soon : due < count + size members = d.soon in
    let passed : count < due = elim (cases_lt count due) [
      | inl l ↦ l
      | inr l ↦ absurd (let e : due ≡ count = omega arith in other (ap (member_of members) (sym e) ∙ d.turn))
    ] in
    record { later = passed; soon = omega arith; turn = d.turn }

module _ (members : ℕ) (ring : RingId) (i : ℕ) (proc : IsProc i) (member : IsMember members i) where
  inside : position_of members i < size members
  inside = position_of-inside members i proc member

  due_first : IsDue members i 0 (position_of members i)
  due_first = record { later = omega arith; soon = omega (arith, inside); turn = ap (at members) (mod-eq_of_lt inside) ∙ at-position_of members i proc member }

  -- a member's own visits, and when its next one is due
  pub record IsSpaced {A : Type 0} (count : ℕ) (turns : List (TokenVisit A)) : Type 0 where
    pub spaced : AreSpaced (size members) (position_of members i) turns
    pub due : IsDue members i count (due_number (size members) (position_of members i) turns)

  pub picked_spaced : {A : Type 0} → (vs : List (VisitBy A)) → AreVisits members ring vs → IsSpaced (length vs) (visits_taken_by i vs)
  picked_spaced [] h = record { spaced = tt; due = due_first }
  picked_spaced {A} (v ∷ vs) h =
      let rest : IsSpaced (length vs) (visits_taken_by i vs) = picked_spaced vs h.1 in
      let next = due_number (size members) (position_of members i) (visits_taken_by i vs) in
      let number : v.turn.received.number ≡ length vs = ap (λ (t : Token). t.number) h.0.comes ∙ number-visits members ring vs h.1 in
      cond_both (v.who == i) (v.turn ∷ visits_taken_by i vs) (visits_taken_by i vs) (λ (ts : List (TokenVisit A)). IsSpaced (suc (length vs)) ts)
      (λ e. (let due : next ≡ length vs = due_now members i (length vs) next (omega (arith, inside)) rest.due (sym h.0.turn ∙ eqb-true _ _ e) in
      let same : next ≡ v.turn.received.number = due ∙ sym number in
      let again = due_again members i (length vs) next due rest.due in
      record { spaced = (sym same, rest.spaced); due = subst (λ k. IsDue members i (suc (length vs)) (k + size members)) same again }))
      (λ e. record { spaced = rest.spaced; due = due_still members i (length vs) next (λ k. eqb-false _ _ e (h.0.turn ∙ k)) rest.due })

-- Runs

in_turn : {A : Type 0} → (visits : Chains A) (cores : ℕ → Core A) → AreRings cores → AreChains visits cores → VisitInTurn cores
in_turn {A} visits cores are chains q ring members proc member known =
    let Spaced : List (TokenVisit A) → Type 0 = λ ts. AreSpaced (size members) (position_of members q) ts in
    subst Spaced (sym (chains.turns q ring))
    (elim (chains.rounds ring) [
      | inl none ↦ subst (λ (vs : List (VisitBy A)). Spaced (visits_taken_by q vs)) (sym none) tt
      | inr round ↦ (let same : round.members ≡ members = one_members cores are ring round.members members round.ring_of known in
          (picked_spaced members ring q proc member (visits ring) (subst (λ m. AreVisits m ring (visits ring)) same round.visits_are)).spaced)
    ])

pub unformed_in_turn : {A : Type 0} → (n : ℕ) (events : List (RingEvent A)) → VisitInTurn (run (unformed n) events).cores
unformed_in_turn n events = let p = unformed_holds n events in in_turn p.visits (run (unformed n) events).cores p.rings p.chains

pub formed_in_turn : {A : Type 0} → (n : ℕ) (events : List (RingEvent A)) → 1 ≤ n → VisitInTurn (run_formed n events).cores
formed_in_turn n events some = let p = formed_runs n some events in in_turn p.visits (run_formed n events).cores p.rings p.chains
