-- Facts about every run, from the opening and from a formed ring.
use Rattle.std.proofs.Common.{◌≡◌, ℕ, ◌≤◌, inl, inr, List, [], ◌∷◌, refl, ap, sym, ◌∙◌, arith}
use Rattle.std.specs.Prelude.{filter}
use Rattle.ring_base.specs.Numbers.{numbers_from}
use Rattle.ring_base.specs.Rings.{same_ring}
use Rattle.ring_base.specs.Processors.{at, everybody}
use Rattle.ring_base.specs.Members.{everybody_members}
use Rattle.ring_base.specs.Elements.{smallest-least}
use Rattle.ring_base.specs.declared.ring_id.RingId.{RingId}
use Rattle.ring_base.specs.declared.state.State.TheVariants.{Recovery, Operational}
use Rattle.ring_wire.specs.declared.message.Message.{Message}
use Rattle.ring_wire.specs.declared.token.Token.{Token}
use Rattle.ring_core_spec.specs.Windows.{of_ring}
use Rattle.ring_base.proofs.SameRing.{ring_same}
use Rattle.ring_core_spec.specs.Tokens.{first_token}
use Rattle.ring_core_spec.specs.State.{Core, formed_ring_of, formed}
use Rattle.ring_core_spec.specs.Visiting.{room_at, new_payloads, messages_sent_again, queue_after}
use Rattle.ring_core_spec.specs.Deciding.{Visit}
use Rattle.ring_core_proof.specs.FactWords.{IsIn}
use Rattle.ring_core_proof.specs.declared.event.RingEvent.{RingEvent}
use Rattle.ring_core_proof.specs.Worlds.{World, run, unformed, ring_formed, has_effect_on_formed, run_formed}
use Rattle.ring_core_proof.specs.Texts.{held_by, text_of, HasOneText}
use Rattle.ring_core_proof.specs.Moves.{MayVisit, IsReceivedFrame}
use Rattle.ring_core_proof.proofs.InLists.{in-each, in-parts, in-filtered, contains-in}
use Rattle.ring_core_proof.proofs.Lifting.{kept_run}
use Rattle.ring_core_proof.proofs.StepsAreMoves.{move_of, fresh_short, fresh_users, all_repeats, queue_kept}
use Rattle.ring_chain_proof.specs.ChainWords.{SharesRings, IsGenuine}
use Rattle.ring_chain_proof.specs.ChainFacts.{HasChains, HasNumbered, MarksAreSafe}
use Rattle.ring_chain_proof.proofs.OneText.{one_text}
use Rattle.ring_chain_proof.proofs.Safety.{mark_safe}
use Rattle.ring_chain_proof.proofs.AllLayers.{Holds, holding, unformed_holds, formed_holds}

-- A formed ring: its representative has visited the first token, which is a move

first_of_all : (n : ℕ) → 1 ≤ n → at (everybody n) 0 ≡ 1
first_of_all n some = smallest-least (everybody n) 1 (omega arith, omega arith)
    ((everybody_members n 1).1 (omega arith, some)) (λ j m. ((everybody_members n j).0 m).0)

pub may_start : {A : Type 0} → (n : ℕ) → 1 ≤ n → (t : Token) → t ≡ first_token (formed_ring_of n).ring →
    MayVisit (IsReceivedFrame {A = A} [] 1) (formed n 1) t (new_payloads (formed n 1) t) (messages_sent_again (formed n 1) t)
    (queue_after Operational (room_at (formed {A = A} n 1) t) [])
may_start {A} n some t e =
    record {
      state = inr refl;
      ring = ap (λ (t : Token). t.ring) e;
      newer = refl;
      ahead = omega arith;
      room = fresh_short (formed {A = A} n 1) t;
      users = fresh_users (formed {A = A} n 1) t;
      wraps = λ s. absurd (let q : Operational ≡ Recovery = s in let x : ⊥ = cc in x);
      repeats = all_repeats (formed {A = A} n 1) t;
      queued = queue_kept Operational (room_at (formed {A = A} n 1) t) [];
      from = inl (record { token = e; first = first_of_all n some });
    }

pub start_holds : {A : Type 0} → (n : ℕ) → 1 ≤ n → Holds (ring_formed {A = A} n).cores (ring_formed {A = A} n).frames
start_holds {A} n some =
    let t = first_token (formed_ring_of n).ring in
    holding.moves (formed {A = A} n) [] 1 (move_of (formed n 1) (Visit t)) (omega arith) (may_start {A = A} n some t refl) (formed_holds n)

pub formed_runs : {A : Type 0} → (n : ℕ) → 1 ≤ n → (events : List (RingEvent A)) → Holds (run_formed n events).cores (run_formed n events).frames
formed_runs n some events = kept_run Holds holding (ring_formed n) (filter has_effect_on_formed events) (start_holds n some)

-- Text

pub held_somewhere : {A : Type 0} → (cores : ℕ → Core A) (ring : RingId) (is : List ℕ) (x : Message A) → IsIn x (held_by cores ring is) →
    (q : ℕ) × IsIn x (cores q).held × (x.ring ≡ ring)
held_somewhere cores ring [] x h = absurd h
held_somewhere {A} cores ring (i ∷ is) x h =
    elim (in-parts x (of_ring ring (cores i).held) (held_by cores ring is) h) [
      | inl here ↦ (let f = in-filtered (λ (y : Message A). same_ring y.ring ring) x (cores i).held here in (i, f.0, ring_same x.ring ring f.1))
      | inr there ↦ held_somewhere cores ring is x there
    ]

pub texts_agree : {A : Type 0} → (w : World A) → Holds w.cores w.frames → (ring : RingId) → HasOneText w ring
texts_agree {A} w p ring x y hx hy e =
    let a = held_somewhere w.cores ring (numbers_from 1 w.total) x (contains-in (text_of w ring) hx.0 x hx.1 hx.2) in
    let b = held_somewhere w.cores ring (numbers_from 1 w.total) y (contains-in (text_of w ring) hy.0 y hy.1 hy.2) in
    one_text p.visits w.cores p.chains x y (in-each (IsGenuine p.visits) x (w.cores a.0).held (p.texts.held a.0) a.1)
    (in-each (IsGenuine p.visits) y (w.cores b.0).held (p.texts.held b.0) b.1) (a.2 ∙ sym b.2) e

-- The laws

pub shared_rings : {A : Type 0} → (n : ℕ) (events : List (RingEvent A)) → SharesRings (run (unformed n) events).cores
shared_rings n events = (unformed_holds n events).rings.shared

marks_are_safe : {A : Type 0} → (w : World A) → Holds w.cores w.frames → MarksAreSafe w.cores
marks_are_safe w p = mark_safe p.visits w.cores p.chains p.turned p.safe

pub unformed_chains : {A : Type 0} → (n : ℕ) (events : List (RingEvent A)) → HasChains (run (unformed n) events).cores
unformed_chains n events = let p = unformed_holds n events in (p.visits, p.chains)

pub formed_chains : {A : Type 0} → (n : ℕ) (events : List (RingEvent A)) → 1 ≤ n → HasChains (run_formed n events).cores
formed_chains n events some = let p = formed_runs n some events in (p.visits, p.chains)

pub unformed_text : {A : Type 0} → (n : ℕ) (events : List (RingEvent A)) (ring : RingId) → HasOneText (run (unformed n) events) ring
unformed_text n events = texts_agree (run (unformed n) events) (unformed_holds n events)

pub formed_text : {A : Type 0} → (n : ℕ) (events : List (RingEvent A)) (ring : RingId) → 1 ≤ n → HasOneText (run_formed n events) ring
formed_text n events ring some = texts_agree (run_formed n events) (formed_runs n some events) ring

pub unformed_marks : {A : Type 0} → (n : ℕ) (events : List (RingEvent A)) → MarksAreSafe (run (unformed n) events).cores
unformed_marks n events = marks_are_safe (run (unformed n) events) (unformed_holds n events)

pub formed_marks : {A : Type 0} → (n : ℕ) (events : List (RingEvent A)) → 1 ≤ n → MarksAreSafe (run_formed n events).cores
formed_marks n events some = marks_are_safe (run_formed n events) (formed_runs n some events)

pub unformed_numbered : {A : Type 0} → (n : ℕ) (events : List (RingEvent A)) → HasNumbered (run (unformed n) events).cores
unformed_numbered n events = let p = unformed_holds n events in (p.visits, p.chains, record { held = p.texts.held; wraps = p.texts.wraps })

pub formed_numbered : {A : Type 0} → (n : ℕ) (events : List (RingEvent A)) → 1 ≤ n → HasNumbered (run_formed n events).cores
formed_numbered n events some = let p = formed_runs n some events in (p.visits, p.chains, record { held = p.texts.held; wraps = p.texts.wraps })
