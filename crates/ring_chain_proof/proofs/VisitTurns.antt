-- The member whose turn it is, and the newest token: lemmas about one list of visits.
use Rattle.std.proofs.Common.{◌≡◌, ℕ, ◌+◌, ◌%◌, ◌<◌, ◌≤◌, inl, inr, true, ◌==◌, List, [], ◌∷◌, length, refl, ap, sym, ◌∙◌, subst, arith}
use Rattle.std.specs.Prelude.{nat_lt}
use Rattle.std.specs.List.{list_all}
use Rattle.std.proofs.lemmas.Bool.{cond_both, and_parts, ltb-true, eq-eqb, cond-true}
use Rattle.ring_base.specs.Processors.{only, has, at, size}
use Rattle.ring_base.specs.Members.{only_members, member_had}
use Rattle.ring_base.specs.declared.ring_id.RingId.{RingId}
use Rattle.ring_wire.specs.declared.token.Token.{Token}
use Rattle.ring_core_spec.specs.Tokens.{TokenVisit, first_token, VisitBy, token_arrived, AreVisits}
use Rattle.ring_chain_proof.specs.ChainWords.{visits_taken_by}
use Rattle.ring_chain_proof.proofs.GenuineFrames.{HasArrived}

-- Sets and positions

-- a frame sent to one processor alone is received by that one
pub only-is : (j i : ℕ) → 1 ≤ j → 1 ≤ i → has (only j) i ≡ true → i ≡ j
only-is j i low other h = (only_members j i low).0 (member_had (only j) i other h)

-- Numbers of tokens

-- the token after n visits has number n
pub number-visits : {A : Type 0} → (members : ℕ) (ring : RingId) (vs : List (VisitBy A)) → AreVisits members ring vs → (token_arrived ring vs).number ≡ length vs
number-visits members ring [] h = refl
number-visits members ring (v ∷ vs) h =
    let a : v.turn.forwarded.number ≡ v.turn.received.number + 1 = ap (λ (t : Token). t.number) h.0.goes in
    let b : v.turn.received.number ≡ length vs = ap (λ (t : Token). t.number) h.0.comes ∙ number-visits members ring vs h.1 in
    omega arith

pub first-token_arrived : {A : Type 0} → (ring : RingId) (vs : List (VisitBy A)) → HasArrived ring (first_token ring) vs
first-token_arrived ring [] = refl
first-token_arrived ring (v ∷ vs) = inr (first-token_arrived ring vs)

-- each of these tokens has a number below this one
abbrev pub AllBelow : {A : Type 0} → ℕ → List (TokenVisit A) → Type 0
AllBelow n vs = list_all (λ (v : TokenVisit _). nat_lt v.received.number n) vs ≡ true

below_rest : {A : Type 0} → (i n : ℕ) (v : VisitBy A) (vs : List (VisitBy A)) → AllBelow n (visits_taken_by i (v ∷ vs)) → AllBelow n (visits_taken_by i vs)
below_rest {A} i n v vs h =
    cond_both (v.who == i) (v.turn ∷ visits_taken_by i vs) (visits_taken_by i vs) (λ (ts : List (TokenVisit A)). AllBelow n ts → AllBelow n (visits_taken_by i vs))
    (λ e k. (and_parts (nat_lt v.turn.received.number n) (list_all (λ (v : TokenVisit A). nat_lt v.received.number n) (visits_taken_by i vs)) k).1) (λ e k. k) h

-- a token is the newest where the member whose turn it is visited only older ones
pub newest : {A : Type 0} → (members : ℕ) (ring : RingId) (t : Token) (i : ℕ) (vs : List (VisitBy A)) → 0 < size members → AreVisits members ring vs →
    HasArrived ring t vs → i ≡ at members (t.number % size members) → AllBelow t.number (visits_taken_by i vs) → token_arrived ring vs ≡ t
newest members ring t i [] some h a here below = a
newest members ring t i (v ∷ vs) some h (inl e) here below = e
newest {A} members ring t i (v ∷ vs) some h (inr a) here below =
    let before : token_arrived ring vs ≡ t = newest members ring t i vs some h.1 a here (below_rest i t.number v vs below) in
    let number : t.number ≡ length vs = ap (λ (t : Token). t.number) (sym before) ∙ number-visits members ring vs h.1 in
    let who : v.who ≡ i = h.0.turn ∙ ap (λ n. at members (n % size members)) (sym number) ∙ sym here in
    let received : v.turn.received.number ≡ t.number = ap (λ (t : Token). t.number) (h.0.comes ∙ before) in
    let mine : visits_taken_by i (v ∷ vs) ≡ v.turn ∷ visits_taken_by i vs = cond-true (v.who == i) _ _ (eq-eqb v.who i who) in
    let k = subst (λ (ts : List (TokenVisit A)). AllBelow t.number ts) mine below in
    absurd (let l : v.turn.received.number < t.number = ltb-true _ _ (and_parts (nat_lt v.turn.received.number t.number)
    (list_all (λ (v : TokenVisit A). nat_lt v.received.number t.number) (visits_taken_by i vs)) k).0 in omega arith)
