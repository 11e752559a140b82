-- A ring's text has the numbers 1, 2, 3 and so on. What a processor holds up to its front is a prefix of it; what it sent there
-- is its own part.

-- The text is all that was numbered in the visits of the token, oldest first.
use Rattle.std.proofs.Common.{◌≡◌, ℕ, zero, suc, ◌+◌, ◌<◌, ◌≤◌, inl, inr, Bool, true, false, ◌==◌, List, [], ◌∷◌, ◌++◌}
use Rattle.std.proofs.Common.{length, take, Option, Some, refl, ap, sym, ◌∙◌, subst, arith, append_assoc, append-nil}
use Rattle.std.proofs.Common.{length-append}
use Rattle.std.specs.Prelude.{filter, filter_map, nat_le, if◌then◌else◌}
use Rattle.std.specs.List.{AllByRecursion as Each, flat_map, cons_option}
use Rattle.std.proofs.lemmas.Bool.{cond_both, cond-true, cond-false, cases_Bool, eqb-true, le-leb, lt-leb}
use Rattle.std.proofs.lemmas.List.Elements.{filter-append}
use Rattle.ring_base.specs.Prefixes.{IsListPrefix}
use Rattle.ring_base.specs.Numbers.{numbers_from}
use Rattle.ring_base.specs.declared.ring_id.RingId.{RingId}
use Rattle.ring_base.proofs.Each.{each-weaker, each-append, each-take, each-filter}
use Rattle.ring_payload.specs.declared.content.Payload.{Payload}
use Rattle.ring_payload.specs.PayloadKinds.{is_user, unpacked_payloads}
use Rattle.ring_wire.specs.declared.message.Message.{Message}
use Rattle.ring_wire.specs.declared.token.Token.{Token}
use Rattle.ring_core_spec.specs.Tokens.{TokenVisit, numbered, VisitBy, token_arrived, AreVisits}
use Rattle.ring_core_spec.proofs.Tokens.{length-numbered, numbered-ring}
use Rattle.ring_core_proof.specs.FactWords.{IsIn, SomeIs}
use Rattle.ring_core_proof.proofs.InLists.{in-left, in-right, in-parts, in-filtered, each-in}
use Rattle.ring_log.specs.EpochHistories.{messages_upto}
use Rattle.ring_synchrony_proof.specs.Chains.{visits_taken_by}
use Rattle.ring_log_proof.specs.RingFacts.{payloads_from}
use Rattle.ring_order_proof.specs.SentPayloads.{payloads_of_visit, payloads_of_visits}
use Rattle.ring_order_proof.specs.Texts.{Ascends}

-- all that was numbered in visits, given newest first
abbrev pub all_numbered : {A : Type 0} → RingId → List (VisitBy A) → List (Message A)
all_numbered ring [] = []
all_numbered ring (v ∷ vs) = all_numbered ring vs ++ numbered ring v.who v.turn.received.seq v.turn.fresh

-- the user messages of a list
abbrev pub users_in : {A : Type 0} → List (Message A) → List (Message A)
users_in {A} xs = filter (λ (x : Message A). is_user x.payload) xs

-- Consecutive numbers

abbrev pub AreFrom : {A : Type 0} → ℕ → List (Message A) → Type 0
AreFrom k [] = Unit {0}
AreFrom k (x ∷ xs) = (x.number ≡ suc k) × AreFrom (suc k) xs

from_append : {A : Type 0} → (k : ℕ) (xs ys : List (Message A)) → AreFrom k xs → AreFrom (k + length xs) ys → AreFrom k (xs ++ ys)
from_append {A} k [] ys h g = (let e : k + 0 ≡ k = omega arith in subst (λ (n : ℕ). AreFrom n ys) e g)
from_append {A} k (x ∷ xs) ys h g =
    (let e : k + suc (length xs) ≡ suc k + length xs = omega arith in (h.0, from_append (suc k) xs ys h.1 (subst (λ (n : ℕ). AreFrom n ys) e g)))

numbered_from : {A : Type 0} → (ring : RingId) (me seq : ℕ) (ps : List (Payload A)) → AreFrom seq (numbered ring me seq ps)
numbered_from ring me seq [] = tt
numbered_from ring me seq (p ∷ ps) = (refl, numbered_from ring me (suc seq) ps)

pub all_from : {A : Type 0} → (members : ℕ) (ring : RingId) (vs : List (VisitBy A)) → AreVisits members ring vs →
    AreFrom 0 (all_numbered ring vs) × (length (all_numbered ring vs) ≡ (token_arrived ring vs).seq)
all_from members ring [] h = (tt, refl)
all_from {A} members ring (v ∷ vs) h =
    let rest = all_from members ring vs h.1 in
    let received : v.turn.received.seq ≡ (token_arrived ring vs).seq = ap (λ (t : Token). t.seq) (h.0).comes in
    let forwarded : v.turn.forwarded.seq ≡ v.turn.received.seq + length v.turn.fresh = ap (λ (t : Token). t.seq) (h.0).goes in
    let new = numbered ring v.who v.turn.received.seq v.turn.fresh in
    let count : length new ≡ length v.turn.fresh = length-numbered ring v.who v.turn.received.seq v.turn.fresh in
    let last : length (all_numbered ring vs) ≡ (token_arrived ring vs).seq = rest.1 in
    let first : v.turn.received.seq ≡ 0 + length (all_numbered ring vs) = omega (arith, received, last) in (
      from_append 0 (all_numbered ring vs) new rest.0 (subst (λ (n : ℕ). AreFrom n new) first (numbered_from ring v.who v.turn.received.seq v.turn.fresh)),
      length-append (all_numbered ring vs) new ∙ omega (arith, received, forwarded, count, last),
    )

pub in_from : {A : Type 0} → (k : ℕ) (xs : List (Message A)) (x : Message A) → AreFrom k xs → IsIn x xs → k < x.number
in_from k [] x h i = absurd i
in_from {A} k (y ∷ xs) x h (inl e) = (let n : x.number ≡ y.number = ap (λ (z : Message A). z.number) e in let m : y.number ≡ suc k = h.0 in omega (arith, n, m))
in_from k (y ∷ xs) x h (inr i) = (let l = in_from (suc k) xs x h.1 i in omega (arith, l))

-- what was numbered in one of the visits is among all of it
pub some_numbered : {A : Type 0} → (ring : RingId) (vs : List (VisitBy A)) (x : Message A) →
    SomeIs (λ (v : VisitBy A). IsIn x (numbered ring v.who v.turn.received.seq v.turn.fresh)) vs → IsIn x (all_numbered ring vs)
some_numbered ring [] x h = absurd h
some_numbered ring (v ∷ vs) x (inl i) = in-right x (all_numbered ring vs) (numbered ring v.who v.turn.received.seq v.turn.fresh) i
some_numbered ring (v ∷ vs) x (inr i) = in-left x (all_numbered ring vs) (numbered ring v.who v.turn.received.seq v.turn.fresh) (some_numbered ring vs x i)

-- and conversely
pub numbered_some : {A : Type 0} → (ring : RingId) (vs : List (VisitBy A)) (x : Message A) → IsIn x (all_numbered ring vs) →
    SomeIs (λ (v : VisitBy A). IsIn x (numbered ring v.who v.turn.received.seq v.turn.fresh)) vs
numbered_some ring [] x i = absurd i
numbered_some ring (v ∷ vs) x i =
    elim (in-parts x (all_numbered ring vs) (numbered ring v.who v.turn.received.seq v.turn.fresh) i) [
      | inl old ↦ inr (numbered_some ring vs x old)
      | inr new ↦ inl new
    ]

-- so is what its sender numbered at one of these visits
pub picked_numbered : {A : Type 0} → (ring : RingId) (vs : List (VisitBy A)) (x : Message A) (t : TokenVisit A) → IsIn t (visits_taken_by x.sender vs) →
    IsIn x (numbered ring x.sender t.received.seq t.fresh) → IsIn x (all_numbered ring vs)
picked_numbered ring [] x t i n = absurd i
picked_numbered {A} ring (v ∷ vs) x t i n =
    let old = all_numbered ring vs in
    let new = numbered ring v.who v.turn.received.seq v.turn.fresh in
    let rest = visits_taken_by x.sender vs in
    elim (cases_Bool (v.who == x.sender)) [
      | inl own ↦ elim (subst (λ (ts : List (TokenVisit A)). IsIn t ts) (cond-true (v.who == x.sender) (v.turn ∷ rest) rest own) i) [
        | inl e ↦ in-right x old new
            (subst (λ (q : ℕ). IsIn x (numbered ring q v.turn.received.seq v.turn.fresh)) (sym (eqb-true v.who x.sender own))
            (subst (λ (u : TokenVisit A). IsIn x (numbered ring x.sender u.received.seq u.fresh)) e n))
        | inr j ↦ in-left x old new (picked_numbered ring vs x t j n)
      ]
      | inr other ↦ in-left x old new
          (picked_numbered ring vs x t (subst (λ (ts : List (TokenVisit A)). IsIn t ts) (cond-false (v.who == x.sender) (v.turn ∷ rest) rest other) i) n)
    ]

pub all_named : {A : Type 0} → (ring : RingId) (vs : List (VisitBy A)) → Each (λ (x : Message A). x.ring ≡ ring) (all_numbered ring vs)
all_named ring [] = tt
all_named {A} ring (v ∷ vs) = each-append (λ (x : Message A). x.ring ≡ ring)
    (all_numbered ring vs) _ (all_named ring vs) (numbered-ring ring v.who v.turn.received.seq v.turn.fresh)

pub users_named : {A : Type 0} → (ring : RingId) (vs : List (VisitBy A)) → Each (λ (x : Message A). x.ring ≡ ring) (users_in (all_numbered ring vs))
users_named {A} ring vs = each-filter (λ (x : Message A). x.ring ≡ ring) (λ (x : Message A). is_user x.payload) (all_numbered ring vs) (all_named ring vs)

-- User messages alone ascend too

all_above : {A : Type 0} → (k : ℕ) (xs : List (Message A)) → AreFrom k xs → Each (λ (x : Message A). k < x.number) xs
all_above k [] h = tt
all_above {A} k (x ∷ xs) h =
    let e : x.number ≡ suc k = h.0 in
    let rest = each-weaker (λ (y : Message A). suc k < y.number) (λ (y : Message A). k < y.number) (λ y l. omega (arith, l)) xs (all_above (suc k) xs h.1) in
    (omega (arith, e), rest)

pub users_ascend : {A : Type 0} → (k : ℕ) (xs : List (Message A)) → AreFrom k xs → Ascends (users_in xs)
users_ascend k [] h = tt
users_ascend {A} k (x ∷ xs) h =
    let user = λ (y : Message A). is_user y.payload in
    let above = subst (λ (n : ℕ). Each (λ (y : Message A). n < y.number) xs) (sym h.0) (all_above (suc k) xs h.1) in
    let rest = users_ascend (suc k) xs h.1 in
    cond_both (is_user x.payload) (x ∷ users_in xs) (users_in xs) (λ (ys : List (Message A)). Ascends ys)
    (λ e. (each-filter (λ (y : Message A). x.number < y.number) user xs above, rest)) (λ e. rest)

pub users_each : {A : Type 0} → (xs : List (Message A)) → Each (λ (x : Message A). is_user x.payload ≡ true) (users_in xs)
users_each {A} xs =
    each-in (λ (x : Message A). is_user x.payload ≡ true) (users_in xs) (λ x i. (in-filtered (λ (y : Message A). is_user y.payload) x xs i).1)

-- Looking up number by number gives the first elements

-- there is one with this number
abbrev pub IsThere : {A : Type 0} → (ℕ → Option (Message A)) → List (Message A) → ℕ → Type 0
IsThere {A} get xs j = (x : Message A) × (get j ≡ Some x) × IsIn x xs × (x.number ≡ j)

pub found_taken : {A : Type 0} → (get : ℕ → Option (Message A)) (k n : ℕ) (xs : List (Message A)) → AreFrom k xs →
    ((j : ℕ) → k < j → j ≤ k + n → IsThere get xs j) → filter_map get (numbers_from (suc k) n) ≡ take n xs
found_taken get k zero xs f h = refl
found_taken get k (suc n) [] f h = (let a = h (suc k) (omega arith) (omega arith) in absurd a.2)
found_taken {A} get k (suc n) (x ∷ xs) f h =
    let a = h (suc k) (omega arith) (omega arith) in
    let first : a.0 ≡ x = elim (a.2) [
      | inl e ↦ e
      | inr i ↦ (let l = in_from (suc k) xs a.0 f.1 i in let m : (a.0).number ≡ suc k = a.3 in absurd (omega (arith, l, m)))
    ] in
    let rest = found_taken get (suc k) n xs f.1 (λ j l u. next j l (h j (omega (arith, l)) (omega (arith, u)))) in
    ap (λ (o : Option (Message A)). cons_option o (filter_map get (numbers_from (suc (suc k)) n)))
    (a.1 ∙ ap Some first) ∙ ap (λ (ys : List (Message A)). x ∷ ys) rest
  where
    next : (j : ℕ) → suc k < j → IsThere get (x ∷ xs) j → IsThere get xs j
    next j l b = (
      b.0,
      b.1,
      elim (b.2) [
        | inl e ↦ (let m : (b.0).number ≡ j = b.3 in let q : (b.0).number ≡ x.number = ap
            (λ (z : Message A). z.number) e in let p : x.number ≡ suc k = f.0 in absurd (omega (arith, l, m, q, p)))
        | inr i ↦ i
      ],
      b.3,
    )

-- Prefixes

pub users_front : {A : Type 0} → (xs ys : List (Message A)) → IsListPrefix xs ys → IsListPrefix (users_in xs) (users_in ys)
users_front {A} xs ys f = (users_in f.0, sym (filter-append (λ (x : Message A). is_user x.payload) xs f.0) ∙ ap (λ (zs : List (Message A)). users_in zs) f.1)

-- Up to a number

upto_none : {A : Type 0} → (k : ℕ) (xs : List (Message A)) → Each (λ (x : Message A). k < x.number) xs → messages_upto k xs ≡ []
upto_none k [] h = refl
upto_none k (x ∷ xs) h = cond-false (nat_le x.number k) (x ∷ messages_upto k xs) [] (lt-leb x.number k h.0)

pub upto_taken : {A : Type 0} → (k m f : ℕ) (xs : List (Message A)) → AreFrom k xs → m ≤ f → messages_upto (k + m) (users_in (take f xs)) ≡ users_in (take m xs)
upto_taken {A} k zero f xs h l =
    let e : k + 0 ≡ k = omega arith in
    ap (λ (n : ℕ). messages_upto n (users_in (take f xs))) e
    ∙ upto_none k (users_in (take f xs))
    (each-filter (λ (x : Message A). k < x.number) (λ (x : Message A). is_user x.payload) (take f xs)
    (each-take (λ (x : Message A). k < x.number) f xs (all_above k xs h)))
upto_taken k (suc m) zero xs h l = absurd (omega arith)
upto_taken k (suc m) (suc f) [] h l = refl
upto_taken {A} k (suc m) (suc f) (x ∷ xs) h l =
    by (is_user x.payload) (upto_taken (suc k) m f xs h.1 (omega arith))
  where
    by : (b : Bool) → messages_upto (suc k + m) (users_in (take f xs)) ≡ users_in (take m xs) →
        messages_upto (k + suc m) (if b then x ∷ users_in (take f xs) else users_in (take f xs)) ≡ (if b then x ∷ users_in (take m xs) else users_in (take m xs))
    by true r =
        let e : k + suc m ≡ suc k + m = omega arith in
        let n : x.number ≡ suc k = h.0 in
        cond-true (nat_le x.number (k + suc m)) (x ∷ messages_upto (k + suc m) (users_in (take f xs))) [] (le-leb x.number (k + suc m) (omega (arith, n)))
        ∙ ap (λ (ys : List (Message A)). x ∷ ys) (ap (λ (n : ℕ). messages_upto n (users_in (take f xs))) e ∙ r)
    by false r = (let e : k + suc m ≡ suc k + m = omega arith in ap (λ (n : ℕ). messages_upto n (users_in (take f xs))) e ∙ r)

take_all : {X : Type 0} (n : ℕ) (xs : List X) → length xs ≤ n → take n xs ≡ xs
take_all zero [] l = refl
take_all zero (x ∷ xs) l = absurd (omega (arith, l))
take_all (suc n) [] l = refl
take_all {X} (suc n) (x ∷ xs) l = ap (λ (ys : List X). x ∷ ys) (take_all n xs (omega (arith, l)))

pub upto_all : {A : Type 0} → (m : ℕ) (xs : List (Message A)) → AreFrom 0 xs → messages_upto m (users_in xs) ≡ users_in (take m xs)
upto_all {A} m xs h =
    let same : 0 + m ≡ m = omega arith in
    let all : take (length xs + m) xs ≡ xs = take_all (length xs + m) xs (omega arith) in
    subst (λ (ys : List (Message A)). messages_upto m (users_in ys) ≡ users_in (take m xs)) all
    (subst (λ (n : ℕ). messages_upto n (users_in (take (length xs + m) xs)) ≡ users_in (take m xs)) same (upto_taken 0 m (length xs + m) xs h (omega arith)))

-- What one processor sent

said_append : {A : Type 0} → (p : ℕ) (xs ys : List (Message A)) → payloads_from p (xs ++ ys) ≡ payloads_from p xs ++ payloads_from p ys
said_append p [] ys = refl
said_append {A} p (x ∷ xs) ys =
    let own : List (Payload A) = if x.sender == p then unpacked_payloads x.payload else [] in
    ap (λ (zs : List (Payload A)). own ++ zs) (said_append p xs ys) ∙ sym (append_assoc own (payloads_from p xs) (payloads_from p ys))

own_said : {A : Type 0} → (p : ℕ) (ring : RingId) (me seq : ℕ) (ps : List (Payload A)) → (me == p) ≡ true
    → payloads_from p (users_in (numbered ring me seq ps)) ≡ payloads_of_visit ps
own_said p ring me seq [] e = refl
own_said {A} p ring me seq (q ∷ ps) e = by (is_user q) (own_said p ring me (suc seq) ps e)
  where
    first : Message A
    first = record { ring = ring; number = suc seq; sender = me; payload = q }

    more : List (Message A)
    more = users_in (numbered ring me (suc seq) ps)

    by : (b : Bool) → payloads_from p more ≡ payloads_of_visit ps → payloads_from p (if b then first ∷ more else more) ≡ flat_map unpacked_payloads
        (if b then q ∷ filter is_user ps else filter is_user ps)
    by true r =
        ap (λ (zs : List (Payload A)). zs ++ payloads_from p more) (cond-true (me == p) (unpacked_payloads q) [] e) ∙ ap (λ (zs : List (Payload A)). unpacked_payloads q ++ zs) r
    by false r = r

other_said : {A : Type 0} → (p : ℕ) (ring : RingId) (me seq : ℕ) (ps : List (Payload A)) → (me == p) ≡ false
    → payloads_from p (users_in (numbered ring me seq ps)) ≡ []
other_said p ring me seq [] e = refl
other_said {A} p ring me seq (q ∷ ps) e = by (is_user q) (other_said p ring me (suc seq) ps e)
  where
    first : Message A
    first = record { ring = ring; number = suc seq; sender = me; payload = q }

    more : List (Message A)
    more = users_in (numbered ring me (suc seq) ps)

    by : (b : Bool) → payloads_from p more ≡ [] → payloads_from p (if b then first ∷ more else more) ≡ []
    by true r = ap (λ (zs : List (Payload A)). zs ++ payloads_from p more) (cond-false (me == p) (unpacked_payloads q) [] e) ∙ r
    by false r = r

pub said_visits : {A : Type 0} → (p : ℕ) (ring : RingId) (vs : List (VisitBy A)) → payloads_from p (users_in (all_numbered ring vs)) ≡ payloads_of_visits (visits_taken_by p vs)
said_visits p ring [] = refl
said_visits {A} p ring (v ∷ vs) =
    let new = numbered ring v.who v.turn.received.seq v.turn.fresh in
    let parts : payloads_from p (users_in (all_numbered ring (v ∷ vs))) ≡ payloads_from p (users_in (all_numbered ring vs)) ++ payloads_from p (users_in new) =
    ap (payloads_from p) (filter-append (λ (x : Message A). is_user x.payload) (all_numbered ring vs) new)
    ∙ said_append p (users_in (all_numbered ring vs)) (users_in new) in
    let older : payloads_from p (users_in (all_numbered ring vs)) ++ payloads_from p (users_in new) ≡ payloads_of_visits (visits_taken_by p vs) ++ payloads_from p (users_in new) =
    ap (λ (zs : List (Payload A)). zs ++ payloads_from p (users_in new)) (said_visits p ring vs) in
    parts ∙ older ∙ by (v.who == p) refl
  where
    by : (b : Bool) → (v.who == p) ≡ b →
        payloads_of_visits (visits_taken_by p vs) ++ payloads_from p (users_in (numbered ring v.who v.turn.received.seq v.turn.fresh)) ≡ payloads_of_visits (visits_taken_by p (v ∷ vs))
    by true e =
        ap (λ (zs : List (Payload A)). payloads_of_visits (visits_taken_by p vs) ++ zs) (own_said p ring v.who v.turn.received.seq v.turn.fresh e)
        ∙ sym (ap payloads_of_visits (cond-true (v.who == p) (v.turn ∷ visits_taken_by p vs) (visits_taken_by p vs) e))
    by false e =
        ap (λ (zs : List (Payload A)). payloads_of_visits (visits_taken_by p vs) ++ zs) (other_said p ring v.who v.turn.received.seq v.turn.fresh e)
        ∙ append-nil (payloads_of_visits (visits_taken_by p vs))
        ∙ sym (ap payloads_of_visits (cond-false (v.who == p) (v.turn ∷ visits_taken_by p vs) (visits_taken_by p vs) e))
