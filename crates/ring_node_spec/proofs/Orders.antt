-- A run whose steps keep the rules has one order, which only grows and explains the run's history at each moment.
use Rattle.std.proofs.Common.{◌≡◌, ℕ, zero, suc, ◌≤◌, List, [], ◌∷◌, ◌++◌, length, Some}
use Rattle.std.proofs.Common.{slice_get, All, refl, ap, sym, subst, arith, inl, inr}
use Rattle.std.proofs.lemmas.List.Elements.{All-nil, All-cons, All-head, All-tail, All-replicate, All-weaker}
use Rattle.ring_base.specs.Prefixes.{IsListPrefix, prefix_self, prefix_trans, prefix_shorter, prefix_length}
use Rattle.ring_session.specs.Objects.{Sequential}
use Rattle.ring_core_spec.specs.Payloads.{Call}
use Rattle.ring_session.specs.Deduplicated.{deduplicated, IsNumbered}
use Rattle.ring_session.specs.DeduplicatedLaws.{deduplicated-front, deduplicated-numbered, deduplicated-stands}
use Rattle.ring_session.specs.SessionAnswer.{IsReplyIn}
use Rattle.ring_session.specs.SessionAnswerLaws.{answered, replied_front}
use Rattle.ring_log.proofs.LongerLists.{longer_list-either, longer_list-most}
use Rattle.ring_node_spec.specs.declared.item.Item.{Item}
use Rattle.ring_node_spec.specs.declared.item.Item.TheVariants.{Issue, Reply}
use Rattle.ring_node_spec.specs.Histories.{IsIssuedAt, AreCallsIssued, IsLinearization}
use Rattle.ring_node_spec.specs.Orders.{longer_list, order_of, Moment, EachCommittedLogGrows, ArePrefixesOfOneLog, IsReplyReportedAt, IsReplyGiven, IsHistoryAddition, IsOrderStep, IsOrderRun, last_moment, opening}
use Rattle.ring_node_spec.proofs.Linear.{all-at, linear-nothing, linear-grows, linear-issue, IsRight, linear-replies}

-- the order is no longer than the log of which all committed calls are prefixes
order_of-front : {A : Type 0} (log : List (Call A)) (committed : List (List (Call A)))
    → All (λ calls. IsListPrefix calls log) committed → IsListPrefix (order_of committed) (deduplicated log)
order_of-front log [] fronts = (deduplicated log, refl)
order_of-front {A} log (calls ∷ rest) fronts =
    let IsFrontOf : List (Call A) → Type 0 = λ w. IsListPrefix w log in
    longer_list-either (λ w. IsListPrefix w (deduplicated log)) (deduplicated calls) (order_of rest)
    (deduplicated-front calls log (All-head IsFrontOf calls rest fronts)) (order_of-front log rest (All-tail IsFrontOf calls rest fronts))

-- the order is at least as long as the calls that take effect in each node's committed log
order_of-length : {A : Type 0} (committed : List (List (Call A))) (node : ℕ) (calls : List (Call A))
    → slice_get committed node ≡ Some calls → length (deduplicated calls) ≤ length (order_of committed)
order_of-length [] node calls at = absurd (cc at)
order_of-length (first ∷ rest) zero calls at =
    let same : first ≡ calls = cc at in
    let is : length (deduplicated first) ≡ length (deduplicated calls) = ap (λ w. length (deduplicated w)) same in
    omega (arith, is, (longer_list-most (deduplicated first) (order_of rest)).0)
order_of-length (first ∷ rest) (suc node) calls at =
    omega (arith, order_of-length rest node calls at, (longer_list-most (deduplicated first) (order_of rest)).1)

-- each client's calls are numbered in the order
pub order_of-numbered : {A : Type 0} (committed : List (List (Call A))) → IsNumbered (order_of committed)
order_of-numbered [] = λ p c at. absurd (cc at)
order_of-numbered (calls ∷ rest) = longer_list-either IsNumbered (deduplicated calls) (order_of rest) (deduplicated-numbered calls) (order_of-numbered rest)

-- each call of the order was issued, if each committed call was
order_of-issued : {A : Type 0} (history : List (Item A)) (committed : List (List (Call A)))
    → All (AreCallsIssued history) committed → AreCallsIssued history (order_of committed)
order_of-issued history [] issued = λ p c at. absurd (cc at)
order_of-issued {A} history (calls ∷ rest) issued =
    let first : AreCallsIssued history calls = All-head (AreCallsIssued history) calls rest issued in
    longer_list-either (AreCallsIssued history) (deduplicated calls) (order_of rest)
    (λ p c at. let there = deduplicated-stands calls p c at in first there.0 c there.1)
    (order_of-issued history rest (All-tail (AreCallsIssued history) calls rest issued))

-- the calls that take effect in a node's committed log are a prefix of the order
pub order_of-fronts : {A : Type 0} (committed : List (List (Call A))) (node : ℕ) (calls : List (Call A))
    → ArePrefixesOfOneLog committed → slice_get committed node ≡ Some calls
    → IsListPrefix (deduplicated calls) (order_of committed)
order_of-fronts {A} committed node calls one at =
    prefix_shorter (deduplicated calls) (order_of committed) (deduplicated one.0)
    (deduplicated-front calls one.0 (all-at (λ (w : List (Call A)). IsListPrefix w one.0) committed node calls one.1 at))
    (order_of-front one.0 committed one.1) (order_of-length committed node calls at)

-- ---- the order grows

fronts-before : {A : Type 0} (log : List (Call A)) (committed after : List (List (Call A)))
    → EachCommittedLogGrows committed after → All (λ calls. IsListPrefix calls log) after → All (λ calls. IsListPrefix calls log) committed
fronts-before {A} log [] after grows fronts = All-nil (λ (w : List (Call A)). IsListPrefix w log)
fronts-before log (calls ∷ rest) [] grows fronts = absurd grows
fronts-before {A} log (calls ∷ rest) (more ∷ others) grows fronts =
    let IsFrontOf : List (Call A) → Type 0 = λ w. IsListPrefix w log in
    All-cons IsFrontOf calls rest (prefix_trans calls more log grows.0 (All-head IsFrontOf more others fronts))
    (fronts-before log rest others grows.1 (All-tail IsFrontOf more others fronts))

length-grows : {A : Type 0} (committed after : List (List (Call A))) → EachCommittedLogGrows committed after → length (order_of committed) ≤ length (order_of after)
length-grows [] after grows = omega arith
length-grows (calls ∷ rest) [] grows = absurd grows
length-grows (calls ∷ rest) (more ∷ others) grows =
    let first = prefix_length (deduplicated calls) (deduplicated more) (deduplicated-front calls more grows.0) in
    let later = length-grows rest others grows.1 in
    let most = longer_list-most (deduplicated more) (order_of others) in
    longer_list-either (λ w. length w ≤ length (longer_list (deduplicated more) (order_of others))) (deduplicated calls) (order_of rest)
    (omega (arith, first, most.0)) (omega (arith, later, most.1))

-- the order grows as the committed calls of the nodes do
pub order_of-grows : {A : Type 0} (committed after : List (List (Call A))) → EachCommittedLogGrows committed after
    → ArePrefixesOfOneLog after → IsListPrefix (order_of committed) (order_of after)
order_of-grows committed after grows one =
    prefix_shorter (order_of committed) (order_of after) (deduplicated one.0)
    (order_of-front one.0 committed (fronts-before one.0 committed after grows one.1)) (order_of-front one.0 after one.1) (length-grows committed after grows)

-- ---- steps and runs

-- if nothing is committed, the order is empty
pub order_of-opening : {A : Type 0} (n : ℕ) → order_of {A = A} (opening n).committed ≡ []
order_of-opening zero = refl
order_of-opening {A} (suc n) = ap (λ (w : List (Call A)). longer_list [] w) (order_of-opening n)

-- at the opening the nodes agree
pub opening-agrees : {A : Type 0} (n : ℕ) → ArePrefixesOfOneLog (opening {A = A} n).committed
opening-agrees {A} n = ([], All-replicate (λ (w : List (Call A)). IsListPrefix w []) n [] ([], refl))

module _ {O A : Type 0} (object : Sequential O) where
  -- a reply that a node gave is the object's at the call's place in the order
  pub told-right : (committed : List (List (Call A))) (c : Call A) (r : List ℕ) → ArePrefixesOfOneLog committed
      → IsReplyReportedAt object committed c r → IsReplyIn object (order_of committed) c r
  told-right committed c r one told =
      replied_front object (deduplicated told.calls) (order_of committed) c r (order_of-fronts committed told.node told.calls one told.committed_there)
      (answered object told.calls told.place c told.answer r told.stands told.answered told.brings)

  given-right : (committed : List (List (Call A))) (item : Item A) → ArePrefixesOfOneLog committed
      → IsReplyGiven object committed item → IsRight object (order_of committed) item
  given-right committed (Issue c) one given = absurd given
  given-right committed (Reply c r) one given = told-right committed c r one given

  -- if only replies were added, what is issued was issued before
  issued_before : (committed : List (List (Call A))) (history items : List (Item A)) (c : Call A) (k : ℕ)
      → All (IsReplyGiven object committed) items → IsIssuedAt (history ++ items) c k → IsIssuedAt history c k
  issued_before committed [] items c k given at = absurd (all-at (IsReplyGiven object committed) items k (Issue c) given at)
  issued_before committed (item ∷ history) items c zero given at = at
  issued_before committed (item ∷ history) items c (suc k) given at = issued_before committed history items c k given at

  step-added : (order more : List (Call A)) (committed : List (List (Call A))) (history items : List (Item A))
      → IsLinearization object order history → IsListPrefix order more → IsNumbered more
      → AreCallsIssued (history ++ items) more → ((item : Item A) → IsReplyGiven object committed item → IsRight object more item)
      → IsHistoryAddition object committed items → IsLinearization object more (history ++ items)
  step-added order more committed history items linear front numbered issued right added = elim added [
    | inl issue ↦
        let taken = linear-issue object order history issue.0 linear in
        linear-grows object order more (history ++ items) (subst (λ w. IsLinearization object order (history ++ w)) (sym issue.1) taken) front numbered issued
    | inr given ↦
        let before : AreCallsIssued history more = λ p c at. let there = issued p c at in (there.0, issued_before committed history items c there.0 given there.1) in
        linear-replies object more history items (linear-grows object order more history linear front numbered before)
        (All-weaker (IsReplyGiven object committed) (IsRight object more) right items given)
  ]

  -- a step that keeps the rules preserves that the order explains the history
  pub linear-step : (before after : Moment A) → IsOrderStep object before after → IsLinearization object (order_of before.committed) before.history
      → IsLinearization object (order_of after.committed) after.history
  linear-step before after step linear =
      let items = step.added.0 in
      let grown = order_of-issued after.history after.committed step.issued in
      subst (IsLinearization object (order_of after.committed)) step.added.1
      (step-added (order_of before.committed) (order_of after.committed) after.committed before.history items linear
      (order_of-grows before.committed after.committed step.grows step.agrees) (order_of-numbered after.committed)
      (subst (λ w. AreCallsIssued w (order_of after.committed)) (sym step.added.1) grown)
      (λ item given. given-right after.committed item step.agrees given) step.added.2)

  -- so does a run
  pub linear-run : (moment : Moment A) (rest : List (Moment A)) → IsOrderRun object moment rest
      → IsLinearization object (order_of moment.committed) moment.history
      → IsLinearization object (order_of (last_moment moment rest).committed) (last_moment moment rest).history
  linear-run moment [] run linear = linear
  linear-run moment (after ∷ rest) run linear = linear-run after rest run.1 (linear-step moment after run.0 linear)

  -- at the opening it holds
  pub linear-opening : (n : ℕ) → IsLinearization object (order_of {A = A} (opening n).committed) (opening n).history
  linear-opening n = subst (λ w. IsLinearization object w []) (sym (order_of-opening n)) (linear-nothing object)

  -- the order grows along a run
  pub order-run : (moment : Moment A) (rest : List (Moment A)) → IsOrderRun object moment rest
      → IsListPrefix (order_of moment.committed) (order_of (last_moment moment rest).committed)
  order-run moment [] run = prefix_self (order_of moment.committed)
  order-run moment (after ∷ rest) run =
      prefix_trans (order_of moment.committed) (order_of after.committed) (order_of (last_moment after rest).committed)
      (order_of-grows moment.committed after.committed run.0.grows run.0.agrees) (order-run after rest run.1)

  -- the nodes still agree along a run
  pub agrees-run : (moment : Moment A) (rest : List (Moment A)) → IsOrderRun object moment rest
      → ArePrefixesOfOneLog moment.committed → ArePrefixesOfOneLog (last_moment moment rest).committed
  agrees-run moment [] run agrees = agrees
  agrees-run moment (after ∷ rest) run agrees = agrees-run after rest run.1 run.0.agrees
