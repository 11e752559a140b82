-- The checks hold exactly of an order that explains the history.
use Rattle.std.proofs.Common.{◌≡◌, ℕ, zero, suc, ◌+◌, ◌<◌, ◌≤◌, ◌↔◌, Bool, true, false, List, [], ◌∷◌, ◌++◌}
use Rattle.std.proofs.Common.{length, take, Option, Some, None, slice_get, slice_index_or, IsTrue, refl, ap, sym, subst}
use Rattle.std.proofs.Common.{◌∙◌, arith, add-one, length-append, inl, inr}
use Rattle.std.proofs.lemmas.List.Elements.{All-nil}
use Rattle.std.proofs.lemmas.Option.{slice_get_within}
use Rattle.std.proofs.lemmas.Bool.{cases_lt}
use Rattle.ring_base.specs.Prefixes.{prefix_get, prefix_append}
use Rattle.ring_base.proofs.ListPlaces.{get-last, has-place}
use Rattle.ring_object.specs.Operations.{Sequential, content_after}
use Rattle.ring_payload.specs.declared.call.Call.{Call}
use Rattle.ring_payload.specs.SameCalls.{is_same-self}
use Rattle.ring_session.specs.Deduplicated.{IsCallAt, IsNumbered, operations}
use Rattle.ring_session.specs.DeduplicatedLaws.{numbered_once}
use Rattle.ring_session.specs.SessionAnswer.{call_reply}
use Rattle.ring_session.specs.SessionAnswerLaws.{is_same-true}
use Rattle.ring_checker.specs.declared.check.OrderPlace.{OrderPlace}
use Rattle.ring_node_spec.specs.declared.item.Item.{Item}
use Rattle.ring_node_spec.specs.declared.item.Item.TheVariants.{Issue, Reply}
use Rattle.ring_checker.specs.Checks.{is_issue_of, first_issue, place_in, IsIssuedBefore, AreIssuedBefore, ArePlaces, IsReplyAtPlace, IsItemRightAt, AreRepliesRight}
use Rattle.ring_checker.proofs.Places.{place_in-stands, place_in-numbered}
use Rattle.ring_node_spec.specs.Histories.{IsIssuedAt, IsRepliedAt, IsLinearization}
use Rattle.ring_node_spec.proofs.Linear.{all-at}
use Rattle.ring_node_spec.proofs.FirstMatch.{all-from_places, take-within, take-get, get-take, position-found, position-least, option-some, some-option}

-- ---- one call

is_issue_of-true : {A : Type 0} (c : Call A) (item : Item A) → is_issue_of c item ≡ true → item ≡ Issue c
is_issue_of-true c (Issue d) is = ap Issue (is_same-true c d is)
is_issue_of-true c (Reply d r) is = absurd (cc is)

-- the call was issued at the place where its first issue is found
first_issue-issued : {A : Type 0} (history : List (Item A)) (c : Call A) (j : ℕ) → first_issue history c ≡ Some j → IsIssuedAt history c j
first_issue-issued history c j is =
    let found = position-found (is_issue_of c) history j is in
    found.1 ∙ ap Some (is_issue_of-true c found.0 found.2)

-- it was issued nowhere before that
first_issue-least : {A : Type 0} (history : List (Item A)) (c : Call A) (k : ℕ) → IsIssuedAt history c k → (j : ℕ) × (first_issue history c ≡ Some j) × (j ≤ k)
first_issue-least history c k issued = position-least (is_issue_of c) history k (Issue c) issued (is_same-self c)

-- ---- the replies of one place

pub right_at-found : (issued : List OrderPlace) (at : ℕ) (r : List ℕ) (place : OrderPlace) (same : Bool) → slice_get issued at ≡ Some place
    → (same ≡ true → place.reply ≡ r) → (place.reply ≡ r → same ≡ true) → IsTrue same ↔ IsReplyAtPlace issued at r
right_at-found issued at r place same is told back = (
  λ so. (place, is, told so),
  λ right. let found : Some place ≡ Some right.0 = sym is
      ∙ right.1 in let one : place ≡ right.0 = cc found in back (ap (λ (w : OrderPlace). w.reply) one ∙ right.2),
)

pub right_at-none : (issued : List OrderPlace) (at : ℕ) (r : List ℕ) → slice_get issued at ≡ None → IsTrue false ↔ IsReplyAtPlace issued at r
right_at-none issued at r is = (λ so. absurd (cc so), λ right. absurd (cc (is, right.1)))

-- ---- the object's run over the order

content-next : {O A : Type 0} (object : Sequential O) (o : O) (order : List (Call A)) (n : ℕ) (c : Call A) → IsCallAt order n c
    → content_after object o (take (suc n) (operations order)) ≡ object.next (content_after object o (take n (operations order))) c.op
content-next object o [] n c at = absurd (cc at)
content-next {O} {A} object o (d ∷ ds) zero c at = let is : d ≡ c = cc at in ap (λ (w : Call A). object.next o w.op) is
content-next object o (d ∷ ds) (suc n) c at = content-next object (object.next o d.op) ds n c at

-- the content after one more call
pub content-step : {O A : Type 0} (object : Sequential O) (o more : O) (order : List (Call A)) (n : ℕ) (c : Call A) → IsCallAt order n c
    → o ≡ content_after object object.initial (take n (operations order)) → more ≡ object.next o c.op
    → more ≡ content_after object object.initial (take (n + 1) (operations order))
content-step object o more order n c at is done =
    done ∙ ap (λ w. object.next w c.op) is ∙ sym (content-next object object.initial order n c at)
    ∙ ap (λ m. content_after object object.initial (take m (operations order))) (sym (add-one n))

operation-at : {A : Type 0} (order : List (Call A)) (n : ℕ) (c : Call A) → IsCallAt order n c → slice_index_or (operations order) n [] ≡ c.op
operation-at [] n c at = absurd (cc at)
operation-at {A} (d ∷ ds) zero c at = let is : d ≡ c = cc at in ap (λ (w : Call A). w.op) is
operation-at (d ∷ ds) (suc n) c at = operation-at ds n c at

-- a place is determined by its fields
place-is : (place : OrderPlace) (issued : Option ℕ) (reply : List ℕ) → place.issued ≡ issued → place.reply ≡ reply
    → place ≡ record { issued = issued; reply = reply }
place-is place issued reply first told =
    let of_issued : Option ℕ → OrderPlace = λ w. record { issued = w; reply = place.reply } in
    let of_reply : List ℕ → OrderPlace = λ w. record { issued = issued; reply = w } in
    ap of_issued first ∙ ap of_reply told

module _ {O A : Type 0} (object : Sequential O) where
  -- one more place
  pub places-push : (order : List (Call A)) (history : List (Item A)) (n : ℕ) (places : List OrderPlace) (o : O)
      (c : Call A) (place : OrderPlace) → ArePlaces object order history n places → IsCallAt order n c
      → o ≡ content_after object object.initial (take n (operations order)) → place.issued ≡ first_issue history c → place.reply ≡ object.reply o c.op
      → ArePlaces object order history (n + 1) (places ++ place ∷ [])
  places-push order history n places o c place are at is issued replied = record {
    many = length-append places (place ∷ []) ∙ ap (λ m. m + 1) are.many;
    each = λ q d within there. elim (cases_lt q n) as (λ _. slice_get (places ++ place ∷ []) q ≡ Some
        (record { issued = first_issue history d; reply = call_reply object order q })) [
          | inl before ↦ prefix_get places (places ++ place ∷ []) q
              (record { issued = first_issue history d; reply = call_reply object order q })
              (prefix_append places (place ∷ [])) (are.each q d before there)
          | inr last ↦
              let same : n ≡ q = omega (arith, within, last) in
              let one : Some c ≡ Some d = sym at ∙ ap (slice_get order) same ∙ there in
              let call : c ≡ d = cc one in
              let told : place.reply ≡ call_reply object order n =
              replied ∙ ap (λ w. object.reply w c.op) is
              ∙ ap (object.reply (content_after object object.initial (take n (operations order))))
              (sym (operation-at order n c at)) in
              let kept : place.reply ≡ call_reply object order q = told ∙ ap (call_reply object order) same in
              let first : place.issued ≡ first_issue history d = issued ∙ ap (first_issue history) call in
              let count : length places ≡ q = are.many ∙ same in
              ap (slice_get (places ++ place ∷ [])) (sym count) ∙ get-last places place
              ∙ ap Some (place-is place (first_issue history d) (call_reply object order q) first kept)
        ];
  }

  -- ---- both directions

  -- the place of a call of the order
  place-at : (order : List (Call A)) (history : List (Item A)) (places : List OrderPlace) (q : ℕ) (c : Call A)
      → ArePlaces object order history (length order) places → IsCallAt order q c
      → slice_get places q ≡ Some (record { issued = first_issue history c; reply = call_reply object order q })
  place-at order history places q c are stands = are.each q c (slice_get_within order q c stands) stands

  -- a call that was issued before k
  issued-at : (order : List (Call A)) (history : List (Item A)) (places : List OrderPlace) (n k q : ℕ) (c : Call A)
      → ArePlaces object order history (length order) places → IsCallAt order q c → q < n
      → AreIssuedBefore (take n places) k → (j : ℕ) × IsIssuedAt history c j × (j < k)
  issued-at order history places n k q c are stands within before =
      let place : OrderPlace = record { issued = first_issue history c; reply = call_reply object order q } in
      let here = all-at (λ (w : OrderPlace). IsIssuedBefore w k) (take n places) q place before
      (get-take n places q place within (place-at order history places q c are stands)) in
      let found = option-some (first_issue history c) (λ j. j < k) here in
      (found.0, first_issue-issued history c found.0 found.1, found.2)

  -- the place of a right reply; the calls up to it were issued before
  record IsRight (order : List (Call A)) (places : List OrderPlace) (k : ℕ) (c : Call A) (r : List ℕ) : Type 0 where
    at : ℕ
    stands : IsCallAt order at c
    place : OrderPlace
    there : slice_get places at ≡ Some place
    reply : place.reply ≡ r
    front : ℕ
    issued : AreIssuedBefore (take front places) k
    within : at < front

  right-place : (order : List (Call A)) (places : List OrderPlace) (k : ℕ) (c : Call A) (r : List ℕ) → IsItemRightAt order places k (Reply c r)
      → IsRight order places k c r
  right-place order places k c r right =
      let found = option-some (place_in order c) (λ at. IsReplyAtPlace (take right.0 places) at r) right.2 in
      record {
        at = found.0;
        stands = place_in-stands order c found.0 found.1;
        place = found.2.0;
        there = take-get right.0 places found.0 found.2.0 found.2.1;
        reply = found.2.2;
        front = right.0;
        issued = right.1;
        within = take-within right.0 places found.0 found.2.0 found.2.1;
      }

  -- what passes the checks explains the history
  pub checked-linear : (order : List (Call A)) (history : List (Item A)) (places : List OrderPlace) → IsNumbered order
      → ArePlaces object order history (length order) places
      → AreIssuedBefore places (length history) → AreRepliesRight order places history → IsLinearization object order history
  checked-linear order history places numbered are issued right = record {
    numbered = numbered;
    issued = λ p c stands.
        let place : OrderPlace = record { issued = first_issue history c; reply = call_reply object order p } in
        let here = all-at (λ (w : OrderPlace). IsIssuedBefore w (length history)) places p place issued (place-at order history places p c are stands) in
        let found = option-some (first_issue history c) (λ j. j < length history) here in
        (found.0, first_issue-issued history c found.0 found.1);
    reply_items = λ k c r at.
        let there = right-place order places k c r (right k (Reply c r) at) in
        let found : Some there.place ≡ Some (record {
          issued = first_issue history c;
          reply = call_reply object order there.at;
        }) = sym there.there
        ∙ place-at order history places there.at c are there.stands in
        let place : there.place ≡ record { issued = first_issue history c; reply = call_reply object order there.at } = cc found in
        (there.at, there.stands, sym (ap (λ (w : OrderPlace). w.reply) place) ∙ there.reply);
    ordered = λ k a b r q at late stands.
        let there = right-place order places k a r (right k (Reply a r) at) in
        elim (cases_lt there.at q) as (λ _. (p : ℕ) × IsCallAt order p a × (p < q)) [
          | inl before ↦ (there.at, there.stands, before)
          | inr past ↦
              let early = issued-at order history places there.front k q b are stands (omega (arith, past, there.within)) there.issued in
              absurd (omega (arith, early.2, late early.0 early.1))
        ];
  }

  -- an order that explains the history passes: its calls were issued
  pub linear-issued : (order : List (Call A)) (history : List (Item A)) (places : List OrderPlace) → ArePlaces object order history (length order) places
      → IsLinearization object order history → AreIssuedBefore places (length history)
  linear-issued order history places are linear = all-from_places (λ (w : OrderPlace). IsIssuedBefore w (length history)) places (λ k place at.
      let stands = has-place order k (omega (arith, slice_get_within places k place at, are.many)) in
      let found : Some (record { issued = first_issue history stands.0; reply = call_reply object order k })
      ≡ Some place = sym (place-at order history places k stands.0 are stands.1) ∙ at in
      let is : record { issued = first_issue history stands.0; reply = call_reply object order k } ≡ place = cc found in
      let issued = linear.issued k stands.0 stands.1 in
      let least = first_issue-least history stands.0 issued.0 issued.1 in
      let within = slice_get_within history issued.0 (Issue stands.0) issued.1 in
      subst (λ (w : OrderPlace). IsIssuedBefore w (length history)) is (some-option (first_issue history stands.0)
      (λ j. j < length history) least.0 least.1 (omega (arith, least.2, within))))

  -- a call up to the place of a replied one was issued before that reply
  linear-early : (order : List (Call A)) (history : List (Item A)) (k p q : ℕ) (c b : Call A) (r : List ℕ) → IsLinearization object order history
      → IsRepliedAt history c r k → IsCallAt order p c → IsCallAt order q b → q ≤ p → (j : ℕ) × (first_issue history b ≡ Some j) × (j < k)
  linear-early order history k p q c b r linear at stands there upto =
      let issued = linear.issued q b there in
      let least = first_issue-least history b issued.0 issued.1 in
      let first = first_issue-issued history b least.0 least.1 in
      elim (cases_lt least.0 k) as (λ _. (j : ℕ) × (first_issue history b ≡ Some j) × (j < k)) [
        | inl before ↦ (least.0, least.1, before)
        | inr past ↦
            let late : (j : ℕ) → IsIssuedAt history b j → k < j = λ j is.
            let none = first_issue-least history b j is in
            let one : Some none.0 ≡ Some least.0 = sym none.1 ∙ least.1 in
            let same : none.0 ≡ least.0 = cc one in
            elim (cases_lt k j) as (λ _. k < j) [
              | inl below ↦ below
              | inr not_below ↦
                  let here : j ≡ k = omega (arith, none.2, same, past, not_below) in
                  let clash : Some (Issue b) ≡ Some (Reply c r) = sym is ∙ ap (slice_get history) here ∙ at in
                  absurd (cc clash)
            ] in
            let earlier = linear.ordered k c b r q at late there in
            let same : earlier.0 ≡ p = numbered_once order linear.numbered earlier.0 p c c earlier.1 stands refl refl in
            absurd (omega (arith, earlier.2, same, upto))
      ]

  -- its replies are right
  pub linear-right_items : (order : List (Call A)) (history : List (Item A)) (places : List OrderPlace) → ArePlaces object order history (length order) places
      → IsLinearization object order history → AreRepliesRight order places history
  linear-right_items order history places are linear k (Issue c) at = (0, All-nil (λ (w : OrderPlace). IsIssuedBefore w k), tt)
  linear-right_items order history places are linear k (Reply c r) at =
      let replied = linear.reply_items k c r at in
      let p = replied.0 in
      let place : OrderPlace = record { issued = first_issue history c; reply = call_reply object order p } in
      let before : AreIssuedBefore (take (p + 1) places) k = all-from_places (λ (w : OrderPlace). IsIssuedBefore w k) (take (p + 1) places) (λ q other here.
      let there = take-get (p + 1) places q other here in
      let upto = take-within (p + 1) places q other here in
      let stands = has-place order q (omega (arith, slice_get_within places q other there, are.many)) in
      let found : Some (record { issued = first_issue history stands.0; reply = call_reply object order q })
      ≡ Some other = sym (place-at order history places q stands.0 are stands.1) ∙ there in
      let is : record { issued = first_issue history stands.0; reply = call_reply object order q } ≡ other = cc found in
      let early = linear-early order history k p q c stands.0 r linear at replied.1 stands.1 (omega (arith, upto)) in
      subst (λ (w : OrderPlace). IsIssuedBefore w k) is (some-option (first_issue history stands.0) (λ j. j < k) early.0 early.1 early.2)) in
      let there = get-take (p + 1) places p place (omega arith) (place-at order history places p c are replied.1) in (
        p + 1,
        before,
        some-option (place_in order c) (λ at. IsReplyAtPlace (take (p + 1) places) at r) p
            (place_in-numbered order c p linear.numbered replied.1) (place, there, replied.2),
      )

  -- if the calls were issued, the last check decides
  pub explains-issued : (order : List (Call A)) (history : List (Item A)) (places : List OrderPlace) (issued right : Bool)
      → IsNumbered order → ArePlaces object order history (length order) places
      → (IsTrue issued ↔ AreIssuedBefore places (length history)) → issued ≡ true → (IsTrue right ↔ AreRepliesRight order places history)
      → IsTrue right ↔ IsLinearization object order history
  explains-issued order history places issued right numbered are before so rights = (
    λ is. checked-linear order history places numbered are (before.0 so) (rights.0 is),
    λ linear. rights.1 (linear-right_items order history places are linear),
  )

  -- if one was not, nothing else matters
  pub explains-not_issued : (order : List (Call A)) (history : List (Item A)) (places : List OrderPlace) (issued : Bool)
      → ArePlaces object order history (length order) places
      → (IsTrue issued ↔ AreIssuedBefore places (length history)) → issued ≡ false
      → IsTrue issued ↔ IsLinearization object order history
  explains-not_issued order history places issued are before not_so =
      (λ is. absurd (cc (is, not_so)), λ linear. before.1 (linear-issued order history places are linear))
