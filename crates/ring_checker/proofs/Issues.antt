-- The places of first issues, as the history grows by one item.
use Rattle.std.proofs.Common.{◌≡◌, ℕ, ◌+◌, ◌≤◌, ◌==◌, ◌<◌, nat_lt, not, Bool, true, false, List, [], ◌∷◌, ◌++◌, length, Option, Some, None, position, slice_get, ap, sym, ◌∙◌, arith, inl, inr, cond, length-append, length-set, slice_set}
use Rattle.std.specs.List.{position_or_len}
use Rattle.std.proofs.lemmas.Bool.{cases_Bool, cases_eq, cond-true, cond-false, eq-eqb, ne_eqb, cases_lt}
use Rattle.std.proofs.lemmas.Bool.Decides.{nat_tests}
use Rattle.std.proofs.lemmas.List.Folds.{position_or_len_push}
use Rattle.std.proofs.lemmas.List.Sums.{prefix_len-le-length}
use Rattle.std.proofs.lemmas.Option.{slice_get_within}
use Rattle.std.specs.BTreeMap.{BTreeMap}
use Rattle.std.specs.Prelude.{Vec}
use Rattle.ring_base.proofs.ListPlaces.{get-set, get-set_other}
use Rattle.ring_object.specs.Operations.{Sequential}
use Rattle.ring_payload.specs.declared.call.Call.{Call}
use Rattle.ring_payload.specs.SameCalls.{is_same-self}
use Rattle.ring_session.specs.Deduplicated.{IsCallAt}
use Rattle.ring_session.specs.SessionAnswer.{is_same, call_reply}
use Rattle.ring_session.specs.SessionAnswerLaws.{is_same-true}
use Rattle.ring_checker.specs.declared.check.OrderPlace.{OrderPlace}
use Rattle.ring_checker.specs.Checks.{is_issue_of, first_issue, place_in, IsIndexOf, ArePlaces}
use Rattle.ring_checker.proofs.Places.{place_in-stands, place_in-least}
use Rattle.ring_checker.proofs.Indexes.{index-once}
use Rattle.ring_node_spec.specs.declared.item.Item.{Item}
use Rattle.ring_node_spec.specs.declared.item.Item.TheVariants.{Issue, Reply}

-- ---- the first element that passes, with one more at the end

-- it is unchanged
seen_before : {X : Type 0} (p : X → Bool) (xs : List X) (y : X) → position_or_len p xs < length xs
    → (position p xs ≡ Some (position_or_len p xs)) × (position p (xs ++ y ∷ []) ≡ Some (position_or_len p xs))
seen_before p xs y before =
    let first = position_or_len p xs in
    let apart : (first == length xs) ≡ false = ne_eqb first (length xs) (λ same. omega (arith, same, before)) in
    let stays : position_or_len p (xs ++ y ∷ []) ≡ first =
    position_or_len_push p xs y ∙ cond-false (first == length xs) (length xs + cond (p y) 0 1) first apart in
    let many = length-append xs (y ∷ []) in
    let tested : nat_lt first (length xs) ≡ true = grind (arith, nat_tests, before) in
    let within : position_or_len p (xs ++ y ∷ []) < length (xs ++ y ∷ []) = omega (arith, stays, many, before) in
    let again : nat_lt (position_or_len p (xs ++ y ∷ [])) (length (xs ++ y ∷ [])) ≡ true = grind (arith, nat_tests, within) in (
      cond-true (nat_lt first (length xs)) (Some first) None tested,
      cond-true (nat_lt (position_or_len p (xs ++ y ∷ [])) (length (xs ++ y ∷ []))) (Some (position_or_len p (xs ++ y ∷ []))) None again
          ∙ ap Some stays,
    )

-- if none passed, the last element decides
seen_last : {X : Type 0} (p : X → Bool) (xs : List X) (y : X) → length xs ≤ position_or_len p xs
    → (position p xs ≡ None) × (position p (xs ++ y ∷ []) ≡ cond (p y) (Some (length xs)) None)
seen_last p xs y past =
    let first = position_or_len p xs in
    let same : first ≡ length xs = omega (arith, past, prefix_len-le-length (λ x. not (p x)) xs) in
    let moved : position_or_len p (xs ++ y ∷ []) ≡ length xs + cond (p y) 0 1 =
    position_or_len_push p xs y ∙ cond-true (first == length xs) (length xs + cond (p y) 0 1) first (eq-eqb first (length xs) same) in
    let many = length-append xs (y ∷ []) in
    let tested : nat_lt first (length xs) ≡ false = grind (arith, nat_tests, past) in (
      cond-false (nat_lt first (length xs)) (Some first) None tested,
      elim (cases_Bool (p y)) as (λ _. position p (xs ++ y ∷ []) ≡ cond (p y) (Some (length xs)) None) [
        | inl passes ↦
            let here : position_or_len p (xs ++ y ∷ []) ≡ length xs + 0 = moved ∙ ap (λ n. length xs + n) (cond-true (p y) 0 1 passes) in
            let at : position_or_len p (xs ++ y ∷ []) ≡ length xs = omega (arith, here) in
            let within : position_or_len p (xs ++ y ∷ []) < length (xs ++ y ∷ []) = omega (arith, at, many) in
            let again : nat_lt (position_or_len p (xs ++ y ∷ [])) (length (xs ++ y ∷ [])) ≡ true = grind (arith, nat_tests, within) in
            cond-true (nat_lt (position_or_len p (xs ++ y ∷ [])) (length (xs ++ y ∷ []))) (Some (position_or_len p (xs ++ y ∷ []))) None again
            ∙ ap Some at ∙ sym (cond-true (p y) (Some (length xs)) None passes)
        | inr fails ↦
            let here : position_or_len p (xs ++ y ∷ []) ≡ length xs + 1 = moved ∙ ap (λ n. length xs + n) (cond-false (p y) 0 1 fails) in
            let out : length (xs ++ y ∷ []) ≤ position_or_len p (xs ++ y ∷ []) = omega (arith, here, many) in
            let again : nat_lt (position_or_len p (xs ++ y ∷ [])) (length (xs ++ y ∷ [])) ≡ false = grind (arith, nat_tests, out) in
            cond-false (nat_lt (position_or_len p (xs ++ y ∷ [])) (length (xs ++ y ∷ []))) (Some (position_or_len p (xs ++ y ∷ []))) None again
            ∙ sym (cond-false (p y) (Some (length xs)) None fails)
      ],
    )

-- the first of a list is unchanged
position-stays : {X : Type 0} (p : X → Bool) (xs : List X) (y : X) (i : ℕ) → position p xs ≡ Some i → position p (xs ++ y ∷ []) ≡ Some i
position-stays p xs y i is = elim (cases_lt (position_or_len p xs) (length xs)) as (λ _. position p (xs ++ y ∷ []) ≡ Some i) [
  | inl before ↦ let both = seen_before p xs y before in both.1 ∙ sym both.0 ∙ is
  | inr past ↦ absurd (cc ((seen_last p xs y past).0, is))
]

-- one that doesn't pass changes nothing
position-fails : {X : Type 0} (p : X → Bool) (xs : List X) (y : X) → p y ≡ false → position p (xs ++ y ∷ []) ≡ position p xs
position-fails p xs y fails =
    elim (cases_lt (position_or_len p xs) (length xs)) as (λ _. position p (xs ++ y ∷ []) ≡ position p xs) [
      | inl before ↦ let both = seen_before p xs y before in both.1 ∙ sym both.0
      | inr past ↦
          let both = seen_last p xs y past in
          both.1 ∙ cond-false (p y) (Some (length xs)) None fails ∙ sym both.0
    ]

-- if none passed, one more that passes is the first
position-new : {X : Type 0} (p : X → Bool) (xs : List X) (y : X) → position p xs ≡ None → p y ≡ true → position p (xs ++ y ∷ []) ≡ Some (length xs)
position-new p xs y none passes =
    elim (cases_lt (position_or_len p xs) (length xs)) as (λ _. position p (xs ++ y ∷ []) ≡ Some (length xs)) [
      | inl before ↦ absurd (cc ((seen_before p xs y before).0, none))
      | inr past ↦ (seen_last p xs y past).1 ∙ cond-true (p y) (Some (length xs)) None passes
    ]

-- ---- the places, after one more item

-- a place, from its fields
abbrev pub place_near_or_indexed : Option ℕ → List ℕ → OrderPlace
place_near_or_indexed issued reply = record { issued = issued; reply = reply }

module _ {O A : Type 0} (object : Sequential O) where
  -- an item that issues no call of the order changes nothing
  other_item : (order : List (Call A)) (past : List (Item A)) (places : List OrderPlace) (item : Item A)
      → ((q : ℕ) (c : Call A) → IsCallAt order q c → is_issue_of c item ≡ false) → ArePlaces object order past (length order) places
      → ArePlaces object order (past ++ item ∷ []) (length order) places
  other_item order past places item other are = record {
    many = are.many;
    each = λ q c within at. are.each q c within at
        ∙ ap (λ first. Some (place_near_or_indexed first (call_reply object order q))) (sym (position-fails (is_issue_of c) past item (other q c at)));
  }

  pub reply_item : (order : List (Call A)) (past : List (Item A)) (places : List OrderPlace) (item : Item A) (c : Call A) (r : List ℕ) → item ≡ Reply c r
      → ArePlaces object order past (length order) places → ArePlaces object order (past ++ item ∷ []) (length order) places
  reply_item order past places item c r is are = other_item order past places item (λ q d at. ap (is_issue_of d) is) are

  -- a call that is in the order differs from one that isn't
  not_there : (order : List (Call A)) (c d : Call A) (q : ℕ) → place_in order d ≡ None → IsCallAt order q c → is_same c d ≡ false
  not_there order c d q none at = elim (cases_Bool (is_same c d)) as (λ _. is_same c d ≡ false) [
    | inl same ↦
        let stands : IsCallAt order q d = at ∙ ap Some (sym (is_same-true c d same)) in
        let least = place_in-least order d q stands in
        absurd (cc (least.1, none))
    | inr other ↦ other
  ]

  pub strange_item : (order : List (Call A)) (past : List (Item A)) (places : List OrderPlace) (d : Call A) → None ≡ place_in order d
      → ArePlaces object order past (length order) places → ArePlaces object order (past ++ Issue d ∷ []) (length order) places
  strange_item order past places d none are = other_item order past places (Issue d) (λ q c at. not_there order c d q (sym none) at) are

  -- a call at another place is another call
  not_same : (order : List (Call A)) (index : BTreeMap ℕ (Vec ℕ A)) (c d : Call A) (at q : ℕ) → IsIndexOf order (length order) index
      → Some at ≡ place_in order d → (q ≡ at → ⊥) → IsCallAt order q c → is_same c d ≡ false
  not_same order index c d at q is_index is apart there = elim (cases_Bool (is_same c d)) as (λ _. is_same c d ≡ false) [
    | inl same ↦
        let stands : IsCallAt order q d = there ∙ ap Some (sym (is_same-true c d same)) in
        absurd (apart (index-once order index q at d is_index stands (place_in-stands order d at (sym is))))
    | inr other ↦ other
  ]

  -- the place of the call that the item issues
  issued_place : (order : List (Call A)) (past : List (Item A)) (places : List OrderPlace) (d : Call A) (at : ℕ) (place : OrderPlace) → Some at ≡ place_in order d
      → slice_get places at ≡ Some place → ArePlaces object order past (length order) places
      → place ≡ record { issued = first_issue past d; reply = call_reply object order at }
  issued_place order past places d at place is here are =
      let stands = place_in-stands order d at (sym is) in
      let told = are.each at d (slice_get_within order at d stands) stands in
      let one : Some place ≡ Some (record { issued = first_issue past d; reply = call_reply object order at }) = sym here ∙ told in
      cc one

  -- a call that was issued before is no first issue
  pub issued_again : (order : List (Call A)) (index : BTreeMap ℕ (Vec ℕ A)) (past : List (Item A)) (places : List OrderPlace) (d : Call A)
      (at j : ℕ) (place : OrderPlace) → IsIndexOf order (length order) index → Some at ≡ place_in order d → slice_get places at ≡ Some place → place.issued ≡ Some j
      → ArePlaces object order past (length order) places → ArePlaces object order (past ++ Issue d ∷ []) (length order) places
  issued_again order index past places d at j place is_index is here seen are = record {
    many = are.many;
    each = λ q c within there.
        let first : first_issue (past ++ Issue d ∷ []) c ≡ first_issue past c = elim (cases_eq q at)
        as (λ _. first_issue (past ++ Issue d ∷ []) c ≡ first_issue past c) [
          | inl same ↦
              let one : Some c ≡ Some d = sym there ∙ ap (slice_get order) same ∙ place_in-stands order d at (sym is) in
              let call : c ≡ d = cc one in
              let told : first_issue past d ≡ Some j =
              sym (ap (λ (w : OrderPlace). w.issued) (issued_place order past places d at place is here are)) ∙ seen in
              let before : first_issue past c ≡ Some j = ap (first_issue past) call ∙ told in
              position-stays (is_issue_of c) past (Issue d) j before ∙ sym before
          | inr apart ↦ position-fails (is_issue_of c) past (Issue d) (not_same order index c d at q is_index is apart there)
        ] in
        are.each q c within there
        ∙ ap (λ o. Some (place_near_or_indexed o (call_reply object order q))) (sym first);
  }

  -- otherwise it is its first issue
  pub issued_first : (order : List (Call A)) (index : BTreeMap ℕ (Vec ℕ A)) (past : List (Item A)) (places : List OrderPlace) (d : Call A) (at : ℕ) (place : OrderPlace)
      → IsIndexOf order (length order) index → Some at ≡ place_in order d → slice_get places at ≡ Some place → place.issued ≡ None
      → ArePlaces object order past (length order) places → ArePlaces object order (past ++ Issue d ∷ []) (length order)
      (slice_set places at (record { issued = Some (length past); reply = place.reply }))
  issued_first order index past places d at place is_index is here unseen are = record {
    many = length-set places at (record { issued = Some (length past); reply = place.reply }) ∙ are.many;
    each = λ q c within there.
        let marked : OrderPlace = record { issued = Some (length past); reply = place.reply } in
        elim (cases_eq q at) as (λ _. slice_get (slice_set places at marked) q
        ≡ Some (record { issued = first_issue (past ++ Issue d ∷ []) c; reply = call_reply object order q })) [
          | inl same ↦
              let one : Some c ≡ Some d = sym there ∙ ap (slice_get order) same ∙ place_in-stands order d at (sym is) in
              let call : c ≡ d = cc one in
              let was = issued_place order past places d at place is here are in
              let none : first_issue past c ≡ None = ap (first_issue past) call
              ∙ sym (ap (λ (w : OrderPlace). w.issued) was) ∙ unseen in
              let passes : is_same c d ≡ true = ap (is_same c) (sym call) ∙ is_same-self c in
              let first : first_issue (past ++ Issue d ∷ []) c ≡ Some (length past) = position-new (is_issue_of c) past (Issue d) none passes in
              let reply : place.reply ≡ call_reply object order q = ap (λ (w : OrderPlace). w.reply) was ∙ ap (call_reply object order) (sym same) in
              ap (slice_get (slice_set places at marked)) same ∙ get-set places at marked (slice_get_within places at place here)
              ∙ ap (λ w. Some (place_near_or_indexed (Some (length past)) w)) reply
              ∙ ap (λ o. Some (place_near_or_indexed o (call_reply object order q))) (sym first)
          | inr apart ↦
              let first = position-fails (is_issue_of c) past (Issue d) (not_same order index c d at q is_index is apart there) in
              get-set_other places at q marked apart ∙ are.each q c within there
              ∙ ap (λ o. Some (place_near_or_indexed o (call_reply object order q))) (sym first)
        ];
  }
