-- The events after which an order still explains a history: more calls at its end, an issued call, a right reply.
use Rattle.std.proofs.Common.{◌≡◌, ℕ, zero, suc, ◌<◌, List, [], ◌∷◌, ◌++◌, length, Some, slice_get, All, sym, subst, arith, append_assoc, inl, inr}
use Rattle.std.proofs.lemmas.List.{append-nil}
use Rattle.std.proofs.lemmas.List.Elements.{All-head, All-tail}
use Rattle.std.proofs.lemmas.Option.{slice_get_within, get_or_from_slice_get}
use Rattle.std.proofs.lemmas.Bool.{cases_lt}
use Rattle.ring_base.specs.Prefixes.{IsListPrefix, prefix_get, prefix_append}
use Rattle.ring_base.proofs.ListPlaces.{get-push}
use Rattle.ring_session.specs.Objects.{Sequential}
use Rattle.ring_core_spec.specs.Payloads.{Call}
use Rattle.ring_session.specs.Deduplicated.{IsCallAt, IsNumbered}
use Rattle.ring_session.specs.SessionAnswer.{IsReplyIn}
use Rattle.ring_session.specs.SessionAnswerLaws.{replied_front}
use Rattle.ring_node_spec.specs.declared.item.Item.{Item}
use Rattle.ring_node_spec.specs.declared.item.Item.TheVariants.{Issue, Reply}
use Rattle.ring_node_spec.specs.Histories.{IsIssuedAt, IsRepliedAt, AreCallsIssued, IsLinearization}

-- an element of the whole at a place of a prefix is in the prefix
pub front_back : {X : Type 0} (xs ys : List X) (k : ℕ) (x : X) → IsListPrefix xs ys → k < length xs → slice_get ys k ≡ Some x → slice_get xs k ≡ Some x
front_back [] ys k x front within at = absurd (omega arith)
front_back (y ∷ xs) [] k x front within at = absurd (cc (front.1))
front_back (y ∷ xs) (z ∷ ys) zero x front within at = cc (front.1, at)
front_back (y ∷ xs) (z ∷ ys) (suc k) x front within at = front_back xs ys k x (front.0, cc (front.1)) (omega arith) at

-- a fact of each element is one of the element at a place
pub all-at : {X : Type 0} (P : X → Type 0) (xs : List X) (k : ℕ) (x : X) → All P xs → slice_get xs k ≡ Some x → P x
all-at P xs k x all at = subst P (get_or_from_slice_get xs k x x at) (all k x (slice_get_within xs k x at))

-- calls that were issued stay issued
issued-more : {A : Type 0} (history more : List (Item A)) (calls : List (Call A)) → AreCallsIssued history calls → AreCallsIssued (history ++ more) calls
issued-more history more calls issued p c at =
    let there = issued p c at in
    (there.0, prefix_get history (history ++ more) there.0 (Issue c) (prefix_append history more) there.1)

module _ {O A : Type 0} (object : Sequential O) where
  -- the empty order explains the empty history
  pub linear-nothing : IsLinearization {A = A} object [] []
  linear-nothing = record {
    numbered = λ p c at. absurd (cc at);
    issued = λ p c at. absurd (cc at);
    reply_items = λ k c r at. absurd (cc at);
    ordered = λ k a b r q at late stands. absurd (cc at);
  }

  -- the order may grow at its end by calls that were issued
  pub linear-grows : (order more : List (Call A)) (history : List (Item A)) → IsLinearization object order history
      → IsListPrefix order more → IsNumbered more → AreCallsIssued history more → IsLinearization object more history
  linear-grows order more history linear front numbered issued = record {
    numbered = numbered;
    issued = issued;
    reply_items = λ k c r at. replied_front object order more c r front (linear.reply_items k c r at);
    ordered = λ k a b r q at late stands.
        let there = linear.reply_items k a r at in
        let within = slice_get_within order there.0 a there.1 in
        elim (cases_lt q (length order)) as (λ _. (p : ℕ) × IsCallAt more p a × (p < q)) [
          | inl inside ↦
              let first = linear.ordered k a b r q at late (front_back order more q b front inside stands) in
              (first.0, prefix_get order more first.0 a front first.1, first.2)
          | inr past ↦ (there.0, prefix_get order more there.0 a front there.1, omega (arith, within, past))
        ];
  }

  -- a call may be issued
  pub linear-issue : (order : List (Call A)) (history : List (Item A)) (i : Call A) → IsLinearization object order history
      → IsLinearization object order (history ++ Issue i ∷ [])
  linear-issue order history i linear =
      let before : (k : ℕ) (c : Call A) (r : List ℕ) → IsRepliedAt (history ++ Issue i ∷ []) c r k → IsRepliedAt history c r k =
      λ k c r at. elim (get-push history (Issue i) k (Reply c r) at) as (λ _. IsRepliedAt history c r k)
      [ inl there ↦ there | inr last ↦ absurd (cc (last.1)) ] in
      record {
        numbered = linear.numbered;
        issued = issued-more history (Issue i ∷ []) order linear.issued;
        reply_items = λ k c r at. linear.reply_items k c r (before k c r at);
        ordered = λ k a b r q at late stands.
            linear.ordered k a b r q (before k a r at)
            (λ j there. late j (prefix_get history (history ++ Issue i ∷ []) j (Issue b)
            (prefix_append history (Issue i ∷ [])) there)) stands;
      }

  -- a call of the order may be replied with the object's reply there
  pub linear-reply : (order : List (Call A)) (history : List (Item A)) (c : Call A) (r : List ℕ) → IsLinearization object order history
      → IsReplyIn object order c r → IsLinearization object order (history ++ Reply c r ∷ [])
  linear-reply order history c r linear right = record {
    numbered = linear.numbered;
    issued = issued-more history (Reply c r ∷ []) order linear.issued;
    reply_items = λ k d s at. elim (get-push history (Reply c r) k (Reply d s) at) as (λ _. IsReplyIn object order d s) [
      | inl there ↦ linear.reply_items k d s there
      | inr last ↦
          let call : c ≡ d = cc (last.1) in
          let told : r ≡ s = cc (last.1) in
          subst (λ w. IsReplyIn object order d w) told (subst (λ w. IsReplyIn object order w r) call right)
    ];
    ordered = λ k a b s q at late stands.
        let late_before : (j : ℕ) → IsIssuedAt history b j → k < j = λ j there. late j
        (prefix_get history (history ++ Reply c r ∷ []) j (Issue b) (prefix_append history (Reply c r ∷ [])) there) in
        elim (get-push history (Reply c r) k (Reply a s) at) as (λ _. (p : ℕ) × IsCallAt order p a × (p < q)) [
          | inl there ↦ linear.ordered k a b s q there late_before stands
          | inr last ↦
              let issued = linear.issued q b stands in
              let within = slice_get_within history issued.0 (Issue b) issued.1 in
              absurd (omega (arith, last.0, late_before issued.0 issued.1, within))
        ];
  }

  -- the item is a reply, the object's at the place of its call
  abbrev pub IsRight : List (Call A) → Item A → Type 0
  IsRight order (Issue c) = ⊥
  IsRight order (Reply c r) = IsReplyIn object order c r

  linear-right : (order : List (Call A)) (history : List (Item A)) (item : Item A) → IsLinearization object order history
      → IsRight order item → IsLinearization object order (history ++ item ∷ [])
  linear-right order history (Issue c) linear right = absurd right
  linear-right order history (Reply c r) linear right = linear-reply order history c r linear right

  -- several calls of the order may be replied
  pub linear-replies : (order : List (Call A)) (history items : List (Item A)) → IsLinearization object order history
      → All (IsRight order) items → IsLinearization object order (history ++ items)
  linear-replies order history [] linear right = subst (IsLinearization object order) (sym (append-nil history)) linear
  linear-replies order history (item ∷ items) linear right =
      subst (IsLinearization object order) (append_assoc history (item ∷ []) items)
      (linear-replies order (history ++ item ∷ []) items
      (linear-right order history item linear (All-head (IsRight order) item items right))
      (All-tail (IsRight order) item items right))
