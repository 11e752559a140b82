-- The contents of an exchange of honest senders: every member's Head, of which the chosen one's places are wanted, and the first
-- of these places.
use Rattle.std.proofs.Common.{if◌then◌else◌, length-append, ◌≡◌, ℕ, ◌+◌, ◌≤◌, ◌==◌, true, List, [], ◌∷◌, ◌++◌, length, drop}
use Rattle.std.proofs.Common.{Option, Some, None, ◌⊎◌, inl, inr, refl, ap, sym, ◌∙◌, subst, arith}
use Rattle.std.specs.List.{AllByRecursion as Each}
use Rattle.std.specs.Prelude.{nat_lt}
use Rattle.std.proofs.lemmas.Bool.{cond_both, and_parts, eqb-true, leb-true, cases_eq}
use Rattle.ring_base.specs.Prefixes.{IsListPrefix}
use Rattle.ring_base.specs.Processors.{IsMember, has, nobody, only, less}
use Rattle.ring_base.specs.Members.{member_had, nobody_member, only_members, less_members}
use Rattle.ring_base.proofs.Each.{each-push, each-both, each-weaker}
use Rattle.ring_base.proofs.ListFronts.{front-on, drop-more}
use Rattle.ring_payload.specs.declared.call.Call.{Call as OneCall}
use Rattle.ring_payload.specs.declared.calls.Part.{Part as OnePart}
use Rattle.ring_payload.specs.declared.head.Head.{Head as OneHead}
use Rattle.ring_payload.specs.declared.snap.Snap.{Snap as OneSnap}
use Rattle.ring_payload.specs.declared.content.Payload.{Payload}
use Rattle.ring_payload.specs.declared.content.Payload.TheVariants.{Call, Wrapped, End, Head, Part, Pack, Snap}
use Rattle.ring_log.specs.Messages.{Message}
use Rattle.ring_log.specs.declared.received_head.ReceivedHead.{ReceivedHead}
use Rattle.ring_log.specs.declared.wanted.Wanted.{Wanted}
use Rattle.ring_log.specs.Heads.{chosen_head, least_committed}
use Rattle.ring_log.specs.Exchanges.{Exchange, exchange_opening, wanted_from_owner, wanted_from_heads, wanted, hear_head, has_wanted_snapshot, is_next_piece, hear_snap, is_next, is_wanted}
use Rattle.ring_log.specs.Exchanges.{hear_part, heard, has_all_wanted, is_exchange_complete}
use Rattle.ring_log.specs.EpochHistories.{exchange_after_message, exchange_after_messages}
use Rattle.ring_log.proofs.WholeExchanges.{wants_nothing}
use Rattle.ring_log_proof.proofs.ChosenHead.{IsNoLess, chosen-is, chosen-greatest, least-first, least-each}

module _ {A : Type 0} (Says : ℕ → OneHead → Type 0) (logs : ℕ → List (OneCall A)) where
  -- an honest payload: a Head states what its sender may state, a Part has places of its sender's log
  abbrev pub IsHonest : ℕ → Payload A → Type 0
  IsHonest p (Head h) = (1 ≤ p) × Says p h
  IsHonest p (Part part) = IsListPrefix part.calls (drop part.first (logs p))
  IsHonest p (Call call) = Unit {0}
  IsHonest p (Pack pack) = Unit {0}
  IsHonest p (Snap snap) = Unit {0}
  IsHonest p (Wrapped old) = Unit {0}
  IsHonest p End = Unit {0}

  -- nothing is brought before something is wanted; what is brought are the first of the wanted places
  abbrev pub Brings : Option Wanted → ℕ → List (OneCall A) → Type 0
  Brings None places received_calls = (received_calls ≡ []) × (places ≡ 0)
  Brings (Some w) places received_calls = IsListPrefix received_calls (drop w.from (logs w.owner)) × (places ≡ length received_calls)

-- a processor's Head is among these
abbrev pub HasStated : ℕ → List ReceivedHead → Type 0
HasStated p [] = ⊥
HasStated p (s ∷ rest) = (s.sender ≡ p) ⊎ HasStated p rest

received_head-left : (p : ℕ) (xs ys : List ReceivedHead) → HasStated p xs → HasStated p (xs ++ ys)
received_head-left p [] ys h = absurd h
received_head-left p (x ∷ xs) ys (inl e) = inl e
received_head-left p (x ∷ xs) ys (inr h) = inr (received_head-left p xs ys h)

received_head-last : (p : ℕ) (xs : List ReceivedHead) (s : ReceivedHead) → s.sender ≡ p → HasStated p (xs ++ s ∷ [])
received_head-last p [] s e = inl e
received_head-last p (x ∷ xs) s e = inr (received_head-last p xs s e)

received_head-get : (P : ReceivedHead → Type 0) (p : ℕ) (xs : List ReceivedHead) → Each P xs → HasStated p xs → (s : ReceivedHead) × (s.sender ≡ p) × P s
received_head-get P p [] h i = absurd i
received_head-get P p (x ∷ xs) h (inl e) = (x, e, h.0)
received_head-get P p (x ∷ xs) h (inr i) = received_head-get P p xs h.1 i

module _ {A : Type 0} (Says : ℕ → OneHead → Type 0) (logs : ℕ → List (OneCall A)) (members : ℕ) where
  pub record Hears (e : Exchange A) : Type 0 where
    pub heads : Each (λ (s : ReceivedHead). Says s.sender s.head) e.heads
    pub missing : (p : ℕ) → IsMember members p → IsMember e.missing_heads p ⊎ HasStated p e.heads
    pub brings : Brings Says logs (wanted e) e.places e.received_calls

  brings-nothing : (o : Option Wanted) → Brings Says logs o 0 []
  brings-nothing None = (refl, refl)
  brings-nothing (Some w) = ((drop w.from (logs w.owner), refl), refl)

  pub epochs_with_message-exchange_opening : Hears (exchange_opening members)
  epochs_with_message-exchange_opening = record { heads = tt; missing = λ p m. inl m; brings = brings-nothing (wanted (exchange_opening {A = A} members)) }

  -- A Head

  brings-before : (o : Option Wanted) (places : ℕ) (received_calls : List (OneCall A)) → o ≡ None → Brings Says logs o places received_calls → (received_calls ≡ []) × (places ≡ 0)
  brings-before None places received_calls e b = b
  brings-before (Some w) places received_calls e b = absurd (cc e)

  brings-still : (o : Option Wanted) (places : ℕ) (received_calls : List (OneCall A)) → (received_calls ≡ []) × (places ≡ 0) → Brings Says logs o places received_calls
  brings-still o places received_calls b =
      subst (λ w. Brings Says logs o places w) (sym b.0) (subst (λ n. Brings Says logs o n []) (sym b.1) (brings-nothing o))

  missing-head : (e : Exchange A) (p : ℕ) (h : OneHead) → 1 ≤ p → ((q : ℕ) → IsMember members q → IsMember e.missing_heads q ⊎ HasStated q e.heads) → (q : ℕ)
      → IsMember members q
      → IsMember (less e.missing_heads (only p)) q ⊎ HasStated q (e.heads ++ record { sender = p; head = h } ∷ [])
  missing-head e p h low before q m =
      let s : ReceivedHead = record { sender = p; head = h } in
      let Goal : Type 0 = IsMember (less e.missing_heads (only p)) q ⊎ HasStated q (e.heads ++ s ∷ []) in
      elim (before q m) as (λ _. Goal) [
        | inr there ↦ inr (received_head-left q e.heads (s ∷ []) there)
        | inl lacks ↦ elim (cases_eq q p) as (λ _. Goal) [
          | inl same ↦ inr (received_head-last q e.heads s (sym same))
          | inr other ↦ inl ((less_members e.missing_heads (only p) q).1 (lacks, λ n. other ((only_members p q low).0 n)))
        ]
      ]

  epochs_with_message-head : (e : Exchange A) (p : ℕ) (h : OneHead) → 1 ≤ p → Says p h → Hears e → Hears (hear_head e p h)
  epochs_with_message-head e p h low says k =
      let s : ReceivedHead = record { sender = p; head = h } in
      let new : Exchange A = record e { missing_heads = less e.missing_heads (only p); heads = e.heads ++ s ∷ [] } in
      cond_both (has e.missing_heads p) new e Hears
      (λ t.
      let none = wants_nothing e p (member_had e.missing_heads p low t) in
      record {
        heads = each-push (λ (x : ReceivedHead). Says x.sender x.head) e.heads s k.heads says;
        missing = missing-head e p h low k.missing;
        brings = brings-still (wanted new) e.places e.received_calls (brings-before (wanted e) e.places e.received_calls none k.brings);
      })
      (λ f. k)

  -- A Part

  brings-more : (o : Option Wanted) (received_bytes total places : ℕ) (received_calls : List (OneCall A)) (p : ℕ) (part : OnePart A)
      → is_wanted o received_bytes total places p part ≡ true
      → IsListPrefix part.calls (drop part.first (logs p))
      → Brings Says logs o places received_calls → Brings Says logs o (places + length part.calls) (received_calls ++ part.calls)
  brings-more None received_bytes total places received_calls p part t f b = absurd (cc t)
  brings-more (Some w) received_bytes total places received_calls p part t f b =
      let parts = and_parts _ _ (and_parts _ _ (and_parts (has_wanted_snapshot w.snapshot received_bytes total) (is_next w places p part) t).1).0 in
      let owner : p ≡ w.owner = eqb-true p w.owner parts.0 in
      let first : part.first ≡ w.from + length received_calls = eqb-true part.first (w.from + places) parts.1 ∙ ap (λ n. w.from + n) b.1 in
      let log = drop w.from (logs w.owner) in
      let at : drop part.first (logs p) ≡ drop (length received_calls) log = ap (λ n. drop n (logs p)) first
      ∙ ap (λ n. drop (w.from + length received_calls) (logs n)) owner ∙ sym (drop-more w.from (length received_calls) (logs w.owner)) in
      (front-on received_calls part.calls log b.0 (subst (λ l. IsListPrefix part.calls l) at f), omega (arith, b.1, length-append received_calls part.calls))

  epochs_with_message-part : (e : Exchange A) (p : ℕ) (part : OnePart A) → IsListPrefix part.calls (drop part.first (logs p)) → Hears e → Hears (hear_part e p part)
  epochs_with_message-part e p part f k =
      let new : Exchange A = record e { places = e.places + length part.calls; received_calls = e.received_calls ++ part.calls } in
      cond_both (is_wanted (wanted e) e.received_bytes e.total e.places p part) new e Hears
      (λ t. record { heads = k.heads; missing = k.missing; brings = brings-more (wanted e) e.received_bytes e.total e.places e.received_calls p part t f k.brings })
      (λ f. k)

  -- a piece brings no place
  epochs_with_message-snap : (e : Exchange A) (p : ℕ) (snap : OneSnap A) → Hears e → Hears (hear_snap e p snap)
  epochs_with_message-snap e p snap k =
      let new : Exchange A = record e { received_bytes = e.received_bytes + length snap.bytes; total = snap.total; bytes = e.bytes ++ snap.bytes } in
      cond_both (is_next_piece (wanted e) e.received_bytes e.total p snap) new e Hears (λ t. record { heads = k.heads; missing = k.missing; brings = k.brings }) (λ f. k)

  pub epochs_with_message-payload : (e : Exchange A) (p : ℕ) (payload : Payload A) → IsHonest Says logs p payload → Hears e → Hears (heard e p payload)
  epochs_with_message-payload e p (Head h) honest k = epochs_with_message-head e p h honest.0 honest.1 k
  epochs_with_message-payload e p (Part part) honest k = epochs_with_message-part e p part honest k
  epochs_with_message-payload e p (Call call) honest k = k
  epochs_with_message-payload e p (Pack pack) honest k = k
  epochs_with_message-payload e p (Snap snap) honest k = epochs_with_message-snap e p snap k
  epochs_with_message-payload e p (Wrapped old) honest k = k
  epochs_with_message-payload e p End honest k = k

  pub epochs_with_message-all : (e : Exchange A) (xs : List (Message A)) → Each (λ (x : Message A). IsHonest Says logs x.sender x.payload) xs → Hears e
      → Hears (exchange_after_messages e xs)
  epochs_with_message-all e [] honest k = k
  epochs_with_message-all e (x ∷ xs) honest k = epochs_with_message-all (exchange_after_message e x) xs honest.1 (epochs_with_message-payload e x.sender x.payload honest.0 k)

  -- A complete exchange

  -- a member's Head, beside the chosen one
  pub record Stands (chosen : ReceivedHead) (w : Wanted) (p : ℕ) : Type 0 where
    pub received_head : ReceivedHead
    pub sender : received_head.sender ≡ p
    pub says : Says p received_head.head
    pub no_greater : IsNoLess chosen received_head
    pub committed : w.snapshot ≡ None → w.from ≤ received_head.head.committed

  -- what is wanted in it, the Heads that determine that, and the places brought
  pub record Outcome (e : Exchange A) : Type 0 where
    pub w : Wanted
    pub is : wanted e ≡ Some w
    pub received_calls : IsListPrefix e.received_calls (drop w.from (logs w.owner))
    pub full : w.to ≤ w.from + length e.received_calls
    pub chosen : ReceivedHead
    pub owner : w.owner ≡ chosen.sender
    pub to : w.to ≡ chosen.head.length
    pub snapped : (at : ℕ) → w.snapshot ≡ Some at → (at ≡ w.from) × (chosen.head.trimmed ≡ w.from)
    pub says : Says w.owner chosen.head
    pub committed : w.snapshot ≡ None → w.from ≤ chosen.head.committed
    pub each : (p : ℕ) → IsMember members p → Stands chosen w p

  IsGood : ReceivedHead → Wanted → ReceivedHead → Type 0
  IsGood chosen w s = (Says s.sender s.head × IsNoLess chosen s) × (w.snapshot ≡ None → w.from ≤ s.head.committed)

  stands : (chosen : ReceivedHead) (w : Wanted) (p : ℕ) → (s : ReceivedHead) × (s.sender ≡ p)
      × ((Says s.sender s.head × IsNoLess chosen s) × (w.snapshot ≡ None → w.from ≤ s.head.committed)) → Stands chosen w p
  stands chosen w p f = record {
    received_head = f.0;
    sender = f.1;
    says = subst (λ q. Says q f.0.head) f.1 f.2.0.0;
    no_greater = f.2.0.1;
    committed = f.2.1;
  }

  -- what a Head makes wanted: the places from the least committed length on, or those after the dropped ones
  record Asks (owner least : ℕ) (h : OneHead) (w : Wanted) : Type 0 where
    owner_is : w.owner ≡ owner
    to_is : w.to ≡ h.length
    plain : w.snapshot ≡ None → w.from ≡ least
    snapped : (at : ℕ) → w.snapshot ≡ Some at → (at ≡ w.from) × (h.trimmed ≡ w.from)

  asks : (owner least : ℕ) (h : OneHead) → Asks owner least h (wanted_from_owner owner h least)
  asks owner least h =
      cond_both (nat_lt least h.trimmed) (record { owner = owner; snapshot = Some h.trimmed; from = h.trimmed; to = h.length })
      (record { owner = owner; snapshot = None; from = least; to = h.length }) (Asks owner least h)
      (λ t. record { owner_is = refl; to_is = refl; plain = λ e. absurd (cc e); snapped = λ at e. (cc e, refl) })
      (λ f. record { owner_is = refl; to_is = refl; plain = λ e. refl; snapped = λ at e. absurd (cc e) })

  outcome-by : (e : Exchange A) (heads : List ReceivedHead) (w : Wanted) → e.heads ≡ heads
      → Hears e → e.missing_heads ≡ nobody → wanted e ≡ Some w → wanted_from_heads heads ≡ Some w → w.to ≤ w.from + e.places → Outcome e
  outcome-by e [] w is k none wants by full = absurd (cc by)
  outcome-by e (s ∷ rest) w is k none wants by full =
      let chosen = chosen_head s rest in
      let least = least_committed s.head.committed rest in
      let brings : Brings Says logs (Some w) e.places e.received_calls = subst (λ o. Brings Says logs o e.places e.received_calls) wants k.brings in
      let says : Each (λ (x : ReceivedHead). Says x.sender x.head) (s ∷ rest) = subst (Each (λ (x : ReceivedHead). Says x.sender x.head)) is k.heads in
      let received_head = chosen-is (λ (x : ReceivedHead). Says x.sender x.head) s rest says.0 says.1 in
      let told : wanted_from_owner chosen.sender chosen.head least ≡ w = cc by in
      let asked : Asks chosen.sender least chosen.head w = subst (Asks chosen.sender least chosen.head) told (asks chosen.sender least chosen.head) in
      let Low : ReceivedHead → Type 0 = λ x. w.snapshot ≡ None → w.from ≤ x.head.committed in
      let low : Each Low (s ∷ rest) = each-weaker (λ (x : ReceivedHead). least ≤ x.head.committed) Low (λ x h plain. omega (arith, h, asked.plain plain)) (s ∷ rest)
      (least-first s.head.committed rest, least-each s.head.committed rest) in
      let good = each-both _ _ (s ∷ rest) (each-both _ _ (s ∷ rest) says (chosen-greatest s rest)) low in
      record {
        w = w;
        is = wants;
        snapped = asked.snapped;
        received_calls = brings.0;
        full = omega (arith, full, brings.1);
        chosen = chosen;
        owner = asked.owner_is;
        to = asked.to_is;
        says = subst (λ q. Says q chosen.head) (sym asked.owner_is) received_head;
        committed = chosen-is Low s rest low.0 low.1;
        each = λ p m. stands chosen w p (received_head-get _ p (s ∷ rest) good (all_stated p m));
      }
    where
      all_stated : (p : ℕ) → IsMember members p → HasStated p (s ∷ rest)
      all_stated p m = subst (HasStated p) is (elim (k.missing p m) as (λ _. HasStated p e.heads) [
        | inl lacks ↦ absurd (nobody_member p (subst (λ u. IsMember u p) none lacks))
        | inr there ↦ there
      ])

  received_calls-some : (o : Option Wanted) (received_bytes total places : ℕ) → has_all_wanted o received_bytes total places ≡ true → (w : Wanted) × (o ≡ Some w) × (w.to ≤ w.from + places)
  received_calls-some None received_bytes total places t = absurd (cc t)
  received_calls-some (Some w) received_bytes total places t = (w, refl, leb-true _ _ (and_parts (has_wanted_snapshot w.snapshot received_bytes total) _ t).1)

  wanted-when : (u : ℕ) (o : Option Wanted) (w : Wanted) → (if u == nobody then o else None) ≡ Some w → (u ≡ nobody) × (o ≡ Some w)
  wanted-when u o w = cond_both (u == nobody) o None (λ v. v ≡ Some w → (u ≡ nobody) × (o ≡ Some w)) (λ t e. (eqb-true u nobody t, e)) (λ f e. absurd (cc e))

  pub whole-outcome : (e : Exchange A) → Hears e → is_exchange_complete e ≡ true → Outcome e
  whole-outcome e k t =
      let some = received_calls-some (wanted e) e.received_bytes e.total e.places t in
      let when = wanted-when e.missing_heads (wanted_from_heads e.heads) some.0 some.1 in
      outcome-by e e.heads some.0 refl k when.0 some.1 when.1 some.2
