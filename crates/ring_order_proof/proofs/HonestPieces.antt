-- The snapshot bytes in an exchange of honest senders: the first bytes of the wanted snapshot, and all of them once the exchange
-- is complete.
use Rattle.std.proofs.Common.{◌≡◌, ℕ, ◌+◌, ◌≤◌, ◌==◌, true, List, [], ◌∷◌, ◌++◌, length, drop, Option, Some, None, ◌⊎◌, inl, inr, refl, ap, sym, ◌∙◌, subst}
use Rattle.std.proofs.Common.{arith, length-append}
use Rattle.std.specs.List.{AllByRecursion as Each}
use Rattle.std.specs.Prelude.{nat_le}
use Rattle.std.proofs.lemmas.Bool.{cond_both, and_parts, eqb-true, leb-true}
use Rattle.ring_base.specs.Prefixes.{IsListPrefix, prefix_whole}
use Rattle.ring_base.specs.Processors.{has, only, less}
use Rattle.ring_base.specs.Members.{member_had}
use Rattle.ring_base.proofs.ListFronts.{front-on}
use Rattle.ring_payload.specs.Limits.{max_snapshot}
use Rattle.ring_payload.specs.declared.calls.Part.{Part as OnePart}
use Rattle.ring_payload.specs.declared.head.Head.{Head as OneHead}
use Rattle.ring_payload.specs.declared.snap.Snap.{Snap as OneSnap}
use Rattle.ring_payload.specs.declared.content.Payload.{Payload}
use Rattle.ring_payload.specs.declared.content.Payload.TheVariants.{Call, Wrapped, End, Head, Part, Pack, Snap}
use Rattle.ring_wire.specs.declared.message.Message.{Message}
use Rattle.ring_log.specs.declared.wanted.Wanted.{Wanted}
use Rattle.ring_log.specs.Exchanges.{Exchange, exchange_opening, wanted, hear_head, has_wanted_snapshot, is_piece_of}
use Rattle.ring_log.specs.Exchanges.{is_next_piece, hear_snap, is_wanted, hear_part, heard}
use Rattle.ring_log.specs.Exchanges.{has_all_wanted, is_exchange_complete}
use Rattle.ring_log.specs.EpochHistories.{exchange_after_message, exchange_after_messages}
use Rattle.ring_log.proofs.WholeExchanges.{wants_nothing}

-- a piece has these bytes at its offset, and states their total
pub record IsPiece {A : Type 0} (bytes : List ℕ) (snap : OneSnap A) : Type 0 where
  pub total : snap.total ≡ length bytes
  pub there : IsListPrefix snap.bytes (drop snap.offset bytes)
  pub short : length bytes ≤ max_snapshot

-- a payload that is a piece is a piece of these bytes
abbrev pub IsPieceOf : {A : Type 0} → List ℕ → Payload A → Type 0
IsPieceOf bytes (Snap snap) = IsPiece bytes snap
IsPieceOf bytes (Head h) = Unit {0}
IsPieceOf bytes (Part part) = Unit {0}
IsPieceOf bytes (Call call) = Unit {0}
IsPieceOf bytes (Pack pack) = Unit {0}
IsPieceOf bytes (Wrapped old) = Unit {0}
IsPieceOf bytes End = Unit {0}

module _ (bytes : ℕ → List ℕ) where
  -- nothing was received before something was wanted; the bytes received are the owner's first
  abbrev pub BringsBytes : Option Wanted → ℕ → ℕ → List ℕ → Type 0
  BringsBytes None received_bytes total received = (received ≡ []) × (received_bytes ≡ 0) × (total ≡ 0)
  BringsBytes (Some w) received_bytes total received =
      IsListPrefix received (bytes w.owner) × (received_bytes ≡ length received)
      × ((total ≡ 0) ⊎ ((total ≡ length (bytes w.owner)) × (length (bytes w.owner) ≤ max_snapshot)))

  bytes-nothing : (o : Option Wanted) → BringsBytes o 0 0 []
  bytes-nothing None = (refl, refl, refl)
  bytes-nothing (Some w) = ((bytes w.owner, refl), refl, inl refl)

  bytes-before : (o : Option Wanted) (received_bytes total : ℕ) (received : List ℕ) → o ≡ None → BringsBytes o received_bytes total received → BringsBytes None received_bytes total received
  bytes-before None received_bytes total received e b = b
  bytes-before (Some w) received_bytes total received e b = absurd (cc e)

  bytes-still : (o : Option Wanted) (received_bytes total : ℕ) (received : List ℕ) → BringsBytes None received_bytes total received → BringsBytes o received_bytes total received
  bytes-still o received_bytes total received b =
      subst (λ l. BringsBytes o received_bytes total l) (sym b.0)
      (subst (λ n. BringsBytes o n total []) (sym b.1) (subst (λ n. BringsBytes o 0 n []) (sym b.2) (bytes-nothing o)))

  pub epochs_with_message-exchange_opening : (A : Type 0) (members : ℕ) → BringsBytes (wanted (exchange_opening {A = A} members)) 0 0 []
  epochs_with_message-exchange_opening A members = bytes-nothing (wanted (exchange_opening {A = A} members))

  -- a complete exchange has all bytes

  all-received : (o : Option ℕ) (received_bytes total at : ℕ) → o ≡ Some at → has_wanted_snapshot o received_bytes total ≡ true → (1 ≤ total) × (received_bytes ≡ total)
  all-received None received_bytes total at e t = absurd (cc e)
  all-received (Some n) received_bytes total at e t =
      let parts = and_parts (nat_le 1 total) (received_bytes == total) t in
      (leb-true 1 total parts.0, eqb-true received_bytes total parts.1)

  whole-by : (o : Option Wanted) (received_bytes total places : ℕ) (received : List ℕ) (w : Wanted) (at : ℕ) → o ≡ Some w → w.snapshot ≡ Some at
      → has_all_wanted o received_bytes total places ≡ true → BringsBytes o received_bytes total received → (received ≡ bytes w.owner) × (length (bytes w.owner) ≤ max_snapshot)
  whole-by None received_bytes total places received w at e snap t b = absurd (cc e)
  whole-by (Some v) received_bytes total places received w at e snap t b =
      let same : v ≡ w = cc e in
      let parts = and_parts (has_wanted_snapshot v.snapshot received_bytes total) (nat_le v.to (v.from + places)) t in
      let all = all-received v.snapshot received_bytes total at (ap (λ (u : Wanted). u.snapshot) same ∙ snap) parts.0 in
      let is : (received ≡ bytes v.owner) × (length (bytes v.owner) ≤ max_snapshot) =
      elim b.2 as (λ _. (received ≡ bytes v.owner) × (length (bytes v.owner) ≤ max_snapshot)) [
        | inl none ↦ absurd (omega (arith, all.0, none))
        | inr some ↦ (prefix_whole received (bytes v.owner) b.0 (omega (arith, all.1, some.0, b.1)), some.1)
      ] in
      subst (λ (u : Wanted). (received ≡ bytes u.owner) × (length (bytes u.owner) ≤ max_snapshot)) same is

module _ {A : Type 0} (bytes : ℕ → List ℕ) where
  -- each processor's own
  abbrev pub IsHonestPiece : ℕ → Payload A → Type 0
  IsHonestPiece p (Snap snap) = IsPiece (bytes p) snap
  IsHonestPiece p (Head h) = 1 ≤ p
  IsHonestPiece p (Part part) = Unit {0}
  IsHonestPiece p (Call call) = Unit {0}
  IsHonestPiece p (Pack pack) = Unit {0}
  IsHonestPiece p (Wrapped old) = Unit {0}
  IsHonestPiece p End = Unit {0}

  abbrev pub HearsPieces : Exchange A → Type 0
  HearsPieces e = BringsBytes bytes (wanted e) e.received_bytes e.total e.bytes

  -- A Head

  epochs_with_message-head : (e : Exchange A) (p : ℕ) (h : OneHead) → 1 ≤ p → HearsPieces e → HearsPieces (hear_head e p h)
  epochs_with_message-head e p h low k =
      let new : Exchange A = record e { missing_heads = less e.missing_heads (only p); heads = e.heads ++ record { sender = p; head = h } ∷ [] } in
      cond_both (has e.missing_heads p) new e HearsPieces
      (λ t.
      let none = wants_nothing e p (member_had e.missing_heads p low t) in
      bytes-still bytes (wanted new) e.received_bytes e.total e.bytes (bytes-before bytes (wanted e) e.received_bytes e.total e.bytes none k))
      (λ f. k)

  -- A piece

  next-offset : (o : Option ℕ) (received_bytes total : ℕ) (snap : OneSnap A) → is_piece_of o received_bytes total snap ≡ true → snap.offset ≡ received_bytes
  next-offset None received_bytes total snap t = absurd (cc t)
  next-offset (Some at) received_bytes total snap t =
      eqb-true snap.offset received_bytes (and_parts _ _ (and_parts _ _ (and_parts _ _ t).0).0).1

  bytes-more : (o : Option Wanted) (received_bytes total : ℕ) (received : List ℕ) (p : ℕ) (snap : OneSnap A) → is_next_piece o received_bytes total p snap ≡ true
      → IsPiece (bytes p) snap → BringsBytes bytes o received_bytes total received → BringsBytes bytes o (received_bytes + length snap.bytes) snap.total (received ++ snap.bytes)
  bytes-more None received_bytes total received p snap t f b = absurd (cc t)
  bytes-more (Some w) received_bytes total received p snap t f b =
      let parts = and_parts (p == w.owner) (is_piece_of w.snapshot received_bytes total snap) t in
      let owner : p ≡ w.owner = eqb-true p w.owner parts.0 in
      let offset : snap.offset ≡ length received = next-offset w.snapshot received_bytes total snap parts.1 ∙ b.1 in
      let there : IsListPrefix snap.bytes (drop (length received) (bytes w.owner)) =
      subst (λ q. IsListPrefix snap.bytes (drop (length received) (bytes q))) owner (subst (λ n. IsListPrefix snap.bytes (drop n (bytes p))) offset f.there) in (
        front-on received snap.bytes (bytes w.owner) b.0 there,
        omega (arith, b.1, length-append received snap.bytes),
        inr (f.total ∙ ap (λ q. length (bytes q)) owner, subst (λ q. length (bytes q) ≤ max_snapshot) owner f.short),
      )

  epochs_with_message-snap : (e : Exchange A) (p : ℕ) (snap : OneSnap A) → IsPiece (bytes p) snap → HearsPieces e → HearsPieces (hear_snap e p snap)
  epochs_with_message-snap e p snap f k =
      let new : Exchange A = record e { received_bytes = e.received_bytes + length snap.bytes; total = snap.total; bytes = e.bytes ++ snap.bytes } in
      cond_both (is_next_piece (wanted e) e.received_bytes e.total p snap) new e HearsPieces
      (λ t. bytes-more (wanted e) e.received_bytes e.total e.bytes p snap t f k) (λ f. k)

  -- a Part brings no bytes
  epochs_with_message-part : (e : Exchange A) (p : ℕ) (part : OnePart A) → HearsPieces e → HearsPieces (hear_part e p part)
  epochs_with_message-part e p part k =
      let new : Exchange A = record e { places = e.places + length part.calls; received_calls = e.received_calls ++ part.calls } in
      cond_both (is_wanted (wanted e) e.received_bytes e.total e.places p part) new e HearsPieces (λ t. k) (λ f. k)

  epochs_with_message-payload : (e : Exchange A) (p : ℕ) (payload : Payload A) → IsHonestPiece p payload → HearsPieces e → HearsPieces (heard e p payload)
  epochs_with_message-payload e p (Head h) honest k = epochs_with_message-head e p h honest k
  epochs_with_message-payload e p (Snap snap) honest k = epochs_with_message-snap e p snap honest k
  epochs_with_message-payload e p (Part part) honest k = epochs_with_message-part e p part k
  epochs_with_message-payload e p (Call call) honest k = k
  epochs_with_message-payload e p (Pack pack) honest k = k
  epochs_with_message-payload e p (Wrapped old) honest k = k
  epochs_with_message-payload e p End honest k = k

  pub epochs_with_message-all : (e : Exchange A) (xs : List (Message A)) → Each (λ (x : Message A). IsHonestPiece x.sender x.payload) xs → HearsPieces e
      → HearsPieces (exchange_after_messages e xs)
  epochs_with_message-all e [] honest k = k
  epochs_with_message-all e (x ∷ xs) honest k = epochs_with_message-all (exchange_after_message e x) xs honest.1 (epochs_with_message-payload e x.sender x.payload honest.0 k)

  -- A complete exchange has all bytes of the wanted snapshot

  pub whole-bytes : (e : Exchange A) (w : Wanted) (at : ℕ) → HearsPieces e → is_exchange_complete e ≡ true → wanted e ≡ Some w → w.snapshot ≡ Some at
      → (e.bytes ≡ bytes w.owner) × (length (bytes w.owner) ≤ max_snapshot)
  whole-bytes e w at k t wants snap = whole-by bytes (wanted e) e.received_bytes e.total e.places e.bytes w at wants snap t k
