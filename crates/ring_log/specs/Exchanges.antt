-- The exchange of a primary ring, as a function of the payloads received there in order: every member's Head, then the
-- wanted part of the owner's log.
-- Rules: The replicated log 3, 4 and 6
use Rattle.std.specs.Prelude.{ℕ, ◌+◌, Bool, true, false, ◌&&◌, ◌||◌, ◌==◌, nat_le, nat_lt, if◌then◌else◌, List, [], ◌∷◌, ◌++◌, length, Option, Some, None}
use Rattle.ring_base.specs.Processors.{has, nobody, only, less}
use Rattle.ring_wire.specs.Payloads.{Call as OneCall, Part as OnePart, Head as OneHead, Snap as OneSnap, Payload}
use Rattle.ring_wire.specs.PayloadVariants.{Call, Wrapped, End, Head, Part, Pack, Snap}
use Rattle.ring_log.specs.declared.base.Base.{Base}
use Rattle.ring_log.specs.declared.received_head.ReceivedHead.{ReceivedHead}
use Rattle.ring_log.specs.declared.wanted.Wanted.{Wanted}
use Rattle.ring_log.specs.Heads.{chosen_head, least_committed}

-- An exchange: the members whose Head is missing; the Heads received, in order; the snapshot bytes received, and their
-- total (0 before the first piece); the number of places received in Parts. The last two fields are these bytes and the
-- calls of these places, until they are handed out.
pub record Exchange (A : Type 0) : Type 0 where
  pub missing_heads : ℕ
  pub heads : List ReceivedHead
  pub received_bytes : ℕ
  pub total : ℕ
  pub places : ℕ
  pub bytes : List ℕ
  pub received_calls : List (OneCall A)

-- The exchange of these members with nothing received.
abbrev pub exchange_opening : {A : Type 0} → ℕ → Exchange A
exchange_opening members = record { missing_heads = members; heads = []; received_bytes = 0; total = 0; places = 0; bytes = []; received_calls = [] }

-- The wanted part of the owner's log, once every member's Head has been received: its places from the least committed
-- length to its length. If the owner has dropped some of these, it is a snapshot after the dropped places, and the
-- places from there on

-- The wanted part of an owner's log, given its Head and the least committed length.
abbrev pub wanted_from_owner : ℕ → OneHead → ℕ → Wanted
wanted_from_owner owner head least =
    if nat_lt least head.trimmed
    then record { owner = owner; snapshot = Some head.trimmed; from = head.trimmed; to = head.length }
    else record { owner = owner; snapshot = None; from = least; to = head.length }

-- The owner and the wanted part of its log, given all Heads; none if there is no Head.
abbrev pub wanted_from_heads : List ReceivedHead → Option Wanted
wanted_from_heads [] = None
wanted_from_heads (s ∷ rest) =
    let chosen = chosen_head s rest in
    Some (wanted_from_owner chosen.sender chosen.head (least_committed s.head.committed rest))

-- The owner and the wanted part of its log in an exchange; none while some member's Head is missing.
abbrev pub wanted : {A : Type 0} → Exchange A → Option Wanted
wanted e = if e.missing_heads == nobody then wanted_from_heads e.heads else None

-- Receiving payloads

-- The exchange after a Head. Only a member's first Head is accepted.
abbrev pub hear_head : {A : Type 0} → Exchange A → ℕ → OneHead → Exchange A
hear_head e sender head =
    if has e.missing_heads sender
    then record e { missing_heads = less e.missing_heads (only sender); heads = e.heads ++ record { sender = sender; head = head } ∷ [] }
    else e

-- All bytes of a snapshot were received.
abbrev pub has_all_pieces : ℕ → ℕ → Bool
has_all_pieces received_bytes total = nat_le 1 total && (received_bytes == total)

-- No snapshot is wanted, or all of its bytes were received.
abbrev pub has_wanted_snapshot : Option ℕ → ℕ → ℕ → Bool
has_wanted_snapshot None received_bytes total = true
has_wanted_snapshot (Some at) received_bytes total = has_all_pieces received_bytes total

-- A piece is the next one of the snapshot of these places: it begins where the received bytes end, and states the same
-- total as those before it.
abbrev pub is_piece_of : {A : Type 0} → Option ℕ → ℕ → ℕ → OneSnap A → Bool
is_piece_of None received_bytes total snap = false
is_piece_of (Some at) received_bytes total snap =
    (snap.at == at) && (snap.offset == received_bytes) && ((total == 0) || (snap.total == total)) && nat_lt received_bytes snap.total

-- A piece is the owner's, and the next one of the wanted snapshot.
abbrev pub is_next_piece : {A : Type 0} → Option Wanted → ℕ → ℕ → ℕ → OneSnap A → Bool
is_next_piece None received_bytes total sender snap = false
is_next_piece (Some w) received_bytes total sender snap = (sender == w.owner) && is_piece_of w.snapshot received_bytes total snap

-- The exchange after a Snap. One that isn't the next wanted piece is ignored for good.
abbrev pub hear_snap : {A : Type 0} → Exchange A → ℕ → OneSnap A → Exchange A
hear_snap e sender snap =
    if is_next_piece (wanted e) e.received_bytes e.total sender snap
    then record e { received_bytes = e.received_bytes + length snap.bytes; total = snap.total; bytes = e.bytes ++ snap.bytes }
    else e

-- The exchange after pieces of this sender, in their order.
abbrev pub heard_pieces : {A : Type 0} → Exchange A → ℕ → List (OneSnap A) → Exchange A
heard_pieces e sender [] = e
heard_pieces e sender (snap ∷ later) = heard_pieces (hear_snap e sender snap) sender later

-- A Part is the next one wanted: it is the owner's, begins where the received places end, and doesn't pass the end.
abbrev pub is_next : {A : Type 0} → Wanted → ℕ → ℕ → OnePart A → Bool
is_next w places sender part = (sender == w.owner) && (part.first == w.from + places) && nat_le (part.first + length part.calls) w.to

-- A Part is the next one wanted, and no bytes of a snapshot are missing.
abbrev pub is_wanted : {A : Type 0} → Option Wanted → ℕ → ℕ → ℕ → ℕ → OnePart A → Bool
is_wanted None received_bytes total places sender part = false
is_wanted (Some w) received_bytes total places sender part = has_wanted_snapshot w.snapshot received_bytes total && is_next w places sender part

-- The exchange after a Part. One that isn't the next wanted one is ignored for good.
abbrev pub hear_part : {A : Type 0} → Exchange A → ℕ → OnePart A → Exchange A
hear_part e sender part =
    if is_wanted (wanted e) e.received_bytes e.total e.places sender part
    then record e { places = e.places + length part.calls; received_calls = e.received_calls ++ part.calls }
    else e

-- The exchange after a payload of this sender.
abbrev pub heard : {A : Type 0} → Exchange A → ℕ → Payload A → Exchange A
heard e sender (Head head) = hear_head e sender head
heard e sender (Part part) = hear_part e sender part
heard e sender (Call call) = e
heard e sender (Wrapped old) = e
heard e sender End = e
heard e sender (Pack pack) = e
heard e sender (Snap snap) = hear_snap e sender snap

-- Completion

-- All that is wanted was received; if the owner has no places from there on, no place is wanted.
abbrev pub has_all_wanted : Option Wanted → ℕ → ℕ → ℕ → Bool
has_all_wanted None received_bytes total places = false
has_all_wanted (Some w) received_bytes total places = has_wanted_snapshot w.snapshot received_bytes total && nat_le w.to (w.from + places)

-- Each member's Head and all that is wanted were received.
abbrev pub is_exchange_complete : {A : Type 0} → Exchange A → Bool
is_exchange_complete e = has_all_wanted (wanted e) e.received_bytes e.total e.places

-- The bytes of a snapshot, if one is wanted.
abbrev pub snapshot_by : Option ℕ → List ℕ → Option (List ℕ)
snapshot_by None bytes = None
snapshot_by (Some at) bytes = Some bytes

-- The base: the first place transferred, the snapshot before it if one was sent, and the calls from there on.
abbrev pub base_from : {A : Type 0} → Option Wanted → List ℕ → List (OneCall A) → Option (Base A)
base_from None bytes calls = None
base_from (Some w) bytes calls = Some (record { from = w.from; snapshot = snapshot_by w.snapshot bytes; calls = calls })

-- The base that an exchange hands out; none before it is complete.
abbrev pub handed_out : {A : Type 0} → Exchange A → Option (Base A)
handed_out e = if is_exchange_complete e then base_from (wanted e) e.bytes e.received_calls else None

-- The base handed out at this payload: there is one exactly if this payload completes the exchange.
abbrev pub base_at : {A : Type 0} → Exchange A → ℕ → Payload A → Option (Base A)
base_at e sender payload = if is_exchange_complete e then None else handed_out (heard e sender payload)

-- An exchange without the bytes and the calls that it handed out.
abbrev pub exchange_drained : {A : Type 0} → Exchange A → Exchange A
exchange_drained e = if is_exchange_complete e then record e { bytes = []; received_calls = [] } else e
