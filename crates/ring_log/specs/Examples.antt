-- Examples of heads and of a node's epochs: which log an exchange chooses, what it wants, and in which pieces and Parts
-- that arrives; and the logs in several rings.
-- Rules: The replicated log 2 to 6, 11 and 12
use Rattle.std.specs.Prelude.{ℕ, zero, suc, ◌+◌, List, [], ◌∷◌, map, Option, Some, None}
use Rattle.std.specs.declared.alloc.Global.{Global}
use Rattle.ring_base.specs.Group.{Group}
use Rattle.ring_base.specs.Numbers.{numbers_from}
use Rattle.ring_base.specs.declared.ring_id.RingId.{RingId}
use Rattle.ring_wire.specs.Payloads.{Call as OneCall, Part as OnePart, Head as OneHead, Payload, Snap as OneSnap}
use Rattle.ring_wire.specs.PayloadVariants.{Call as CallPayload, Head, Part, Pack, Snap}
use Rattle.ring_wire.specs.declared.message.Message.{Message}
use Rattle.ring_log.specs.declared.base.Base.{Base}
use Rattle.ring_log.specs.declared.wanted.Wanted.{Wanted}
use Rattle.ring_log.specs.Exchanges.{Exchange, exchange_opening, heard}
use Rattle.ring_log.specs.KnownLog.{KnownLog}
use Rattle.ring_log.specs.EpochHistories.{CompleteExchange}
use Rattle.ring_log.specs.Epochs.{Epoch, epoch_opening, history_opening_of, epochs_with_message, epochs_with_mark}

-- A Head of a log whose last primary has this number and the representative 1.
abbrev pub head_at : ℕ → ℕ → ℕ → OneHead
head_at last length committed = record { last = Some (record { seq = last; rep = 1 }); length = length; committed = committed; trimmed = 0 }

-- An exchange of the processors 1, 2 and 3 in which nothing was received.
abbrev pub three : Exchange Global
three = exchange_opening 7

-- The exchange of three after the Heads of processors 1, 2 and 3.
abbrev pub heads_of_three : OneHead → OneHead → OneHead → Exchange Global
heads_of_three a b c = heard (heard (heard three 1 (Head a)) 2 (Head b)) 3 (Head c)

-- The longer log of an older primary, and two shorter logs of a later primary.
abbrev pub longer_but_older : Exchange Global
longer_but_older = heads_of_three (head_at 4 3 0) (head_at 8 2 0) (head_at 8 2 0)

-- Logs of unequal committed lengths.
abbrev pub unequal : Exchange Global
unequal = heads_of_three (head_at 8 20 16) (head_at 8 18 16) (head_at 4 9 9)

-- The places `from` to `to` - 1 of this owner are wanted, and no snapshot.
abbrev pub wanted_places : ℕ → ℕ → ℕ → Option Wanted
wanted_places owner from to = Some (record { owner = owner; snapshot = None; from = from; to = to })

-- Client 7's call with this number.
abbrev pub call_of_seven : ℕ → OneCall Global
call_of_seven number = record { client = 7; number = number; op = 1 ∷ 1 ∷ [] }

-- Client 7's calls with `count` consecutive numbers.
abbrev pub calls_from : ℕ → ℕ → List (OneCall Global)
calls_from number count = map call_of_seven (numbers_from number count)

-- A Part of `count` places from `first` on; the call at each place is client 7's with that place as its number.
abbrev pub part_at : ℕ → ℕ → OnePart Global
part_at first count = record { first = first; calls = calls_from first count }

-- `unequal` after the first of the two Parts that complete it.
abbrev pub after_one_part : Exchange Global
after_one_part = heard unequal 1 (Part (part_at 9 7))

-- The base that it hands out with the second Part: the places 9 to 19.
abbrev pub unequal_base : Option (Base Global)
unequal_base = Some (record { from = 9; snapshot = None; calls = calls_from 9 11 })

-- Logs of which the first 256 places are dropped; processor 3 has none of these. Processor 1 owns a snapshot of them,
-- here of 5 bytes

-- A Head of such a log, whose last primary is ring 4.1.
abbrev pub trimmed_head : ℕ → ℕ → OneHead
trimmed_head length committed = record { last = Some (record { seq = 4; rep = 1 }); length = length; committed = committed; trimmed = 256 }

-- A Head of a log for which no ring was adopted.
abbrev pub no_head : OneHead
no_head = record { last = None; length = 0; committed = 0; trimmed = 0 }

-- Their exchange after the three Heads: of 300 and 298 places, and of none.
abbrev pub trimmed : Exchange Global
trimmed = heads_of_three (trimmed_head 300 290) (trimmed_head 298 290) no_head

-- A piece of a snapshot.
abbrev pub piece_at : ℕ → ℕ → ℕ → List ℕ → OneSnap Global
piece_at at total offset bytes = record { at = at; total = total; offset = offset; bytes = bytes }

-- The bytes of that snapshot.
abbrev pub five_bytes : List ℕ
five_bytes = 0 ∷ 0 ∷ 7 ∷ 7 ∷ 7 ∷ []

-- `trimmed` after the snapshot, which is one piece.
abbrev pub after_snapshot : Exchange Global
after_snapshot = heard trimmed 1 (Snap (piece_at 256 5 0 five_bytes))

-- The exchange after `count` Parts of 7 of client 7's calls, from place `first` on.
abbrev pub after_parts : Exchange Global → ℕ → ℕ → Exchange Global
after_parts e first zero = e
after_parts e first (suc count) = after_parts (heard e 1 (Part (part_at first 7))) (first + 7) count

-- The base that `trimmed` hands out in the end: the snapshot of the first 256 places, and the places 256 to 299.
abbrev pub trimmed_base : Option (Base Global)
trimmed_base = Some (record { from = 256; snapshot = Some five_bytes; calls = calls_from 256 44 })

-- The complete exchange of `trimmed`.
abbrev pub trimmed_whole : CompleteExchange Global
trimmed_whole = record { exchange = heard (after_parts after_snapshot 256 6) 1 (Part (part_at 298 2)); end = 14; rest = [] }

-- The known log of this length that adopted ring SEQ.1: 290 places are committed, and the first 256 are dropped.
abbrev pub known : ℕ → ℕ → KnownLog Global
known seq length =
    record {
      from = 0;
      calls = calls_from 0 length;
      committed = 290;
      trimmed = 256;
      last = Some (record { seq = seq; rep = 1 });
      snapshot = [];
    }

-- The known log that was restored from the snapshot, with ring SEQ.1.
abbrev pub known_restored : ℕ → KnownLog Global
known_restored seq =
    record {
      from = 256;
      calls = calls_from 256 44;
      committed = 256;
      trimmed = 256;
      last = Some (record { seq = seq; rep = 1 });
      snapshot = five_bytes;
    }

-- The epochs of processor 2 in a group of three. In its first ring it receives a call after the three Heads. Then it is
-- alone. Then its next primary ring brings the log of processor 1, which has one more call

-- Three processors with one vote each.
abbrev pub group_of_three : Group
group_of_three = record { count = 3; votes = 1 ∷ 1 ∷ 1 ∷ [] }

-- Ring SEQ.REP.
abbrev pub ring_of : ℕ → ℕ → RingId
ring_of seq rep = record { seq = seq; rep = rep }

-- A message of a ring, with its number, its sender and its payload.
abbrev pub message_of : RingId → ℕ → ℕ → Payload Global → Message Global
message_of ring number sender payload = record { ring = ring; number = number; sender = sender; payload = payload }

-- The messages received in ring 1.1; numbers 1 to 3 were the members' Ends.
abbrev pub first_heard : List (Message Global)
first_heard =
    message_of (ring_of 1 1) 4 1 (Head no_head)
    ∷ message_of (ring_of 1 1) 5 2 (Head no_head)
    ∷ message_of (ring_of 1 1) 6 3 (Head no_head)
    ∷ message_of (ring_of 1 1) 7 2 (CallPayload (call_of_seven 1))
    ∷ []

-- The epochs with these messages received in the newest one.
abbrev pub heard_all : List (Message Global) → List (Epoch Global) → List (Epoch Global)
heard_all [] epochs = epochs
heard_all (x ∷ xs) epochs = heard_all xs (epochs_with_message x epochs)

-- The epochs in ring 1.1: all messages received, with this safe mark.
abbrev pub first_life : ℕ → List (Epoch Global)
first_life mark = epochs_with_mark mark (heard_all first_heard (epoch_opening (ring_of 1 1) 7 ∷ history_opening_of 2))

-- The epochs that continue alone, in ring 2.2, where nothing is received.
abbrev pub alone : List (Epoch Global)
alone = epoch_opening (ring_of 2 2) 2 ∷ first_life 7

-- The messages received in ring 3.1. The Part of processor 1 completes the exchange, and a Pack comes after it.
abbrev pub second_heard : List (Message Global)
second_heard =
    message_of (ring_of 3 1) 4 1 (Head (head_at 1 2 1))
    ∷ message_of (ring_of 3 1) 5 2 (Head (head_at 1 1 1))
    ∷ message_of (ring_of 3 1) 6 3 (Head (head_at 1 1 0))
    ∷ message_of (ring_of 3 1) 7 1 (Part (record { first = 0; calls = calls_from 1 2 }))
    ∷ message_of (ring_of 3 1) 8 3 (Pack (record { calls = calls_from 3 2 }))
    ∷ []

-- The epochs that continue in ring 3.1: all messages received, with this safe mark.
abbrev pub second_life : ℕ → List (Epoch Global)
second_life mark = epochs_with_mark mark (heard_all second_heard (epoch_opening (ring_of 3 1) 7 ∷ alone))
