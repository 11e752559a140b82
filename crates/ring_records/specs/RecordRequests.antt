-- The request that a record makes of a node.
-- Rules: Nodes that records drive 2
-- Formats: Records
use Rattle.std.specs.Prelude.{◌≡◌, ℕ, ◌≤◌, List, [], ◌∷◌, length, drop}
use Rattle.byteorder.specs.Endian.{big_number}
use Rattle.ring_base.specs.declared.timeout_kind.Kind.{Kind}
use Rattle.ring_base.specs.declared.timeout_kind.Kind.TheVariants.{Retransmit, Join, Consensus, Loss}
use Rattle.ring_records.specs.declared.record_requests.RecordRequest.{RecordRequest}
use Rattle.ring_records.specs.declared.record_requests.RecordRequest.TheVariants.{Frame, Timeout, Call, Stop, Status, Counts, Time}

-- The number of a timeout.
abbrev pub kind_number : Kind → ℕ
kind_number Retransmit = 0
kind_number Join = 1
kind_number Consensus = 2
kind_number Loss = 3

-- The record of this kind with these bytes makes this request.
abbrev pub IsRequest : ℕ → List ℕ → RecordRequest → Type 0
IsRequest kind bytes Frame = kind ≡ 70
IsRequest kind bytes (Timeout time) = (kind ≡ 84) × (bytes ≡ kind_number time ∷ [])
IsRequest kind bytes (Call client number) =
    (kind ≡ 67) × (12 ≤ length bytes) × (client ≡ big_number 4 bytes) × (number ≡ big_number 8 (drop 4 bytes))
IsRequest kind bytes Stop = (kind ≡ 83) × (bytes ≡ [])
IsRequest kind bytes Status = (kind ≡ 81) × (bytes ≡ [])
IsRequest kind bytes Counts = (kind ≡ 73) × (bytes ≡ [])
IsRequest kind bytes (Time now) = (kind ≡ 78) × (length bytes ≡ 8) × (now ≡ big_number 8 bytes)
