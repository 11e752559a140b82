-- A node within another program, which hands it records and reads its output from a buffer.
-- Rules: Nodes that records drive 1
-- Formats: Records; A library for C
use Rattle.std.specs.Prelude.{◌≡◌, ℕ, List, [], ◌++◌, Option, Some, None}
use Rattle.ring_base.specs.declared.fault.Fault.{Fault}
use Rattle.ring_base.specs.declared.fault.Fault.TheVariants.{Stopped, Memory, BadFrame}
use Rattle.ring_object.specs.Operations.{Sequential}
use Rattle.ring_records.specs.RecordRequests.{IsRequest}
use Rattle.ring_records.specs.declared.record_requests.RecordRequest.{RecordRequest}
use Rattle.ring_record_node.specs.NodeOutputs.{RecordNodeView}
use Rattle.ring_record_node.specs.RecordNodes.{IsRecordTaken, IsNoRequest}

-- the node, None once it is gone, and the unread bytes of its output
pub record BufferedNodeView (A : Type 0) : Type 0 where
  pub node : Option (RecordNodeView A)
  pub unread : List ℕ

module _ {O A : Type 0} (object : Sequential O) where
  -- the node carried out the record's request, and its output follows the bytes that were unread
  pub record IsRecordBuffered (old : BufferedNodeView A) (kind : ℕ) (bytes : List ℕ) (new : BufferedNodeView A) : Type 0 where
    pub before : RecordNodeView A
    pub after : RecordNodeView A
    pub text : List ℕ
    pub node_before : old.node ≡ Some before
    pub node_after : new.node ≡ Some after
    pub was_taken : IsRecordTaken object before kind bytes after text
    pub told : new.unread ≡ old.unread ++ text

-- why a record is refused, and the state that this leaves
abbrev pub IsRecordRefused : {A : Type 0} → BufferedNodeView A → ℕ → List ℕ → Fault → BufferedNodeView A → Type 0
IsRecordRefused old kind bytes Stopped new = (old.node ≡ None) × (new ≡ old)
IsRecordRefused {A} old kind bytes BadFrame new = (before : RecordNodeView A) × (old.node ≡ Some before) × IsNoRequest kind bytes × (new ≡ old)
IsRecordRefused {A} old kind bytes Memory new =
    (before : RecordNodeView A) × (what : RecordRequest) × (old.node ≡ Some before) × IsRequest kind bytes what × (new ≡ record { node = None; unread = [] })
IsRecordRefused old kind bytes _ new = ⊥
