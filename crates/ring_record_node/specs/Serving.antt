-- A node that takes the records of an input one after another.
-- Rules: Nodes that records drive 5
-- Formats: Records
use Rattle.std.specs.Prelude.{◌≡◌, ℕ, ◌+◌, ◌-◌, ◌^◌, ◌<◌, ◌⊎◌, List, [], ◌∷◌, ◌++◌, length, Option, Some, None}
use Rattle.std.specs.Io.Iter.{u64_saturate}
use Rattle.std.specs.Io.KnownBytes.{Keeps, Appends, Consumes, IsAtEnd}
use Rattle.ring_base.specs.Group.{Group, IsInGroup}
use Rattle.ring_base.specs.declared.fault.Fault.TheVariants.{Memory, NotMember}
use Rattle.ring_object.specs.Operations.{Sequential}
use Rattle.ring_records.specs.Records.{record_of, TakesUnfinished}
use Rattle.ring_failure.specs.declared.failure.Failure.{Failure}
use Rattle.ring_failure.specs.declared.failure.Failure.TheVariants.{Refused, BadFrame, BadScript, Output}
use Rattle.ring_timers.specs.declared.periods.Periods.{Periods}
use Rattle.ring_record_node.specs.NodeOutputs.{RecordNodeView, record_node_opening}
use Rattle.ring_record_node.specs.RecordNodes.{IsRecordTaken, HasWritten, IsNoRequest}

-- a record: its kind and its bytes, at most 65,535
pub record Record : Type 0 where
  pub kind : ℕ
  pub bytes : List ℕ
  pub short : length bytes < 2 ^ 16

-- the bytes of these records in the input; the list has the newest first
abbrev pub records_text : List Record → List ℕ
records_text [] = []
records_text (r ∷ before) = records_text before ++ record_of r.kind r.bytes

-- the index of the first byte after a record that begins at this index, counted from 0, at most the greatest u64
abbrev pub behind : ℕ → Record → ℕ
behind at r = u64_saturate (at + length (record_of r.kind r.bytes))

-- the next record is faulty. It is complete, it alone is taken off the input, and it is no request; or less than a record is
-- taken off, of which it isn't said that the input ended or failed there
abbrev pub IsAtFault : Option (List ℕ) → Option (List ℕ) → Type 0
IsAtFault left rest = ((r : Record) × Consumes left rest (record_of r.kind r.bytes) × IsNoRequest r.kind r.bytes) ⊎ TakesUnfinished left rest

-- at most the next record is taken off the input
abbrev pub TakesNoMore : Option (List ℕ) → Option (List ℕ) → Type 0
TakesNoMore left rest = ((r : Record) × Consumes left rest (record_of r.kind r.bytes)) ⊎ TakesUnfinished left rest

-- the number of records has reached the greatest u64, and nothing more is taken or written; the failure is that of an output
-- that fails
abbrev pub IsFull : List Record → Option (List ℕ) → Option (List ℕ) → Option (List ℕ) → Option (List ℕ) → Failure → Type 0
IsFull records left rest out out' failure = (failure ≡ Output) × (length records ≡ 2 ^ 64 - 1) × (rest ≡ left) × (out' ≡ out)

module _ {O A : Type 0} (object : Sequential O) where
  -- the node took the records, the newest first here, and this is its output for all of them, in order
  abbrev pub AreRecordsTaken : RecordNodeView A → List Record → RecordNodeView A → List ℕ → Type 0
  AreRecordsTaken old [] new text = (new ≡ old) × (text ≡ [])
  AreRecordsTaken old (r ∷ before) new text =
      (mid : RecordNodeView A) × (told : List ℕ) × (more : List ℕ) × AreRecordsTaken old before mid told × IsRecordTaken object mid r.kind r.bytes new more
      × (text ≡ told ++ more)

  -- the record that begins at this index was taken and its output written, and the next one begins after it; or none was left
  abbrev pub IsNextServed : ℕ → Option ℕ → RecordNodeView A → RecordNodeView A → Option (List ℕ) → Option (List ℕ) → Option (List ℕ) → Option (List ℕ) → Type 0
  IsNextServed at (Some next) old new input rest out out' =
      (r : Record) × Consumes input rest (record_of r.kind r.bytes) × HasWritten out out' (λ text. IsRecordTaken object old r.kind r.bytes new text)
      × (next ≡ behind at r)
  IsNextServed at None old new input rest out out' = (new ≡ old) × Keeps input rest × IsAtEnd rest × (out' ≡ out)

  -- the records are a prefix of the input and are taken off it; the node took them, and their output is written
  pub record AreRecordsServed (old new : RecordNodeView A) (input rest out out' : Option (List ℕ)) : Type 0 where
    pub records : List Record
    pub text : List ℕ
    pub read : Consumes input rest (records_text records)
    pub was_taken : AreRecordsTaken old records new text
    pub told : Appends out out' text

  -- the next record was taken and its request carried out; a prefix of its output is written, and the rest of it, perhaps
  -- nothing, is lost
  pub record IsHalfWritten (old new : RecordNodeView A) (left rest out out' : Option (List ℕ)) : Type 0 where
    pub next : Record
    pub front : List ℕ
    pub lost : List ℕ
    pub read : Consumes left rest (record_of next.kind next.bytes)
    pub was_taken : IsRecordTaken object old next.kind next.bytes new (front ++ lost)
    pub told : Appends out out' front

  -- why the record that begins at this index isn't served. Memory is refused or the record is faulty, and nothing is written
  -- for it; or its request is carried out and the output failed midway. It isn't said when memory is refused or an output fails
  abbrev pub IsStop : ℕ → RecordNodeView A → Option (List ℕ) → Option (List ℕ) → Option (List ℕ) → Option (List ℕ) → Failure → Type 0
  IsStop at old left rest out out' (Refused fault) = (fault ≡ Memory) × TakesNoMore left rest × (out' ≡ out)
  IsStop at old left rest out out' (BadFrame byte) = (byte ≡ at) × IsAtFault left rest × (out' ≡ out)
  IsStop at old left rest out out' (BadScript line) = ⊥
  IsStop at old left rest out out' Output = (new : RecordNodeView A) × IsHalfWritten old new left rest out out'

  -- the node served all records before, and the failure is why it served no more
  abbrev pub IsCutFrom : RecordNodeView A → Option (List ℕ) → Option (List ℕ) → Option (List ℕ) → Option (List ℕ) → Failure → Type 0
  IsCutFrom old input rest out out' failure =
      (mid : RecordNodeView A) × (left : Option (List ℕ)) × (told : Option (List ℕ)) × (so : AreRecordsServed old mid input left out told)
      × (IsStop (u64_saturate (length (records_text so.records))) mid left rest told out' failure ⊎ IsFull so.records left rest told out' failure)

module _ {O : Type 0} (object : Sequential O) (A : Type 0) where
  -- `me` is a processor of the group; the input was a list of records, none of it is left, and the node served all of them from
  -- its opening
  abbrev pub IsServed : Group → ℕ → Periods → Option (List ℕ) → Option (List ℕ) → Option (List ℕ) → Option (List ℕ) → Type 0
  IsServed group me periods input rest out out' =
      IsInGroup group me × (new : RecordNodeView A) × AreRecordsServed object (record_node_opening group me periods) new input rest out out' × IsAtEnd rest

  -- `me` is no processor, nothing of the input is taken and nothing written; or it is one, its node served all records before
  -- from its opening, and the failure is why it served no more
  abbrev pub IsCutOff : Group → ℕ → Periods → Option (List ℕ) → Option (List ℕ) → Option (List ℕ) → Option (List ℕ) → Failure → Type 0
  IsCutOff group me periods input rest out out' failure =
      ((failure ≡ Refused NotMember) × (¬ IsInGroup group me) × (rest ≡ input) × (out' ≡ out))
      ⊎ (IsInGroup group me × IsCutFrom object (record_node_opening {A = A} group me periods) input rest out out' failure)

  -- the input was cut off in that way; where the output failed, nothing is reported on `err`
  abbrev pub IsCutShort : {E : Type 0} → Group → ℕ → Periods → Option (List ℕ) → Option (List ℕ) → Option (List ℕ) → Option (List ℕ) → E → E → Type 0
  IsCutShort group me periods input rest out out' err err' =
      (failure : Failure) × IsCutOff group me periods input rest out out' failure × (failure ≡ Output → err' ≡ err)
