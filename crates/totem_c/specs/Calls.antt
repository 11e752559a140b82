-- The effect of each call of C on the node of a handle: opening it, taking a record, reading its output.
-- Formats: A library for C
use Rattle.std.specs.Prelude.{◌≡◌, ℕ, ◌⊎◌, ◌≤◌, ◌<◌, List, [], ◌++◌, length, take, Option, Some, None}
use Rattle.ring_base.specs.Group.{AreVotes}
use Rattle.ring_object.specs.Operations.{Sequential}
use Rattle.ring_timers.specs.declared.periods.Periods.{Periods}
use Rattle.ring_record_node.specs.NodeOutputs.{record_node_opening}
use Rattle.ring_record_node.specs.RecordNodes.{IsOpeningRefused}
use Rattle.ring_record_node.specs.BufferedNodeView.{IsRecordBuffered, IsRecordRefused}
use Rattle.totem_c.specs.declared.handle_contents.HandleContents.{HandleContents}
use Rattle.totem_c.specs.declared.status.Status.{Status}
use Rattle.totem_c.specs.declared.status.Status.TheVariants.{Done, Refused, Misused}

-- These are the votes of a group, and `me` is one of its processors.
abbrev pub IsOneOf : ℕ → List ℕ → Type 0
IsOneOf me votes = AreVotes votes × (1 ≤ me) × (me ≤ length votes)

-- The processor with this number at its opening, with a clock of these periods and no unread bytes.
abbrev pub IsOpened : ℕ → List ℕ → Periods → HandleContents → Type 0
IsOpened me votes periods contents =
    IsOneOf me votes × (contents.node ≡ record { node = Some (record_node_opening (record { count = length votes; votes = votes }) me periods); unread = [] })

-- Opening: a node is put into an empty handle, or the status says why it isn't.
abbrev pub Opens : Option HandleContents → ℕ → List ℕ → Periods → Status → Option HandleContents → Type 0
Opens old me votes periods Done new = (contents : HandleContents) × (old ≡ None) × (new ≡ Some contents) × IsOpened me votes periods contents
Opens old me votes periods (Refused fault) new = (old ≡ None) × (new ≡ None) × IsOpeningRefused (IsOneOf me votes) fault
Opens old me votes periods Misused new = (contents : HandleContents) × (old ≡ Some contents) × (new ≡ Some contents)

-- Opening with four periods, in milliseconds: join, retransmit, consensus, loss. Either all are at least 1 and a node
-- with them is opened, or one of them is 0 and nothing is done.
abbrev pub OpensTimed : Option HandleContents → ℕ → List ℕ → ℕ → ℕ → ℕ → ℕ → Status → Option HandleContents → Type 0
OpensTimed old me votes join retransmit consensus loss status new =
    ((periods : Periods) × (periods.join ≡ join) × (periods.retransmit ≡ retransmit) × (periods.consensus ≡ consensus) × (periods.loss ≡ loss)
    × Opens old me votes periods status new)
    ⊎ (¬ ((1 ≤ join) × (1 ≤ retransmit) × (1 ≤ consensus) × (1 ≤ loss)) × (status ≡ Misused) × (new ≡ old))

-- Taking a record: the handle's node carries out the record's request, or the status says why it doesn't.
abbrev pub Takes : {O : Type 0} → Sequential O → Option HandleContents → ℕ → List ℕ → Status → Option HandleContents → Type 0
Takes object old kind bytes Done new =
    (before : HandleContents) × (after : HandleContents) × (old ≡ Some before) × (new ≡ Some after) × IsRecordBuffered object before.node kind bytes after.node
Takes object old kind bytes (Refused fault) new =
    (before : HandleContents) × (after : HandleContents) × (old ≡ Some before) × (new ≡ Some after) × IsRecordRefused before.node kind bytes fault after.node
Takes object old kind bytes Misused new = (old ≡ None) × (new ≡ None)

-- Reading: the first unread bytes go to the front of the buffer, whose contents before and after are given; an empty
-- handle has none.
abbrev pub Reads : Option HandleContents → List ℕ → List ℕ → ℕ → Option HandleContents → Type 0
Reads None room into count new = (count ≡ 0) × (new ≡ None) × (into ≡ room)
Reads (Some before) room into count new =
    (after : HandleContents) × (new ≡ Some after) × (count ≤ length into) × (before.node.unread ≡ take count into ++ after.node.unread)
    × (count ≡ 0 → 0 < length into → after.node.unread ≡ []) × (after.node.node ≡ before.node.node)
