-- An output that grew, by several texts and by the output of a record.
use Rattle.std.proofs.Common.{◌≡◌, ℕ, ◌+◌, ◌-◌, ◌≤◌, List, [], ◌++◌, length, take, drop, Option, Result, Ok, Err, sym, ap, subst, ◌∙◌, arith, length-take, take-take, take-add}
use Rattle.std.specs.Prelude.{OnOk}
use Rattle.std.specs.Io.KnownBytes.{Keeps, Appends}
use Rattle.std.proofs.KnownBytes.{Appends-nil, Appends-trans, Appends-kept}
use Rattle.ring_object.specs.Operations.{Sequential}
use Rattle.ring_records.specs.RecordRequests.{IsRequest}
use Rattle.ring_records.specs.declared.record_requests.RecordRequest.{RecordRequest}
use Rattle.ring_records.specs.declared.record_requests.RecordRequest.TheVariants.{Frame, Timeout, Call, Stop, Status, Counts, Time}
use Rattle.ring_record_node.specs.NodeOutputs.{RecordNodeView}
use Rattle.ring_record_node.specs.RecordNodes.{IsRequestDone, IsRecordTaken, HasWrittenUnlessFailed, HasWritten}

-- a text with this property was written, unless the output failed
pub tells : {T E : Type 0} (r : Result T E) (out out' : Option (List ℕ)) (text : List ℕ) (P : List ℕ → Type 0)
    → OnOk r (Appends out out' text) → P text → HasWrittenUnlessFailed r out out' P
tells r out out' text P told holds = record { text = text; told = told; holds = holds }

-- one property of the text implies another
pub tells_as : {T E : Type 0} (r : Result T E) (out out' : Option (List ℕ)) (P Q : List ℕ → Type 0) → ((text : List ℕ) → P text → Q text)
    → HasWrittenUnlessFailed r out out' P → HasWrittenUnlessFailed r out out' Q
tells_as r out out' P Q f w = record { text = w.text; told = w.told; holds = f w.text w.holds }

-- the output did not fail, so the text was written
pub written : {T E : Type 0} (r : Result T E) (x : T) (out out' : Option (List ℕ)) (P : List ℕ → Type 0) → r ≡ Ok x → HasWrittenUnlessFailed r out out' P → HasWritten out out' P
written (Ok y) x out out' P e w = record { text = w.text; told = w.told; holds = w.holds }
written (Err e) x out out' P is w = absurd (cc is)

-- a text was written after another one
pub writes_then : {T E : Type 0} (r : Result T E) (old mid new : Option (List ℕ)) (text more : List ℕ) → Appends old mid text
    → OnOk r (Appends mid new more) → OnOk r (Appends old new (text ++ more))
writes_then (Ok x) old mid new text more told then = Appends-trans old mid new text more told then
writes_then (Err e) old mid new text more told then = tt

-- nothing was written
pub none_written : (old new : Option (List ℕ)) → Keeps old new → Appends old new []
none_written old new kept = Appends-kept old old new [] (Appends-nil old) kept

-- a text was written up to an index, and then `count` more of its bytes
pub written_upto : (old mid new : Option (List ℕ)) (text : List ℕ) (from count : ℕ) → count ≤ length (take (length text - from) (drop from text))
    → Appends old mid (take from text) → Appends mid new (take count (take (length text - from) (drop from text)))
    → Appends old new (take (from + count) text)
written_upto old mid new text from count fits first then =
    let rest = take (length text - from) (drop from text) in
    let most = length-take (length text - from) (drop from text) in
    let within : count ≤ length text - from = omega (arith, fits, most) in
    let joined : take from text ++ take count rest ≡ take (from + count) text
    = ap (λ (l : List ℕ). take from text ++ l) (take-take count (length text - from) (drop from text) within) ∙ sym (take-add from count text) in
    subst (λ (l : List ℕ). Appends old new l) joined (Appends-trans old mid new (take from text) (take count rest) first then)

-- the bytes of a call's record are at least twelve
pub call_long : (kind : ℕ) (bytes : List ℕ) (what : RecordRequest) → IsRequest kind bytes what → (client number : ℕ) → what ≡ Call client number → 12 ≤ length bytes
call_long kind bytes (Call c n) asks client number e = asks.1
call_long kind bytes Frame asks client number e = absurd cc
call_long kind bytes (Timeout t) asks client number e = absurd cc
call_long kind bytes Stop asks client number e = absurd cc
call_long kind bytes Status asks client number e = absurd cc
call_long kind bytes Counts asks client number e = absurd cc
call_long kind bytes (Time now) asks client number e = absurd cc

module _ {O A : Type 0} (object : Sequential O) where
  -- the request of a record was carried out, so the record was taken
  pub tells_taken : {T E : Type 0} (r : Result T E) (out out' : Option (List ℕ)) (old : RecordNodeView A) (kind : ℕ) (bytes : List ℕ) (what : RecordRequest) (new : RecordNodeView A)
      → IsRequest kind bytes what → HasWrittenUnlessFailed r out out' (λ text. IsRequestDone object old bytes what new text) → HasWrittenUnlessFailed r out out' (λ text. IsRecordTaken object old kind bytes new text)
  tells_taken r out out' old kind bytes what new asks w =
      record { text = w.text; told = w.told; holds = record { what = what; asks = asks; does = w.holds } }
