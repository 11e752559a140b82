-- A node that takes one more record, and the end of its input.
use Rattle.std.proofs.Common.{◌≡◌, ℕ, ◌+◌, ◌-◌, ◌^◌, inl, inr, List, [], ◌∷◌, ◌++◌, length, take, drop, Option, Some, None, Result, Ok, Err, refl, subst, sym, ◌∙◌, arith, take-append-drop}
use Rattle.std.specs.Prelude.{IfErr, IsErrAnd}
use Rattle.std.specs.Io.Iter.{u64_saturate}
use Rattle.std.specs.Io.KnownBytes.{Appends, Consumes, IsAtEnd}
use Rattle.std.proofs.KnownBytes.{Consumes-nil, Consumes-trans, Consumes-kept, Appends-nil, Appends-trans, Keeps-refl}
use Rattle.std.proofs.lemmas.List.{length-append}
use Rattle.ring_base.specs.Group.{Group, IsInGroup}
use Rattle.ring_base.specs.declared.fault.Fault.{Fault}
use Rattle.ring_object.specs.Operations.{Sequential}
use Rattle.ring_records.specs.Records.{record_of}
use Rattle.ring_records.proofs.Parts.{unfinished_none}
use Rattle.ring_failure.specs.declared.failure.Failure.{Failure}
use Rattle.ring_failure.specs.declared.failure.Failure.TheVariants.{Refused, Output}
use Rattle.ring_timers.specs.declared.periods.Periods.{Periods}
use Rattle.ring_record_node.specs.NodeOutputs.{RecordNodeView, record_node_opening}
use Rattle.ring_record_node.specs.RecordNodes.{IsRecordTaken, HasWritten, IsOpeningRefused}
use Rattle.ring_record_node.specs.Serving.{Record, records_text, IsHalfWritten, IsStop, AreRecordsTaken, IsNextServed, AreRecordsServed, IsCutFrom, IsCutOff}

-- output that was built in an empty buffer, and then written
pub written_out : (told : List ℕ) (old new : Option (List ℕ)) (P : List ℕ → Type 0) → HasWritten (Some []) (Some told) P → Appends old new told → HasWritten old new P
written_out told old new P w out = record { text = w.text; told = subst (Appends old new) w.told out; holds = w.holds }

module _ {O A : Type 0} (object : Sequential O) where
  -- `count` records were taken, those before the byte `at`
  pub record ServesTo (count at : ℕ) (old new : RecordNodeView A) (input rest out out' : Option (List ℕ)) : Type 0 where
    pub so : AreRecordsServed object old new input rest out out'
    pub many : length so.records ≡ count
    pub place : at ≡ u64_saturate (length (records_text so.records))

  -- nothing is read yet
  pub served_none : (old : RecordNodeView A) (input out : Option (List ℕ)) → ServesTo 0 0 old old input input out out
  served_none old input out = record {
    so = record { records = []; text = []; read = Consumes-nil input; was_taken = (refl, refl); told = Appends-nil out };
    many = refl;
    place = omega arith;
  }

  -- one record more
  pub served_more : (count at next : ℕ) (old mid new : RecordNodeView A) (input left rest out told out' : Option (List ℕ))
      → ServesTo count at old mid input left out told → IsNextServed object at (Some next) mid new left rest told out'
      → ServesTo (count + 1) next old new input rest out out'
  served_more count at next old mid new input left rest out told out' to taken =
      let so = to.so in
      let r = taken.0 in
      let writes = taken.2 in
      let bytes = record_of r.kind r.bytes in
      record {
        so = record {
          records = r ∷ so.records;
          text = so.text ++ writes.text;
          read = Consumes-trans input left rest (records_text so.records) bytes so.read taken.1;
          was_taken = (mid, so.text, writes.text, so.was_taken, writes.holds, refl);
          told = Appends-trans out told out' so.text writes.text so.told writes.told;
        };
        many = omega (arith, to.many);
        place = omega (arith, to.place, taken.3, length-append (records_text so.records) bytes);
      }

  -- the next record was taken and its request carried out, and `count` bytes of its output are written
  pub half_told : (old new : RecordNodeView A) (next : Record) (text : List ℕ) (count : ℕ) (left rest out out' : Option (List ℕ))
      → Consumes left rest (record_of next.kind next.bytes)
      → HasWritten (Some []) (Some text) (λ (t : List ℕ). IsRecordTaken object old next.kind next.bytes new t) → Appends out out' (take count text)
      → IsHalfWritten object old new left rest out out'
  half_told old new next text count left rest out out' read w written =
      let parted : text ≡ take count text ++ drop count text = sym (take-append-drop count text) in
      record {
        next = next;
        front = take count text;
        lost = drop count text;
        read = read;
        was_taken = subst (λ (t : List ℕ). IsRecordTaken object old next.kind next.bytes new t) (sym w.told ∙ parted) w.holds;
        told = written;
      }

  -- there is no next record, or its output is written in part
  pub cut_here : (count at : ℕ) (old mid : RecordNodeView A) (input left rest out told out' : Option (List ℕ)) (failure : Failure)
      → ServesTo count at old mid input left out told → IsStop object at mid left rest told out' failure
      → IsCutFrom object old input rest out out' failure
  cut_here count at old mid input left rest out told out' failure to stop =
      (mid, left, told, to.so, inl (subst (λ (n : ℕ). IsStop object n mid left rest told out' failure) to.place stop))

  -- the number of records has reached the greatest u64
  pub cut_full : (count at : ℕ) (old mid : RecordNodeView A) (input left out told : Option (List ℕ)) → ServesTo count at old mid input left out told
      → count ≡ 2 ^ 64 - 1 → IsCutFrom object old input left out told Output
  cut_full count at old mid input left out told to full = (mid, left, told, to.so, inr (refl, to.many ∙ full, refl, refl))

  -- no record is left: those before are the whole input
  pub served_end : (count at : ℕ) (old new last : RecordNodeView A) (input left rest out told out' : Option (List ℕ)) → ServesTo count at old new input left out told
      → IsNextServed object at None new last left rest told out' → AreRecordsServed object old last input rest out out' × IsAtEnd rest
  served_end count at old new last input left rest out told out' to none =
      let so = to.so in (
        record {
          records = so.records;
          text = so.text;
          read = Consumes-kept input left rest (records_text so.records) so.read none.1;
          was_taken = subst (λ (n : RecordNodeView A). AreRecordsTaken object old so.records n so.text) (sym none.0) so.was_taken;
          told = subst (λ (o : Option (List ℕ)). Appends out o so.text) (sym none.3) so.told;
        },
        none.2,
      )

module _ {O : Type 0} (object : Sequential O) (A : Type 0) where
  -- a node can't begin: memory is refused, or its group has no such processor
  cut_first : (group : Group) (me : ℕ) (periods : Periods) (fault : Fault) (input out : Option (List ℕ)) → IsOpeningRefused (IsInGroup group me) fault
      → IsCutOff object A group me periods input input out out (Refused fault)
  cut_first group me periods fault input out (inl both) =
      let opening = record_node_opening {A = A} group me periods in
      let begun = served_none object opening input out in
      let kept = unfinished_none input input (Keeps-refl input) in
      inr (both.1, cut_here object 0 0 opening opening input input input out out out (Refused fault) begun (both.0, inr kept, refl))
  cut_first group me periods fault input out (inr both) = inl (subst (λ (f : Fault). Refused fault ≡ Refused f) both.0 refl, both.1, refl, refl)

  -- nothing was read
  pub cut_at_once : {T : Type 0} (r : Result T Failure) (group : Group) (me : ℕ) (periods : Periods) (fault : Fault) (input out : Option (List ℕ))
      → IsErrAnd r (λ (f : Failure). f ≡ Refused fault) → IsOpeningRefused (IsInGroup group me) fault → IfErr r (IsCutOff object A group me periods input input out out)
  cut_at_once (Ok x) group me periods fault input out is why = tt
  cut_at_once (Err failure) group me periods fault input out is why =
      subst (λ (f : Failure). IsCutOff object A group me periods input input out out f) (sym is) (cut_first group me periods fault input out why)

  -- a processor's node, from its opening, took no more records
  pub cut_after : {T : Type 0} (r : Result T Failure) (group : Group) (me : ℕ) (periods : Periods) (input rest out out' : Option (List ℕ)) → IsInGroup group me
      → IfErr r (IsCutFrom object (record_node_opening {A = A} group me periods) input rest out out')
      → IfErr r (IsCutOff object A group me periods input rest out out')
  cut_after (Ok x) group me periods input rest out out' among cut = tt
  cut_after (Err failure) group me periods input rest out out' among cut = inr (among, cut)
