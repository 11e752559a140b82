-- Texts after their lengths, split off and appended.
use Rattle.std.proofs.Common.{◌≡◌, ℕ, ◌-◌, ◌<◌, ◌≤◌, nat_le, List, length, take, drop, Option, Some}
use Rattle.std.proofs.Common.{None, Result, Ok, Err, IfOk, IfErr, sym}
use Rattle.std.proofs.lemmas.Bool.{cond-true, cond-false, le-leb, lt-leb, and_from, and_left, and_right}
use Rattle.std.proofs.lemmas.List.{take_rest}
use Rattle.byteorder.specs.Endian.{big_number}
use Rattle.ring_base.specs.declared.fault.Fault.{Fault}
use Rattle.ring_object.specs.Snapshots.{IsSnapshotRefusal, IsRestoreResult}
use Rattle.ring_things.specs.Shelf.{first_text, four_of}

pub first_text-short : (width : ℕ) (bytes : List ℕ) → length bytes < width → None ≡ first_text width bytes
unfolding first_text
first_text-short width bytes short = sym (cond-false _ _ _ (and_left _ _ (lt-leb _ _ short)))

pub first_text-long : (width number : ℕ) (bytes : List ℕ) → number ≡ big_number width bytes
    → length (take (length bytes - width) (drop width bytes)) < number → None ≡ first_text width bytes
unfolding first_text
first_text-long width number bytes is long =
    let less : length (drop width bytes) < big_number width bytes = rw (← is) (rw take_rest at long) in
    sym (cond-false _ _ _ (and_right (nat_le width (length bytes)) _ (lt-leb _ _ less)))

pub first_text-there : (width number : ℕ) (bytes front back : List ℕ) → number ≡ big_number width bytes
    → width ≤ length bytes → number ≤ length (take (length bytes - width) (drop width bytes)) →
    front ≡ take number (take (length bytes - width) (drop width bytes)) → back ≡ drop number
    (take (length bytes - width) (drop width bytes)) → Some (front, back) ≡ first_text width bytes
unfolding first_text
first_text-there width number bytes front back is some enough is_front is_back =
    let fits : big_number width bytes ≤ length (drop width bytes) = rw (← is) (rw take_rest at enough) in
    rw (is_front, is_back, take_rest, is) (sym (cond-true _ _ _ (and_from _ _ (le-leb _ _ some) (le-leb _ _ fits))))

-- The two cases of a property of a result.
pub joined : {O : Type 0} (content : Option O) (answer : Result O Fault)
    → IfOk answer (λ restored. content ≡ Some restored) → IfErr answer (IsSnapshotRefusal content) → IsRestoreResult content answer
joined content (Ok restored) ok refused = ok
joined content (Err fault) ok refused = refused

pub refuses_four : {P Q R S : Type 0} (pairs : Option ((P × Q) × (R × S))) (fault : Fault) → IsSnapshotRefusal pairs fault → IsSnapshotRefusal (four_of pairs) fault
refuses_four (Some objects) fault refuses = refuses
refuses_four None fault refuses = refuses
