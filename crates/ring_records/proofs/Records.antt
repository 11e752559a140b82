-- Writing a record part by part.
use Rattle.std.proofs.Common.{◌≡◌, ℕ, List, ◌∷◌, ◌++◌, length, Option, Result, ap, subst, ◌∙◌, append_assoc}
use Rattle.std.specs.Prelude.{OnOk}
use Rattle.std.specs.Io.KnownBytes.{Appends}
use Rattle.byteorder.specs.Endian.{big_bytes}
use Rattle.ring_records.specs.Records.{record_of}

-- The written bytes, with other terms for the parts of the record.
pub told_as : {T E : Type 0} (r : Result T E) (old new : Option (List ℕ)) (kind : ℕ) (first rest first' rest' : List ℕ) → first ≡ first' → rest ≡ rest'
    → OnOk r (Appends old new (record_of kind (first ++ rest))) → OnOk r (Appends old new (record_of kind (first' ++ rest')))
told_as r old new kind first rest first' rest' p q told =
    subst (λ (x : List ℕ). OnOk r (Appends old new (record_of kind (x ++ rest')))) p
    (subst (λ (y : List ℕ). OnOk r (Appends old new (record_of kind (first ++ y)))) q told)

-- The record of a frame is appended: its head, then the frame's encoding.
pub frame_behind : (out mid new head encoded text : List ℕ) (to : ℕ) → mid ≡ out ++ head → new ≡ mid ++ encoded → encoded ≡ text
    → head ≡ 70 ∷ big_bytes 2 (length (big_bytes 2 to ++ text)) ++ big_bytes 2 to → new ≡ out ++ record_of 70 (big_bytes 2 to ++ text)
frame_behind out mid new head encoded text to p q same is =
    q ∙ ap (λ (x : List ℕ). x ++ encoded) p ∙ append_assoc out head encoded ∙ ap (λ (x : List ℕ). out ++ x)
    (ap (λ (x : List ℕ). x ++ encoded) is ∙ ap (λ (x : List ℕ). (70 ∷ big_bytes 2 (length (big_bytes 2 to ++ text)) ++ big_bytes 2 to) ++ x) same)
