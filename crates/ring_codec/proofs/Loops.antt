-- Values read, and written, one after the other in a loop.
use Rattle.std.proofs.Common.{◌≡◌, ℕ, suc, ◌-◌, ◌+◌, ◌≤◌, ◌<◌, List, [], ◌∷◌, ◌++◌, Option, Some, None, refl, sym, ap, ◌∙◌, append_assoc, arith}
use Rattle.std.proofs.lemmas.List.{append-nil}
use Rattle.ring_base.specs.declared.fault.Fault.{Fault}
use Rattle.ring_base.specs.declared.fault.Fault.TheVariants.{NotMember, PendingFull, OpTooLong, Conflict, Stale}
use Rattle.ring_base.specs.declared.fault.Fault.TheVariants.{NumberGap, SessionsFull, Stopped, BookFull, Stranger}
use Rattle.ring_base.specs.declared.fault.Fault.TheVariants.{Memory, BadFrame, BadScript, NoAnswer, BadSnapshot}
use Rattle.ring_codec.specs.Reading.{◌>>=◌, IsReadRefusal, repeated_at}

-- the values read before, then those still to read
abbrev pub with_front : {A : Type 0} → List A → Option (List A × List ℕ) → Option (List A × List ℕ)
with_front front read = read >>= λ x. Some (front ++ x.0, x.1)

regroup : {A : Type 0} (front : List A) (n : A) (read : Option (List A × List ℕ))
    → with_front front (read >>= λ x. Some (n ∷ x.0, x.1)) ≡ with_front (front ++ n ∷ []) read
regroup {A} front n (Some x) = ap (λ (ns : List A). Some (ns, x.1)) (simp append_assoc)
regroup front n None = refl

pub goes_on : {A : Type 0} (at : List ℕ → Option (A × List ℕ)) (front : List A) (count i : ℕ) (bytes : List ℕ) (n : A)
    (after : List ℕ) (total : Option (List A × List ℕ)) → i < count → at bytes ≡ Some (n, after)
    → with_front front (repeated_at (count - i) at bytes) ≡ total → with_front (front ++ n ∷ []) (repeated_at (count - (i + 1)) at after) ≡ total
unfolding repeated_at
goes_on at front count i bytes n after total lt h so_far =
    let k : count - i ≡ suc (count - (i + 1)) = omega arith in
    let one : with_front front (repeated_at (count - i) at bytes) ≡ with_front (front ++ n ∷ [])
    (repeated_at (count - (i + 1)) at after) = rw (k, h) (regroup front n (repeated_at (count - (i + 1)) at after)) in
    sym one ∙ so_far

-- a refusal carries over to any reading that gives nothing where this one does
pub IsReadRefusal-on : {A B : Type 0} (e : Fault) (r : Option A) (s : Option B) → IsReadRefusal e r → (r ≡ None → s ≡ None) → IsReadRefusal e s
IsReadRefusal-on Memory r s h f = tt
IsReadRefusal-on BadFrame r s h f = f h
IsReadRefusal-on NotMember r s h f = h
IsReadRefusal-on PendingFull r s h f = h
IsReadRefusal-on OpTooLong r s h f = h
IsReadRefusal-on Conflict r s h f = h
IsReadRefusal-on Stale r s h f = h
IsReadRefusal-on NumberGap r s h f = h
IsReadRefusal-on SessionsFull r s h f = h
IsReadRefusal-on Stopped r s h f = h
IsReadRefusal-on BookFull r s h f = h
IsReadRefusal-on Stranger r s h f = h
IsReadRefusal-on BadScript r s h f = h
IsReadRefusal-on NoAnswer r s h f = h
IsReadRefusal-on BadSnapshot r s h f = h

pub ends : {A : Type 0} (at : List ℕ → Option (A × List ℕ)) (e : Fault) (front : List A) (count i : ℕ)
    (bytes : List ℕ) (total : Option (List A × List ℕ)) → i < count → IsReadRefusal e (at bytes)
    → with_front front (repeated_at (count - i) at bytes) ≡ total → IsReadRefusal e total
unfolding repeated_at
ends at e front count i bytes total lt h so_far =
    let k : count - i ≡ suc (count - (i + 1)) = omega arith in
    IsReadRefusal-on e (at bytes) total h (λ none. sym so_far ∙ rw (k, none) refl)

pub is_done : {A : Type 0} (at : List ℕ → Option (A × List ℕ)) (front : List A) (count i : ℕ) (bytes : List ℕ)
    (total : Option (List A × List ℕ)) → count ≤ i → with_front front (repeated_at (count - i) at bytes) ≡ total
    → total ≡ Some (front, bytes)
unfolding repeated_at
is_done {A} at front count i bytes total le so_far =
    let k : count - i ≡ 0 = omega arith in
    let one : with_front front (repeated_at (count - i) at bytes) ≡ Some (front, bytes) = rw k (ap (λ (ns : List A). Some (ns, bytes)) (append-nil front)) in
    sym so_far ∙ one
