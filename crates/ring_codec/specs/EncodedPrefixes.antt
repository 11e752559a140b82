-- Encodings at the front of bytes.
use Rattle.std.proofs.Common.{◌≡◌, ℕ, ◌+◌, ◌-◌, ◌≤◌, ◌⊎◌, true, false, List, [], ◌++◌, length, take, drop, Option, Some}
use Rattle.std.proofs.Common.{None, Result, Ok, Err, refl, sym, ap, subst, ◌∙◌, arith}
use Rattle.std.specs.Prelude.{IsSome, IfSome}
use Rattle.ring_base.specs.declared.fault.Fault.{Fault}
use Rattle.ring_base.specs.declared.fault.Fault.TheVariants.{NotMember, PendingFull, OpTooLong, Conflict, Stale}
use Rattle.ring_base.specs.declared.fault.Fault.TheVariants.{NumberGap, SessionsFull, Stopped, BookFull, Stranger}
use Rattle.ring_base.specs.declared.fault.Fault.TheVariants.{Memory, BadFrame, BadScript, NoAnswer, BadSnapshot}
use Rattle.ring_codec.specs.Reading.{IsFormat, IsBytes, IsReadRefusal}
use Rattle.ring_codec.specs.ReadingLaws.{some_injective}
use Rattle.std.proofs.lemmas.List.{length-append, length-drop, append-nil, take_all, take_at, take-append-drop}

-- the first n bytes are the encoding of the value, which fits
pub record IsEncodedPrefix {A : Type 0} (encoding : A → List ℕ) (Fits : A → Type 0) (bytes : List ℕ) (v : A) (n : ℕ) : Type 0 where
  pub fits : Fits v
  pub within : n ≤ length bytes
  pub front : take n bytes ≡ encoding v

-- the bytes begin with the encoding of no value that fits
abbrev pub HasNoEncodedPrefix : {A : Type 0} → (A → List ℕ) → (A → Type 0) → List ℕ → Type 0
HasNoEncodedPrefix {A} encoding Fits bytes = (v : A) (rest : List ℕ) → Fits v → bytes ≡ encoding v ++ rest → ⊥

-- a refusal to read: `BadFrame` or `Memory`
abbrev pub IsReadFault : Fault → Type 0
IsReadFault e = (e ≡ BadFrame) ⊎ (e ≡ Memory)

-- the value in a place, if any, with the rest of the bytes
abbrev pub with_rest : {A : Type 0} → Option A → List ℕ → Option (A × List ℕ)
with_rest None rest = None
with_rest (Some v) rest = Some (v, rest)

-- the call puts the value that it reads into the place, and leaves the rest to read; a refusal leaves the place
-- unchanged
abbrev pub IsReadIntoPlace : {U A : Type 0} → Result U Fault → Option A → Option A → List ℕ → Option (A × List ℕ) → Type 0
IsReadIntoPlace (Ok u) old new rest read = (read ≡ with_rest new rest) × IsSome new
IsReadIntoPlace (Err e) old new rest read = (new ≡ old) × IsReadRefusal e read

-- if two encodings begin the same bytes, they are of the same value and leave the same rest
pub same_prefix : {A : Type 0} {encoding : A → List ℕ} {Fits : A → Type 0} {at : List ℕ → Option (A × List ℕ)} → IsFormat encoding Fits at
    → (v w : A) (x y : List ℕ) → Fits v → Fits w → encoding v ++ x ≡ encoding w ++ y → (v ≡ w) × (x ≡ y)
same_prefix {A} {encoding} {Fits} {at} p v w x y f g e =
    let h = some_injective (v, x) (w, y) (sym (p.again v x f) ∙ ap at e ∙ p.again w y g) in
    (ap (λ (q : A × List ℕ). q.0) h, ap (λ (q : A × List ℕ). q.1) h)

-- the encoding of the value read is exactly the bytes before the rest
pub is_encoded_prefix : {A : Type 0} {encoding : A → List ℕ} {Fits : A → Type 0} {at : List ℕ → Option (A × List ℕ)} → IsFormat encoding Fits at
    → (bytes : List ℕ) (v : A) (rest : List ℕ) → IsBytes bytes → at bytes ≡ Some (v, rest)
    → (length rest ≤ length bytes) × IsEncodedPrefix encoding Fits bytes v (length bytes - length rest)
is_encoded_prefix {A} {encoding} {Fits} {at} p bytes v rest fits e =
    let t = p.takes bytes (v, rest) fits e in
    let l : length bytes ≡ length (encoding v) + length rest = ap length t.0.parts ∙ length-append (encoding v) rest in
    let n : length (encoding v) ≡ length bytes - length rest = omega arith in
    (omega arith, record { fits = t.1; within = omega arith; front = rw (← n, t.0.parts) (take_at (encoding v) rest (length (encoding v)) refl) })

-- if all bytes are an encoding, an encoding that begins them is all of them
pub prefix_of_whole_encoding : {A : Type 0} {encoding : A → List ℕ} {Fits : A → Type 0} {at : List ℕ → Option (A × List ℕ)} → IsFormat encoding Fits at
    → (bytes : List ℕ) (v : A) (n : ℕ) (w : A) → IsEncodedPrefix encoding Fits bytes v n → Fits w → bytes ≡ encoding w → n ≡ length bytes
prefix_of_whole_encoding {A} {encoding} {Fits} {at} p bytes v n w g f e =
    let both : encoding w ++ [] ≡ encoding v ++ drop n bytes = append-nil (encoding w) ∙ sym e
    ∙ sym (take-append-drop n bytes) ∙ ap (λ (t : List ℕ). t ++ drop n bytes) g.front in
    let s = same_prefix p w v [] (drop n bytes) f g.fits both in
    let rest : 0 ≡ length (drop n bytes) = ap length s.1 in
    omega (arith, rest, length-drop n bytes, g.within)

none_some : {A : Type 0} (x : A) → None ≡ Some x → ⊥
none_some x e = cc

-- if an encoding begins the bytes, its value is read
pub encoded_prefix_is_read : {A : Type 0} {encoding : A → List ℕ} {Fits : A → Type 0} {at : List ℕ → Option (A × List ℕ)} → IsFormat encoding Fits at
    → (bytes : List ℕ) (v : A) (rest : List ℕ) → Fits v → bytes ≡ encoding v ++ rest → at bytes ≡ Some (v, rest)
encoded_prefix_is_read {A} {encoding} {Fits} {at} p bytes v rest f e = ap at e ∙ p.again v rest f

-- if a reading is refused with `BadFrame`, no encoding begins the bytes
pub refused_prefix : {A : Type 0} {encoding : A → List ℕ} {Fits : A → Type 0} {at : List ℕ → Option (A × List ℕ)} → IsFormat encoding Fits at
    → (bytes : List ℕ) (e : Fault) → IsReadRefusal e (at bytes) → e ≡ BadFrame → HasNoEncodedPrefix encoding Fits bytes
refused_prefix {A} {encoding} {Fits} {at} p bytes e refuses bad v rest f is =
    let none : at bytes ≡ None = subst (λ (g : Fault). IsReadRefusal g (at bytes)) bad refuses in
    none_some (v, rest) (sym none ∙ encoded_prefix_is_read p bytes v rest f is)

-- the encoding of the value put into a place is exactly the bytes before the rest
pub placed_prefix : {A : Type 0} {encoding : A → List ℕ} {Fits : A → Type 0} {at : List ℕ → Option (A × List ℕ)} → IsFormat encoding Fits at
    → (bytes : List ℕ) (place : Option A) (rest : List ℕ) → IsBytes bytes → at bytes ≡ with_rest place rest → IsSome place
    → (length rest ≤ length bytes) × IfSome place (λ v. IsEncodedPrefix encoding Fits bytes v (length bytes - length rest))
placed_prefix p bytes None rest fits e some = absurd (let no : false ≡ true = some in cc)
placed_prefix p bytes (Some v) rest fits e some = is_encoded_prefix p bytes v rest fits e

-- if a value can be read, the only refusal is `Memory`
pub only_memory_refuses_reading : {A : Type 0} (e : Fault) (r : Option A) (x : A) → r ≡ Some x → IsReadRefusal e r → e ≡ Memory
only_memory_refuses_reading Memory r x s h = refl
only_memory_refuses_reading BadFrame r x s h = absurd (none_some x (sym h ∙ s))
only_memory_refuses_reading NotMember r x s h = absurd h
only_memory_refuses_reading PendingFull r x s h = absurd h
only_memory_refuses_reading OpTooLong r x s h = absurd h
only_memory_refuses_reading Conflict r x s h = absurd h
only_memory_refuses_reading Stale r x s h = absurd h
only_memory_refuses_reading NumberGap r x s h = absurd h
only_memory_refuses_reading SessionsFull r x s h = absurd h
only_memory_refuses_reading Stopped r x s h = absurd h
only_memory_refuses_reading BookFull r x s h = absurd h
only_memory_refuses_reading Stranger r x s h = absurd h
only_memory_refuses_reading BadScript r x s h = absurd h
only_memory_refuses_reading NoAnswer r x s h = absurd h
only_memory_refuses_reading BadSnapshot r x s h = absurd h

-- if an encoding begins the bytes, exactly its value and its bytes are read, or `Memory` refuses
pub only_encoded_prefix_is_read : {A : Type 0} {encoding : A → List ℕ} {Fits : A → Type 0} {at : List ℕ → Option (A × List ℕ)} → IsFormat encoding Fits at
    → (bytes : List ℕ) (w : A) (left : List ℕ) (v : A) (rest : List ℕ) → at bytes ≡ Some (w, left) → Fits v
    → bytes ≡ encoding v ++ rest → (w ≡ v) × (length bytes - length left ≡ length (encoding v))
only_encoded_prefix_is_read {A} {encoding} {Fits} {at} p bytes w left v rest h f e =
    let s = some_injective (w, left) (v, rest) (sym h ∙ encoded_prefix_is_read p bytes v rest f e) in
    let l = ap length e in
    let k = length-append (encoding v) rest in
    let same : length left ≡ length rest = ap (λ (q : A × List ℕ). length q.1) s in
    (ap (λ (q : A × List ℕ). q.0) s, omega (arith, l, k, same))

-- an encoding as long as the bytes is all of them
pub prefix_is_whole : {A : Type 0} {encoding : A → List ℕ} {Fits : A → Type 0} (bytes : List ℕ) {v : A} (n : ℕ)
    → IsEncodedPrefix encoding Fits bytes v n → n ≡ length bytes → bytes ≡ encoding v
prefix_is_whole {A} {encoding} {Fits} bytes {v} n g e = sym (take_all n bytes (omega arith)) ∙ g.front
