-- The outcome of a choice, an option or a comparison.
use Rattle.std.proofs.Common.{◌≡◌, Bool, true, false, if◌then◌else◌, Option, Some, None, is_some, refl}
use Rattle.std.specs.Prelude.{IfSome}
use Rattle.std.specs.Option.{option_map, option_and_then}
use Rattle.std.specs.Ordering.{is_lt}
use Rattle.std.specs.declared.cmp.Ordering.{Ordering}
use Rattle.std.specs.declared.cmp.Ordering.TheVariants.{Less, Equal, Greater}
pub use mathlib.Core.Bool.{and-true, and-false, or-true, or-false}

-- the outcome of a test of an option
pub some_of : {X : Type 0} (o : Option X) → is_some o ≡ true → (x : X) × (o ≡ Some x)
some_of None some = absurd (cc some)
some_of (Some x) some = (x, refl)

pub none_of : {X : Type 0} (o : Option X) → is_some o ≡ false → o ≡ None
none_of None none = refl
none_of (Some x) none = absurd (cc none)

pub none_from : {X : Type 0} (o : Option X) → ((x : X) → o ≡ Some x → ⊥) → o ≡ None
none_from None h = refl
none_from (Some x) h = absurd (h x refl)

-- the value found under a test that held
pub guarded_some : {A : Type 0} (test : Bool) (found : Option A) (y : A) → (if test then found else None) ≡ Some y → (test ≡ true) × (found ≡ Some y)
guarded_some true found y is = (refl, is)
guarded_some false found y is = absurd cc

-- a guarded value: there is one exactly if the test holds
pub some_if : {A : Type 0} (test : Bool) (there : A) → is_some (if test then Some there else None) ≡ test
some_if true there = refl
some_if false there = refl

-- if a guarded value is none, the test failed
pub guarded_none : {A : Type 0} (test : Bool) (there : A) → (if test then Some there else None) ≡ None → test ≡ false
guarded_none true there none = absurd cc
guarded_none false there none = refl

-- a fact about the value that is there
pub some_has : {X : Type 0} (P : X → Type 0) (o : Option X) (x : X) → o ≡ Some x → IfSome o P → P x
some_has P o x e h = rw e at h

-- the value made from the one found
pub map_some : {A B : Type 0} (f : A → B) (found : Option A) (y : B) → option_map f found ≡ Some y → (x : A) × (found ≡ Some x) × (f x ≡ y)
map_some f (Some x) y is = (x, refl, cc)
map_some f None y is = absurd cc

-- the result of a function on the value found
pub and_then_some : {A B : Type 0} (f : A → Option B) (found : Option A) (y : B) → option_and_then f found ≡ Some y
    → (x : A) × (found ≡ Some x) × (f x ≡ Some y)
and_then_some f (Some x) y is = (x, refl, is)
and_then_some f None y is = absurd cc

-- the outcome of a test of a comparison
pub Less-from : (o : Ordering) → is_lt o ≡ true → o ≡ Less
Less-from Less is = refl
Less-from Equal is = absurd cc
Less-from Greater is = absurd cc
