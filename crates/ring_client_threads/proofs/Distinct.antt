-- A number of a list compared with those before it.
use Rattle.std.proofs.Common.{◌≡◌, ◌≢◌, ℕ, ◌+◌, ◌<◌, List, length, take, slice_index_or, nat_eq, Bool, true, false}
use Rattle.std.proofs.Common.{sym, ◌∙◌, arith, eq-eqb, eqb-true, length-take, get_or-take, below_more, true≢false}
use Rattle.std.proofs.lemmas.List.{get_or_default}
use Rattle.std.specs.List.{AllWithin}
use Rattle.ring_client_threads.specs.Arguments.{AreDistinct}

-- None of the first `n` numbers is there twice.
abbrev pub AreApartBelow : List ℕ → ℕ → Type 0
AreApartBelow numbers n = (a b d : ℕ) → a < b → b < n → slice_index_or numbers a d ≢ slice_index_or numbers b d

module _ (numbers : List ℕ) (i : ℕ) (within : i < length numbers) where
  -- The test whether the number at `i` is this one.
  abbrev is_this : ℕ → Bool
  is_this number = nat_eq number (slice_index_or numbers i 0)

  -- The number at `i` is also before it.
  pub twice : (k : ℕ) → k < length (take i numbers) → is_this (slice_index_or (take i numbers) k 0) ≡ true → ¬ AreDistinct numbers
  twice k before same apart =
      let less : k < i = omega (arith, before, length-take i numbers) in
      apart k i 0 less within (sym (get_or-take i numbers k 0 less) ∙ eqb-true _ _ same)

  -- The number at `i` is none of those before it.
  abbrev IsNew : Type 0
  IsNew = AllWithin (λ number. is_this number ≡ false) (take i numbers) 0 (length (take i numbers))

  differs : IsNew → (k d : ℕ) → k < i → slice_index_or numbers k d ≢ slice_index_or numbers i d
  differs new k d less same =
      let here = get_or-take i numbers k d less ∙ same ∙ get_or_default numbers i d 0 within in
      true≢false (sym (eq-eqb _ _ here) ∙ new k d (omega arith) (omega (arith, less, within, length-take i numbers)))

  pub one_more : AreApartBelow numbers i → IsNew → AreApartBelow numbers (i + 1)
  one_more old new a b d less upto =
      let Differs : ℕ → Type 0 = λ n. a < n → slice_index_or numbers a d ≢ slice_index_or numbers n d in
      below_more Differs i (λ n below lower. old a n d lower below) (differs new a d) b upto less
