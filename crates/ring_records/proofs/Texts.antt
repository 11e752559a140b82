-- Texts of lists, one after the other.
use Rattle.std.proofs.Common.{◌≡◌, ℕ, zero, suc, ◌+◌, add-one, slice_get, Option, Some, List, [], ◌∷◌, ◌++◌, take, sym, ap, subst, ◌∙◌, append-nil, append_assoc}
use Rattle.std.specs.Prelude.{flat_map}
use Rattle.std.specs.Io.KnownBytes.{Appends}
use Rattle.std.proofs.KnownBytes.{Appends-trans}

module _ {X : Type 0} (f : X → List ℕ) where
  one_more : (xs : List X) (k : ℕ) (x : X) → slice_get xs k ≡ Some x → flat_map f (take k xs) ++ f x ≡ flat_map f (take (suc k) xs)
  one_more [] k x e = absurd cc
  one_more (y ∷ ys) zero x e = let same : y ≡ x = cc in ap f (sym same) ∙ sym (append-nil (f y))
  one_more (y ∷ ys) (suc k) x e = append_assoc (f y) (flat_map f (take k ys)) (f x) ∙ ap (λ t. f y ++ t) (one_more ys k x e)

  -- One more text is appended to those before.
  pub texts_more : (xs : List X) (k : ℕ) (x : X) → slice_get xs k ≡ Some x → flat_map f (take k xs) ++ f x ≡ flat_map f (take (k + 1) xs)
  texts_more xs k x at = subst (λ (n : ℕ). flat_map f (take k xs) ++ f x ≡ flat_map f (take n xs)) (sym (add-one k)) (one_more xs k x at)

  -- One more text is written.
  pub written_more : (old mid new : Option (List ℕ)) (xs : List X) (k : ℕ) (x : X) → slice_get xs k ≡ Some x
      → Appends old mid (flat_map f (take k xs)) → Appends mid new (f x) → Appends old new (flat_map f (take (k + 1) xs))
  written_more old mid new xs k x at first then =
      subst (λ (t : List ℕ). Appends old new t) (texts_more xs k x at) (Appends-trans old mid new (flat_map f (take k xs)) (f x) first then)
