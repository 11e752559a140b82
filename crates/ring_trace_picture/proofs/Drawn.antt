-- Marks added one list after another are the marks of all lists.
use Rattle.std.proofs.Common.{◌≡◌, ℕ, ◌+◌, List, [], ◌∷◌, ◌++◌, take, map, flat_map, fold, slice_get, Some, ap, sym, ◌∙◌, append-nil}
use Rattle.std.proofs.lemmas.List.{map-append}
use Rattle.std.proofs.lemmas.Grind.{fold-append, flat_map-append}
use Rattle.ring_base.proofs.Rows.{take-more}
use Rattle.ring_trace_picture.specs.PictureModels.{PictureModel, mark_added}
use Rattle.ring_trace_picture.specs.declared.mark.PictureMark.{PictureMark}

-- The marks of one more element of a list.
pub drawn_more : {X : Type 0} (f : X → List PictureMark) (old now new : PictureModel) (xs : List X) (k : ℕ) (x : X) → slice_get xs k ≡ Some x
    → now ≡ fold mark_added old (flat_map f (take k xs)) → new ≡ fold mark_added now (f x) → new ≡ fold mark_added old (flat_map f (take (k + 1) xs))
drawn_more f old now new xs k x at was is =
    is ∙ ap (λ (s : PictureModel). fold mark_added s (f x)) was
    ∙ sym (fold-append mark_added old (flat_map f (take k xs)) (f x))
    ∙ ap (fold mark_added old) (ap (λ (ms : List PictureMark). flat_map f (take k xs) ++ ms) (sym (append-nil (f x)))
    ∙ sym (flat_map-append f (take k xs) (x ∷ [])) ∙ ap (flat_map f) (sym (take-more xs k x at)))

-- The same where each element has one mark.
pub marked_more : {X : Type 0} (f : X → PictureMark) (old now new : PictureModel) (xs : List X) (k : ℕ) (x : X) → slice_get xs k ≡ Some x
    → now ≡ fold mark_added old (map f (take k xs)) → new ≡ mark_added now (f x) → new ≡ fold mark_added old (map f (take (k + 1) xs))
marked_more f old now new xs k x at was is =
    is ∙ ap (λ (s : PictureModel). mark_added s (f x)) was
    ∙ sym (fold-append mark_added old (map f (take k xs)) (f x ∷ []))
    ∙ ap (fold mark_added old) (sym (map-append f (take k xs) (x ∷ [])) ∙ ap (map f) (sym (take-more xs k x at)))
