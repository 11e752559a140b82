-- Due payloads are handed over one by one, in the end all of them.
use Rattle.std.proofs.Common.{◌≡◌, List, [], ◌∷◌, ◌++◌, ap, sym, ◌∙◌}
use Rattle.std.specs.Prelude.{map}
use Rattle.std.proofs.lemmas.List.{append_assoc, map-append, map-id}

pub due-next : {X P : Type 0} (f : X → P) (before now after : List P) (xs : List X) (x : X) → now ≡ before ++ map f xs → after ≡ now ++ f x ∷ []
    → after ≡ before ++ map f (xs ++ x ∷ [])
due-next f before now after xs x so-far one =
    one ∙ ap (λ due. due ++ f x ∷ []) so-far ∙ append_assoc before (map f xs) (f x ∷ []) ∙ ap (λ due. before ++ due) (sym (map-append f xs (x ∷ [])))

pub due-all : {X P : Type 0} (f : X → P) (before now : List P) (xs received all : List X) → now ≡ before ++ map f xs → map (λ x. x) xs ≡ received → received ≡ all
    → now ≡ before ++ map f all
due-all f before now xs received all so-far ended whole = so-far ∙ ap (λ l. before ++ map f l) (sym (map-id xs) ∙ ended ∙ whole)
