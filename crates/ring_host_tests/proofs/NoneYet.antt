-- Any property holds of all elements of an empty list.
use Rattle.std.proofs.Common.{◌≡◌, List, [], All}
use Rattle.std.proofs.lemmas.List.Elements.{All-nil}

pub none_yet : {X : Type 0} (P : X → Type 0) (xs : List X) → xs ≡ [] → All P xs
none_yet P xs e = rw e (All-nil P)
