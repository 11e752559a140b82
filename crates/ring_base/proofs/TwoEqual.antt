-- A function of two arguments gives equal results for equal arguments.
use Rattle.std.proofs.Common.{◌≡◌, ap, ◌∙◌}

pub ap-both : {A B C : Type 0} → (f : A → B → C) {x y : A} {u v : B} → x ≡ y → u ≡ v → f x u ≡ f y v
ap-both f {x} {y} {u} {v} p q = ap (λ a. f a u) p ∙ ap (f y) q
