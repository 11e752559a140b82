-- The opening, with all processors in Gather.
use Rattle.std.proofs.Common.{◌≡◌, ℕ, suc, ◌+◌, ◌≤◌, List, []}
use Rattle.std.proofs.Common.{map, Some, None, refl, ap, ◌∙◌, arith}
use Rattle.std.proofs.lemmas.List.{length-map}
use Rattle.ring_base.specs.Numbers.{numbers_from}
use Rattle.ring_base.specs.FilteredRanges.{length-numbers_from}
use Rattle.ring_base.proofs.ListPlaces.{get-numbers}
use Rattle.ring_core_spec.specs.declared.out.Out.{Out}
use Rattle.ring_core_spec.specs.State.{Core, opening}
use Rattle.ring_core_proof.proofs.RunLimits.{unformed_fits}
use Rattle.ring_core_world.specs.Running.{WorldRun, empty_run, world_of, IsWorld}

opens_at : {A : Type 0} (n : ℕ) → n ≤ 16 → IsWorld {A = A} (world_of (empty_run n)) (map (opening n) (numbers_from 1 n)) None [] []
opens_at {A} n most =
    let f : ℕ → Core A = opening n in
    record {
      cores_are = λ i l. get-numbers f 1 n i l ∙ ap (λ k. Some (f k)) (let e : 1 + i ≡ suc i = omega arith in e);
      many = length-map (numbers_from 1 n) f ∙ length-numbers_from 1 n;
      outs_are = refl;
      frames_are = refl;
      places_are = refl;
      fits = unformed_fits n [] most tt;
    }

pub opens : {A : Type 0} (n : ℕ) (r : WorldRun A) (cores : List (Core A)) (outs : List (ℕ × Out A)) (places : List ℕ) → r ≡ empty_run n →
    cores ≡ map (opening n) (numbers_from 1 n) →
    outs ≡ [] → places ≡ [] → n ≤ 16 → IsWorld (world_of r) cores None outs places
opens n r cores outs places a b c d most = rw (a, b, c, d) (opens_at n most)
