-- The outputs of a step in two lists.
-- Rules: Outputs 1
use Rattle.std.specs.Prelude.{◌≡◌, List, [], ◌++◌, map, filter_map}
use Rattle.ring_core_spec.specs.declared.out.Out.{Out}
use Rattle.ring_core_spec.specs.declared.out.Out.TheVariants.{Send}
use Rattle.ring_core_spec.specs.State.{OutgoingFrame}
use Rattle.ring_core_spec.specs.Giving.{send_of}

-- All outputs of a step: first the frames sent, then the others.
pub record IsGiven {A : Type 0} (all : List (Out A)) (sends : List (OutgoingFrame A)) (others : List (Out A)) : Type 0 where
  pub outs : all ≡ map (λ (s : OutgoingFrame A). Send s.to s.frame) sends ++ others
  pub told : filter_map send_of others ≡ []
