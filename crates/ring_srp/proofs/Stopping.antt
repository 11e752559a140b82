-- A core that hasn't stopped is the running one.
use Rattle.std.proofs.Common.{◌≡◌, ap, sym, ◌∙◌}
use Rattle.ring_core_spec.specs.State.{Core}
use Rattle.ring_srp.specs.Stopping.{core_of}
use Rattle.ring_srp.specs.declared.srp.StoppableCore.{StoppableCore}
use Rattle.ring_srp.specs.declared.srp.StoppableCore.TheVariants.{Running}

pub runs_as : {A : Type 0} (core : StoppableCore A) (c now : Core A) → core_of core ≡ now → core ≡ Running c → c ≡ now
runs_as {A} core c now v is = sym (ap (λ (s : StoppableCore A). core_of s) is) ∙ v
