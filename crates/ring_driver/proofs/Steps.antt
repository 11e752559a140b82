-- The driver after a step, and after a time that is brought.
use Rattle.std.proofs.Common.{◌≡◌, ◌∙◌, ℕ, Bool, List, Option, Some, refl, sym, ap}
use Rattle.ring_base.specs.declared.timeout_kind.Kind.{Kind}
use Rattle.ring_object.specs.Operations.{Sequential}
use Rattle.ring_payload.specs.declared.call.Call.{Call}
use Rattle.ring_core_spec.specs.State.{OutgoingFrame}
use Rattle.ring_node_spec.specs.Nodes.{Node}
use Rattle.ring_node_spec.specs.Stepping.{node_step}
use Rattle.ring_node_spec.specs.declared.input.Input.{Input}
use Rattle.ring_node_spec.specs.declared.input.Input.TheVariants.{Timeout}
use Rattle.ring_node.specs.Restores.{node_restored}
use Rattle.ring_clock.specs.Clocks.{ClockView, first_due_at, clock_after_timeout, clock_after_step}
use Rattle.ring_clock.specs.StepOutcomes.{outcome_of, installs}
use Rattle.ring_driver.specs.Driving.{DriverView, driver_after_step, driver_after_timeout, driver_at}

module _ {O A : Type 0} (object : Sequential O) (d : DriverView A) where
  -- the parts are those after the step
  pub stepped : (input : Input A) (node : Node A) (clock : ClockView) (sends : List (OutgoingFrame A)) (committed dropped : List (Call A)) (restored : Option ℕ)
      (installed : Bool)
      → node ≡ (node_step object d.node input).node → clock ≡ clock_after_step d.clock (outcome_of input (node_step object d.node input).sends)
      → sends ≡ (node_step object d.node input).sends → committed ≡ (node_step object d.node input).committed
      → dropped ≡ (node_step object d.node input).dropped → restored ≡ node_restored d.node (node_step object d.node input).node
      → installed ≡ installs d.node.core (node_step object d.node input).node.core
      → record {
        group = d.group;
        node = node;
        clock = clock;
        sends = sends;
        committed = committed;
        dropped = dropped;
        restored = restored;
        has_installed = installed;
      } ≡ driver_after_step object d input
  stepped input node clock sends committed dropped restored installed n c s k x r i = rw (n, c, s, k, x, r, i) refl

  -- the first timeout that is due was taken, and the step on it done
  pub timed_out : (now : ℕ) (kind : Kind) (due : Option Kind) (clock : ClockView) (new : DriverView A) → due ≡ Some kind → due ≡ first_due_at d.clock now
      → clock ≡ clock_after_timeout d.clock now due → new ≡ driver_after_step object (record d { clock = clock }) (Timeout kind)
      → new ≡ driver_at object d now
  timed_out now kind due clock new is first after done =
      let at : ClockView → DriverView A = λ c. driver_after_step object (record d { clock = c }) (Timeout kind) in
      let by : Option Kind → DriverView A = λ f. driver_after_timeout object (record d { clock = clock_after_timeout d.clock now f }) f in
      done ∙ ap at (after ∙ ap (λ (f : Option Kind). clock_after_timeout d.clock now f) is) ∙ ap by (sym is ∙ first)
