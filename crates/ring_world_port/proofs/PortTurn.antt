-- The effect of a turn where a copy is open.
use Rattle.std.proofs.Common.{◌≡◌, List, ◌∷◌, refl, sym, subst, inl}
use Rattle.ring_object.specs.Operations.{Sequential}
use Rattle.ring_world.specs.declared.open_copies.OpenCopy.{OpenCopy}
use Rattle.ring_world.specs.Pumping.{PumpView}
use Rattle.ring_world_port.specs.Network.{NetworkView, HappensIf, HasTurned, hears, delivery_event}

-- a pump of which only the open copies changed
closed_pump : {A : Type 0} (old closed : PumpView A) (others : List OpenCopy) → closed.world_view ≡ old.world_view → closed.open_copies ≡ others
    → closed ≡ record old { open_copies = others }
closed_pump old closed others world_view open_copies = rw (sym world_view, sym open_copies) refl

module _ {O A : Type 0} (object : Sequential O) (n m : NetworkView A) (closed : PumpView A) (world_view : closed.world_view ≡ n.pump.world_view) where
  -- a copy was open
  pub has_come : (pair : OpenCopy) → n.pump.open_copies ≡ pair ∷ closed.open_copies
      → HappensIf object (delivery_event (hears n.group pair.sender pair.receiver) pair) closed m.pump
      → m.group ≡ n.group → m.timeouts ≡ n.timeouts → HasTurned object n m
  has_come pair first comes group timeouts =
      let is = closed_pump n.pump closed closed.open_copies world_view refl in
      record {
        turn = inl (record {
          pair = pair;
          others = closed.open_copies;
          first = first;
          comes = subst (λ (p : PumpView A). HappensIf object (delivery_event (hears n.group pair.sender pair.receiver) pair) p m.pump) is comes;
          timeouts = timeouts;
        });
        group = group;
      }
