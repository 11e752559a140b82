-- What one event does to a pump.
use Rattle.std.proofs.Common.{◌≡◌, [], ◌∷◌, Result, Ok, Err, OnOk, OnErr, refl, sym, ap, subst}
use Rattle.ring_base.specs.Prefixes.{IsListPrefix}
use Rattle.ring_object.specs.Operations.{Sequential}
use Rattle.ring_node_spec.specs.declared.event.Event.{Event}
use Rattle.ring_world.specs.declared.open_copies.OpenCopies.{OpenCopies}
use Rattle.ring_world.specs.OpenCopies.{frames_of, open_copies_from, IsReached}
use Rattle.ring_world.specs.Pumping.{PumpView, IsUnchanged, HasRunEvent}
use Rattle.ring_world.specs.WorldView.{WorldView, IsEventOutcome}
use Rattle.ring_world.proofs.PumpGrowing.{plays_frames, open_later, reached_later}

module _ {O A : Type 0} (object : Sequential O) (open_copies : OpenCopies) where
  abbrev pumped : WorldView A → PumpView A
  pumped p = record { world_view = p; open_copies = open_copies_from open_copies (frames_of object p) }

  -- an event that the world ran, or did not
  module _ (e : Event A) (p q : WorldView A) (reached : IsReached open_copies (frames_of object p)) where
    grown : IsEventOutcome object e p q → IsListPrefix (frames_of object p) (frames_of object q)
    grown goes = plays_frames object (e ∷ []) p q (q, goes, (refl, refl, refl))

    pub happened : {T E : Type 0} (r : Result T E) → q.done ≡ p.done → OnOk r (IsEventOutcome object e p q) → OnOk r (HasRunEvent object e (pumped p) (pumped q))
    happened (Ok x) done goes = record {
      goes = goes;
      done = done;
      open_copies = open_later open_copies (frames_of object p) (frames_of object q) (grown goes) reached;
    }
    happened (Err x) done goes = tt

    pub rested : {T E : Type 0} (r : Result T E) → OnErr r (q ≡ p) → OnErr r (IsUnchanged (pumped p) (pumped q))
    rested (Ok x) same = tt
    rested (Err x) same = record {
      group = ap (λ (r : WorldView A). r.group) same;
      events = ap (λ (r : WorldView A). r.events) same;
      told = ap (λ (r : WorldView A). r.told) same;
      done = ap (λ (r : WorldView A). r.done) same;
      open_copies = ap (λ (r : WorldView A). open_copies_from open_copies (frames_of object r)) same;
    }

    -- what is reached stays so, whether the event was run or not
    pub still_reached : {T E : Type 0} (r : Result T E) → OnOk r (IsEventOutcome object e p q) → OnErr r (q ≡ p) → IsReached open_copies (frames_of object q)
    still_reached (Ok x) goes same = reached_later open_copies (frames_of object p) (frames_of object q) (grown goes) reached
    still_reached (Err x) goes same = subst (λ (r : WorldView A). IsReached open_copies (frames_of object r)) (sym same) reached
