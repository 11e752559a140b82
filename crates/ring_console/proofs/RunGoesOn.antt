-- The effect of one event and of one turn on a run.
use Rattle.std.proofs.Common.{◌≡◌, ℕ, zero, suc, ◌+◌, ◌<◌, ◌≤◌, Bool, true, false, inl, inr, [], ◌∷◌, Result, Ok, Err, sym, ap, subst, ◌∙◌, add-one}
use Rattle.ring_base.specs.Prefixes.{IsListPrefix, prefix_self, prefix_trans, prefix_append}
use Rattle.ring_object.specs.Operations.{Sequential}
use Rattle.ring_world.specs.Rules.{Event}
use Rattle.ring_script.specs.declared.line.ScriptLine.{ScriptLine}
use Rattle.ring_script.specs.declared.line.ScriptLine.TheVariants.{Call, Deliver, Timeout, Noise, Stop, Cut, Heal, Pump, Show}
use Rattle.ring_world.specs.declared.open_copies.OpenCopy.{OpenCopy}
use Rattle.ring_world.specs.WorldView.{WorldView, IsEventOutcome}
use Rattle.ring_console.specs.Running.{RunView, is_connected, IsUnchanged, IsCopyHandled, IsTurnDone, IsTurnInterrupted, AreTurnsDone, IsPumpDone, IsLineDone, IsLineInterrupted, IsLineEnded}

module _ {O A : Type 0} (object : Sequential O) where
  -- ---- turns.

  -- A turn was taken.
  pub turned : (pair : OpenCopy) (mid closed new : RunView A) → mid.open_copies ≡ pair ∷ closed.open_copies → closed ≡ record mid { open_copies = closed.open_copies }
      → IsCopyHandled object (is_connected closed.groups pair.sender pair.receiver) pair closed new → IsTurnDone object mid new
  turned pair mid closed new first same comes = record {
    pair = pair;
    others = closed.open_copies;
    first = first;
    comes = subst (λ (r : RunView A). IsCopyHandled object (is_connected r.groups pair.sender pair.receiver) pair r new) same comes;
  }

  -- A turn failed.
  pub turn_broken : (pair : OpenCopy) (mid closed new : RunView A) → mid.open_copies ≡ pair ∷ closed.open_copies
      → closed ≡ record mid { open_copies = closed.open_copies } → IsUnchanged closed new → IsTurnInterrupted object mid new
  turn_broken pair mid closed new first same rests = record {
    pair = pair;
    others = closed.open_copies;
    first = first;
    rests = subst (λ (r : RunView A). IsUnchanged r new) same rests;
  }

  -- One more turn.
  pub one_more : (n : ℕ) (old mid new : RunView A) → AreTurnsDone object n old mid → IsTurnDone object mid new → AreTurnsDone object (n + 1) old new
  one_more n old mid new turns turn =
      let more : AreTurnsDone object (suc n) old new = (mid, (turns, turn)) in
      subst (λ (k : ℕ). AreTurnsDone object k old new) (sym (add-one n)) more

  -- All turns were taken, or no copy is open.
  pub pumped : (turns n : ℕ) (old new : RunView A) → n ≤ turns → (n < turns → new.open_copies ≡ []) → AreTurnsDone object n old new → IsPumpDone object turns old new
  pumped turns n old new most rest turn = record { taken = n; most = most; turn = turn; rest = rest }

  -- No copy was open, so nothing has changed.
  pub none_left : (mid closed : RunView A) → closed ≡ record mid { open_copies = closed.open_copies } → closed.open_copies ≡ mid.open_copies → closed ≡ mid
  none_left mid closed same still = same ∙ ap (λ ps. record mid { open_copies = ps }) still

  -- ---- the reports stay.

  told_on : (e : Event A) (p q : WorldView A) → IsEventOutcome object e p q → IsListPrefix p.told q.told
  told_on e p q (inl d) = subst (λ ts. IsListPrefix p.told ts) (sym d.told) (prefix_append p.told _)
  told_on e p q (inr (inl d)) = subst (λ ts. IsListPrefix p.told ts) (sym d.told) (prefix_self p.told)
  told_on e p q (inr (inr d)) = subst (λ ts. IsListPrefix p.told ts) (sym d.told) (prefix_append p.told _)

  rests_told : (old new : RunView A) → IsUnchanged old new → IsListPrefix old.world_view.told new.world_view.told
  rests_told old new r = subst (λ ts. IsListPrefix old.world_view.told ts) (sym r.pump.told) (prefix_self old.world_view.told)

  same_told : (old new : RunView A) → new ≡ old → IsListPrefix old.world_view.told new.world_view.told
  same_told old new is = subst (λ (r : RunView A). IsListPrefix old.world_view.told r.world_view.told) (sym is) (prefix_self old.world_view.told)

  comes_told : (b : Bool) (pair : OpenCopy) (old new : RunView A) → IsCopyHandled object b pair old new → IsListPrefix old.world_view.told new.world_view.told
  comes_told true pair old new h = told_on _ old.world_view new.world_view h.pump.goes
  comes_told false pair old new is = same_told old new is

  turns_told : (n : ℕ) (old new : RunView A) → AreTurnsDone object n old new → IsListPrefix old.world_view.told new.world_view.told
  turns_told zero old new is = same_told old new is
  turns_told (suc n) old new h =
      prefix_trans old.world_view.told h.0.world_view.told new.world_view.told (turns_told n old h.0 h.1.0)
      (comes_told (is_connected h.0.groups h.1.1.pair.sender h.1.1.pair.receiver) h.1.1.pair (record h.0 { open_copies = h.1.1.others }) new h.1.1.comes)

  does_told : (line : ScriptLine A) (old new : RunView A) → IsLineDone object line old new → IsListPrefix old.world_view.told new.world_view.told
  does_told (Call node call) old new h = told_on _ old.world_view new.world_view h.pump.goes
  does_told (Deliver node frame) old new h = told_on _ old.world_view new.world_view h.pump.goes
  does_told (Timeout node kind) old new h = told_on _ old.world_view new.world_view h.pump.goes
  does_told (Noise node bytes) old new h = told_on _ old.world_view new.world_view h.pump.goes
  does_told (Stop node) old new h = told_on _ old.world_view new.world_view h.pump.goes
  does_told (Cut groups) old new is = subst (λ (r : RunView A). IsListPrefix old.world_view.told r.world_view.told) (sym is) (prefix_self old.world_view.told)
  does_told Heal old new is = subst (λ (r : RunView A). IsListPrefix old.world_view.told r.world_view.told) (sym is) (prefix_self old.world_view.told)
  does_told (Pump turns) old new h = turns_told h.taken old new h.turn
  does_told Show old new is = same_told old new is

  breaks_told : (line : ScriptLine A) (old new : RunView A) → IsLineInterrupted object line old new → IsListPrefix old.world_view.told new.world_view.told
  breaks_told (Call node call) old new h = rests_told old new h
  breaks_told (Deliver node frame) old new h = rests_told old new h
  breaks_told (Timeout node kind) old new h = rests_told old new h
  breaks_told (Noise node bytes) old new h = rests_told old new h
  breaks_told (Stop node) old new h = rests_told old new h
  breaks_told (Cut groups) old new h = absurd h
  breaks_told Heal old new h = absurd h
  breaks_told (Pump turns) old new h =
      prefix_trans old.world_view.told h.mid.world_view.told new.world_view.told (turns_told h.taken old h.mid h.turn)
      (rests_told (record h.mid { open_copies = h.next.others }) new h.next.rests)
  breaks_told Show old new h = absurd h

  -- The reports stay, whatever a line did.
  pub ends_told : {T E : Type 0} (r : Result T E) (line : ScriptLine A) (old new : RunView A) → IsLineEnded object r line old new → IsListPrefix old.world_view.told new.world_view.told
  ends_told (Ok x) line old new h = does_told line old new h
  ends_told (Err x) line old new h = breaks_told line old new h
