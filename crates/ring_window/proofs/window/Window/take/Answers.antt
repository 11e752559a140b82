use Rattle.std.proofs.Common.{suc, ◌^◌, sym, inl, inr, arith}
use Rattle.std.proofs.lemmas.Bool.{cases_eq}
use Rattle.ring_window.proofs.Windows.{taken_is, front_stays, front_goes, bits_fit}
use Rattle.ring_window.proofs.window.Window.take.Goals as goal

pub overflow_sub-number : goal.overflow_sub-number
overflow_sub-number g c =
    let t = taken_is (record {
      ring = c.self.inside.ring;
      mark = c.self.inside.mark;
      held = c.self.inside.history.value;
    }) c.args.message (rw (← c.self.view_is) at (sym c.if-not-would_take.ensures)) in
    omega (arith, t.above)

pub overflow_sub-number-2 : goal.overflow_sub-number-2
overflow_sub-number-2 g c =
    let t = taken_is (record {
      ring = c.self.inside.ring;
      mark = c.self.inside.mark;
      held = c.self.inside.history.value;
    }) c.args.message (rw (← c.self.view_is) at (sym c.if-not-would_take.ensures)) in
    omega (arith, t.above)

pub set-requires : goal.set-requires
set-requires g c =
    let t = taken_is (record {
      ring = c.self.inside.ring;
      mark = c.self.inside.mark;
      held = c.self.inside.history.value;
    }) c.args.message (rw (← c.self.view_is) at (sym c.if-not-would_take.ensures)) in
    omega (arith, t.above, t.inside)

pub front_after_take-self-inside-requires-clause-above : goal.front_after_take-self-inside-requires-clause-above
front_after_take-self-inside-requires-clause-above g c =
    (taken_is (record { ring = c.self.inside.ring; mark = c.self.inside.mark; held = c.self.inside.history.value })
    c.args.message (rw (← c.self.view_is) at (sym c.if-not-would_take.ensures))).above

pub front_after_take-self-inside-requires-clause-inside : goal.front_after_take-self-inside-requires-clause-inside
front_after_take-self-inside-requires-clause-inside g c =
    (taken_is (record { ring = c.self.inside.ring; mark = c.self.inside.mark; held = c.self.inside.history.value })
    c.args.message (rw (← c.self.view_is) at (sym c.if-not-would_take.ensures))).inside

pub front_after_take-self-inside-requires-clause-fits : goal.front_after_take-self-inside-requires-clause-fits
front_after_take-self-inside-requires-clause-fits g c =
    let t = taken_is (record {
      ring = c.self.inside.ring;
      mark = c.self.inside.mark;
      held = c.self.inside.history.value;
    }) c.args.message (rw (← c.self.view_is) at (sym c.if-not-would_take.ensures)) in
    bits_fit _ c.args.message _ _ _ _ _ c.self.invariant t c.set.ensures.this c.set.ensures.others (2 ^ 64) (omega arith) (omega arith)

pub invariant_of-self : goal.invariant_of-self
invariant_of-self g c =
    let t = taken_is (record {
      ring = c.self.inside.ring;
      mark = c.self.inside.mark;
      held = c.self.inside.history.value;
    }) c.args.message (rw (← c.self.view_is) at (sym c.if-not-would_take.ensures)) in
    let f = c.front_after_take-self-inside.ensures in
    rw (c.with_held_message.ensures, c.max-self-inside.ensures, c.put_into_slot.ensures) (elim (cases_eq c.args.message.number (suc c.self.inside.front)) [
      | inl next ↦ (let (k, goes, first) = f.goes next in rw goes
          (front_goes _ c.args.message _ _ _ _ _ c.self.invariant t c.set.ensures.this c.set.ensures.others k next first))
      | inr other ↦ rw (f.stays other) (front_stays _ c.args.message _ _ _ _ _ c.self.invariant t c.set.ensures.this c.set.ensures.others other)
    ])
