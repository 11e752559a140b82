use Rattle.std.proofs.Common.{ℕ, ◌-◌, ◌*◌, ◌/◌, ◌∙◌, ap, arith, inl, inr}
use Rattle.ring_sweep.specs.declared.injection.Injection.{Injection}
use Rattle.ring_sweep.proofs.Absent.{no_variant}
use Rattle.ring_sweep.proofs.Printing.{asked_is, few_before, variant_printed}
use Rattle.ring_sweep.proofs.variant_script.print_variant_in.Goals as goal
use Rattle.ring_sweep.proofs.variant_script.print_variant_in.Goals.{then-place-eq0-via-then-place-eq0, then-place-eq0-via-else-place-eq0+then-script_position-injection}

pub returns-then-place-eq0-clause-absent : goal.returns-then-place-eq0-clause-absent
returns-then-place-eq0-clause-absent g c = λ two_is.
    elim c.then-place-eq0.branch [
      | then-place-eq0-via-then-place-eq0 w ↦ inl w.if-place-eq0.true
      | then-place-eq0-via-else-place-eq0+then-script_position-injection w ↦
          no_variant g.T.Object.sequential c.args.script.now.nodes c.args.script.now.lines.items c.args.place c.of_variant-injection.result.before
          c.in-Ok.script_position c.in-Ok.ensures.ok (omega (arith, c.count.ensures.value, c.count.ensures.in_range.0))
          (ap (λ (u : Injection). u.before) c.of_variant-injection.ensures
          ∙ (ap (λ (n : ℕ). n / (2 * c.count.result)) c.saturating_sub.ensures ∙ ap (λ (n : ℕ). (c.args.place - 1) / (2 * n)) c.count.ensures.value))
          (inr w.if-script_position-injection.true)
    ]

pub print_with_injection-requires : goal.print_with_injection-requires
print_with_injection-requires g c =
    few_before c.of_variant-injection.result c.args.place c.saturating_sub.result c.count.result c.of_variant-injection.ensures c.saturating_sub.ensures (omega arith)

pub returns-in-Ok-print_with_injection-clause-printed : goal.returns-in-Ok-print_with_injection-clause-printed
returns-in-Ok-print_with_injection-clause-printed g c = λ _. (
  omega (arith, c.if-place-eq0.false),
  variant_printed g.T.Object.sequential c.args.script.now.nodes c.args.script.now.lines.items c.args.text.now _ _ c.of_variant-injection.result _
      c.in-Ok.script_position (asked_is c.of_variant-injection.result c.args.place c.saturating_sub.result c.count.result c.args.script.now.nodes.count
      c.of_variant-injection.ensures c.count.ensures.value c.saturating_sub.ensures) c.in-Ok.ensures.ok (omega (arith, c.if-place-eq0.false)) c.in-Ok-print_with_injection.ensures.printed,
)
