use Rattle.std.proofs.Common.{◌≡◌, ℕ, ◌∙◌, sym, subst, arith}
use Rattle.std.specs.Prelude.{codes}
use Rattle.std.specs.Fmt.{decimal}
use Rattle.std.specs.Io.KnownBytes.{Appends}
use Rattle.std.specs.List.{join_by}
use Rattle.ring_sweep.specs.VariantTexts.{other_nodes}
use Rattle.ring_sweep.proofs.OtherNodes.{none_listed, one_listed, itself_left}
use Rattle.ring_sweep.proofs.variant_script.print_other_nodes.Goals as goal
use Rattle.ring_sweep.proofs.variant_script.print_other_nodes.Goals.{then-number-before+in_ok-print_bytes+in_ok-print_number, else-number-before}

pub loop-before-init : goal.loop-before-init
loop-before-init g c = none_listed (g.O.Write.contents c.args.out.now) c.args.node

pub loop-before-preserved : goal.loop-before-preserved
loop-before-preserved g c =
    elim c.if-number-before.branch [
      | then-number-before+in_ok-print_bytes+in_ok-print_number w ↦ rw (w.out-is, w.parting-is)
          (one_listed _ _ _ _ _ c.args.node c.loop-before.before (λ same. w.if-number-before.true (c.number.ensures.value ∙ same))
          c.loop-before.invariant w.in_ok-print_bytes.ensures.printed w.in_ok-print_number.ensures.printed)
      | else-number-before w ↦ rw (w.out-is, w.parting-is)
          (itself_left _ _ _ c.args.node c.loop-before.before (sym c.number.ensures.value ∙ w.if-number-before.false) c.loop-before.invariant)
    ]

pub returns-clause-printed : goal.returns-clause-printed
returns-clause-printed g c =
    let all : c.loop-before.before ≡ c.args.count = omega (arith, c.loop-before-test.false, c.loop-before.auto.before-end) in
    subst (λ (n : ℕ). Appends (g.O.Write.contents c.args.out.now) (g.O.Write.contents c.loop-before.out)
    (join_by decimal (codes ",") (other_nodes c.args.node n))) all c.loop-before.invariant.printed
