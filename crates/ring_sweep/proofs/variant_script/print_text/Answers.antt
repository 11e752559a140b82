use Rattle.std.proofs.Common.{List, ℕ, sym, subst, ◌∙◌, OnOk}
use Rattle.std.specs.Io.KnownBytes.{Appends}
use Rattle.ring_sweep.proofs.Inserted.{then_text}
use Rattle.ring_sweep.proofs.TextLines.{ended_so, ended_now}
use Rattle.ring_sweep.proofs.variant_script.print_text.Goals as goal

pub returns-then-is_ended-clause-printed : goal.returns-then-is_ended-clause-printed
returns-then-is_ended-clause-printed g c =
    subst (λ (text : List ℕ). Appends (g.O.Write.contents c.args.out.now) (g.O.Write.contents c.print_bytes.new.out) text)
    (sym (ended_so c.args.text.now (sym c.is_ended.ensures ∙ c.if-is_ended.true))) c.in_ok-print_bytes.ensures.printed

pub returns-clause-printed : goal.returns-clause-printed
returns-clause-printed g c =
    subst (λ (text : List ℕ). OnOk c.print_bytes-2.result (Appends (g.O.Write.contents c.args.out.now) (g.O.Write.contents c.print_bytes-2.new.out) text))
    (sym (ended_now c.args.text.now (sym c.is_ended.ensures ∙ c.if-is_ended.false)))
    (then_text c.print_bytes-2.result _ _ _ _ _ c.in_ok-print_bytes.ensures.printed c.print_bytes-2.ensures.printed)
