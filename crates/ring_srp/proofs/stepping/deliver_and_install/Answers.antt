-- First what is newly agreed and safe, then the outputs of an installation.
use Rattle.std.proofs.Common.{List, [], ◌++◌, ap, ◌∙◌}
use Rattle.ring_core_spec.specs.declared.out.Out.{Out}
use Rattle.ring_core_spec.specs.Giving.{delivered_from, may_install, with_installation_if}
use Rattle.ring_srp.proofs.stepping.deliver_and_install.Goals as goal

pub returns-clause-told : goal.returns-clause-told
returns-clause-told g c =
    let later = (with_installation_if (may_install c.args.running_core.now) c.args.running_core.now []).outs in
    c.in_ok-install_if_due.ensures.outs
    ∙ ap (λ (xs : List (Out g.row.A.Denot)). xs ++ later) (c.in_ok-give_ring_outputs.ensures.ok
    ∙ ap (λ (xs : List (Out g.row.A.Denot)). xs ++ delivered_from c.args.running_core.now c.args.before.ring c.args.before.front c.args.before.mark)
    c.requires.empty)
