-- Where there is a delivery, the ring is installed.
use Rattle.std.proofs.Common.{◌≡◌, ◌++◌, [], Bool, ap, sym, ◌∙◌, subst}
use Rattle.std.specs.Prelude.{OnOk}
use Rattle.std.proofs.lemmas.List.{append-nil}
use Rattle.ring_core_spec.specs.Giving.{with_installation_if}
use Rattle.ring_srp_transitions.proofs.Installs.{told_some, told_nothing, settled_due}
use Rattle.ring_srp_transitions.proofs.running_core.RunningCore.install_if_due.Goals as goal

pub install-requires-clause-due : goal.install-requires-clause-due
install-requires-clause-due g c =
    let now = c.args.self.now in
    (told_some now c.in-Some.delivery (sym c.in-Some.is ∙ c.delivery_if_due.ensures)).0

pub install-requires-clause-delivery : goal.install-requires-clause-delivery
install-requires-clause-delivery g c =
    let now = c.args.self.now in
    (told_some now c.in-Some.delivery (sym c.in-Some.is ∙ c.delivery_if_due.ensures)).1

pub returns-in-Some-clause-core : goal.returns-in-Some-clause-core
returns-in-Some-clause-core g c =
    let now = c.args.self.now in
    let due = (told_some now c.in-Some.delivery (sym c.in-Some.is ∙ c.delivery_if_due.ensures)).0 in
    subst (λ (b : Bool). OnOk c.install.result (c.install.new.self ≡ (with_installation_if b now []).core)) (sym due) c.install.ensures.core

pub returns-in-Some-clause-outs : goal.returns-in-Some-clause-outs
returns-in-Some-clause-outs g c =
    let now = c.args.self.now in
    let due = (told_some now c.in-Some.delivery (sym c.in-Some.is ∙ c.delivery_if_due.ensures)).0 in
    settled_due now c.install.result c.args.outs.now.items c.install.new.outs.items due c.install.ensures.outs

pub returns-in-None-clause-core : goal.returns-in-None-clause-core
returns-in-None-clause-core g c =
    let now = c.args.self.now in
    let not_due = told_nothing now (sym c.in-None.is ∙ c.delivery_if_due.ensures) in
    ap (λ (b : Bool). (with_installation_if b now []).core) (sym not_due)

pub returns-in-None-clause-outs : goal.returns-in-None-clause-outs
returns-in-None-clause-outs g c =
    let now = c.args.self.now in
    let not_due = told_nothing now (sym c.in-None.is ∙ c.delivery_if_due.ensures) in
    sym (append-nil c.args.outs.now.items) ∙ ap (λ (b : Bool). c.args.outs.now.items ++ (with_installation_if b now []).outs) (sym not_due)
