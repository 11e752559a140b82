-- Each part is equal.
use Rattle.std.proofs.Common.{◌≡◌, ◌∙◌, subst}
use Rattle.std.specs.Prelude.{IfOk}
use Rattle.std.proofs.lemmas.Result.{err_from_is_err_and, IfErr-at_err}
use Rattle.ring_base.specs.declared.fault.Fault.TheVariants.{Memory}
use Rattle.ring_node.proofs.node.Node.copy.Goals as goal

pub invariant_of-result : goal.invariant_of-result
invariant_of-result g c =
    let core : c.in_ok-core-2.core ≡ c.self.inside.core = c.in_ok-core-2.ensures.first ∙ c.in_ok-core.ensures.cases in
    let replica : c.in_ok-core-2.replica ≡ c.self.inside.replica =
    subst (λ made. IfOk made (λ copy. copy ≡ c.self.inside.replica)) c.in_ok-core-2.ensures.second c.copy.ensures.ok in
    let ended : c.in_ok-core_before_stop.core_before_stop.value ≡ c.self.inside.core_before_stop.value = c.in_ok-core_before_stop.ensures.cases in
    rw (core, replica, ended) c.self.invariant

pub returns-clause-ok : goal.returns-clause-ok
returns-clause-ok g c =
    let core : c.in_ok-core-2.core ≡ c.self.inside.core = c.in_ok-core-2.ensures.first ∙ c.in_ok-core.ensures.cases in
    let replica : c.in_ok-core-2.replica ≡ c.self.inside.replica =
    subst (λ made. IfOk made (λ copy. copy ≡ c.self.inside.replica)) c.in_ok-core-2.ensures.second c.copy.ensures.ok in
    let ended : c.in_ok-core_before_stop.core_before_stop.value ≡ c.self.inside.core_before_stop.value = c.in_ok-core_before_stop.ensures.cases in
    rw (core, replica, ended) c.self.view_is

pub returns-in_err-core-clause-refused : goal.returns-in_err-core-clause-refused
returns-in_err-core-clause-refused g c =
    let p = err_from_is_err_and c.from_residual-in_err-core.result c.from_residual-in_err-core.ensures.1 in
    rw p.1 p.2

pub returns-in_err-core-2-clause-refused : goal.returns-in_err-core-2-clause-refused
returns-in_err-core-2-clause-refused g c =
    let p = err_from_is_err_and c.from_residual-in_err-core-2.result c.from_residual-in_err-core-2.ensures.1 in
    rw p.1 (p.2 ∙ IfErr-at_err (λ fault. fault ≡ Memory) c.in_err-core-2.ensures.refused c.copy.ensures.refused)
