-- Tries without an answer, and the one after them.
use Rattle.std.proofs.Common.{◌≡◌, ℕ, suc, ◌+◌, List, Result, Err, refl, subst, arith}
use Rattle.std.specs.Prelude.{IfErr}
use Rattle.ring_base.specs.declared.fault.Fault.{Fault}
use Rattle.ring_base.specs.declared.fault.Fault.TheVariants.{NoAnswer}
use Rattle.ring_client.specs.Calling.{ClientOf, AreUnansweredTries, IsUnanswered, AskingRefused}
use Rattle.ring_client.specs.declared.last_request.Asked.{Asked}

pub none_yet : {P : Type 0} (asked : P → Asked) (op : List ℕ) (old : ClientOf P) → AreUnansweredTries asked op 0 old old
unfolding AreUnansweredTries
none_yet asked op old = refl

pub one_more : {P : Type 0} (asked : P → Asked) (op : List ℕ) (tries : ℕ) (old before new : ClientOf P)
    → AreUnansweredTries asked op tries old before → IsUnanswered asked before new op → AreUnansweredTries asked op (tries + 1) old new
unfolding AreUnansweredTries
one_more asked op tries old before new in_vain unanswered =
    let next : suc tries ≡ tries + 1 = omega arith in
    subst (λ n. AreUnansweredTries asked op n old new) next (before, in_vain, unanswered)

pub unanswered : {P T : Type 0} (asked : P → Asked) (op : List ℕ) (before new : ClientOf P) (r : Result T Fault)
    → r ≡ Err NoAnswer → IfErr r (AskingRefused asked before new op) → IsUnanswered asked before new op
unanswered {T = T} asked op before new r is told = subst (λ (r : Result T Fault). IfErr r (AskingRefused asked before new op)) is told
