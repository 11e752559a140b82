-- Each number was read, and the window's message of it appended.
use Rattle.std.proofs.Common.{◌≡◌, ◌++◌, ◌∷◌, [], ℕ, List, ap, sym, ◌∙◌, append_assoc}
use Rattle.std.proofs.lemmas.List.{map-id}
use Rattle.std.proofs.lemmas.Iterator.Consumers.{YieldsList-from_first, YieldsList-end}
use Rattle.ring_core_spec.specs.declared.out.Out.{Out}
use Rattle.ring_srp_state.specs.Rests.{rest_of}
use Rattle.ring_srp_state.proofs.Rests.{rest_parts}
use Rattle.ring_srp_state.proofs.ring_output_lists.give_rest.Goals as goal

pub loop-number-preserved : goal.loop-number-preserved
loop-number-preserved g c =
    let w = c.args.window.now in
    let ns = c.loop-number.yielded in
    let outs = c.args.outs.now.items in
    let one = rest_of w (c.in-Some.number ∷ []) in
    c.in_ok-push_rest_of_number.ensures.ok
    ∙ ap (λ (xs : List (Out g.row.A.Denot)). xs ++ one) c.loop-number.invariant
    ∙ append_assoc outs (rest_of w ns) one
    ∙ ap (λ (xs : List (Out g.row.A.Denot)). outs ++ xs) (sym (rest_parts w ns (c.in-Some.number ∷ [])))

pub returns-clause-ok : goal.returns-clause-ok
returns-clause-ok g c =
    let begun = c.into_iter-number-iterator in
    let road = YieldsList-from_first (λ (n : ℕ). n) (λ (ns : List ℕ). ns) {s = begun.result} c.args.numbers.now (begun.ensures.into_iter_gives
    ∙ c.iter-number-items.ensures) in
    let received = (YieldsList-end road c.loop-number.yielded _ c.loop-number.yielded_by _ _ c.in-None.is c.next.ensures.steps).0 in
    let same : c.loop-number.yielded ≡ c.args.numbers.now = sym (map-id c.loop-number.yielded) ∙ received in
    c.loop-number.invariant ∙ ap (λ (ns : List ℕ). c.args.outs.now.items ++ rest_of c.args.window.now ns) same
