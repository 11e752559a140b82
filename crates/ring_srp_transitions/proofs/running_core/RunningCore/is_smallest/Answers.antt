-- The empty set has no smallest processor.
use Rattle.std.proofs.Common.{◌≡◌, ℕ, ◌≤◌, false, List, ap, sym, ◌∙◌, refl, subst, arith}
use Rattle.std.specs.Prelude.{◌==◌, slice_index}
use Rattle.std.proofs.lemmas.Bool.Decides.{nat_tests}
use Rattle.ring_base.specs.Processors.{nobody, smallest}
use Rattle.ring_base.specs.Elements.{elements-nobody}
use Rattle.ring_join.specs.Gathering.{candidates}
use Rattle.ring_core_spec.specs.State.{Core}
use Rattle.ring_srp_transitions.proofs.running_core.RunningCore.is_smallest.Goals as goal

not_zero : (n : ℕ) → 1 ≤ n → false ≡ (0 == n)
not_zero n h = grind (arith, nat_tests)

pub returns-in-None : goal.returns-in-None
returns-in-None g c =
    let n : c.candidates.result ≡ nobody = c.in-None.ensures.none.0 refl in
    let s : smallest (candidates c.args.self.now.gathering) ≡ 0 =
    ap (λ (x : Core g.row.A.Denot). smallest (candidates x.gathering)) (sym c.self.view_is)
    ∙ ap smallest (sym c.candidates.ensures ∙ n) ∙ ap (λ (xs : List ℕ). slice_index xs 0) elements-nobody in
    not_zero c.args.self.now.me (subst (λ (x : Core g.row.A.Denot). 1 ≤ x.me)
    c.self.view_is c.self.invariant.member.0) ∙ sym (ap (λ (k : ℕ). k == c.args.self.now.me) s)
