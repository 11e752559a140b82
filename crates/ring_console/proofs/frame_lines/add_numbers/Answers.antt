use Rattle.std.proofs.Common.{◌≡◌, sym, ◌∙◌, ℕ}
use Rattle.std.proofs.lemmas.Iterator.{YieldsList}
use Rattle.std.proofs.lemmas.Iterator.Consumers.{YieldsList-end}
use Rattle.std.proofs.lemmas.List.{map-id}
use Rattle.ring_console.proofs.ListedLemmas.{joined_text}
use Rattle.ring_console.proofs.frame_lines.add_numbers.Goals as goal

pub returns-else-is_empty-2-clause-text : goal.returns-else-is_empty-2-clause-text
returns-else-is_empty-2-clause-text g c = λ all whole.
    let begun = c.into_iter-number-iterator in
    let road : YieldsList g.I.Iterator.next_gives (λ (n : ℕ). n) begun.result all = record { runs = rw begun.ensures.into_iter_gives whole } in
    let yielded_all = (YieldsList-end road c.loop-number.yielded _ c.loop-number.yielded_by _ _ c.in-None.is c.next.ensures.steps).0 in
    let same : c.loop-number.yielded ≡ all = sym (map-id c.loop-number.yielded) ∙ yielded_all in
    let text = joined_text c.loop-number.yielded (sym c.loop-number.invariant.fresh ∙ c.if-is_empty-2.false) in
    rw (← same, ← text) c.loop-number.invariant.added
