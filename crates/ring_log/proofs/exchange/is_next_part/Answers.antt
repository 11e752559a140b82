-- A Part that doesn't pass the end of what is wanted leaves room for its places.
use Rattle.std.proofs.Common.{◌≡◌, ◌+◌, length, arith, ap, sym, ◌∙◌}
use Rattle.std.proofs.lemmas.Bool.{eqb-true}
use Rattle.ring_log.proofs.exchange.is_next_part.Goals as goal

pub returns-then-is_first_missing-clause-room : goal.returns-then-is_first_missing-clause-room
returns-then-is_first_missing-clause-room g c = λ next.
    let first : c.args.part.now.first ≡ c.args.wanted.now.from + c.args.places = eqb-true _ _ (sym c.is_first_missing.ensures ∙ c.if-is_first_missing.true) in
    let long = ap length c.as_slice.ensures in
    omega (arith, c.ends_within.ensures.room next, long)
