-- The bytes taken are at the beginning of the buffer.
use Rattle.std.proofs.Common.{◌≡◌, ℕ, List, rules, take, subst, arith, length-take-le, take_all}
use Rattle.std.specs.Io.KnownBytes.{Consumes}
use Rattle.ring_records.proofs.Parts.{kept_by_zero, filled_upto, fewer_kept}
use Rattle.ring_records.proofs.reading.fill_from_input.Goals as goal

pub loop-filled-preserved : goal.loop-filled-preserved
loop-filled-preserved g c =
    let before = c.loop-filled.invariant in
    let from = c.loop-filled.filled in
    record {
      within = search rules;
      long = search rules;
      taken = filled_upto _ _ _ from c.in-Ok.count c.loop-filled.room c.read_retrying.new.room before.within c.in-Ok.ensures.bound.0 before.taken
          c.in-Ok.ensures.taken;
    }

pub returns-in-Ok-eq0-clause-part : goal.returns-in-Ok-eq0-clause-part
returns-in-Ok-eq0-clause-part g c =
    let before = c.loop-filled.invariant in
    let from = c.loop-filled.filled in
    let zero : c.in-Ok-eq0.field-0 ≡ 0 = search rules in
    λ same. fewer_kept _ _ _ _ (take from c.loop-filled.room) before.taken (omega (arith, length-take-le from c.loop-filled.room before.within))
    (kept_by_zero _ _ c.in-Ok-eq0.field-0 c.read_retrying.new.room zero c.in-Ok-eq0.ensures.taken)

pub returns-in-Err-clause-part : goal.returns-in-Err-clause-part
returns-in-Err-clause-part g c =
    let before = c.loop-filled.invariant in
    let from = c.loop-filled.filled in
    λ same. fewer_kept _ _ _ _ (take from c.loop-filled.room) before.taken (omega (arith, length-take-le from c.loop-filled.room before.within))
    c.in-Err.ensures.kept

pub returns-clause-whole : goal.returns-clause-whole
returns-clause-whole g c =
    let before = c.loop-filled.invariant in
    λ same. subst (λ (l : List ℕ). Consumes (g.R.Read.remaining c.args.input.now) (g.R.Read.remaining c.loop-filled.input) l)
    (take_all c.loop-filled.filled c.loop-filled.room (omega arith)) before.taken
