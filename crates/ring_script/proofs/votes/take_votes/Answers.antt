use Rattle.std.proofs.Common.{◌≡◌, ◌+◌, ◌-◌, ◌<◌, suc, length, take, sym, ap, ◌∙◌, arith}
use Rattle.std.proofs.lemmas.List.{take_more_set, length-set}
use Rattle.std.proofs.lemmas.Result.{err_from_is_err_and}
use Rattle.ring_base.specs.Group.{Group}
use Rattle.ring_base.specs.Processors.{IsProc}
use Rattle.ring_script.proofs.RefusalsPassOn.{IsBadScript-passes}
use Rattle.ring_script.proofs.Voting.{votes_more, votes_none, votes_all, votes_made}
use Rattle.ring_script.specs.Numbers.{number_at}
use Rattle.ring_script.specs.Votes.{votes_at}
use Rattle.ring_script.proofs.votes.take_votes.Goals as goal

pub returns-in_err-votes-clause-read : goal.returns-in_err-votes-clause-read
returns-in_err-votes-clause-read c =
    let p = err_from_is_err_and c.from_residual.result c.from_residual.ensures.1 in
    let left : c.from-count.result - c.loop-i.i ≡ suc (c.from-count.result - (c.loop-i.i + 1)) = omega arith in
    let read = rw left at c.loop-i.invariant.read in
    rw (p.1, p.2, ← c.count.ensures.value, ← c.from-count.ensures)
    (IsBadScript-passes c.in_err-votes.field-0.0 (number_at 1 255 c.loop-i.words) (votes_at c.from-count.result c.args.words.now) c.in_err-votes.ensures.read
    (λ none. sym read ∙ votes_none (take c.loop-i.i c.loop-i.votes) (c.from-count.result - (c.loop-i.i + 1)) c.loop-i.words none))

pub loop-i-preserved : goal.loop-i-preserved
loop-i-preserved c =
    let left : c.from-count.result - c.loop-i.i ≡ suc (c.from-count.result - (c.loop-i.i + 1)) = omega arith in
    let read = rw left at c.loop-i.invariant.read in
    let inside : c.loop-i.i < length c.loop-i.votes = omega (arith, c.loop-i.invariant.long, c.count.ensures.in_range, c.from-count.ensures) in
    record {
      read =
          rw (take_more_set c.loop-i.votes c.loop-i.i c.in_ok-votes.field-0 inside)
          (sym (votes_more (take c.loop-i.i c.loop-i.votes) (c.from-count.result - (c.loop-i.i + 1)) c.loop-i.words _ c.in_ok-votes.ensures.read) ∙ read);
      long = length-set c.loop-i.votes c.loop-i.i c.in_ok-votes.field-0 ∙ c.loop-i.invariant.long;
    }

pub returns-in-Ok-clause-read : goal.returns-in-Ok-clause-read
returns-in-Ok-clause-read c =
    let done : c.loop-i.i ≡ c.from-count.result = omega arith in
    let read = votes_all c.from-count.result c.loop-i.i c.loop-i.votes c.loop-i.words c.args.words.now (omega arith) c.loop-i.invariant.read in
    let same = ap (λ (group : Group). group.votes) c.in-Ok.ensures.ok.1 in
    rw (← c.count.ensures.value, ← c.from-count.ensures, same) (rw done at read)

pub returns-in-Err-clause-read : goal.returns-in-Err-clause-read
returns-in-Err-clause-read c =
    let done : c.loop-i.i ≡ c.from-count.result = omega arith in
    let read = votes_all c.from-count.result c.loop-i.i c.loop-i.votes c.loop-i.words c.args.words.now (omega arith) c.loop-i.invariant.read in
    let proc : IsProc c.from-count.result = rw c.from-count.ensures c.count.ensures.in_range in
    absurd (c.in-Err.ensures.ok (votes_made c.from-count.result c.args.words.now _ proc (rw done at read)))
