-- The written bytes are a prefix of all, and in the end all of them.
use Rattle.std.proofs.Common.{◌-◌, ◌+◌, ℕ, List, length, drop, subst, arith, length-take, take_all}
use Rattle.std.specs.Io.KnownBytes.{Appends}
use Rattle.std.proofs.KnownBytes.{Appends-kept}
use Rattle.ring_base.proofs.Results.{ok_always, on-err}
use Rattle.ring_record_node.proofs.Writing.{written_upto}
use Rattle.ring_record_node.proofs.serving.write_out.Goals as goal

pub loop-written-preserved : goal.loop-written-preserved
loop-written-preserved g c =
    let text = c.args.bytes.now in
    let from = c.loop-written.written in
    let some = c.write_some in
    let most = length-take (length text - from) (drop from text) in
    record {
      within = omega (arith, some.ensures.bound, most);
      front = written_upto _ _ _ text from some.result some.ensures.bound c.loop-written.invariant.front some.ensures.front;
    }

pub returns-in-0-clause-front : goal.returns-in-0-clause-front
returns-in-0-clause-front g c =
    let some = c.write_some in
    let from = c.loop-written.written in
    (from + some.result, written_upto _ _ _ c.args.bytes.now from some.result some.ensures.bound c.loop-written.invariant.front some.ensures.front)

pub returns-clause-all : goal.returns-clause-all
returns-clause-all g c =
    let text = c.args.bytes.now in
    let all = take_all c.loop-written.written text (omega arith) in
    let front = subst (λ (l : List ℕ). Appends (g.W.Write.contents c.args.out.now) (g.W.Write.contents c.loop-written.out) l) all c.loop-written.invariant.front in
    ok_always c.flush.result (Appends-kept _ _ _ text front c.flush.ensures.bytes)

pub returns-clause-front : goal.returns-clause-front
returns-clause-front g c =
    on-err c.flush.result _ (c.loop-written.written, Appends-kept _ _ _ _ c.loop-written.invariant.front c.flush.ensures.bytes)
