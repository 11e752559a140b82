-- As many calls are compared as the first list has.
use Rattle.std.proofs.Common.{length, sym, subst, arith}
use Rattle.std.proofs.lemmas.Bool.{lt-leb}
use Rattle.ring_base.specs.Prefixes.{IsListPrefix, prefix_length}
use Rattle.ring_base.proofs.ListFronts.{taken-front, take-whole}
use Rattle.ring_payload.proofs.payload_equality.is_call_prefix.Goals as goal

pub returns-then-front-calls : goal.returns-then-front-calls
returns-then-front-calls g c =
    let front = c.args.front.now in
    let calls = c.args.calls.now in (
      λ same. subst (λ xs. IsListPrefix xs calls) (sym (c.are_same_calls.ensures.0 same)) (taken-front (length front) calls),
      λ prefix. c.are_same_calls.ensures.1 (sym (take-whole front calls prefix)),
    )

pub returns-else-front-calls : goal.returns-else-front-calls
returns-else-front-calls g c = (
  λ so. absurd (cc (lt-leb _ _ c.if-front-calls.false, so)),
  λ prefix. absurd (omega (arith, prefix_length c.args.front.now c.args.calls.now prefix, c.if-front-calls.false)),
)
