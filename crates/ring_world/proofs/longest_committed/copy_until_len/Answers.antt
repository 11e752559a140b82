-- One more call.
use Rattle.std.proofs.Common.{◌≡◌, ◌+◌, ◌-◌, ◌≤◌, [], ◌∷◌, ◌++◌, length, take, refl, ap, ◌∙◌, sym, arith, append_assoc, length-append, length-take}
use Rattle.std.proofs.lemmas.List.{take_all}
use Rattle.std.proofs.lemmas.Option.{slice_get_read}
use Rattle.ring_base.proofs.Rows.{take-more}
use Rattle.ring_world.proofs.longest_committed.copy_until_len.Goals as goal

pub loop-call-preserved : goal.loop-call-preserved
loop-call-preserved g c =
    let xs = c.args.calls.now in
    let i = c.loop-call.call-index in
    let x = c.call-item.result in
    let old = c.args.copies.now.items in
    let at = slice_get_read xs (length xs) i x refl c.loop-call-test.true c.call-item.is in
    let was = c.loop-call.invariant.0 in
    let most = c.loop-call.invariant.1 in
    let long = length-append old (take i xs) in
    let taken = length-take i xs in
    let now = ap length was in
    let few = c.if-len-many.false in
    let within = c.loop-call-test.true in (
      c.in_ok-push.ensures.items ∙ ap (λ l. l ++ c.in_ok-copy.copy ∷ []) was
          ∙ ap (λ y. (old ++ take i xs) ++ y ∷ []) c.in_ok-copy.ensures ∙ append_assoc old (take i xs) (x ∷ [])
          ∙ ap (λ l. old ++ l) (sym (take-more xs i x at)),
      omega (arith, most, long, taken, now, few, c.len.ensures, c.loop-call.copies.ok.0, within),
    )

pub returns-then-len-many : goal.returns-then-len-many
returns-then-len-many g c =
    let xs = c.args.calls.now in
    let i = c.loop-call.call-index in
    let old = c.args.copies.now.items in
    let was = c.loop-call.invariant.0 in
    let most = c.loop-call.invariant.1 in
    let long = length-append old (take i xs) in
    let taken = length-take i xs in
    let now = ap length was in
    let full = c.if-len-many.true in
    let within = c.loop-call-test.true in
    let all : i ≡ c.args.many - length old = omega (arith, most, long, taken, now, full, c.len.ensures, c.loop-call.copies.ok.0, within) in
    record { ok = was ∙ ap (λ n. old ++ take n xs) all; refused = tt }

pub returns-clause-ok : goal.returns-clause-ok
returns-clause-ok g c =
    let xs = c.args.calls.now in
    let i = c.loop-call.call-index in
    let old = c.args.copies.now.items in
    let done = c.loop-call-test.false in
    let more : length xs ≤ c.args.many - length old = omega (arith, done, c.loop-call.invariant.1) in
    c.loop-call.invariant.0 ∙ ap (λ l. old ++ l) (take_all i xs done ∙ sym (take_all (c.args.many - length old) xs more))
