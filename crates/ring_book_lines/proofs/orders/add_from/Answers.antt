use Rattle.std.proofs.Common.{arith}
use Rattle.std.proofs.lemmas.List.{drop_all}
use Rattle.ring_session.proofs.Adding.{effects-same}
use Rattle.ring_book_lines.proofs.orders.add_from.Goals as goal

pub returns-then-from-calls : goal.returns-then-from-calls
returns-then-from-calls g c = record {
  ok = λ before h. (let none = drop_all c.args.from c.args.calls.now (omega (arith, c.if-from-calls.true)) in rw none (effects-same h));
  refused = tt;
}
