use Rattle.std.proofs.Common.{◌≡◌, [], ◌∷◌, ◌++◌, ◌+◌, ◌∙◌, sym, ap, is_some, vec_len, arith}
use Rattle.std.specs.Option.{option_map}
use Rattle.ring_things.proofs.NamesRead.{names_of-next, names_of-end, is_some-option_map, option_map-push, next_there, option_map-end}
use Rattle.ring_things.proofs.names.decode_names.Goals as goal

pub unwrap-name-requires : goal.unwrap-name-requires
unwrap-name-requires g c = rw c.next_name.ensures.value
    (next_there c.args.count c.loop-i._i c.loop-i.last c.loop-i.rest.now c.loop-i-test.true c.loop-i.invariant.more)

pub loop-i-preserved : goal.loop-i-preserved
loop-i-preserved g c =
    let name = c.unwrap-name.result in
    let old = c.loop-i.names.items in
    let next = names_of-next c.args.count c.loop-i._i c.loop-i.last c.loop-i.rest.now name c.loop-i-test.true
    (sym c.next_name.ensures.value ∙ c.unwrap-name.ensures) in
    let items : c.push.new.self.items ≡ old ++ name ∷ [] = rw c.unwrap.ensures at c.push.ensures.items in
    let len : vec_len c.push.new.self ≡ vec_len c.loop-i.names + 1 = rw c.unwrap.ensures at c.push.ensures.len in
    rw (c.bytes_after_name-rest.ensures, items) (record {
      read = c.loop-i.invariant.read ∙ ap (option_map (λ names. old ++ names)) next ∙ option_map-push old name _;
      more = sym (ap is_some next ∙ is_some-option_map _ _) ∙ c.loop-i.invariant.more;
      len = len ∙ ap (λ n. n + 1) c.loop-i.invariant.len;
      room = omega (arith, c.push.ensures.capacity, c.loop-i.invariant.room);
    })

pub returns-clause-ok : goal.returns-clause-ok
returns-clause-ok g c =
    c.loop-i.invariant.read ∙ option_map-end c.loop-i.names.items _ _ c.loop-i.invariant.more
    (names_of-end c.args.count c.loop-i._i c.loop-i.last c.loop-i.rest.now c.loop-i-test.false)
