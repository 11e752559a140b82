use Rattle.std.proofs.Common.{rules, ap, ℕ, ◌∙◌, map, arith}
use Rattle.std.proofs.lemmas.Iterator.{YieldsList-from_map}
use Rattle.std.proofs.lemmas.Iterator.Consumers.{YieldsList-from_first}
use Rattle.std.proofs.lemmas.List.{map-id}
use Rattle.ring_base.specs.Processors.{elements}
use Rattle.ring_base.specs.Elements.{size_le}
use Rattle.ring_console.proofs.frame_lines.add_members.Goals as goal

pub add_numbers-requires-clause-room : goal.add_numbers-requires-clause-room
add_numbers-requires-clause-room c =
    let few = size_le c.map.result.iter in
    omega (arith, few, c.requires)

pub returns-clause-text : goal.returns-clause-text
returns-clause-text c =
    let members = elements c.args.members in
    let road = YieldsList-from_first (λ (n : ℕ). n) elements {s = c.map.result.iter} members (ap elements (c.map.ensures.source ∙ c.iter.ensures)) in
    rw (← map-id members) (c.add_numbers.ensures.text (map (λ (n : ℕ). n) members)
    (YieldsList-from_map {v = λ (n : ℕ). n} {s = c.map.result} _ (λ (n : ℕ). n) road c.map.ensures.closure
    (λ x r q k. search rules)).runs)

pub returns-clause-len : goal.returns-clause-len
returns-clause-len c =
    let few = size_le c.map.result.iter in
    omega (arith, few, c.add_numbers.ensures.len)
