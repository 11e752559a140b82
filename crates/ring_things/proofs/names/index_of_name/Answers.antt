use Rattle.std.proofs.Common.{rules}
use Rattle.ring_things.specs.Names.{by_bytes}
use Rattle.ring_things.proofs.NamesPlaces.{answers_alike, place_is, if_ok, if_err}
use Rattle.ring_things.proofs.names.index_of_name.Goals as goal

pub returns-clause-found : goal.returns-clause-found
returns-clause-found c =
    let names = c.args.names.now in
    let name = c.args.name.now in
    let facts = c.binary_search_by.ensures in
    let ordered = facts.position (λ other. by_bytes other name) (answers_alike _ _ _ (λ a r g called. search rules)) in
    if_ok _ _ c.binary_search_by.result (place_is names name c.binary_search_by.result c.requires facts.bound ordered)

pub returns-clause-missing : goal.returns-clause-missing
returns-clause-missing c =
    let names = c.args.names.now in
    let name = c.args.name.now in
    let facts = c.binary_search_by.ensures in
    let ordered = facts.position (λ other. by_bytes other name) (answers_alike _ _ _ (λ a r g called. search rules)) in
    if_err _ _ c.binary_search_by.result (place_is names name c.binary_search_by.result c.requires facts.bound ordered)
