-- The parsed script is as requested.
use Rattle.std.proofs.Common.{rules, ◌≡◌, ◌≤◌, Ok, length}
use Rattle.ring_script.specs.Scripts.{script_by, schedule_by, max_script_bytes}
use Rattle.ring_script_generator.proofs.LastLines.{read_made}
use Rattle.ring_script_generator.proofs.generation.read_back.Goals as goal

pub returns-in-Ok-clause-made : goal.returns-in-Ok-clause-made
returns-in-Ok-clause-made g c =
    let short : length c.args.text.now ≤ max_script_bytes = search rules in
    let is : script_by g.V.Vocabulary.forms c.args.text.now ≡ Ok (schedule_by c.in-Ok.script) = search rules in
    let made = c.check_script.ensures in
    read_made g.V.Vocabulary.forms c.in-Ok.script c.check_script.result c.args.nodes c.args.lines c.args.text.now c.requires.votes c.requires.count
    short is made.nodes made.lines made.asks made.shows
