use Rattle.ring_base.specs.Prefixes.{prefix_append}
use Rattle.ring_session.specs.Deduplicated.{deduplicated}
use Rattle.ring_session.specs.DeduplicatedLaws.{deduplicated-front, deduplicated-numbered, deduplicated-stands, numbered_once}
use Rattle.std.proofs.Common.{◌++◌}
use Rattle.ring_session.proofs.session_laws.deduplicated_law.Goals as goal

pub returns : goal.returns
returns g c = record {
  from_list = deduplicated-stands;
  numbered = deduplicated-numbered;
  once = λ calls. numbered_once (deduplicated calls) (deduplicated-numbered calls);
  grows = λ calls more. deduplicated-front calls (calls ++ more) (prefix_append calls more);
}
