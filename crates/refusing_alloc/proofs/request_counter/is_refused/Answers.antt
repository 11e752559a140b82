use Rattle.std.proofs.Common.{rules}
use Rattle.refusing_alloc.proofs.request_counter.is_refused.Goals as goal

pub returns : goal.returns
returns c = search rules
