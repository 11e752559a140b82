use Rattle.std.proofs.Common.{[]}
use Rattle.ring_recover.proofs.history.nothing_seen.Given as goal

abbrev pub ghost-ghost_of : goal.ghost-ghost_of
ghost-ghost_of g a = []
