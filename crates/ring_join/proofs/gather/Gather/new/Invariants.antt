use Rattle.std.proofs.Common.{[]}
use Rattle.ring_join.proofs.gather.Gather.new.Given as goal

abbrev pub ghost-ghost_of : goal.ghost-ghost_of
ghost-ghost_of a = []
