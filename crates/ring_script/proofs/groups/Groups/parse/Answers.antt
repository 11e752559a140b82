use Rattle.ring_script.proofs.Cutting.{cut_after-none}
use Rattle.ring_script.proofs.groups.Groups.parse.Goals as goal

pub loop-word-init : goal.loop-word-init
loop-word-init c = rw (c.new.ensures, c.new-placed.ensures) (cut_after-none c.args.nodes c.args.words.now)
