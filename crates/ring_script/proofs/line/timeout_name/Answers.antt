use Rattle.std.proofs.Common.{Some, sym, ap}
use Rattle.ring_script.specs.Lines.{timeout_kind_of}
use Rattle.ring_script.specs.Numbers.{is}
use Rattle.ring_script.proofs.line.timeout_name.Goals as goal

pub returns-in-Retransmit : goal.returns-in-Retransmit
unfolding timeout_kind_of is
returns-in-Retransmit c = ap Some (sym c.in-Retransmit.is)

pub returns-in-Join : goal.returns-in-Join
unfolding timeout_kind_of is
returns-in-Join c = ap Some (sym c.in-Join.is)

pub returns-in-Consensus : goal.returns-in-Consensus
unfolding timeout_kind_of is
returns-in-Consensus c = ap Some (sym c.in-Consensus.is)

pub returns-in-Loss : goal.returns-in-Loss
unfolding timeout_kind_of is
returns-in-Loss c = ap Some (sym c.in-Loss.is)
