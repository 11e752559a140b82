use Rattle.ring_script.proofs.Digits.{pieces-empty, pieces-parted}
use Rattle.ring_script.proofs.words.rest_after_separator.Goals as goal

pub returns-in-None-clause-left : goal.returns-in-None-clause-left
returns-in-None-clause-left c = pieces-empty c.args.separator c.args.text.now c.in-None.ensures.cases

pub returns-in-Some-clause-left : goal.returns-in-Some-clause-left
returns-in-Some-clause-left c =
    pieces-parted c.args.separator c.in-Some.first.now c.args.text.now c.in-Some.others.now c.in-Some.ensures.cases.0 c.if-first-separator.true
