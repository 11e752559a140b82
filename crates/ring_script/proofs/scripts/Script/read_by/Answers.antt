use Rattle.std.proofs.Common.{[]}
use Rattle.std.specs.Prelude.{unwrap_or}
use Rattle.std.proofs.lemmas.Result.{err_from_is_err_and}
use Rattle.ring_script.proofs.Inputs.{whole_is, unread}
use Rattle.ring_script.proofs.scripts.Script.read_by.Goals as goal

pub returns-in_err-text-clause-read : goal.returns-in_err-text-clause-read
returns-in_err-text-clause-read g c =
    let p = err_from_is_err_and c.from_residual.result c.from_residual.ensures.1 in
    let known = g.R.Read.remaining c.args.input.now in (
      unwrap_or known [],
      whole_is known,
      rw (p.1, p.2) (unread g.row.A.Denot g.V.Vocabulary.forms c.in_err-text.field-0.0
          (unwrap_or known []) c.in_err-text.ensures.refused),
    )
