-- The bytes after the code are a name, and the code decides the operation.
use Rattle.std.proofs.Common.{sym, ap, ◌∙◌}
use Rattle.ring_object.specs.Bytes.{AreBytes-fits}
use Rattle.ring_things.specs.Names.{name_operation}
use Rattle.ring_things.proofs.NamesAsked.{IsNamed, named, asked}
use Rattle.ring_things.proofs.names.NamesOperation.decode_names_operation.Goals.{Else-name-gt-MAX_NAME_LENGTH}
use Rattle.ring_things.proofs.names.NamesOperation.decode_names_operation.Goals as goal

is_named : (c : Else-name-gt-MAX_NAME_LENGTH) → IsNamed c.args.op.now
is_named c = record {
  code = c.in-len1-up.len_at_least;
  some = c.if-is_empty.ensures;
  short = c.if-name-gt-MAX_NAME_LENGTH.false;
  bytes = AreBytes-fits c.args.op.now c.type_inv.op;
}

pub returns-in-1-clause-value : goal.returns-in-1-clause-value
returns-in-1-clause-value c =
    sym (asked (is_named (goal.at.returns-in-1-clause-value c).Else-name-gt-MAX_NAME_LENGTH) c.from_slice-name.ensures
    ∙ ap (λ code. name_operation code c.from_slice-name.result) c.in-1.is)

pub returns-in-1-clause-fits : goal.returns-in-1-clause-fits
returns-in-1-clause-fits c = named (is_named (goal.at.returns-in-1-clause-fits c).Else-name-gt-MAX_NAME_LENGTH) c.from_slice-name.ensures

pub returns-in-2-clause-value : goal.returns-in-2-clause-value
returns-in-2-clause-value c =
    sym (asked (is_named (goal.at.returns-in-2-clause-value c).Else-name-gt-MAX_NAME_LENGTH) c.from_slice-name.ensures
    ∙ ap (λ code. name_operation code c.from_slice-name.result) c.in-2.is)

pub returns-in-2-clause-fits : goal.returns-in-2-clause-fits
returns-in-2-clause-fits c = named (is_named (goal.at.returns-in-2-clause-fits c).Else-name-gt-MAX_NAME_LENGTH) c.from_slice-name.ensures

pub returns-in-3-clause-value : goal.returns-in-3-clause-value
returns-in-3-clause-value c =
    sym (asked (is_named (goal.at.returns-in-3-clause-value c).Else-name-gt-MAX_NAME_LENGTH) c.from_slice-name.ensures
    ∙ ap (λ code. name_operation code c.from_slice-name.result) c.in-3.is)

pub returns-in-3-clause-fits : goal.returns-in-3-clause-fits
returns-in-3-clause-fits c = named (is_named (goal.at.returns-in-3-clause-fits c).Else-name-gt-MAX_NAME_LENGTH) c.from_slice-name.ensures
