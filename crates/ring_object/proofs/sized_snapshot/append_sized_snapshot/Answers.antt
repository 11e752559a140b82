use Rattle.std.proofs.Common.{◌-◌, [], ◌∷◌, ◌++◌, refl, sym, ap, ◌∙◌}
use Rattle.ring_object.proofs.BehindLengths.{patched, length_behind}
use Rattle.ring_object.proofs.sized_snapshot.append_sized_snapshot.Goals as goal

pub returns-clause-ok : goal.returns-clause-ok
returns-clause-ok g c =
    let old = c.args.out.now in
    let new = c.snapshot.new.out in
    let start = c.len-start.result in
    let text = g.O.Object.sequential.snapshot_of c.args.object.now in
    let zeros = 0 ∷ 0 ∷ 0 ∷ 0 ∷ 0 ∷ 0 ∷ 0 ∷ 0 ∷ [] in
    let appended = c.in_default.ensures.ok ∙ ap (λ x. x ++ text) c.in_ok-extend_from_slice.ensures.items in
    let is_start = c.len-start.ensures ∙ old.ok.0 in
    let is_len = c.len.ensures ∙ new.ok.0 in
    patched 8 (c.len.result - start - 8) start new.len old.items zeros text c.as_mut_slice.result.now new.items c.write_u64.new.buf
    (c.as_mut_slice.ensures.value ∙ appended) (sym c.as_mut_slice.ensures.value) is_start refl
    (length_behind old.items zeros text start c.len.result new.items appended is_start is_len)
    new.ok.0 c.write_u64.ensures
