-- Each field is the same.
use Rattle.std.proofs.Common.{◌≡◌, ap, ◌∙◌}
use Rattle.std.proofs.lemmas.List.Elements.{same_from_all_zip}
use Rattle.ring_world.specs.StoredFramesView.{StoredFramesView}
use Rattle.ring_world.proofs.frame_store.FrameStoreClone.clone.Goals as goal

pub invariant_of-result : goal.invariant_of-result
invariant_of-result g c =
    let history : c.in_ok-clone.field-0.value ≡ c.self.inside.history.value = c.in_ok-clone.ensures.cases in
    let positions : c.in_ok-clone-2.field-0.items ≡ c.self.inside.positions.items =
    same_from_all_zip (λ old new. new ≡ old) c.self.inside.positions.items c.in_ok-clone-2.field-0.items c.in_ok-clone-2.ensures.cases.0 (λ old new same. same) in
    let bytes : c.in_ok-clone-3.field-0.items ≡ c.self.inside.bytes.items = c.in_ok-clone-3.ensures.cases in
    rw (history, positions, bytes) c.self.invariant

pub returns : goal.returns
returns g c = record { cases = c.in_ok-clone.ensures.cases ∙ ap (λ (s : StoredFramesView g.row.A.Denot). s.frames) c.self.view_is }
