use Rattle.ring_object.proofs.Contents.{content_kept, content_after-append, replied}
use Rattle.ring_object.proofs.object_laws.object_law.Goals as goal

pub returns-clause-reached : goal.returns-clause-reached
returns-clause-reached g c =
    let object = g.O.Object in
    let laws = g.met.O.Object in
    λ ops bytes. content_kept object.is_content object.sequential laws.keeps object.sequential.initial ops bytes laws.starts

pub returns-clause-replied : goal.returns-clause-replied
returns-clause-replied g c =
    let object = g.O.Object in
    let laws = g.met.O.Object in
    replied object.is_content object.sequential laws.keeps laws.replies laws.starts

pub returns-clause-comes_back : goal.returns-clause-comes_back
returns-clause-comes_back g c =
    let object = g.O.Object in
    let laws = g.met.O.Object in
    λ ops bytes short. laws.restores.same _ (content_kept object.is_content object.sequential laws.keeps object.sequential.initial ops bytes laws.starts) short

pub returns-clause-grows : goal.returns-clause-grows
returns-clause-grows g c = content_after-append g.O.Object.sequential g.O.Object.sequential.initial
