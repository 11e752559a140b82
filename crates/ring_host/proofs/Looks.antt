-- The answers that one look at a book keeps.
use Rattle.std.proofs.Common.{◌≡◌, ◌&&◌, ◌==◌, ℕ, ◌+◌, ◌-◌, ◌≤◌, Bool, true, false, List, Option, Some, None, slice_get, arith}
use Rattle.std.proofs.Common.{refl, sym, subst, ◌∙◌, IfSome, nat_le, if◌then◌else◌}
use Rattle.std.proofs.lemmas.Bool.{and_parts, eqb-true, leb-true}
use Rattle.ring_base.specs.Group.{Group}
use Rattle.ring_object.specs.Operations.{Sequential}
use Rattle.ring_session.specs.declared.answer.Answer.{Answer}
use Rattle.ring_book.specs.Lines.{answer_of_ticket, first_answer_in, IsRun, LineView}
use Rattle.ring_host.specs.Answering.{IsAnswered, AreAnswered}
use Rattle.ring_host.specs.Looking.{AnswerCacheView, cached_answer}
use Rattle.ring_host.proofs.TicketsGiven.{is_answered}

-- The answers of a run's book are answered.
pub are_answered : {A O : Type 0} (object : Sequential O) (group : Group) (lines : List (LineView A)) (told : List (Option Answer)) (node first : ℕ)
    (from : ℕ) (found : List Answer) → from ≡ first → IsRun object group lines → ((ticket : ℕ) → answer_of_ticket told ticket ≡ first_answer_in lines node ticket)
    → ((i : ℕ) (a : Answer) → slice_get found i ≡ Some a → answer_of_ticket told (from + i) ≡ Some a) → AreAnswered A object group node first found
are_answered {A} object group lines told node first from found same run tells kept =
    subst (λ (n : ℕ). AreAnswered A object group node n found) same
    (λ i a at. is_answered object group lines node (from + i) (Some a) run (sym (kept i a at) ∙ tells (from + i)))

-- A value that is returned under a test holds where the test does.
told_if : (P : Answer → Type 0) (b : Bool) (found : Option Answer) → (b ≡ true → IfSome found P) → IfSome (if b then found else None) P
told_if P true found h = h refl
told_if P false found h = _

-- The answer at a place is answered.
answered_at : {A O : Type 0} (object : Sequential O) (group : Group) (node first ticket : ℕ) (items : List Answer) (found : Option Answer)
    → AreAnswered A object group node first items → first ≤ ticket → found ≡ slice_get items (ticket - first)
    → IfSome found (IsAnswered A object group node ticket)
answered_at object group node first ticket items None all low at = _
answered_at {A} object group node first ticket items (Some answer) all low at =
    let number : first + (ticket - first) ≡ ticket = omega (arith, low) in
    subst (λ (n : ℕ). IsAnswered A object group node n answer) number (all (ticket - first) answer (sym at))

-- The answer cached for a ticket is answered.
pub kept_answered : {A O : Type 0} (object : Sequential O) (group : Group) (looked : AnswerCacheView) (node ticket : ℕ)
    → AreAnswered A object group looked.node looked.first looked.found → IfSome (cached_answer looked node ticket) (IsAnswered A object group node ticket)
kept_answered {A} object group looked node ticket all =
    told_if (IsAnswered A object group node ticket) (looked.node == node && nat_le looked.first ticket) (slice_get looked.found (ticket - looked.first))
    (λ both.
    let parts = and_parts (looked.node == node) (nat_le looked.first ticket) both in
    let same : looked.node ≡ node = eqb-true looked.node node parts.0 in
    let low : looked.first ≤ ticket = leb-true looked.first ticket parts.1 in
    answered_at object group node looked.first ticket looked.found (slice_get looked.found (ticket - looked.first))
    (subst (λ (n : ℕ). AreAnswered A object group n looked.first looked.found) same all) low refl)
