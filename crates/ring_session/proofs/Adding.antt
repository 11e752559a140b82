-- One more call: the session table decides whether it takes effect.
use Rattle.std.proofs.Common.{◌≡◌, Bool, true, false, List, [], ◌∷◌, ◌++◌}
use Rattle.std.proofs.Common.{refl, ap, sym, ◌∙◌, append-nil}
use Rattle.std.specs.Prelude.{if◌then◌else◌}
use Rattle.std.proofs.lemmas.List.Sums.{fold-append}
use Rattle.ring_object.specs.StatelessObject.{Content, stateless_object}
use Rattle.ring_payload.specs.declared.call.Call.{Call}
use Rattle.ring_session.specs.declared.answer.Answer.{Answer}
use Rattle.ring_session.specs.Deduplicated.{deduplicated, takes_effect}
use Rattle.ring_session.specs.DeduplicatedLaws.{deduplicated-push}
use Rattle.ring_session.specs.SessionAnswer.{is_done}
use Rattle.ring_session.specs.Table.{Table, table_after, table_answer, table_next, opening}
use Rattle.ring_session.specs.Effects.{TableWithEffects, AreEffectsOf}

pub effects-as : {A : Type 0} {calls more : List (Call A)} {found : TableWithEffects A} → AreEffectsOf calls found → calls ≡ more → AreEffectsOf more found
effects-as h e = record { table_is = h.table_is ∙ ap (table_after stateless_object) e; calls_are = h.calls_are ∙ ap deduplicated e }

pub effects-same : {A : Type 0} {calls : List (Call A)} {found : TableWithEffects A} → AreEffectsOf calls found → AreEffectsOf (calls ++ []) found
effects-same {A} {calls} h = effects-as h (sym (append-nil calls))

added : {A : Type 0} (b d : Bool) (xs : List (Call A)) (c : Call A) → b ≡ d → (if b then xs ++ c ∷ [] else xs) ≡ xs ++ (if d then c ∷ [] else [])
added true true xs c e = refl
added false false xs c e = sym (append-nil xs)
added true false xs c e = absurd (cc e)
added false true xs c e = absurd (cc e)

pub effects-push : {A : Type 0} (before : List (Call A)) (found found' : TableWithEffects A) (c : Call A) (told : Answer)
    → (is_done (table_answer stateless_object (table_after stateless_object before) c) ≡ takes_effect (deduplicated before) c)
    → AreEffectsOf before found → told ≡ table_answer stateless_object found.table c → found'.table ≡ table_next stateless_object found.table c
    → (b : Bool) → is_done told ≡ b → found'.calls ≡ (if b then found.calls ++ c ∷ [] else found.calls)
    → AreEffectsOf (before ++ c ∷ []) found'
effects-push before found found' c told law h answer after b is more = record {
  table_is = after ∙ (ap (λ (t : Table Content). table_next stateless_object t c) h.table_is ∙ sym (fold-append (table_next stateless_object) (opening tt) before (c ∷ [])));
  calls_are =
      let done : b ≡ takes_effect (deduplicated before) c = sym is ∙ ap is_done answer
      ∙ (ap (λ (t : Table Content). is_done (table_answer stateless_object t c)) h.table_is ∙ law) in
      more ∙ (added b (takes_effect (deduplicated before) c) found.calls c done
      ∙ (ap (λ xs. xs ++ (if takes_effect (deduplicated before) c then c ∷ [] else [])) h.calls_are
      ∙ sym (deduplicated-push before c)));
}
