-- What it means that each client's call has one effect and one reply.
-- Rules: Sessions 3, 7 and 8
use Rattle.std.specs.Prelude.{◌≡◌, ℕ, ◌≤◌, List, ◌++◌, Some}
use Rattle.ring_object.specs.Operations.{Sequential}
use Rattle.ring_payload.specs.declared.call.Call.{Call}
use Rattle.ring_session.specs.declared.answer.Answer.{Answer}
use Rattle.ring_session.specs.declared.answer.Answer.TheVariants.{Done}
use Rattle.ring_session.specs.Deduplicated.{deduplicated, IsCallAt}
use Rattle.ring_session.specs.SessionAnswer.{reply_of_answer, call_reply, session_answer, IsReplyIn}

module _ {O : Type 0} (object : Sequential O) where
  -- The call at this place of the list has this reply.
  pub record IsReplied {A : Type 0} (calls : List (Call A)) (p : ℕ) (c : Call A) (r : List ℕ) : Type 0 where
    pub answer : Answer
    pub stands : IsCallAt calls p c
    pub told : session_answer object calls p ≡ Some answer
    pub brings : reply_of_answer answer ≡ Some r

  -- Each call that takes effect has the answer `Done` at its place in the list, with the reply of the sequential
  -- object.
  abbrev pub EachIsDone : {A : Type 0} → List (Call A) → Type 0
  EachIsDone {A} calls = (q : ℕ) (c : Call A) → IsCallAt (deduplicated calls) q c
      → (p : ℕ) × IsCallAt calls p c × (session_answer object calls p ≡ Some (Done (call_reply object (deduplicated calls) q)))

  -- A client's number has the answer `Done` at no more than one place.
  abbrev pub IsDoneOnce : {A : Type 0} → List (Call A) → Type 0
  IsDoneOnce {A} calls = (p q : ℕ) (c d : Call A) (r s : List ℕ) → IsCallAt calls p c → IsCallAt calls q d
      → session_answer object calls p ≡ Some (Done r) → session_answer object calls q ≡ Some (Done s)
      → c.client ≡ d.client → c.number ≡ d.number → p ≡ q

  -- Each reply is that of the sequential object, at the place of its call among those that take effect, and the call's
  -- number is at least 1.
  abbrev pub RepliesAreTheObjects : {A : Type 0} → List (Call A) → Type 0
  RepliesAreTheObjects {A} calls = (p : ℕ) (c : Call A) (r : List ℕ) → IsReplied calls p c r → IsReplyIn object (deduplicated calls) c r × (1 ≤ c.number)

  -- A client's number with a reply names one call, which has the same reply at all its places.
  abbrev pub RepliesAreOne : {A : Type 0} → List (Call A) → Type 0
  RepliesAreOne {A} calls = (p q : ℕ) (c d : Call A) (r s : List ℕ) → IsReplied calls p c r → IsReplied calls q d s
      → c.client ≡ d.client → c.number ≡ d.number → (c ≡ d) × (r ≡ s)

  -- No later call changes an answer.
  abbrev pub AnswersStay : {A : Type 0} → List (Call A) → Type 0
  AnswersStay {A} calls = (more : List (Call A)) (p : ℕ) (c : Call A) → IsCallAt calls p c → session_answer object
      (calls ++ more) p ≡ session_answer object calls p
