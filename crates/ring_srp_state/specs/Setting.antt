-- The effect of a visit on what a core keeps of one ring.
-- Rules: Token and window 7
use Rattle.std.specs.Prelude.{◌≡◌, ℕ, ◌+◌, ◌≤◌, max, List, length}
use Rattle.ring_payload.specs.declared.content.Payload.{Payload}
use Rattle.ring_wire.specs.declared.token.Token.{Token}
use Rattle.ring_window.specs.Held.{front_of, missing}
use Rattle.ring_window.specs.Windows.{WindowHistory}
use Rattle.ring_token.specs.TokenVisits.{TokenVisit}
use Rattle.ring_token.specs.Visits.{requests_after}
use Rattle.ring_token.specs.Histories.{TokenHistory, visit_made}
use Rattle.ring_srp_state.specs.declared.recovery_state.RecoveryState.{RecoveryState}
use Rattle.ring_srp_state.specs.Users.{users_in}

-- The visit of a token, once the new messages are held.
abbrev pub turn_in : {A : Type 0} → WindowHistory A → TokenHistory A → Token → List ℕ → List (Payload A) → TokenVisit A
turn_in w h t remaining_requests fresh = visit_made h.me (front_of w.held w.ring) fresh (requests_after remaining_requests (missing w.held w.ring w.mark (t.seq + length fresh))) t

-- More user messages are deferred, and all else is unchanged.
pub record HasDeferred {A : Type 0} (before now : RecoveryState A) : Type 0 where
  pub part : now.part ≡ before.part
  pub plan : now.plan ≡ before.plan
  pub ends : now.ends ≡ before.ends
  pub deferred : now.deferred.items ≡ users_in now.part.window 0 now.most
  pub more : before.most ≤ now.most
  pub far : now.most ≤ max before.most (front_of now.part.window.held now.part.window.ring)
