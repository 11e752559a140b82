-- A client's last call that took effect.
-- Rules: Sessions 2 and 3
use Rattle.std.specs.Prelude.{ℕ, List, []}
use Rattle.ring_payload.specs.declared.call.Call.{Call}

-- A client's last call that took effect: its number, its operation, and the reply to it.
pub record LastCall : Type 0 where
  pub number : ℕ
  pub operation : List ℕ
  pub reply : List ℕ

-- The entry of a client before its first call.
abbrev pub no_call : LastCall
no_call = record { number = 0; operation = []; reply = [] }

-- The entry after a call took effect with this reply.
abbrev pub last_call : {A : Type 0} → Call A → List ℕ → LastCall
last_call c reply = record { number = c.number; operation = c.op; reply = reply }
