-- The number of committed calls that take effect.
-- Rules: The replicated log 13 to 15
use Rattle.std.specs.Prelude.{ℕ, ◌+◌, ◌-◌, ◌^◌, min, List, [], ◌∷◌, if◌then◌else◌}
use Rattle.ring_object.specs.Operations.{Sequential}
use Rattle.ring_payload.specs.declared.call.Call.{Call}
use Rattle.ring_session.specs.SessionAnswer.{is_done}
use Rattle.ring_session.specs.Table.{LastCall, Table, table_answer, table_next}

-- The number of these calls, applied in order, that take effect by the session table.
abbrev pub done_after : {O A : Type 0} → Sequential O → Table O → List (Call A) → ℕ
done_after object table [] = 0
done_after object table (c ∷ more) = (if is_done (table_answer object table c) then 1 else 0) + done_after object (table_next object table c) more

-- The sum of these clients' last numbers.
abbrev pub numbers_in : List (ℕ × LastCall) → ℕ
numbers_in [] = 0
numbers_in (s ∷ rest) = s.1.number + numbers_in rest

-- The number of calls that took effect, by a session table: that sum, which saturates at 2^64 - 1.
abbrev pub table_effects : {O : Type 0} → Table O → ℕ
table_effects table = min (2 ^ 64 - 1) (numbers_in table.sessions)
