-- The lists of facts of a core, and how they grow.
use Rattle.std.specs.Prelude.{ℕ, List, [], ◌∷◌}
use Rattle.ring_wire.specs.declared.commit.CommitToken.{CommitToken}
use Rattle.ring_wire.specs.declared.entries.CommitEntry.{CommitEntry}
use Rattle.ring_base.specs.declared.ring_id.RingId.{RingId}
use Rattle.ring_token.specs.TokenVisits.{TokenVisit, MarkRaise}
use Rattle.ring_core_spec.specs.Commits.{Configuration}
use Rattle.ring_core_spec.specs.State.{Core, Report}

-- The lists of facts of a core, except for the messages held. Only contracts see them.
pub record History (A : Type 0) : Type 0 where
  pub rings : List Configuration
  pub installs : List Configuration
  pub turns : List (TokenVisit A)
  pub raises : List MarkRaise
  pub reports : List Report
  pub plans : List CommitToken

-- The lists of facts of a core.
abbrev pub history_of : {A : Type 0} → Core A → History A
history_of c = record { rings = c.rings; installs = c.installs; turns = c.turns; raises = c.raises; reports = c.reports; plans = c.plans }

-- The lists after the core takes part in a ring with this report.
abbrev pub with_ring : {A : Type 0} → History A → Configuration → CommitEntry → History A
with_ring h running own = record h { rings = running ∷ h.rings; reports = record { ring = running.ring; entry = own } ∷ h.reports }

-- The lists after a visit of the token: the newest of these visits.
abbrev pub history_with_core_visit : {A : Type 0} → History A → List (TokenVisit A) → History A
history_with_core_visit h [] = h
history_with_core_visit h (v ∷ turns) = record h { turns = v ∷ h.turns }

-- The lists after a full commit token raises the safe mark of an old ring.
abbrev pub history_with_plan : {A : Type 0} → History A → CommitToken → RingId → ℕ → History A
history_with_plan h k old mark = record h { raises = record { ring = old; mark = mark } ∷ h.raises; plans = k ∷ h.plans }

-- The lists after a ring is installed.
abbrev pub history_with_install : {A : Type 0} → History A → Configuration → History A
history_with_install h running = record h { installs = running ∷ h.installs }
