-- A core's plan from a full commit token, and the core with which Recovery begins.
-- Rules: The commit token 6; Recovery 1 to 3
use Rattle.std.specs.Prelude.{ℕ, ◌∷◌, Some}
use Rattle.ring_base.specs.declared.state.State.TheVariants.{Recovery}
use Rattle.ring_wire.specs.declared.commit.CommitToken.{CommitToken}
use Rattle.ring_recover.specs.Plans.{Plan, plan_of, safe}
use Rattle.ring_core_spec.specs.State.{Core, OutgoingFrame}

-- The plan of the members that come from the core's last installed ring.
abbrev pub plan_at : {A : Type 0} → Core A → CommitToken → Plan
plan_at c k = plan_of c.installed.ring c.running.members k.entries

-- The greatest safe mark that one of these members reports of that ring.
abbrev pub safe_at : {A : Type 0} → Core A → CommitToken → ℕ
safe_at c k = safe (plan_at c k)

-- The core as it enters Recovery with this commit token, after it sent the next hop.
abbrev pub core_in_recovery : {A : Type 0} → Core A → CommitToken → OutgoingFrame A → Core A
core_in_recovery c k sent =
    record c {
      state = Recovery;
      last_sent = Some sent;
      raises = record { ring = c.installed.ring; mark = safe_at c k } ∷ c.raises;
      plans = k ∷ c.plans;
    }
