-- A script that was tried, and the reasons why seeds aren't tried.
-- Rules: Sessions 10
-- Formats: The command line
use Rattle.std.specs.Prelude.{◌≡◌, Bool, true, List, ℕ, Ok, ⊤}
use Rattle.std.specs.declared.alloc.Global.{Global}
use Rattle.ring_base.specs.Group.{AreVotes}
use Rattle.ring_base.specs.declared.fault.Fault.{Fault}
use Rattle.ring_base.specs.declared.fault.Fault.TheVariants.{NotMember, BadScript, Memory}
use Rattle.ring_object.specs.Operations.{Sequential}
use Rattle.ring_failure.specs.declared.failure.Failure.{Failure}
use Rattle.ring_failure.specs.declared.failure.Failure.TheVariants.{Refused}
use Rattle.ring_script.specs.declared.scripts.Script.{Script}
use Rattle.ring_script.specs.Operations.{OperationForm}
use Rattle.ring_script.specs.Scripts.{script_by, schedule_by}
use Rattle.ring_script_generator.specs.Generated.{IsGeneratedBy}
use Rattle.ring_console.specs.Running.{IsTextOf}
use Rattle.ring_explore.specs.declared.plan.ExplorePlan.{ExplorePlan}

-- A script for an object with these operations, of nodes with these votes and with this number of lines, was generated
-- and run to its end. `is_legal` says whether its run is legal, as `script --check` does.
pub record IsTried {O : Type 0} (object : Sequential O) (forms : List OperationForm) (votes : List ℕ) (lines : ℕ) (is_legal : Bool) : Type 0 where
  pub made : List ℕ
  pub is_made : IsGeneratedBy forms votes lines made
  pub script : Script Global
  pub is_script : script_by forms made ≡ Ok (schedule_by script)
  pub text : List ℕ
  pub told : IsTextOf object script.nodes true script.lines.items is_legal text

-- A script of this plan was tried.
abbrev pub IsTriedIn : {O : Type 0} → Sequential O → List OperationForm → ExplorePlan → Bool → Type 0
IsTriedIn object forms plan is_legal = IsTried object forms plan.votes.now plan.lines is_legal

-- Why not all seeds are tried: these aren't the votes of a group; or they are, and a generated text isn't such a
-- script; or an allocation failed.
abbrev pub IsNotTried : List ℕ → Fault → Type 0
IsNotTried votes NotMember = ¬ AreVotes votes
IsNotTried votes BadScript = AreVotes votes
IsNotTried votes Memory = ⊤
IsNotTried votes _ = ⊥

-- The same, as a failure.
abbrev pub IsNotExplored : List ℕ → Failure → Type 0
IsNotExplored votes (Refused fault) = IsNotTried votes fault
IsNotExplored votes _ = ⊥
