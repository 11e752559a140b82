-- A script that runs line by line, a pump turn by turn, and the result of its run.
use Rattle.std.proofs.Common.{◌≡◌, ◌<◌, ◌≤◌, ℕ, ◌+◌, Bool, true, false, List, ◌++◌, Option, Some, None, Result, Ok, Err, IfOk}
use Rattle.std.proofs.Common.{refl, sym, subst, arith}
use Rattle.std.specs.Prelude.{◌↔◌, IsTrue}
use Rattle.std.specs.declared.alloc.Global.{Global}
use Rattle.ring_base.specs.Group.{AreVotes}
use Rattle.ring_object.specs.Operations.{Sequential}
use Rattle.ring_script.specs.declared.scripts.Script.{Script}
use Rattle.ring_script.specs.Operations.{OperationForm}
use Rattle.ring_script.specs.Scripts.{script_by, schedule_by}
use Rattle.ring_script_generator.specs.Generated.{IsGeneratedBy}
use Rattle.ring_console.specs.Running.{RunView, run_opening, AreLinesDone, IsLegal, legal_line}
use Rattle.ring_explore.specs.declared.explore_totals.ExploreTotals.{ExploreTotals}
use Rattle.ring_explore.specs.Explored.{AreTried, illegal_of, seeds_in}
use Rattle.ring_explore.specs.Tried.{IsTried, IsTriedIn}
use Rattle.ring_explore.specs.declared.plan.ExplorePlan.{ExplorePlan}

-- The result over one seed.
pub tried_one : (IsTried : Bool → Type 0) (is_legal : Bool) (seed : ℕ) → IsTried is_legal → AreTried IsTried seed (seed + 1) (illegal_of is_legal seed)
tried_one IsTried true seed tried = λ s from upto. tried
tried_one IsTried false seed tried = (omega arith, omega arith, tried, λ s from upto. absurd (omega (arith, from, upto)))

-- A script was generated, run, and checked.
pub is_tried : {O : Type 0} (object : Sequential O) (forms : List OperationForm) (votes : List ℕ) (lines : ℕ) (made text : List ℕ) (script : Script Global)
    (ran : RunView Global) (is_legal : Bool) → script_by forms made ≡ Ok (schedule_by script) → IsGeneratedBy forms votes lines made
    → AreLinesDone object script.lines.items (run_opening script.nodes) ran text → (IsTrue is_legal ↔ IsLegal object ran.world_view)
    → IsTried object forms votes lines is_legal
is_tried object forms votes lines made text script ran is_legal is_script is_made runs legal = record {
  made = made;
  is_made = is_made;
  script = script;
  is_script = is_script;
  text = text ++ legal_line true is_legal;
  told = record { ran = ran; told = text; runs = runs; legal = legal; whole = refl };
}

-- The result of a script that ran to its end.
pub found_tried : {O E : Type 0} (object : Sequential O) (forms : List OperationForm) (script : Script Global) (seed : ℕ) (ran : RunView Global) (text : List ℕ)
    (r : Result ExploreTotals E) → AreLinesDone object script.lines.items (run_opening script.nodes) ran text
    → IfOk r (λ seed_totals. (is_legal : Bool) × (IsTrue is_legal ↔ IsLegal object ran.world_view) × (seed_totals.illegal ≡ illegal_of is_legal seed))
    → IfOk r (λ seed_totals. (made votes : List ℕ) (lines : ℕ) → script_by forms made ≡ Ok (schedule_by script) → IsGeneratedBy forms votes lines made
    → AreTried (IsTried object forms votes lines) seed (seed + 1) seed_totals.illegal)
found_tried object forms script seed ran text (Ok seed_totals) runs h =
    λ made votes lines is_script is_made. subst (λ (f : Option ℕ). AreTried (IsTried object forms votes lines) seed (seed + 1) f) (sym h.2)
    (tried_one (IsTried object forms votes lines) h.0 seed (is_tried object forms votes lines made text script ran h.0 is_script is_made runs h.1))
found_tried object forms script seed ran text (Err fault) runs h = tt

-- Plans with the same votes and number of lines have the same scripts.
pub same_scripts : {O : Type 0} (object : Sequential O) (forms : List OperationForm) (a b : ExplorePlan) (from upto : ℕ) (seed_totals : Option ℕ)
    → a.votes.now ≡ b.votes.now → a.lines ≡ b.lines → AreTried (IsTriedIn object forms a) from upto seed_totals → AreTried (IsTriedIn object forms b) from upto seed_totals
same_scripts object forms a b from upto seed_totals votes lines tried =
    subst (λ (v : List ℕ). AreTried (IsTried object forms v b.lines) from upto seed_totals) votes
    (subst (λ (n : ℕ). AreTried (IsTried object forms a.votes.now n) from upto seed_totals) lines tried)

-- If any seed was tried, the votes are those of a group.
pub tried_votes : {O : Type 0} (object : Sequential O) (forms : List OperationForm) (plan : ExplorePlan) (seed_totals : Option ℕ) → plan.first ≤ plan.last
    → AreTried (IsTriedIn object forms plan) plan.first (plan.first + seeds_in plan.first plan.last) seed_totals → AreVotes plan.votes.now
tried_votes object forms plan None some tried =
    let within : plan.first < plan.first + seeds_in plan.first plan.last = grind (arith, some) in
    let one : IsTriedIn object forms plan true = tried plan.first (omega arith) within in
    one.is_made.are_votes
tried_votes object forms plan (Some first) some tried = tried.2.is_made.are_votes
