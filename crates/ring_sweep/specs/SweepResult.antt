-- The result of a sweep, and its text.
-- Formats: The command line
use Rattle.std.specs.Prelude.{◌≡◌, ℕ, ◌+◌, ◌*◌, nat_lt, Bool, true, false, if◌then◌else◌, Option, Some, None, Result, Ok, Err, List, ◌++◌, codes}
use Rattle.std.specs.Fmt.{decimal}
use Rattle.ring_base.specs.Group.{Group}
use Rattle.ring_object.specs.Operations.{Sequential}
use Rattle.ring_script.specs.declared.scripts.NumberedLine.{NumberedLine}
use Rattle.ring_failure.specs.declared.failure.Failure.{Failure}
use Rattle.ring_failure.specs.Texts.{line_of, legal_text}
use Rattle.ring_sweep.specs.declared.sweeping.SweepResult.{SweepResult}
use Rattle.ring_sweep.specs.declared.injection.InjectionKind.{InjectionKind}
use Rattle.ring_sweep.specs.declared.injection.InjectionKind.TheVariants as injections
use Rattle.ring_sweep.specs.declared.injection.Injection.{Injection}
use Rattle.ring_sweep.specs.Variants.{HasEvents, AreTried}

-- Whether all variants are legal: there is no first one that isn't.
abbrev pub are_legal : Option Injection → Bool
are_legal None = true
are_legal (Some u) = false

-- The sweep is complete, and all variants are legal.
abbrev pub AllLegal : Result SweepResult Failure → Type 0
AllLegal (Ok swept) = swept.illegal ≡ None
AllLegal (Err failure) = ⊥

-- The number of events, the number of variants, and whether all variants are legal.
abbrev pub sweep_text : SweepResult → List ℕ
sweep_text swept =
    line_of (codes "events " ++ decimal swept.events) ++ line_of (codes "variants " ++ decimal swept.variants)
    ++ line_of (legal_text (are_legal swept.illegal))

-- The kind of an injection, as a script names it.
abbrev pub injection_kind_name : InjectionKind → List ℕ
injection_kind_name injections.Stop = codes "stop"
injection_kind_name injections.Cut = codes "cut"

-- An injection into a run with this number of events; its event is counted from 1.
abbrev pub injection_text : ℕ → Injection → List ℕ
injection_text events u =
    injection_kind_name u.injection_kind ++ codes " " ++ decimal u.node
    ++ (if nat_lt u.before events then codes " before event " ++ decimal (u.before + 1) else codes " at the end")

module _ {O : Type 0} (object : Sequential O) where
  -- The result of a sweep of these lines: the number of events of their run, the number of variants, which is two for
  -- each node before each event and at the end, and the first variant that is not legal.
  pub record IsSweepResult {A : Type 0} (group : Group) (lines : List (NumberedLine A)) (swept : SweepResult) : Type 0 where
    pub events : HasEvents object group lines swept.events
    pub variants : swept.variants ≡ 2 * (swept.events + 1) * group.count
    pub tried : AreTried object group lines swept.variants swept.illegal

  -- The text is the one that a sweep of these lines prints, and says whether all variants are legal.
  pub record IsSweepText {A : Type 0} (group : Group) (lines : List (NumberedLine A)) (all_legal : Bool) (text : List ℕ) : Type 0 where
    pub swept : SweepResult
    pub is_swept : IsSweepResult group lines swept
    pub legal : are_legal swept.illegal ≡ all_legal
    pub whole : text ≡ sweep_text swept
