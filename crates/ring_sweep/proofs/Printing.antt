-- The script of a variant is printed.
use Rattle.std.proofs.Common.{◌≡◌, ℕ, ◌-◌, ◌*◌, ◌/◌, ◌^◌, ◌<◌, ◌≤◌, List, slice_get, Option, ap, subst, refl, ◌∙◌, arith}
use Rattle.std.specs.Io.KnownBytes.{Appends}
use Rattle.std.proofs.Math.Nat.{div-le_self}
use Rattle.ring_base.specs.Group.{Group}
use Rattle.ring_object.specs.Operations.{Sequential}
use Rattle.ring_script.specs.declared.scripts.NumberedLine.{NumberedLine}
use Rattle.ring_console.specs.Running.{HasPrinted}
use Rattle.ring_sweep.specs.declared.injection.Injection.{Injection}
use Rattle.ring_sweep.specs.declared.script_position.ScriptPosition.{ScriptPosition}
use Rattle.ring_sweep.specs.ScriptPositions.{IsScriptPosition}
use Rattle.ring_sweep.specs.Variants.{injection_at}
use Rattle.ring_sweep.specs.VariantTexts.{text_with_injection, IsVariantText}

-- The injection of the variant that is asked for.
pub asked_is : (u : Injection) (place index counted count : ℕ) → u ≡ injection_at counted index → counted ≡ count → index ≡ place - 1
    → u ≡ injection_at count (place - 1)
asked_is u place index counted count is count_is index_is =
    is ∙ (ap (λ (n : ℕ). injection_at n index) count_is ∙ ap (λ (n : ℕ). injection_at count n) index_is)

-- Fewer events come before it than a u64 counts.
pub few_before : (u : Injection) (place index counted : ℕ) → u ≡ injection_at counted index → index ≡ place - 1 → place < 2 ^ 64
    → u.before < 2 ^ 64 - 1
few_before u place index counted is index_is least =
    let before : u.before ≡ index / (2 * counted) = ap (λ (v : Injection). v.before) is in
    let most : index / (2 * counted) ≤ index = div-le_self index (2 * counted) in
    omega (arith, before, most, index_is, least)

pub variant_printed : {O A : Type 0} (object : Sequential O) (group : Group) (lines : List (NumberedLine A)) (text : List ℕ) (old new : Option (List ℕ))
    (u asked : Injection) (position : ScriptPosition) → u ≡ asked → IsScriptPosition object group lines u.before position → u.before ≤ position.events
    → Appends old new (text_with_injection text (slice_get lines position.lines) position.turns group.count u)
    → HasPrinted old new (IsVariantText object group lines text asked)
variant_printed object group lines text old new u asked position is at reached printed =
    subst (λ (v : Injection). HasPrinted old new (IsVariantText object group lines text v)) is (record {
      text = text_with_injection text (slice_get lines position.lines) position.turns group.count u;
      appended = printed;
      holds = record { position = position; is_position = at; reached = reached; whole = refl };
    })
