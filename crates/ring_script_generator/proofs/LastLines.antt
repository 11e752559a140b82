-- The schedule of a generated script that was parsed again.
use Rattle.std.proofs.Common.{◌≡◌, ◌≤◌, ℕ, zero, suc, ◌+◌, ◌<◌, min, List, [], ◌∷◌, map, length, Some, Result, Ok, Err, refl, ap, ◌∙◌, arith}
use Rattle.std.proofs.lemmas.List.{length-map}
use Rattle.std.proofs.lemmas.Option.{same_Some}
use Rattle.std.specs.Prelude.{◌≢◌, OnOk, slice_get, slice_index_or}
use Rattle.ring_base.specs.Group.{Group, AreVotes, padded_votes}
use Rattle.ring_script.specs.Lines.{LineRequest, request_of}
use Rattle.ring_script.specs.Operations.{OperationForm}
use Rattle.ring_script.specs.Scripts.{script_by, schedule_by, numbered_by, max_script_bytes}
use Rattle.ring_script.specs.declared.line.ScriptLine.{ScriptLine}
use Rattle.ring_script.specs.declared.line.ScriptLine.TheVariants as line
use Rattle.ring_script.specs.declared.scripts.NumberedLine.{NumberedLine}
use Rattle.ring_script.specs.declared.scripts.Script.{Script}
use Rattle.ring_script_generator.specs.Generated.{IsGeneratedBy}
use Rattle.ring_script_generator.proofs.ReadVotes.{script_whole, same_nodes}

-- A line other than `show` has another request.
other_asked : {A : Type 0} (l : ScriptLine A) → l ≢ line.Show → request_of l ≢ LineRequest.Show
other_asked (line.Call node call) other = λ same. absurd (cc same)
other_asked (line.Deliver node frame) other = λ same. absurd (cc same)
other_asked (line.Timeout node kind) other = λ same. absurd (cc same)
other_asked (line.Noise node bytes) other = λ same. absurd (cc same)
other_asked (line.Stop node) other = λ same. absurd (cc same)
other_asked (line.Cut groups) other = λ same. absurd (cc same)
other_asked line.Heal other = λ same. absurd (cc same)
other_asked (line.Pump turns) other = λ same. absurd (cc same)
other_asked line.Show other = λ same. other refl

-- The line at a place is `show`, so its schedule has that request there.
shown_at : {A : Type 0} (lines : List (NumberedLine A)) (k : ℕ) → k < length lines → ((d : NumberedLine A) → (slice_index_or lines k d).line ≡ line.Show)
    → (number : ℕ) × (slice_get (map numbered_by lines) k ≡ Some (number, LineRequest.Show))
shown_at [] k within shows = absurd (omega (arith, within))
shown_at (x ∷ xs) zero within shows = (x.number, ap (λ l. Some (x.number, request_of l)) (shows x))
shown_at (x ∷ xs) (suc k) within shows = shown_at xs k (omega (arith, within)) shows

-- It isn't, so the schedule has another request there.
other_at : {A : Type 0} (lines : List (NumberedLine A)) (k number : ℕ) → ((d : NumberedLine A) → (slice_index_or lines k d).line ≢ line.Show)
    → ¬ (slice_get (map numbered_by lines) k ≡ Some (number, LineRequest.Show))
other_at [] k number others = λ same. absurd (cc same)
other_at (x ∷ xs) zero number others =
    λ same. other_asked x.line (others x) (ap (λ (a : ℕ × LineRequest). a.1) (same_Some (numbered_by x) (number, LineRequest.Show) same))
other_at (x ∷ xs) (suc k) number others = other_at xs k number others

-- A script that is as requested.
pub read_made : {A T E : Type 0} (forms : List OperationForm) (script : Script A) (r : Result T E) (nodes : Group) (lines : ℕ) (text : List ℕ)
    → AreVotes nodes.votes → nodes.count ≡ length nodes.votes → length text ≤ max_script_bytes → script_by forms text ≡ Ok (schedule_by script)
    → OnOk r ((script.nodes.count ≡ nodes.count) × (padded_votes script.nodes.votes ≡ padded_votes nodes.votes))
    → OnOk r (length script.lines.items ≡ min lines 10000 + 1)
    → OnOk r ((k : ℕ) (d : NumberedLine A) → k < min lines 10000 → (slice_index_or script.lines.items k d).line ≢ line.Show)
    → OnOk r ((d : NumberedLine A) → (slice_index_or script.lines.items (min lines 10000) d).line ≡ line.Show)
    → OnOk r (IsGeneratedBy forms nodes.votes lines text)
read_made forms script (Ok x) nodes lines text votes count short is same many others shows = record {
  are_votes = votes;
  short = short;
  schedule = schedule_by script;
  is_script = is;
  nodes_are = same_nodes script.nodes nodes (script_whole forms text (schedule_by script) is) count same.0 same.1;
  lines_are = length-map script.lines.items numbered_by ∙ many;
  asks = λ k number before. other_at script.lines.items k number (λ d. others k d before);
  shows = shown_at script.lines.items (min lines 10000) (omega (arith, many)) shows;
}
read_made forms script (Err e) nodes lines text votes count short is same many others shows = tt
