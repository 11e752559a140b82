-- The lines of a text, read one after the other.
use Rattle.std.proofs.Common.{◌≡◌, ℕ, ◌+◌, ◌≤◌, List, [], ◌∷◌, ◌++◌, Option, Some, None, Result, Ok, Err, map, refl, sym, ap, ◌∙◌, append_assoc, arith, inl}
use Rattle.std.proofs.Common.{inr}
use Rattle.std.specs.Prelude.{◌&&◌}
use Rattle.std.proofs.lemmas.Bool.{cases_Bool}
use Rattle.std.proofs.lemmas.List.{map-append}
use Rattle.ring_base.specs.Group.{Group}
use Rattle.ring_script.specs.declared.scripts.NumberedLine.{NumberedLine}
use Rattle.ring_script.specs.declared.scripts.ScriptFault.{ScriptFault}
use Rattle.ring_script.specs.declared.scripts.ScriptFault.TheVariants.{Memory, AtLine}
use Rattle.ring_script.specs.Faults.{IsOfText}
use Rattle.ring_script.specs.Lines.{LineRequest, request_of, request_in}
use Rattle.ring_script.specs.Operations.{OperationForm}
use Rattle.ring_script.specs.Scripts.{unless_skipped, parse_node_words, then_request, requests_in, then_nodes, nodes_in, numbered_by, Faults}
use Rattle.ring_script.specs.Votes.{votes_of, is_votes, then_votes, votes_in}
use Rattle.ring_script.specs.Words.{LinesLeft, are_ascii, is_skipped}

-- The lines parsed before, and then those parsed after.
abbrev pub behind : {X : Type 0} → List X → Result (List X) ℕ → Result (List X) ℕ
behind front (Ok others) = Ok (front ++ others)
behind front (Err line) = Err line

-- The lines parsed before and one more, and then those parsed after.
then-behind : (front : List (ℕ × LineRequest)) (number : ℕ) (asked : LineRequest) (others : Result (List (ℕ × LineRequest)) ℕ)
    → behind (front ++ (number, asked) ∷ []) others ≡ behind front (then_request number (Some (Some asked)) others)
then-behind front number asked (Ok rest) = ap Ok (append_assoc front ((number, asked) ∷ []) rest)
then-behind front number asked (Err line) = refl

-- One more line was parsed.
pub next_asked : {A : Type 0} (forms : List OperationForm) (nodes : Group) (items : List (NumberedLine A)) (numbered : NumberedLine A) (line : List ℕ)
    (old left : LinesLeft) (whole : Result (List (ℕ × LineRequest)) ℕ)
    → behind (map numbered_by items) (requests_in forms nodes old.before old.lines) ≡ whole
    → old.lines ≡ line ∷ left.lines → numbered.number ≡ old.before + 1 → left.before ≡ old.before + 1
    → unless_skipped (request_in forms nodes) line ≡ Some (Some (request_of numbered.line))
    → behind (map numbered_by (items ++ numbered ∷ [])) (requests_in forms nodes left.before left.lines) ≡ whole
unfolding requests_in
next_asked forms nodes items numbered line old left whole before lines_are number_is after told =
    let front = map numbered_by items in
    let others = requests_in forms nodes (old.before + 1) left.lines in
    let asked = request_of numbered.line in
    let now : map numbered_by (items ++ numbered ∷ []) ≡ front ++ (numbered.number, asked) ∷ [] = map-append numbered_by items (numbered ∷ []) in
    let step : behind front (requests_in forms nodes old.before old.lines) ≡ behind front (then_request (old.before + 1) (Some (Some asked)) others) =
    rw (lines_are, told) refl in
    rw (now, number_is, after) (then-behind front (old.before + 1) asked others) ∙ sym step ∙ before

-- ---- the line at fault is one that the text has, or the one after its last.

told_low : (number line : ℕ) (read : Option (Option LineRequest)) (others : Result (List (ℕ × LineRequest)) ℕ) → 1 ≤ number
    → (others ≡ Err line → 1 ≤ line) → then_request number read others ≡ Err line → 1 ≤ line
told_low number line None others low later e = let same : number ≡ line = cc in omega arith
told_low number line (Some None) others low later e = later e
told_low number line (Some (Some asked)) (Ok rest) low later e = absurd cc
told_low number line (Some (Some asked)) (Err other) low later e = later (let same : other ≡ line = cc in ap Err same)

pub asked_low : (forms : List OperationForm) (nodes : Group) (before : ℕ) (lines : List (List ℕ)) (line : ℕ) → requests_in forms nodes before lines ≡ Err line → 1 ≤ line
unfolding requests_in
asked_low forms nodes before [] line e = absurd cc
asked_low forms nodes before (first ∷ lines) line e =
    told_low (before + 1) line (unless_skipped (request_in forms nodes) first)
    (requests_in forms nodes (before + 1) lines) (omega arith) (asked_low forms nodes (before + 1) lines line) e

first_low : (number line : ℕ) (read : Option (Option Group)) (lines : List (List ℕ))
    (others : Result (Group × LinesLeft) ℕ) → 1 ≤ number → (others ≡ Err line → 1 ≤ line)
    → then_nodes number read lines others ≡ Err line → 1 ≤ line
first_low number line None lines others low later e = let same : number ≡ line = cc in omega arith
first_low number line (Some None) lines others low later e = later e
first_low number line (Some (Some nodes)) lines others low later e = absurd cc

pub nodes_low : (before : ℕ) (lines : List (List ℕ)) (line : ℕ) → nodes_in before lines ≡ Err line → 1 ≤ line
unfolding nodes_in
nodes_low before [] line e = let same : before + 1 ≡ line = cc in omega arith
nodes_low before (first ∷ lines) line e =
    first_low (before + 1) line (unless_skipped (parse_node_words) first) lines (nodes_in (before + 1) lines)
    (omega arith) (nodes_low (before + 1) lines line) e

voted_low : (number line : ℕ) (voted : Option Group) (lines : List (List ℕ)) → 1 ≤ number → then_votes number voted lines ≡ Err line → 1 ≤ line
voted_low number line None lines low e = let same : number ≡ line = cc in omega arith
voted_low number line (Some nodes) lines low e = absurd cc

pub votes_low : (nodes : Group) (before : ℕ) (lines : List (List ℕ)) (line : ℕ) → votes_in nodes before lines ≡ Err line → 1 ≤ line
unfolding votes_in
votes_low nodes before [] line e = absurd cc
votes_low nodes before (first ∷ lines) line e =
    elim (cases_Bool (is_votes first)) [
      | inl votes ↦ voted_low (before + 1) line (votes_of nodes first) lines (omega arith) (rw votes at e)
      | inr other ↦ elim (cases_Bool (are_ascii first && is_skipped first)) [
        | inl skipped ↦ votes_low nodes (before + 1) lines line (rw (other, skipped) at e)
        | inr asks ↦ let none = rw (other, asks) at e in absurd (cc)
      ]
    ]

-- A refusal at such a line.
pub faults_low : {Y : Type 0} (fault : ScriptFault) (read : Result Y ℕ) → Faults fault read → ((line : ℕ) → read ≡ Err line → 1 ≤ line) → IsOfText fault
faults_low Memory read e low = tt
faults_low (AtLine line) read e low = low line e
