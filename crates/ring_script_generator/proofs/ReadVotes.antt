-- The nodes of a script have as many votes as their number.
use Rattle.std.proofs.Common.{◌≡◌, inl, inr, ℕ, ◌+◌, List, [], ◌∷◌, length, take, Option, Some, None, Result, Ok, Err, refl, ap, sym, ◌∙◌, arith}
use Rattle.std.specs.Prelude.{◌&&◌, IfSome, IfOk}
use Rattle.std.proofs.lemmas.Bool.{cases_Bool}
use Rattle.std.proofs.lemmas.List.{length-replicate, take-append-le, take_all}
use Rattle.std.proofs.lemmas.Result.{IfOk-at_ok}
use Rattle.ring_base.specs.Group.{Group, padded_votes}
use Rattle.ring_base.proofs.TwoEqual.{ap-both}
use Rattle.ring_script.specs.Lines.{LineRequest}
use Rattle.ring_script.specs.Numbers.{word_at}
use Rattle.ring_script.specs.Operations.{OperationForm}
use Rattle.ring_script.specs.Scripts.{Schedule, parse_node_words, unless_skipped, requests_in, with_nodes, with_votes, then_nodes, nodes_in, schedule_of, script_by}
use Rattle.ring_script.specs.Votes.{votes_at, votes_of, is_votes, then_votes, votes_in}
use Rattle.ring_script.specs.Words.{LinesLeft, words_of, whole, are_ascii, is_skipped, lines_of}
use Rattle.ring_base.proofs.Cases.{and_then_some}
use Rattle.ring_script.proofs.Voting.{votes_are}

-- As many votes as nodes.
abbrev Whole : Group → Type 0
Whole nodes = length nodes.votes ≡ nodes.count

-- The parsed value, if no word is left.
whole_is : {X : Type 0} (read : X × List (List ℕ)) (x : X) → whole read ≡ Some x → read.0 ≡ x
whole_is read x e = grind arith

-- ---- one line.

alike_whole : (line : List ℕ) → IfSome (parse_node_words line) Whole
unfolding parse_node_words
alike_whole line = grind (arith, length-replicate {A = ℕ})

voted_is : (nodes : Group) (line : List ℕ) (voted : Group) → votes_of nodes line ≡ Some voted → Whole voted
unfolding votes_of
voted_is nodes line voted e =
    let (word, at, next) = and_then_some _ (word_at (words_of line)) voted e in
    let (read, told, made) = and_then_some _ (votes_at nodes.count word.1) voted next in
    let (votes, ended, is) = and_then_some _ (whole read) voted made in
    let are = votes_are nodes.count word.1 read told in
    let same : read.0 ≡ votes = whole_is read votes ended in
    let count : nodes.count ≡ voted.count = cc in
    let those : votes ≡ voted.votes = cc in
    ap length (sym (same ∙ those)) ∙ (are.0 ∙ count)

voted_whole : (nodes : Group) (line : List ℕ) → IfSome (votes_of nodes line) Whole
voted_whole nodes line = at_some (votes_of nodes line) refl
  where
    at_some : (o : Option Group) → votes_of nodes line ≡ o → IfSome o Whole
    at_some None e = tt
    at_some (Some voted) e = voted_is nodes line voted e

-- ---- all lines.

then_voted : (number : ℕ) (voted : Option Group) (lines : List (List ℕ)) → IfSome voted Whole → IfOk (then_votes number voted lines) (λ read. Whole read.0)
then_voted number None lines whole = tt
then_voted number (Some voted) lines whole = whole

votes_whole : (nodes : Group) (before : ℕ) (lines : List (List ℕ)) → Whole nodes → IfOk (votes_in nodes before lines) (λ read. Whole read.0)
unfolding votes_in
votes_whole nodes before [] whole = whole
votes_whole nodes before (line ∷ lines) whole =
    elim (cases_Bool (is_votes line)) [
      | inl is ↦ rw is (then_voted (before + 1) (votes_of nodes line) lines (voted_whole nodes line))
      | inr other ↦
          elim (cases_Bool (are_ascii line && is_skipped line)) [
            | inl skipped ↦ rw (other, skipped) (votes_whole nodes (before + 1) lines whole)
            | inr kept ↦ rw (other, kept) whole
          ]
    ]

told_whole : (line : List ℕ) → IfSome (unless_skipped parse_node_words line) (λ told. IfSome told Whole)
told_whole line = grind (arith, alike_whole line)

then_whole : (number : ℕ) (told : Option (Option Group)) (lines : List (List ℕ)) (others : Result (Group × LinesLeft) ℕ)
    → IfSome told (λ nodes. IfSome nodes Whole) → IfOk others (λ read. Whole read.0) → IfOk (then_nodes number told lines others) (λ read. Whole read.0)
then_whole number None lines others first later = tt
then_whole number (Some None) lines others first later = later
then_whole number (Some (Some nodes)) lines others first later = first

nodes_whole : (before : ℕ) (lines : List (List ℕ)) → IfOk (nodes_in before lines) (λ read. Whole read.0)
unfolding nodes_in
nodes_whole before [] = tt
nodes_whole before (line ∷ lines) =
    then_whole (before + 1) (unless_skipped parse_node_words line) lines (nodes_in (before + 1) lines) (told_whole line) (nodes_whole (before + 1) lines)

-- ---- a script.

asked_whole : (nodes : Group) (asked : Result (List (ℕ × LineRequest)) ℕ) → Whole nodes → IfOk (with_nodes nodes asked) (λ schedule. Whole schedule.nodes)
asked_whole nodes (Ok asked) whole = whole
asked_whole nodes (Err line) whole = tt

with_whole : (forms : List OperationForm) (voted : Result (Group × LinesLeft) ℕ) → IfOk voted (λ read. Whole read.0)
    → IfOk (with_votes forms voted) (λ schedule. Whole schedule.nodes)
with_whole forms (Ok voted) whole = asked_whole voted.0 (requests_in forms voted.0 voted.1.before voted.1.lines) whole
with_whole forms (Err line) whole = tt

schedule_whole : (forms : List OperationForm) (first : Result (Group × LinesLeft) ℕ) → IfOk first (λ read. Whole read.0)
    → IfOk (schedule_of forms first) (λ schedule. Whole schedule.nodes)
schedule_whole forms (Ok first) whole =
    with_whole forms (votes_in first.0 first.1.before first.1.lines) (votes_whole first.0 first.1.before first.1.lines whole)
schedule_whole forms (Err line) whole = tt

text_whole : (forms : List OperationForm) (text : List ℕ) → IfOk (script_by forms text) (λ schedule. Whole schedule.nodes)
unfolding script_by
text_whole forms text = schedule_whole forms (nodes_in 0 (lines_of text)) (nodes_whole 0 (lines_of text))

-- The nodes of a parsed script.
pub script_whole : (forms : List OperationForm) (text : List ℕ) (schedule : Schedule) → script_by forms text ≡ Ok schedule
    → length schedule.nodes.votes ≡ schedule.nodes.count
script_whole forms text schedule read = IfOk-at_ok (λ (s : Schedule). Whole s.nodes) read (text_whole forms text)

-- ---- the same nodes.

-- Of places that are filled, the votes are the first.
front_is : (n : ℕ) (votes : List ℕ) → length votes ≡ n → take n (padded_votes votes) ≡ votes
front_is n votes long = take-append-le n votes _ (omega (arith, long)) ∙ take_all n votes (omega (arith, long))

-- As many nodes, with the same votes.
pub same_nodes : (one other : Group) → length one.votes ≡ one.count → other.count ≡ length other.votes → one.count ≡ other.count
    → padded_votes one.votes ≡ padded_votes other.votes → one ≡ record { count = length other.votes; votes = other.votes }
same_nodes one other whole long count same =
    let group : ℕ → List ℕ → Group = λ n votes. record { count = n; votes = votes } in
    let votes : one.votes ≡ other.votes =
    sym (front_is one.count one.votes whole) ∙ (ap (take one.count) same ∙ front_is one.count other.votes (sym (count ∙ long))) in
    ap-both group (count ∙ long) votes
