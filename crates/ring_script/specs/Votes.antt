-- The votes of the nodes, one number per processor, and the line `votes V1 .. VN` that gives them. It may come only
-- directly after the line of the nodes, among the lines that are not skipped.
-- Formats: Scripts
use Rattle.std.specs.Prelude.{ℕ, zero, suc, ◌+◌, Bool, false, ◌&&◌, if◌then◌else◌, List, [], ◌∷◌, codes, replicate, Option, Some, None, Result, Ok, Err}
use Rattle.ring_base.specs.Group.{Group}
use Rattle.ring_script.specs.Numbers.{is, word_at, number_at}
use Rattle.ring_script.specs.Reading.{◌>>=◌}
use Rattle.ring_script.specs.Words.{LinesLeft, words_of, whole, are_ascii, is_skipped}

-- The group of this number of nodes, each with one vote.
abbrev pub nodes_with_one_vote : ℕ → Group
nodes_with_one_vote count = record { count = count; votes = replicate count 1 }

-- The votes, `count` numbers from 1 to 255 each, and the words after them.
unfoldable pub votes_at : ℕ → List (List ℕ) → Option (List ℕ × List (List ℕ))
votes_at zero words = Some ([], words)
votes_at (suc count) words = do
  vote ← number_at 1 255 words
  others ← votes_at count vote.1
  Some (vote.0 ∷ others.0, others.1)

-- The nodes with the votes that the words after the line's first denote.
unfoldable pub votes_of : Group → List ℕ → Option Group
votes_of nodes line = do
  word ← word_at (words_of line)
  read ← votes_at nodes.count word.1
  votes ← whole read
  Some (record { count = nodes.count; votes = votes })

-- Whether the first word is this name.
abbrev pub begin_with : List ℕ → List (List ℕ) → Bool
begin_with name [] = false
begin_with name (word ∷ words) = is name word

-- Whether this is a line of votes.
abbrev pub is_votes : List ℕ → Bool
is_votes line = begin_with (codes "votes") (words_of line)

-- The result of a line of votes: the number of a fault, or the nodes with their votes and the lines after it.
abbrev pub then_votes : ℕ → Option Group → List (List ℕ) → Result (Group × LinesLeft) ℕ
then_votes number None lines = Err number
then_votes number (Some nodes) lines = Ok (nodes, record { before = number; lines = lines })

-- The nodes with the votes of the first effective line, if that is a line of votes, and the remaining lines.
unfoldable pub votes_in : Group → ℕ → List (List ℕ) → Result (Group × LinesLeft) ℕ
votes_in nodes before [] = Ok (nodes, record { before = before; lines = [] })
votes_in nodes before (line ∷ lines) =
    if is_votes line then then_votes (before + 1) (votes_of nodes line) lines
    else if are_ascii line && is_skipped line then votes_in nodes (before + 1) lines
    else Ok (nodes, record { before = before; lines = line ∷ lines })
