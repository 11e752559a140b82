-- The picture of a run, column by column.
-- Formats: The command line
use Rattle.std.specs.Prelude.{ℕ, ◌+◌, nat_lt, if◌then◌else◌, List, [], ◌∷◌, ◌++◌, Option, Some, None, unwrap_or}
use Rattle.ring_base.specs.Group.{Group}
use Rattle.ring_trace_picture.specs.declared.mark.PictureMark.{PictureMark}
use Rattle.ring_trace_picture.specs.declared.mark.PlacedMark.{PlacedMark}

-- The view that contracts have of a picture: its nodes, the node with the only lane, if there is one, the number of its
-- columns, its marks, and the first event without a column.
pub record PictureModel : Type 0 where
  pub nodes : Group
  pub only : Option ℕ
  pub columns : ℕ
  pub placed : List PlacedMark
  pub rest : Option ℕ

-- The picture of nodes at their opening.
abbrev pub opening_picture : Group → Option ℕ → PictureModel
opening_picture nodes only = record { nodes = nodes; only = only; columns = 0; placed = []; rest = None }

-- Begins a column for an event, up to 2,000; the first event without a column is recorded.
abbrev pub column_begun : PictureModel → ℕ → PictureModel
column_begun s event =
    if nat_lt s.columns 2000 then record s { columns = s.columns + 1 }
    else record s { rest = Some (unwrap_or s.rest event) }

-- Adds a mark to the last column, unless an event has no column.
abbrev pub mark_added : PictureModel → PictureMark → PictureModel
mark_added s mark = elim s.rest [
  | None ↦ record s { placed = s.placed ++ record { column = s.columns; mark = mark } ∷ [] }
  | Some event ↦ s
]
