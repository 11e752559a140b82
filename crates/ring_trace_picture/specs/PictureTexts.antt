-- The text of a picture.
-- Formats: The command line
use Rattle.std.specs.Prelude.{ℕ, ◌+◌, ◌*◌, ◌/◌, List, ◌++◌, Option, Some, None, codes}
use Rattle.std.specs.Fmt.{decimal}
use Rattle.std.specs.Io.KnownBytes.{Appends}
use Rattle.ring_failure.specs.Texts.{line_of}
use Rattle.ring_trace_picture.specs.PictureModels.{PictureModel}

-- Some text was appended.
abbrev pub IsGrown : Option (List ℕ) → Option (List ℕ) → Type 0
IsGrown old new = (text : List ℕ) × Appends old new text

-- The width of a picture, in points.
abbrev pub picture_width : ℕ
picture_width = 1200

-- The number of lanes: one for each node, or a single one.
abbrev pub lanes_of : PictureModel → ℕ
lanes_of s = elim s.only [
  | None ↦ s.nodes.count
  | Some node ↦ 1
]

-- The height of a picture with this number of lanes, and of columns after column 0, in points: of bands with at most 66
-- columns each, and of the legend.
abbrev pub picture_height : ℕ → ℕ → ℕ
picture_height lanes columns = (56 * lanes + 74) * (columns / 66 + 1) + 92

-- The line that opens a picture of this size, in points.
abbrev pub opening_line : ℕ → ℕ → List ℕ
opening_line width height =
    codes "<svg xmlns=\"http://www.w3.org/2000/svg\" viewBox=\"0 0 " ++ (decimal width ++ (codes " " ++ (decimal height
    ++ (codes "\" width=\"" ++ (decimal width ++ (codes "pt\" height=\"" ++ (decimal height
    ++ line_of (codes "pt\" font-family=\"sans-serif\" font-size=\"10\">"))))))))

-- The line that closes a picture, a band, or a part of one.
abbrev pub closing_line : List ℕ
closing_line = line_of (codes "</svg>")

-- The line that opens a picture of this size was appended, and some text after it.
pub record IsOpened (width height : ℕ) (old new : Option (List ℕ)) : Type 0 where
  pub after : List ℕ
  pub appended : Appends old new (opening_line width height ++ after)

-- A picture was appended: an element `svg`, from the line that opens it to the line that closes it, with its shapes
-- between.
pub record HasPicture (s : PictureModel) (old new : Option (List ℕ)) : Type 0 where
  pub shapes : List ℕ
  pub appended : Appends old new (opening_line picture_width (picture_height (lanes_of s) s.columns) ++ (shapes ++ closing_line))
