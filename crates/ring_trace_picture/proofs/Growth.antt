-- Texts appended one after another.
use Rattle.std.proofs.Common.{◌≡◌, ℕ, List, [], ◌++◌, Option, Result, Ok, Err, OnOk, subst, append_assoc}
use Rattle.std.specs.Io.KnownBytes.{Appends}
use Rattle.std.proofs.KnownBytes.{Appends-trans, Appends-nil}
use Rattle.ring_trace_picture.specs.PictureModels.{PictureModel}
use Rattle.ring_trace_picture.specs.PictureTexts.{IsGrown, IsOpened, HasPicture, lanes_of, picture_width, picture_height, opening_line, closing_line}

-- Nothing was appended.
pub grown_by_nothing : (old : Option (List ℕ)) → IsGrown old old
grown_by_nothing old = ([], Appends-nil old)

module _ (old mid new : Option (List ℕ)) where
  pub grown_more : IsGrown old mid → IsGrown mid new → IsGrown old new
  grown_more a b = (a.0 ++ b.0, Appends-trans old mid new a.0 b.0 a.1 b.1)

  module _ {T E : Type 0} where
    -- A second text was appended unless there was an error.
    pub grown_at_ok : (r : Result T E) → IsGrown old mid → OnOk r (IsGrown mid new) → OnOk r (IsGrown old new)
    grown_at_ok (Ok x) a b = grown_more a b
    grown_at_ok (Err e) a b = tt

    -- The same where the second text is known.
    pub grown_by_at_ok : (r : Result T E) (text : List ℕ) → IsGrown old mid → OnOk r (Appends mid new text) → OnOk r (IsGrown old new)
    grown_by_at_ok (Ok x) text a b = grown_more a (text, b)
    grown_by_at_ok (Err e) text a b = tt

    -- The line that opens a picture was appended, and then some text unless there was an error.
    pub opened_at_ok : (r : Result T E) (width height : ℕ) → Appends old mid (opening_line width height) → OnOk r (IsGrown mid new)
        → OnOk r (IsOpened width height old new)
    opened_at_ok (Ok x) width height a b = record { after = b.0; appended = Appends-trans old mid new (opening_line width height) b.0 a b.1 }
    opened_at_ok (Err e) width height a b = tt

    -- A picture was opened, and closed unless there was an error.
    pub picture_at_ok : (r : Result T E) (s : PictureModel) (width height : ℕ) → width ≡ picture_width
        → height ≡ picture_height (lanes_of s) s.columns → IsOpened width height old mid → OnOk r (Appends mid new closing_line)
        → OnOk r (HasPicture s old new)
    picture_at_ok (Ok x) s width height wide high a b = record {
      shapes = a.after;
      appended = subst (λ (w : ℕ). Appends old new (opening_line w (picture_height (lanes_of s) s.columns) ++ (a.after ++ closing_line))) wide
          (subst (λ (h : ℕ). Appends old new (opening_line width h ++ (a.after ++ closing_line))) high
          (subst (λ (text : List ℕ). Appends old new text) (append_assoc (opening_line width height) a.after closing_line)
          (Appends-trans old mid new (opening_line width height ++ a.after) closing_line a.appended b)));
    }
    picture_at_ok (Err e) s width height wide high a b = tt

-- A picture was opened, and some text was appended after it.
pub opened_more : (old mid new : Option (List ℕ)) (width height : ℕ) → IsOpened width height old mid → IsGrown mid new
    → IsOpened width height old new
opened_more old mid new width height a b = record {
  after = a.after ++ b.0;
  appended = subst (λ (text : List ℕ). Appends old new text) (append_assoc (opening_line width height) a.after b.0)
      (Appends-trans old mid new (opening_line width height ++ a.after) b.0 a.appended b.1);
}
