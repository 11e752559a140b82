-- The places of the frames among the outputs, and the frame at each of them.
use Rattle.std.proofs.Common.{◌≡◌, ℕ, zero, suc, ◌+◌, ◌-◌, ◌<◌, ◌≤◌, if◌then◌else◌, List, [], ◌∷◌, ◌++◌, map, length}
use Rattle.std.proofs.Common.{Option, Some, None, slice_get, refl, ap, ◌∙◌, sym, arith}
use Rattle.std.specs.Prelude.{filter_map}
use Rattle.std.specs.List.{cons_option}
use Rattle.ring_base.specs.Processors.{has}
use Rattle.ring_core_spec.specs.declared.out.Out.{Out}
use Rattle.ring_core_spec.specs.declared.out.Out.TheVariants.{Send as SendOut, Agreed, Safe, Trans, Rest, Regular}
use Rattle.ring_core_spec.specs.State.{Transmission, OutgoingFrame, frame_at, frame_for}
use Rattle.ring_core_proof.specs.Worlds.{transmission_by}
use Rattle.ring_core_world.specs.Running.{transmission_of, frames_of, frame_in, frame_in_output, opening_frames, places_of, places_with, places_from}

-- the frames among the outputs of one processor
pub frames_by : {A : Type 0} (i : ℕ) (outs : List (Out A)) → frames_of (map (λ o. (i, o)) outs) ≡ filter_map (transmission_by i) outs
frames_by i [] = refl
frames_by i (o ∷ outs) = ap (cons_option (transmission_by i o)) (frames_by i outs)

-- One more output comes last

with_more : {A : Type 0} (at n : ℕ) (o p : Option (Transmission A)) (places : List ℕ) →
    places_with at o (places ++ places_with n p []) ≡ places_with at o places ++ places_with n p []
with_more at n None p places = refl
with_more at n (Some f) p places = refl

pub places_push : {A : Type 0} (at : ℕ) (outs : List (ℕ × Out A)) (x : ℕ × Out A) →
    places_from at (outs ++ x ∷ []) ≡ places_from at outs ++ places_with (at + length outs) (transmission_of x) []
places_push at [] x = ap (λ n. places_with n (transmission_of x) []) (let e : at ≡ at + 0 = omega arith in e)
places_push {A} at (y ∷ outs) x =
    let n : suc at + length outs ≡ at + suc (length outs) = omega arith in
    ap (places_with at (transmission_of y)) (places_push (suc at) outs x ∙ ap (λ m. places_from (suc at) outs ++ places_with m (transmission_of x) []) n)
    ∙ with_more at (at + suc (length outs)) (transmission_of y) (transmission_of x) (places_from (suc at) outs)

placed : {A : Type 0} (i n : ℕ) (o : Out A) → places_with n (transmission_of (i, o)) [] ≡ places_of n o
placed i n (SendOut to frame) = refl
placed i n (Agreed ring m x) = refl
placed i n (Safe ring upto) = refl
placed i n (Trans old new set) = refl
placed i n (Rest ring m x) = refl
placed i n (Regular ring set) = refl

-- so the places stay those of the outputs
pub noted : {A : Type 0} (i n : ℕ) (o : Out A) (places places' : List ℕ) (outs outs' : List (ℕ × Out A)) → places ≡ places_from 0 outs → n ≡ length outs →
    places' ≡ places ++ places_of n o → outs' ≡ outs ++ (i, o) ∷ [] → places' ≡ places_from 0 outs'
noted i n o places places' outs outs' a l b c =
    let m : n ≡ 0 + length outs = omega (arith, l) in
    let p : places_of n o ≡ places_with (0 + length outs) (transmission_of (i, o)) [] = sym (placed i n o) ∙ ap (λ k. places_with k (transmission_of (i, o)) []) m in
    b ∙ ap (λ ps. ps ++ places_of n o) a ∙ ap (λ ps. places_from 0 outs ++ ps) p ∙ sym (places_push 0 outs (i, o)) ∙ ap (places_from 0) (sym c)

pub framed : {A : Type 0} (i j : ℕ) (o : Out A) → frame_in i o ≡ frame_for i (transmission_of (j, o))
framed i j (SendOut to frame) = refl
framed i j (Agreed ring m x) = refl
framed i j (Safe ring upto) = refl
framed i j (Trans old new set) = refl
framed i j (Rest ring m x) = refl
framed i j (Regular ring set) = refl

-- Each frame is at its place

-- the output at a frame's place
pub record StandsThere {A : Type 0} (at : ℕ) (outs : List (ℕ × Out A)) (place : ℕ) (frame : Option (Transmission A)) : Type 0 where
  pub far : at ≤ place
  pub given : ℕ × Out A
  pub there : (j : ℕ) → place ≡ at + j → slice_get outs j ≡ Some given
  pub carries : transmission_of given ≡ frame

later_there : {A : Type 0} (at : ℕ) (x : ℕ × Out A) (outs : List (ℕ × Out A)) (place : ℕ) (given : ℕ × Out A) → suc at ≤ place →
    ((j : ℕ) → place ≡ suc at + j → slice_get outs j ≡ Some given) → (j : ℕ) → place ≡ at + j → slice_get (x ∷ outs) j ≡ Some given
later_there at x outs place given far f zero e = absurd (omega (arith, far, e))
later_there at x outs place given far f (suc j) e = f j (omega (arith, e))

later : {A : Type 0} (at : ℕ) (x : ℕ × Out A) (outs : List (ℕ × Out A)) (place : ℕ) (frame : Option (Transmission A)) → StandsThere (suc at) outs place frame →
    StandsThere at (x ∷ outs) place frame
later at x outs place frame s =
    record {
      far = omega (arith, s.far);
      given = s.given;
      there = λ j e. later_there at x outs place s.given s.far s.there j e;
      carries = s.carries;
    }

first_there : {A : Type 0} (at : ℕ) (x : ℕ × Out A) (outs : List (ℕ × Out A)) (place j : ℕ) → at ≡ place → place ≡ at + j → slice_get (x ∷ outs) j ≡ Some x
first_there at x outs place zero e h = refl
first_there at x outs place (suc j) e h = absurd (omega (arith, e, h))

found_at : {A : Type 0} (at : ℕ) (x : ℕ × Out A) (o : Option (Transmission A)) (outs : List (ℕ × Out A)) (places : List ℕ) (frames : List (Transmission A)) →
    transmission_of x ≡ o →
    ((k place : ℕ) → slice_get places k ≡ Some place → StandsThere (suc at) outs place (slice_get frames k)) →
    (k place : ℕ) → slice_get (places_with at o places) k ≡ Some place → StandsThere at (x ∷ outs) place (slice_get (cons_option o frames) k)
found_at at x None outs places frames c f k place e = later at x outs place (slice_get frames k) (f k place e)
found_at at x (Some g) outs places frames c f zero place e =
    let same : at ≡ place = cc e in
    record { far = omega (arith, same); given = x; there = λ j h. first_there at x outs place j same h; carries = c }
found_at at x (Some g) outs places frames c f (suc k) place e = later at x outs place (slice_get frames k) (f k place e)

stands_from : {A : Type 0} (at : ℕ) (outs : List (ℕ × Out A)) (k place : ℕ) → slice_get (places_from at outs) k ≡ Some place →
    StandsThere at outs place (slice_get (frames_of outs) k)
stands_from at [] k place e = absurd (cc e)
stands_from at (x ∷ outs) k place e =
    found_at at x (transmission_of x) outs (places_from (suc at) outs) (frames_of outs) refl (stands_from (suc at) outs) k place e

-- a frame that has no place was not sent
missing_at : {A : Type 0} (at : ℕ) (o : Option (Transmission A)) (places : List ℕ) (frames : List (Transmission A)) →
    ((k : ℕ) → slice_get places k ≡ None → slice_get frames k ≡ None) →
    (k : ℕ) → slice_get (places_with at o places) k ≡ None → slice_get (cons_option o frames) k ≡ None
missing_at at None places frames f k e = f k e
missing_at at (Some g) places frames f zero e = absurd (cc e)
missing_at at (Some g) places frames f (suc k) e = f k e

pub missing_from : {A : Type 0} (at : ℕ) (outs : List (ℕ × Out A)) (k : ℕ) → slice_get (places_from at outs) k ≡ None → slice_get (frames_of outs) k ≡ None
missing_from at [] k e = refl
missing_from at (x ∷ outs) k e = missing_at at (transmission_of x) (places_from (suc at) outs) (frames_of outs) (missing_from (suc at) outs) k e

-- the output at the place of frame k is that frame
pub given_at : {A : Type 0} (i : ℕ) (outs : List (ℕ × Out A)) (k place : ℕ) → slice_get (places_from 0 outs) k ≡ Some place →
    frame_in_output i (slice_get outs place) ≡ frame_for i (slice_get (frames_of outs) k)
given_at i outs k place e =
    let s = stands_from 0 outs k place e in
    ap (frame_in_output i) (s.there place (omega arith)) ∙ framed i s.given.0 s.given.1 ∙ ap (frame_for i) s.carries

-- Frames are numbered from 1

pub none_at : {A : Type 0} (i : ℕ) (frames : List (Transmission A)) (n : ℕ) → n < 1 → frame_for i (frame_at frames n) ≡ None
none_at i frames zero l = refl
none_at i frames (suc n) l = absurd (omega (arith, l))

pub index_at : {A : Type 0} (frames : List (Transmission A)) (n : ℕ) → 1 ≤ n → frame_at frames n ≡ slice_get frames (n - 1)
index_at frames zero l = absurd (omega (arith, l))
index_at frames (suc n) l = ap (slice_get frames) (let e : n ≡ suc n - 1 = omega arith in e)

pub first_at : {A : Type 0} (i : ℕ) (s : OutgoingFrame A) (frames : List (Transmission A)) (n : ℕ) → 1 ≤ n → n < 2 →
    (if has s.to i then Some s.frame else None) ≡ frame_for i (frame_at (opening_frames (Some s) ++ frames) n)
first_at i s frames zero l h = absurd (omega (arith, l))
first_at i s frames (suc zero) l h = refl
first_at i s frames (suc (suc n)) l h = absurd (omega (arith, h))

pub later_at : {A : Type 0} (s : OutgoingFrame A) (frames : List (Transmission A)) (n : ℕ) → 2 ≤ n → frame_at (opening_frames (Some s) ++ frames) n ≡ slice_get frames (n - 2)
later_at s frames zero l = absurd (omega (arith, l))
later_at s frames (suc zero) l = absurd (omega (arith, l))
later_at s frames (suc (suc n)) l = ap (slice_get frames) (let e : n ≡ suc (suc n) - 2 = omega arith in e)

-- The result of an index into a slice
