-- The copies of the next frame, and the first open copy.
use Rattle.std.proofs.Common.{◌≡◌, ℕ, zero, suc, ◌+◌, ◌-◌, ◌^◌, ◌<◌, ◌≤◌, List, [], ◌∷◌, ◌++◌, map, length, take, drop}
use Rattle.std.proofs.Common.{Option, Some, None, slice_get, refl, sym, ap, ◌∙◌, arith, add-one}
use Rattle.std.proofs.lemmas.List.{drop_all}
use Rattle.std.proofs.lemmas.Option.{slice_get_within}
use Rattle.std.specs.Prelude.{option_map}
use Rattle.std.specs.Option.{SomeIff}
use Rattle.ring_base.specs.Elements.{elements-nobody}
use Rattle.ring_base.specs.Processors.{elements, nobody, only, less, smallest, IsProc, IsMember}
use Rattle.ring_base.proofs.Taking.{elements-taken}
use Rattle.ring_base.proofs.ListPlaces.{none-length}
use Rattle.ring_core_spec.specs.State.{Transmission, frame_at}
use Rattle.ring_node_spec.proofs.FirstMatch.{get-take}
use Rattle.ring_world.specs.declared.open_copies.OpenCopy.{OpenCopy}
use Rattle.ring_world.specs.declared.open_copies.OpenCopies.{OpenCopies}
use Rattle.ring_world.specs.OpenCopies.{copies_of_frame, copies_after, within_reach, all_copies, open_copies_from, IsReached, IsFirstCopyTaken}

-- ---- lists

drop_get : {X : Type 0} (xs : List X) (k : ℕ) (x : X) → slice_get xs k ≡ Some x → drop k xs ≡ x ∷ drop (suc k) xs
drop_get [] k x e = absurd cc
drop_get (y ∷ xs) zero x e = let same : y ≡ x = cc in ap (λ z. z ∷ xs) same
drop_get (y ∷ xs) (suc k) x e = drop_get xs k x e

take_le : {X : Type 0} (n : ℕ) (xs : List X) → length (take n xs) ≤ n
take_le zero xs = omega arith
take_le (suc n) [] = omega arith
take_le (suc n) (x ∷ xs) = let rest = take_le n xs in omega arith

take_less : {X : Type 0} (n : ℕ) (xs : List X) → length (take n xs) ≤ length xs
take_less zero xs = omega arith
take_less (suc n) [] = omega arith
take_less (suc n) (x ∷ xs) = let rest = take_less n xs in omega arith

-- ---- frames

none_of : (number sender open_receivers : ℕ) → open_receivers ≡ nobody → copies_of_frame number sender open_receivers ≡ []
none_of number sender open_receivers none = ap
    (λ s. map (λ (receiver : ℕ). record { frame = number; sender = sender; receiver = receiver }) (elements s)) none
    ∙ ap (λ xs. map (λ (receiver : ℕ). record { frame = number; sender = sender; receiver = receiver }) xs)
    elements-nobody

-- before the first frame is reached all copies are open
pub all_open : {A : Type 0} (p : OpenCopies) (frames : List (Transmission A)) → p ≡ record { reached_frame = 0; sender = 1; open_receivers = nobody }
    → open_copies_from p frames ≡ all_copies frames
all_open {A} p frames first =
    ap (λ (q : OpenCopies). open_copies_from q frames) first
    ∙ ap (λ ps. ps ++ copies_after 0 (within_reach frames)) (none_of 0 1 nobody refl)

module _ {A : Type 0} (p : OpenCopies) (frames : List (Transmission A)) where
  only_behind : p.open_receivers ≡ nobody → open_copies_from p frames ≡ copies_after p.reached_frame (drop p.reached_frame (within_reach frames))
  only_behind none = ap (λ ps. ps ++ copies_after p.reached_frame (drop p.reached_frame (within_reach frames))) (none_of p.reached_frame p.sender p.open_receivers none)

  nothing_behind : p.open_receivers ≡ nobody → length (within_reach frames) ≤ p.reached_frame → open_copies_from p frames ≡ []
  nothing_behind none all = only_behind none ∙ ap (λ fs. copies_after p.reached_frame fs) (drop_all p.reached_frame (within_reach frames) all)

  -- no frame has a greater number
  pub none_past : p.open_receivers ≡ nobody → 2 ^ 64 - 1 ≤ p.reached_frame → open_copies_from p frames ≡ []
  none_past none last = nothing_behind none (omega (arith, last, take_le (2 ^ 64 - 1) frames))

  -- the next frame was not sent
  pub no_sent_frames : p.open_receivers ≡ nobody → frame_at frames (suc p.reached_frame) ≡ None → open_copies_from p frames ≡ []
  no_sent_frames none lost = nothing_behind none (omega (arith, take_less (2 ^ 64 - 1) frames, none-length frames p.reached_frame lost))

  -- the next frame was sent
  pub next_sent : (q : OpenCopies) (f : Transmission A) → p.open_receivers ≡ nobody → p.reached_frame < 2 ^ 64 - 1 → frame_at frames (suc p.reached_frame)
      ≡ Some f → q ≡ record { reached_frame = suc p.reached_frame; sender = f.from; open_receivers = f.to }
      → (open_copies_from q frames ≡ open_copies_from p frames) × IsReached q frames
  next_sent q f none small sent is =
      let there = get-take (2 ^ 64 - 1) frames p.reached_frame f small sent in
      let inside = slice_get_within (within_reach frames) p.reached_frame f there in (
        ap (λ (x : OpenCopies). open_copies_from x frames) is ∙ sym (only_behind none ∙ ap (λ fs. copies_after p.reached_frame fs)
            (drop_get (within_reach frames) p.reached_frame f there)),
        omega (arith, inside, ap (λ (x : OpenCopies). x.reached_frame) is),
      )

  -- the first open copy is closed
  pub closes : (q : OpenCopies) (receiver alone : ℕ) → receiver ≡ smallest p.open_receivers → IsProc receiver
      × IsMember p.open_receivers receiver → alone ≡ only receiver → q ≡ record p { open_receivers = less p.open_receivers alone }
      → open_copies_from p frames ≡ record { frame = p.reached_frame; sender = p.sender; receiver = receiver } ∷ open_copies_from q frames
  closes q receiver alone least m one is =
      let taken = elements-taken p.open_receivers receiver alone (less p.open_receivers alone) least m one refl in
      ap (λ xs. map (λ (r : ℕ). record { frame = p.reached_frame; sender = p.sender; receiver = r }) xs
      ++ copies_after p.reached_frame (drop p.reached_frame (within_reach frames))) taken
      ∙ ap (λ (x : OpenCopies). record { frame = p.reached_frame; sender = p.sender; receiver = receiver } ∷ open_copies_from x frames) (sym is)

-- ---- the result of `frame`

pub is_not_sent : {A : Type 0} (o : Option (Transmission A)) (n m : ℕ) (frames : List (Transmission A)) → n ≡ suc m
    → frame_at frames n ≡ o → None ≡ option_map {U = ℕ × ℕ} (λ (f : Transmission A). (f.from, f.to)) o
    → frame_at frames (suc m) ≡ None
is_not_sent None n m frames is at e = ap (frame_at frames) (sym is) ∙ at
is_not_sent (Some f) n m frames is at e = absurd cc

pub is_sent : {A : Type 0} (o : Option (Transmission A)) (n m : ℕ) (frames : List (Transmission A)) (sent : ℕ × ℕ) → n ≡ suc m
    → frame_at frames n ≡ o → Some sent ≡ option_map {U = ℕ × ℕ} (λ (f : Transmission A). (f.from, f.to)) o
    → (f : Transmission A) × ((frame_at frames (suc m) ≡ Some f) × (sent.0 ≡ f.from) × (sent.1 ≡ f.to))
is_sent None n m frames sent is at e = absurd cc
is_sent (Some f) n m frames sent is at e = let same : sent ≡ (f.from, f.to) =
    cc in (f, (ap (frame_at frames) (sym is) ∙ at, ap (λ (p : ℕ × ℕ). p.0) same, ap (λ (p : ℕ × ℕ). p.1) same))

-- the world returns the frame of the next number
pub went_on : {A : Type 0} (p : OpenCopies) (frames : List (Transmission A)) (number sender receivers : ℕ) → p.open_receivers ≡ nobody
    → number ≡ p.reached_frame + 1 → p.reached_frame + 1 < 18446744073709551616
    → ◌≡◌ {A = Option (ℕ × ℕ)} (Some (sender, receivers)) (option_map {U = ℕ × ℕ} (λ (f : Transmission A). (f.from, f.to)) (frame_at frames number))
    → let q : OpenCopies = record { reached_frame = number; sender = sender; open_receivers = receivers } in (open_copies_from q frames ≡ open_copies_from p frames) × IsReached q frames
went_on p frames number sender receivers none is small told =
    let next : number ≡ suc p.reached_frame = is ∙ add-one p.reached_frame in
    let s = is_sent (frame_at frames number) number p.reached_frame frames (sender, receivers) next refl told in
    next_sent p frames (record { reached_frame = number; sender = sender; open_receivers = receivers }) s.0 none (omega (arith, small)) s.1.0
    (ap (λ (n : ℕ). record { reached_frame = n; sender = sender; open_receivers = receivers }) next
    ∙ (ap (λ (n : ℕ). record { reached_frame = suc p.reached_frame; sender = n; open_receivers = receivers }) s.1.1
    ∙ ap (λ (n : ℕ). record { reached_frame = suc p.reached_frame; sender = s.0.from; open_receivers = n }) s.1.2))

-- the world returns that there is none
pub ended : {A : Type 0} (p : OpenCopies) (frames : List (Transmission A)) (number : ℕ) → p.open_receivers ≡ nobody → number ≡ p.reached_frame + 1
    → ◌≡◌ {A = Option (ℕ × ℕ)} None (option_map {U = ℕ × ℕ} (λ (f : Transmission A). (f.from, f.to)) (frame_at frames number)) → open_copies_from p frames ≡ []
ended p frames number none is told =
    let next : number ≡ suc p.reached_frame = is ∙ add-one p.reached_frame in
    no_sent_frames p frames none (is_not_sent (frame_at frames number) number p.reached_frame frames next refl told)

-- the next number doesn't fit in a u64
pub no_next : (o : Option ℕ) (n : ℕ) → SomeIff o (n + 1 < 18446744073709551616) (n + 1) → o ≡ None → 2 ^ 64 - 1 ≤ n
no_next None n h e = omega (arith, h)
no_next (Some m) n h e = absurd cc

-- before the first frame nothing is reached
pub none_reached : {A : Type 0} (p : OpenCopies) (frames : List (Transmission A)) → p ≡ record { reached_frame = 0; sender = 1; open_receivers = nobody } → IsReached p frames
none_reached p frames first = omega (arith, ap (λ (q : OpenCopies). q.reached_frame) first)

-- the copy taken is the first
pub takes_first : (old : List OpenCopy) (taken : Option OpenCopy) (new : List OpenCopy) → IsFirstCopyTaken old taken new → taken ≡ slice_get old 0
takes_first old None new t = ap (λ (ps : List OpenCopy). slice_get ps 0) (sym t.0)
takes_first old (Some pair) new t = ap (λ (ps : List OpenCopy). slice_get ps 0) (sym t)
