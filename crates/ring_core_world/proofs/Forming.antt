-- The opening of a formed ring, whose representative has visited the first token.
use Rattle.std.proofs.Common.{◌≡◌, ℕ, zero, suc, ◌+◌, ◌-◌, ◌≤◌, ◌<◌, false, List, [], ◌∷◌, ◌++◌, map, length, Option, Some, slice_get, refl}
use Rattle.std.proofs.Common.{ap, ◌∙◌, sym, subst, arith}
use Rattle.std.specs.Prelude.{◌==◌, not, filter_map}
use Rattle.std.proofs.lemmas.Bool.{cond_both, cond-false, ne_eqb}
use Rattle.std.proofs.lemmas.List.{append-nil, map-append, length-map}
use Rattle.ring_base.specs.Numbers.{numbers_from}
use Rattle.ring_base.specs.FilteredRanges.{length-numbers_from}
use Rattle.ring_base.specs.Processors.{nobody}
use Rattle.ring_base.proofs.ListPlaces.{numbers-append, get-numbers}
use Rattle.ring_payload.specs.declared.content.Payload.{Payload}
use Rattle.ring_core_spec.specs.Tokens.{first_token, numbered}
use Rattle.ring_core_spec.specs.declared.out.Out.{Out}
use Rattle.ring_core_spec.specs.declared.out.Out.TheVariants.{Send as SendOut}
use Rattle.ring_core_spec.specs.State.{Core, OutgoingFrame, formed_ring_of, formed}
use Rattle.ring_core_spec.specs.Giving.{sent}
use Rattle.ring_core_spec.specs.Visiting.{room_at, new_payloads, to_others, to_next, token_forwarded}
use Rattle.ring_core_proof.specs.Worlds.{with_core, transmission_by, transmissions_from, representative_started}
use Rattle.ring_core_proof.proofs.Lifting.{outs_carried}
use Rattle.ring_core_proof.proofs.RunLimits.{start_fits}
use Rattle.ring_payload.proofs.Packing.{packed_none}
use Rattle.ring_core_world.specs.Running.{WorldRun, empty_formed_run, world_of, opening_frames, IsWorld}

-- The first visit sends the token alone

one_addressed : {A : Type 0} (s : OutgoingFrame A) → length (sent (s ∷ [])) ≤ 1
one_addressed {A} s =
    let sends : List (OutgoingFrame A) → List (Out A) = map (λ (x : OutgoingFrame A). SendOut x.to x.frame) in
    cond_both (not (s.to == nobody)) (s ∷ []) [] (λ xs. length (sends xs) ≤ 1) (λ e. omega arith) (λ e. omega arith)

started_sends : {A : Type 0} (n : ℕ) →
    (representative_started {A = A} n).sends ≡ to_next {A = A} (formed n 1) (token_forwarded {A = A} (formed n 1) (first_token (formed_ring_of n).ring)) ∷ []
started_sends {A} n =
    let c : Core A = formed n 1 in
    let t = first_token (formed_ring_of n).ring in
    let none : new_payloads c t ≡ [] = packed_none (room_at c t) in
    ap (λ (ps : List (Payload A)). to_others c (numbered t.ring c.me t.seq ps) ++ to_next c (token_forwarded c t) ∷ []) none

pub started_one : {A : Type 0} (n : ℕ) (outs : List (Out A)) → outs ≡ sent (representative_started {A = A} n).sends → length outs ≤ 1
started_one {A} n outs e =
    let c : Core A = formed n 1 in
    subst (λ (xs : List (Out A)). length xs ≤ 1) (sym (e ∙ ap (λ (xs : List (OutgoingFrame A)). sent xs) (started_sends n)))
    (one_addressed (to_next c (token_forwarded c (first_token (formed_ring_of n).ring))))

first_frames : {A : Type 0} (n : ℕ) (outs : List (Out A)) (first : Option (OutgoingFrame A)) → outs ≡ sent (representative_started {A = A} n).sends →
    opening_frames first ≡ filter_map (transmission_by 1) outs →
    transmissions_from {A = A} 1 (representative_started n).sends ≡ opening_frames first ++ []
first_frames {A} n outs first e f =
    let sends = (representative_started {A = A} n).sends in
    sym (outs_carried 1 sends [] tt) ∙ ap (filter_map (transmission_by 1)) (append-nil (sent sends) ∙ sym e) ∙ sym f ∙ sym (append-nil (opening_frames first))

-- the last of at most one is the only one
from_one : {X : Type 0} (rest : List X) (x : X) → length (rest ++ x ∷ []) ≤ 1 → rest ≡ []
from_one [] x l = refl
from_one (y ∷ []) x l = absurd (omega (arith, l))
from_one (y ∷ z ∷ rest) x l = absurd (omega (arith, l))

pub last_alone : {X : Type 0} (xs rest : List X) (x : X) → xs ≡ rest ++ x ∷ [] → length xs ≤ 1 → xs ≡ x ∷ []
last_alone {X} xs rest x e l = e ∙ ap (λ ys. ys ++ x ∷ []) (from_one rest x (subst (λ (ys : List X). length ys ≤ 1) e l))

pub met : (k n : ℕ) → k ≤ n → n ≤ k → k ≡ n
met k n below above = omega (arith, below, above)

-- One more processor is in the ring

pub joined_more : {X : Type 0} (f : ℕ → X) (first : X) (xs ys : List X) (k : ℕ) (x : X) (me : ℕ) → 1 ≤ k → xs ≡ first ∷ map f (numbers_from 2 (k - 1)) →
    ys ≡ xs ++ x ∷ [] →
    x ≡ f me → me ≡ k + 1 → ys ≡ first ∷ map f (numbers_from 2 (k + 1 - 1))
joined_more f first xs ys k x me low a b c d =
    let last : me ≡ 2 + (k - 1) = omega (arith, d, low) in
    let count : k - 1 + 1 ≡ k + 1 - 1 = omega (arith, low) in
    b ∙ ap (λ zs. zs ++ x ∷ []) a
    ∙ ap (λ zs. first ∷ zs) (ap (λ y. map f (numbers_from 2 (k - 1)) ++ y ∷ []) (c ∙ ap f last)
    ∙ sym (map-append f (numbers_from 2 (k - 1)) ((2 + (k - 1)) ∷ [])) ∙ ap (map f) (numbers-append 2 (k - 1) 1) ∙ ap (λ m. map f (numbers_from 2 m)) count)

-- The code's fields at the opening are those of its world

core_at : {A : Type 0} (n i : ℕ) (c : Core A) → i < n → slice_get (c ∷ map (formed n) (numbers_from 2 (n - 1))) i ≡ Some (with_core (formed n) 1 c (suc i))
core_at n zero c l = refl
core_at {A} n (suc i) c l =
    let f : ℕ → Core A = formed n in
    let two : 2 + i ≡ suc (suc i) = omega arith in
    let other : (suc (suc i) == 1) ≡ false = ne_eqb (suc (suc i)) 1 (λ e. omega (arith, e)) in
    get-numbers f 2 (n - 1) i (omega (arith, l)) ∙ ap (λ k. Some (f k)) two
    ∙ ap (λ (d : Core A). Some d) (sym (cond-false (suc (suc i) == 1) c (f (suc (suc i))) other))

stands_at : {A : Type 0} (n : ℕ) (first : Option (OutgoingFrame A)) → 1 ≤ n → n ≤ 16 → transmissions_from {A = A} 1 (representative_started n).sends ≡ opening_frames first ++ [] →
    IsWorld {A = A} (world_of (empty_formed_run n)) ((representative_started n).core ∷ map (formed n) (numbers_from 2 (n - 1))) first [] []
stands_at {A} n first low most frames =
    let f : ℕ → Core A = formed n in
    let count : suc (n - 1) ≡ n = omega (arith, low) in
    record {
      cores_are = λ i l. core_at n i (representative_started n).core l;
      many = ap suc (length-map (numbers_from 2 (n - 1)) f ∙ length-numbers_from 2 (n - 1)) ∙ count;
      outs_are = refl;
      frames_are = frames;
      places_are = refl;
      fits = start_fits n low most;
    }

pub stands : {A : Type 0} (n : ℕ) (r : WorldRun A) (cores : List (Core A)) (core : Core A) (sent_outs : List (Out A)) (first : Option (OutgoingFrame A))
    (outs : List (ℕ × Out A)) (places : List ℕ) →
    1 ≤ n → n ≤ 16 → r ≡ empty_formed_run n → cores ≡ core ∷ map (formed n) (numbers_from 2 (n - 1)) → core ≡ (representative_started n).core →
    sent_outs ≡ sent (representative_started {A = A} n).sends →
    opening_frames first ≡ filter_map (transmission_by 1) sent_outs → outs ≡ [] → places ≡ [] → IsWorld (world_of r) cores first outs places
stands {A} n r cores core sent_outs first outs places low most a b c s f o p =
    rw (a, b, c, o, p) (stands_at n first low most (first_frames n sent_outs first s f))
