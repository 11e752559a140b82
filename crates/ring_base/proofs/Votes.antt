-- The code's computations on votes: one vote each, and the votes of members and of others, place by place.
use Rattle.std.proofs.Common.{◌≡◌, ℕ, zero, suc, ◌+◌, ◌-◌, ◌≤◌, Bool, true, false, not, List, [], ◌∷◌, ◌++◌, length}
use Rattle.std.proofs.Common.{take, replicate, Ok, Err, Result, slice_index, arith, inl, inr, refl, ap, sym, ◌∙◌, subst}
use Rattle.std.specs.Prelude.{◌↔◌, OkIff, nat_lt, ◌*◌}
use Rattle.std.specs.Cmp.{both_ways}
use Rattle.std.specs.List.{sum, sum_by}
use Rattle.std.proofs.lemmas.Bool.{cases_Bool, lt-ltb, ltb-true}
use Rattle.std.proofs.lemmas.List.{take_all, length-replicate}
use Rattle.std.proofs.lemmas.List.Elements.{All-replicate}
use Rattle.std.proofs.lemmas.List.Sums.{sum_by-cons}
use Rattle.ring_base.specs.Numbers.{numbers_from}
use Rattle.ring_base.specs.Processors.{IsProc, max_processors, has, elements}
use Rattle.ring_base.specs.FilteredRanges.{filtered_range}
use Rattle.ring_base.specs.Primaries.{weight_more, weight_same, votes_front}
use Rattle.ring_base.proofs.ListPlaces.{zero_at}
use Rattle.ring_base.specs.Group.{Group, AreVotes, votes_of, votes_in, IsPaddedVotes}

suc_last : (n : ℕ) → suc n + 1 ≡ suc (n + 1)
suc_last n = omega arith

-- a range with one number more at its end
pub weight_last : (w : ℕ → ℕ) (p : ℕ → Bool) (first n : ℕ) → p (first + n) ≡ true → sum_by w (filtered_range p first (n + 1))
    ≡ sum_by w (filtered_range p first n) + w (first + n)
weight_last w p first zero pass =
    let e : first + 0 ≡ first = omega arith in
    omega (arith, weight_more w p first 0 (rw e at pass), ap w e)
weight_last w p first (suc n) pass =
    let e : suc first + n ≡ first + suc n = omega arith in
    let rest = weight_last w p (suc first) n (rw e pass) in
    let same = ap w e in
    let longer_list = ap (λ (m : ℕ). sum_by w (filtered_range p first m)) (suc_last n) in
    elim (cases_Bool (p first)) [
      | inl here ↦ omega (arith, weight_more w p first (n + 1) here, weight_more w p first n here, rest, same, longer_list)
      | inr none ↦ omega (arith, weight_same w p first (n + 1) none, weight_same w p first n none, rest, same, longer_list)
    ]

pub weight_kept : (w : ℕ → ℕ) (p : ℕ → Bool) (first n : ℕ) → p (first + n) ≡ false → sum_by w (filtered_range p first (n + 1)) ≡ sum_by w (filtered_range p first n)
weight_kept w p first zero fail =
    let e : first + 0 ≡ first = omega arith in
    weight_same w p first 0 (rw e at fail)
weight_kept w p first (suc n) fail =
    let e : suc first + n ≡ first + suc n = omega arith in
    let rest = weight_kept w p (suc first) n (rw e fail) in
    let longer_list = ap (λ (m : ℕ). sum_by w (filtered_range p first m)) (suc_last n) in
    elim (cases_Bool (p first)) [
      | inl here ↦ omega (arith, weight_more w p first (n + 1) here, weight_more w p first n here, rest, longer_list)
      | inr none ↦ omega (arith, weight_same w p first (n + 1) none, weight_same w p first n none, rest, longer_list)
    ]

-- the numbers that pass and those that don't weigh as much as all
pub weight_parted : (w : ℕ → ℕ) (p : ℕ → Bool) (first n : ℕ) → sum_by w (filtered_range p first n) + sum_by w
    (filtered_range (λ j. not (p j)) first n) ≡ sum_by w (numbers_from first n)
weight_parted w p first zero = refl
weight_parted w p first (suc n) =
    let all = sum_by-cons w first (numbers_from (suc first) n) in
    let rest = weight_parted w p (suc first) n in
    elim (cases_Bool (p first)) [
      | inl pass ↦ omega (arith, all, rest, weight_more w p first n pass, weight_same w (λ j. not (p j)) first n (rw pass refl))
      | inr fail ↦ omega (arith, all, rest, weight_same w p first n fail, weight_more w (λ j. not (p j)) first n (rw fail refl))
    ]

-- one vote each
pub AreVotes-ones : (n : ℕ) → AreVotes (replicate n 1) ↔ IsProc n
AreVotes-ones n = (
  λ votes. subst IsProc (length-replicate n 1) votes.processors,
  λ proc. record { processors = subst IsProc (sym (length-replicate n 1)) proc; each = All-replicate (λ (vote : ℕ). 1 ≤ vote) n 1 (omega arith) },
)

pub new_votes : {E : Type 0} (r : Result Group E) (n : ℕ) (votes : List ℕ) → votes ≡ replicate n 1
    → OkIff r (AreVotes votes) (record { count = length votes; votes = votes })
    → OkIff r (IsProc n) (record { count = n; votes = replicate n 1 })
new_votes (Ok group) n votes e h = ((AreVotes-ones n).0 (subst AreVotes e h.0), h.1 ∙ rw (e, length-replicate) refl)
new_votes (Err fault) n votes e h = λ proc. h (subst AreVotes (sym e) ((AreVotes-ones n).1 proc))

-- zeros at the end add nothing
zeros_behind : (votes : List ℕ) (n k : ℕ) → slice_index (votes ++ replicate n 0) k ≡ slice_index votes k
zeros_behind [] n k = zero_at n k
zeros_behind (v ∷ votes) n zero = refl
zeros_behind (v ∷ votes) n (suc k) = zeros_behind votes n k

-- the votes of a processor are at its place
pub votes_at : (count : ℕ) (places : List ℕ) (group : Group) (k : ℕ) → IsPaddedVotes count places
    → (record { count = count; votes = take count places }) ≡ group → votes_of group (1 + k) ≡ slice_index places k
votes_at count places group k is view =
    let place : 1 + k - 1 ≡ k = omega arith in
    ap (λ (g : Group). votes_of g (1 + k)) (sym view)
    ∙ rw place (sym (zeros_behind (take count places) (max_processors - length (take count places)) k)
    ∙ ap (λ (all : List ℕ). slice_index all k) is.zeros)

-- there are votes for each processor
pub votes_few : (count : ℕ) (places : List ℕ) (group : Group) → IsPaddedVotes count places
    → (record { count = count; votes = take count places }) ≡ group → IsProc (length group.votes)
votes_few count places group is view = subst (λ (g : Group). IsProc (length g.votes)) view (subst IsProc (sym is.whole) is.processors)

-- all votes together are those of the members and those of the others
pub split_votes : (group : Group) (set : ℕ) → IsProc (length group.votes) → votes_in group set + sum_by
    (votes_of group) (filtered_range (λ j. not (has set j)) 1 max_processors) ≡ sum group.votes
unfolding elements
split_votes group set proc =
    weight_parted (votes_of group) (has set) 1 max_processors ∙ (votes_front group max_processors ∙ ap sum (take_all max_processors group.votes proc.1))

-- the votes of the members, place by place
pub votes_inside : (group : Group) (set : ℕ) → sum_by (votes_of group) (filtered_range (has set) 1 max_processors) ≡ votes_in group set
unfolding elements
votes_inside group set = refl

-- the votes of members and of others, added place by place, are all votes
pub votes_together : (group : Group) (set members others : ℕ) → IsProc (length group.votes)
    → members ≡ sum_by (votes_of group) (filtered_range (has set) 1 max_processors)
    → others ≡ sum_by (votes_of group) (filtered_range (λ j. not (has set j)) 1 max_processors)
    → members + others ≡ sum group.votes
unfolding elements
votes_together group set members others few m o = omega (arith, split_votes group set few, m, o)

-- the members have more votes than the others exactly if theirs, doubled, are more than all
pub majority_of_votes : (group : Group) (set members others : ℕ) → members ≡ votes_in group set → members + others ≡ sum group.votes
    → nat_lt others members ≡ nat_lt (sum group.votes) (2 * votes_in group set)
majority_of_votes group set members others m all =
    both_ways _ _
    (λ more. lt-ltb _ _ (omega (arith, ltb-true _ _ more, all, m)))
    (λ more. lt-ltb _ _ (omega (arith, ltb-true _ _ more, all, m)))
