-- A line of votes, read word by word.
use Rattle.std.proofs.Common.{◌≡◌, ℕ, zero, suc, ◌-◌, ◌≤◌, List, [], ◌∷◌, ◌++◌, length, take, Option, Some, None, refl}
use Rattle.std.proofs.Common.{ap, sym, ◌∙◌, subst, arith, append_assoc, append-nil}
use Rattle.std.specs.Prelude.{option_map, option_and_then, IfSome, All}
use Rattle.std.proofs.lemmas.Grind.{common_steps}
use Rattle.std.proofs.lemmas.List.Elements.{All-nil, All-cons}
use Rattle.ring_base.specs.Group.{AreVotes}
use Rattle.ring_base.specs.Processors.{IsProc}
use Rattle.ring_base.proofs.Cases.{some_has}
use Rattle.ring_script.specs.Numbers.{number_at}
use Rattle.ring_script.specs.Votes.{votes_at}
use Rattle.ring_base.proofs.Cases.{and_then_some}

-- The votes parsed before, and then those parsed after.
abbrev pub with_front : List ℕ → Option (List ℕ × List (List ℕ)) → Option (List ℕ × List (List ℕ))
with_front front read = option_map (λ (r : List ℕ × List (List ℕ)). (front ++ r.0, r.1)) read

put_behind : (front : List ℕ) (vote : ℕ) (read : Option (List ℕ × List (List ℕ)))
    → with_front front (option_and_then (λ (others : List ℕ × List (List ℕ)). Some (vote ∷ others.0, others.1)) read) ≡ with_front (front ++ vote ∷ []) read
put_behind front vote None = refl
put_behind front vote (Some others) = ap (λ (votes : List ℕ). Some (votes, others.1)) (sym (append_assoc front (vote ∷ []) others.0))

-- One more vote, or none.
pub votes_more : (front : List ℕ) (count : ℕ) (words : List (List ℕ)) (next : ℕ × List (List ℕ)) → number_at 1 255 words ≡ Some next
    → with_front front (votes_at (suc count) words) ≡ with_front (front ++ next.0 ∷ []) (votes_at count next.1)
unfolding votes_at
votes_more front count words next e = rw e (put_behind front next.0 (votes_at count next.1))

pub votes_none : (front : List ℕ) (count : ℕ) (words : List (List ℕ)) → number_at 1 255 words ≡ None → with_front front (votes_at (suc count) words) ≡ None
unfolding votes_at
votes_none front count words e = rw e refl

pub votes_end : (front : List ℕ) (words : List (List ℕ)) → with_front front (votes_at 0 words) ≡ Some (front, words)
unfolding votes_at
votes_end front words = ap (λ (votes : List ℕ). Some (votes, words)) (append-nil front)

low_vote : (words : List (List ℕ)) → IfSome (number_at 1 255 words) (λ vote. 1 ≤ vote.0)
low_vote words = grind (arith, common_steps)

-- The parsed votes are as many as `count`, each at least 1.
pub votes_are : (count : ℕ) (words : List (List ℕ)) (read : List ℕ × List (List ℕ)) → votes_at count words ≡ Some read
    → (length read.0 ≡ count) × All (λ vote. 1 ≤ vote) read.0
unfolding votes_at
votes_are zero words read e =
    let same : [] ≡ read.0 = cc in
    (sym (ap length same), subst (All (λ vote. 1 ≤ vote)) same (All-nil (λ vote. 1 ≤ vote)))
votes_are (suc count) words read e =
    let (vote, at, next) = and_then_some _ (number_at 1 255 words) read e in
    let (others, later, made) = and_then_some _ (votes_at count vote.1) read next in
    let same : vote.0 ∷ others.0 ≡ read.0 = cc in
    let rest = votes_are count vote.1 others later in (
      omega (arith, ap length same, rest.0),
      subst (All (λ vote. 1 ≤ vote)) same
          (All-cons (λ vote. 1 ≤ vote) vote.0 others.0 (some_has (λ (v : ℕ × List (List ℕ)). 1 ≤ v.0)
          (number_at 1 255 words) vote at (low_vote words)) rest.1),
    )

-- Once no vote is left to parse.
pub votes_all : (count i : ℕ) (votes : List ℕ) (words all : List (List ℕ)) → count ≤ i
    → with_front (take i votes) (votes_at (count - i) words) ≡ votes_at count all → votes_at count all ≡ Some (take i votes, words)
votes_all count i votes words all le read =
    let none : count - i ≡ 0 = omega arith in
    sym (rw none at read) ∙ votes_end (take i votes) words

-- The parsed votes are those of `count` processors.
pub votes_made : (count : ℕ) (words : List (List ℕ)) (read : List ℕ × List (List ℕ)) → IsProc count → votes_at count words ≡ Some read → AreVotes read.0
votes_made count words read proc e =
    let are = votes_are count words read e in
    record { processors = subst IsProc (sym are.0) proc; each = are.1 }
