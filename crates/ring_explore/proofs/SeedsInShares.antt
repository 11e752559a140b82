-- Seeds tried in shares: the results over two ranges, one after the other.
use Rattle.std.proofs.Common.{◌≡◌, ℕ, ◌+◌, ◌<◌, ◌≤◌, ◌⊎◌, inl, inr, Bool, true}
use Rattle.std.proofs.Common.{Option, Some, None, IsSome, Result, Ok, Err, IfOk, subst, arith}
use Rattle.std.specs.Option.{option_or}
use Rattle.ring_failure.specs.Shares.{share_begin}
use Rattle.ring_failure.proofs.Sharing.{under_or_past, share_grows}
use Rattle.std.specs.Prelude.{◌^◌}
use Rattle.ring_explore.specs.declared.explore_totals.ExploreTotals.{ExploreTotals}
use Rattle.ring_explore.specs.Explored.{AreTried, seeds_in}

module _ (IsTried : Bool → Type 0) where
  -- No seeds were tried.
  pub tried_none : (a : ℕ) → AreTried IsTried a a None
  tried_none a = λ seed from upto. absurd (omega (arith, from, upto))

  none_none : (a b c : ℕ) → AreTried IsTried a b None → AreTried IsTried b c None → (seed : ℕ) → a ≤ seed → seed < c
      → (seed < b) ⊎ (b ≤ seed) → IsTried true
  none_none a b c f g seed from upto (inl less) = f seed from less
  none_none a b c f g seed from upto (inr more) = g seed more upto

  -- The seeds of one range, and those of the next.
  pub tried_append : (a b c : ℕ) (f g : Option ℕ) → a ≤ b → b ≤ c → AreTried IsTried a b f → AreTried IsTried b c g
      → AreTried IsTried a c (option_or f g)
  tried_append a b c None None le more f g = λ seed from upto. none_none a b c f g seed from upto (under_or_past seed b)
  tried_append a b c None (Some s) le more f g =
      (omega (arith, le, g.0), g.1, g.2, λ seed from upto. none_none a b s f g.3 seed from upto (under_or_past seed b))
  tried_append a b c (Some s) g le more f h = (f.0, omega (arith, f.1, more), f.2, f.3)

  -- No seed after the first whose run is not legal is tried.
  pub tried_more : (a b c : ℕ) (f : Option ℕ) → IsSome f → b ≤ c → AreTried IsTried a b f → AreTried IsTried a c f
  tried_more a b c None some more f = absurd (cc some)
  tried_more a b c (Some s) some more f = (f.0, omega (arith, f.1, more), f.2, f.3)

  -- One more seed.
  pub tried_next : (first a p : ℕ) (f g : Option ℕ) → a ≤ p → AreTried IsTried (first + a) (first + p) f
      → AreTried IsTried (first + p) (first + p + 1) g → AreTried IsTried (first + a) (first + (p + 1)) (option_or f g)
  tried_next first a p f g le h k =
      let next : first + p + 1 ≡ first + (p + 1) = omega arith in
      tried_append (first + a) (first + p) (first + (p + 1)) f g (omega (arith, le)) (omega arith) h
      (subst (λ (n : ℕ). AreTried IsTried (first + p) n g) next k)

module _ (IsTried : Bool → Type 0) where
  -- One more share.
  pub tried_share : (first many shares k : ℕ) (f g : Option ℕ) → AreTried IsTried first (first + share_begin many shares k) f
      → AreTried IsTried (first + share_begin many shares k) (first + share_begin many shares (k + 1)) g
      → AreTried IsTried first (first + share_begin many shares (k + 1)) (option_or f g)
  tried_share first many shares k f g h more =
      let grows = share_grows many shares k in
      tried_append IsTried first (first + share_begin many shares k) (first + share_begin many shares (k + 1)) f g (omega arith)
      (omega (arith, grows)) h more

  -- The result of a round is the result over its part of all seeds.
  pub tried_part : (first a b begin last : ℕ) (f : Option ℕ) → a < b → b < 2 ^ 64 → begin ≡ first + a → last + 1 ≡ first + b
      → AreTried IsTried begin (begin + seeds_in begin last) f → AreTried IsTried (first + a) (first + b) f
  tried_part first a b begin last f less small from upto h =
      let ends : begin + seeds_in begin last ≡ first + b = grind (arith, from, upto, less, small) in
      subst (λ (n : ℕ). AreTried IsTried n (first + b) f) from (subst (λ (n : ℕ). AreTried IsTried begin n f) ends h)

  -- The rounds from the first seed on are all of them.
  pub tried_whole : {E : Type 0} (first many : ℕ) (r : Result ExploreTotals E)
      → IfOk r (λ (seed_totals : ExploreTotals). 0 ≤ many → AreTried IsTried (first + 0) (first + many) seed_totals.illegal)
      → IfOk r (λ (seed_totals : ExploreTotals). AreTried IsTried first (first + many) seed_totals.illegal)
  tried_whole first many (Ok seed_totals) h =
      let begin : first + 0 ≡ first = omega arith in
      subst (λ (n : ℕ). AreTried IsTried n (first + many) seed_totals.illegal) begin (h (omega arith))
  tried_whole first many (Err e) h = tt
